-- What arguments and places come to: one word, or what stands at a place that lies in a variable; and formals take them.
use Rattle.std.proofs.Common.{◌≡◌, ℕ, zero, suc, ◌+◌, ◌<◌, ◌≤◌, ℤ, Bool, true, false, Option, Some, None, List, [], ◌∷◌, length, slice_get, Result, Ok, refl, sym, ap, ◌∙◌, subst, arith}
use Rattle.std.specs.Option.{option_map, ok_or}
use Rattle.fm_base.specs.declared.fault.Fault.{Fault}
use Rattle.fm_base.specs.declared.fault.Fault.TheVariants.{Subscript}
use Rattle.fm_net.specs.Typed.{AllIn}
use Rattle.fm_tree.specs.Tree.{Tree, Trees, Number, Truth, Named, Ref, Paren, Signed, Not, Binary, NoTrees, More, list_of, trees_from}
use Rattle.fm_tree.specs.PortFields.{PortFields, FieldKind, Integer, Logical, In, Out}
use Rattle.fm_tree.specs.PortReading as reading
use Rattle.fm_tree.specs.declared.port_type.Kind.{Kind}
use Rattle.fm_tree.specs.declared.port_type.Kind.TheVariants as kind
use Rattle.fm_tree.specs.declared.statement.Var.{Var}
use Rattle.fm_tree.specs.declared.statement.Extra.{Extra}
use Rattle.fm_tree.specs.declared.statement.Extra.TheVariants as extra
use Rattle.fm_values.specs.declared.value.Value.{Value}
use Rattle.fm_values.specs.Values.{word_of}
use Rattle.fm_values.specs.Places as array
use Rattle.fm_values.specs.Places.{element_place, size}
use Rattle.fm_values.proofs.PlaceLaws.{place_below}
use Rattle.fm_symbols.specs.declared.names.Variable.{Variable}
use Rattle.fm_mean.specs.Names.{ProgramUnit, variable_of}
use Rattle.fm_mean.specs.declared.place.Actual.{Actual}
use Rattle.fm_mean.specs.declared.place.Actual.TheVariants.{Given, Taken}
use Rattle.fm_mean.specs.declared.place.Span.{Span}
use Rattle.fm_mean.specs.Evaluate.{Scope, Reference, Element, Call, Built, Unknown, reference_of, refs_in, refs_in_var, value_of, numbers_of, value_alone, named_actual, ref_actual, actual_at, actual_of, actuals_of, whole, single, spans_by, place_of, places_of}
use Rattle.fm_mean.specs.Actions.{iostat_of}
use Rattle.fm_mean.specs.Fits.{Types, ValuesFit, ArgFits, sort_of_variable}
use Rattle.fm_mean.specs.Typing.{sort_of}
use Rattle.fm_mean.specs.ValueTypes.{AreSized, IsFormal, ArgumentsAreOf}
use Rattle.fm_mean.proofs.Sorts.{parts}
use Rattle.fm_mean.proofs.Arguments.{variable_there, the_actual, element_there, arg_fits}
use Rattle.fm_mean.proofs.Sizes.{in_all}
use Rattle.fm_gen_relation.specs.Sound.{is_word, IsVariable, IsPort, IsSoundUnit}
use Rattle.fm_gen_relation.specs.Operands.{holds_words, IsPlace, IsActual, is_given, actual_words, Takes, TakesFrom}
use Rattle.fm_gen_relation.specs.Calls.{refs_in_extras}

the_list : (a b : List Actual) → ◌≡◌ {A = Result (List Actual) Fault} (Ok a) (Ok b) → a ≡ b
the_list a b e = cc

the_span : (a b : Span) → ◌≡◌ {A = Result Span Fault} (Ok a) (Ok b) → a ≡ b
the_span a b e = cc

the_spans : (a b : List Span) → ◌≡◌ {A = Result (List Span) Fault} (Ok a) (Ok b) → a ≡ b
the_spans a b e = cc

-- ---- variables

-- an element that is found lies in its array
element_inside : (v : Variable) (ks : List ℤ) (k : ℕ) → v.words ≡ size v.bounds → element_place v.bounds ks ≡ Ok k → k + 1 ≤ v.words
element_inside v ks k sized e = go (array.place_of v.bounds ks) refl e
  where
    the_number : (a b : ℕ) → ◌≡◌ {A = Result ℕ Fault} (Ok a) (Ok b) → a ≡ b
    the_number a b e = cc

    go : (o : Option ℕ) → array.place_of v.bounds ks ≡ o → ok_or {E = Fault} o Subscript ≡ Ok k → k + 1 ≤ v.words
    go None is e' = absurd (cc e')
    go (Some n) is e' = let same : n ≡ k = the_number n k e' in omega (arith, place_below v.bounds ks n is, same, sized)

holds_there : (vs : List Variable) (i : ℕ) (v : Variable) → slice_get vs i ≡ Some v → holds_words vs i ≡ is_word v.kind
holds_there [] i v e = absurd (cc e)
holds_there (w ∷ vs) zero v e = ap (λ (x : Variable). is_word x.kind) (the_one w v e)
  where
    the_one : (a b : Variable) → Some a ≡ Some b → a ≡ b
    the_one a b e = cc
holds_there (w ∷ vs) (suc i) v e = holds_there vs i v e

-- a place holds what its variable does
pub place_holds : (vs : List Variable) (word : Bool) (q : Span) → IsPlace vs word q → IsPlace vs (holds_words vs q.variable) q
place_holds vs word q h = record { variable = h.variable; there = h.there; kind = sym (holds_there vs q.variable h.variable h.there); within = h.within }

whole_place : (vs : List Variable) (i : ℕ) (v : Variable) → slice_get vs i ≡ Some v → IsPlace vs (is_word v.kind) (whole i v)
whole_place vs i v e = record { variable = v; there = e; kind = refl; within = omega arith }

element_in : (vs : List Variable) (i k : ℕ) (v : Variable) → slice_get vs i ≡ Some v → k + 1 ≤ v.words → IsPlace vs (is_word v.kind) (single i k)
element_in vs i k v e less = record { variable = v; there = e; kind = refl; within = less }

-- the type of a variable tells whether it holds words
abbrev sort_is_word : FieldKind → Bool
sort_is_word Integer = true
sort_is_word Logical = true
sort_is_word (In t) = false
sort_is_word (Out t) = false

word_by : (k : Kind) → is_word k ≡ sort_is_word (reading.kind_of k)
word_by kind.Integer = refl
word_by kind.Logical = refl
word_by (kind.In t) = refl
word_by (kind.Out t) = refl

port_there : (r : FieldKind) → sort_is_word r ≡ false → (o : Option (ℕ × Variable)) → option_map (λ v. (sort_of_variable v.1)) o ≡ Some r
    → (w : ℕ × Variable) × (o ≡ Some w) × (is_word w.1.kind ≡ false)
port_there r port None e = absurd (cc e)
port_there r port (Some w) e = (w, refl, word_by w.1.kind ∙ ap sort_is_word (the_sort (sort_of_variable w.1) r e) ∙ port)
  where
    the_sort : (a b : FieldKind) → Some a ≡ Some b → a ≡ b
    the_sort a b e = cc

pub inport_there : (u : ProgramUnit) (name : List ℕ) (t : PortFields) → sort_of u name ≡ Some (In t) → IsPort u name
inport_there u name t e = port_there (In t) refl (variable_of u name) e

pub outport_there : (u : ProgramUnit) (name : List ℕ) (t : PortFields) → sort_of u name ≡ Some (Out t) → IsPort u name
outport_there u name t e = port_there (Out t) refl (variable_of u name) e

-- ---- arguments

module _ (s : Scope) where
  abbrev mine : List Variable
  mine = s.unit.names.variables

  alone_whole : (v : Result Value Fault) (a : Actual) → value_alone v ≡ Ok a → IsActual mine s.values a
  alone_whole v a e = let x = parts v _ a e in subst (IsActual mine s.values) (the_actual (Given (word_of x.0 ∷ []) None) a x.2) refl

  at_place : (k : Kind) (x : Span) → IsPlace mine (is_word k) x → IsActual mine s.values (actual_at s k x)
  at_place kind.Integer x h = (h, refl)
  at_place kind.Logical x h = (h, refl)
  at_place (kind.In t) x h = h
  at_place (kind.Out t) x h = h

  actual_whole : AreSized mine → (t : Tree) (n : ℕ) (a : Actual) → actual_of s t n ≡ Ok a → IsActual mine s.values a
  actual_whole sized (Number k) n a is = alone_whole (value_of s (Number k) n) a is
  actual_whole sized (Truth b) n a is = alone_whole (value_of s (Truth b) n) a is
  actual_whole sized (Paren t) n a is = alone_whole (value_of s (Paren t) n) a is
  actual_whole sized (Signed o t) n a is = alone_whole (value_of s (Signed o t) n) a is
  actual_whole sized (Not t) n a is = alone_whole (value_of s (Not t) n) a is
  actual_whole sized (Binary o b c) n a is = alone_whole (value_of s (Binary o b c) n) a is
  actual_whole sized (Named name) n a is = go (variable_of s.unit name) (λ j v h. variable_there s.unit name j v h) is
    where
      go : (o : Option (ℕ × Variable)) → ((j : ℕ) (v : Variable) → o ≡ Some (j, v) → slice_get mine j ≡ Some v) → ◌≡◌ {A = Result Actual Fault} (Ok (named_actual s name o)) (Ok a) → IsActual mine s.values a
      go None there is' = subst (IsActual mine s.values) (the_actual (named_actual s name None) a is') refl
      go (Some v) there is' =
          subst (IsActual mine s.values) (the_actual (actual_at s v.1.kind (whole v.0 v.1)) a is') (at_place v.1.kind (whole v.0 v.1) (whole_place mine v.0 v.1 (there v.0 v.1 refl)))
  actual_whole sized (Ref name args) n a is = go (reference_of s name) (λ i v h. element_there s name i v h) is
    where
      go : (g : Reference) → ((i : ℕ) (v : Variable) → g ≡ Element i v → slice_get mine i ≡ Some v) → ref_actual s g (numbers_of s args n) (value_of s (Ref name args) n) ≡ Ok a → IsActual mine s.values a
      go (Element i v) at is' =
          let here : slice_get mine i ≡ Some v = at i v refl in
          let b = parts (numbers_of s args n) _ a is' in
          let c = parts (element_place v.bounds b.0) _ a b.2 in
          subst (IsActual mine s.values) (the_actual (actual_at s v.kind (single i c.0)) a c.2)
          (at_place v.kind (single i c.0) (element_in mine i c.0 v here (element_inside v b.0 c.0 (in_all (λ (v : Variable). v.words ≡ size v.bounds) mine i v sized here) c.1)))
      go (Call k u) at is' = alone_whole (value_of s (Ref name args) n) a is'
      go (Built f) at is' = alone_whole (value_of s (Ref name args) n) a is'
      go Unknown at is' = alone_whole (value_of s (Ref name args) n) a is'

  -- each is one word or what stands at a place, and there are as many as their trees
  pub actuals_whole : AreSized s.unit.names.variables → (ts : Trees) (n : ℕ) (args : List Actual) → actuals_of s ts n ≡ Ok args
      → AllIn (IsActual s.unit.names.variables s.values) args × (length args ≡ length (list_of ts))
  actuals_whole sized NoTrees n args is = subst (λ (l : List Actual). AllIn (IsActual mine s.values) l × (length l ≡ 0)) (the_list [] args is) (tt, refl)
  actuals_whole sized (More t ts) n args is =
      let a = parts (actual_of s t n) _ args is in
      let more = parts (actuals_of s ts (n + refs_in s t)) _ args a.2 in
      let rest = actuals_whole sized ts (n + refs_in s t) more.0 more.1 in
      subst (λ (l : List Actual). AllIn (IsActual mine s.values) l × (length l ≡ suc (length (list_of ts)))) (the_list (a.0 ∷ more.0) args more.2)
      ((actual_whole sized t n a.0 a.1, rest.0), ap suc rest.1)

  -- ---- formals

  given_words : (r : FieldKind) (m : ℕ) (a : Actual) → ArgFits mine r m a → (sort_is_word r ≡ is_given a) × (m ≡ actual_words a)
  given_words Integer m (Given ws back) h = (refl, sym h)
  given_words Logical m (Given ws back) h = (refl, sym h.0)
  given_words (In t) m (Given ws back) h = absurd h
  given_words (Out t) m (Given ws back) h = absurd h
  given_words Integer m (Taken x) h = absurd h
  given_words Logical m (Taken x) h = absurd h
  given_words (In t) m (Taken x) h = (refl, sym h.1)
  given_words (Out t) m (Taken x) h = (refl, sym h.1)

  takes : (callee : ProgramUnit) (k : ℕ) (r : FieldKind) (m : ℕ) (a : Actual) → IsFormal callee k r m → ArgFits mine r m a → Takes callee k a
  takes callee k r m a f h =
      let g = given_words r m a h in
      record { variable = f.variable; there = f.there; kind = word_by f.variable.kind ∙ ap sort_is_word f.sort ∙ g.0; words = f.words ∙ g.1 }

  pub arguments_taken : (types : Types) → AreSized s.unit.names.variables → ValuesFit types s.unit.names.variables s.values → (callee : ProgramUnit) (k : ℕ) (ts : Trees) (n : ℕ) (args : List Actual)
      → ArgumentsAreOf s callee k ts → actuals_of s ts n ≡ Ok args → TakesFrom callee k args
  arguments_taken types sized fits callee k NoTrees n args are is = subst (TakesFrom callee k) (the_list [] args is) tt
  arguments_taken types sized fits callee k (More t ts) n args are is =
      let a = parts (actual_of s t n) _ args is in
      let more = parts (actuals_of s ts (n + refs_in s t)) _ args a.2 in
      subst (TakesFrom callee k) (the_list (a.0 ∷ more.0) args more.2)
      (takes callee k are.0 are.1 a.0 are.3 (arg_fits types s t n a.0 are.0 are.1 sized fits are.2 a.1), arguments_taken types sized fits callee (suc k) ts (n + refs_in s t) more.0 are.4 more.1)

  -- ---- places

  module _ (sound : IsSoundUnit s.unit) where
    span_whole : (i : ℕ) (v : Variable) (ts : Trees) (ks : Result (List ℤ) Fault) (q : Span) → slice_get mine i ≡ Some v → spans_by (Some (i, v)) ts ks ≡ Ok q
        → IsPlace mine (is_word v.kind) q × (1 ≤ q.count) × (q.variable ≡ i)
    span_whole i v NoTrees ks q here is =
        subst (λ (q : Span). IsPlace mine (is_word v.kind) q × (1 ≤ q.count) × (q.variable ≡ i)) (the_span (whole i v) q is)
        (whole_place mine i v here, (let some : 0 < v.words = in_all (λ (v : Variable). 0 < v.words) mine i v sound.some here in omega arith), refl)
    span_whole i v (More t ts) ks q here is =
        let a = parts ks _ q is in
        let b = parts (element_place v.bounds a.0) _ q a.2 in
        subst (λ (q : Span). IsPlace mine (is_word v.kind) q × (1 ≤ q.count) × (q.variable ≡ i)) (the_span (single i b.0) q b.2)
        (element_in mine i b.0 v here (element_inside v a.0 b.0 (in_all (λ (v : Variable). v.words ≡ size v.bounds) mine i v sound.sized here) b.1), omega arith, refl)

    place_by : (w : ℕ × Variable) (v : Var) (n : ℕ) (q : Span) → variable_of s.unit v.name ≡ Some w → place_of s v n ≡ Ok q → IsPlace mine (is_word w.1.kind) q × (1 ≤ q.count) × (q.variable ≡ w.0)
    place_by w v n q there is =
        span_whole w.0 w.1 (trees_from v.subscripts) (numbers_of s (trees_from v.subscripts) n) q (variable_there s.unit v.name w.0 w.1 there)
        (subst (λ o. spans_by o (trees_from v.subscripts) (numbers_of s (trees_from v.subscripts) n) ≡ Ok q) there is)

    -- the place of a variable or an element lies in the variable
    pub place_whole : (w : ℕ × Variable) (v : Var) (n : ℕ) (q : Span) → variable_of s.unit v.name ≡ Some w → place_of s v n ≡ Ok q → IsPlace s.unit.names.variables (is_word w.1.kind) q × (1 ≤ q.count)
    place_whole w v n q there is = let h = place_by w v n q there is in (h.0, h.1)

    pub place_variable : (w : ℕ × Variable) (v : Var) (n : ℕ) (q : Span) → variable_of s.unit v.name ≡ Some w → place_of s v n ≡ Ok q → q.variable ≡ w.0
    place_variable w v n q there is = (place_by w v n q there is).2

    -- what holds of each place holds of all
    all_places : (Known : Var → Type 0) (Found : Span → Type 0) → ((v : Var) (n : ℕ) (q : Span) → Known v → place_of s v n ≡ Ok q → Found q)
        → (vs : List Var) (n : ℕ) (qs : List Span) → AllIn Known vs → places_of s vs n ≡ Ok qs → AllIn Found qs
    all_places Known Found each [] n qs all is = subst (AllIn Found) (the_spans [] qs is) tt
    all_places Known Found each (v ∷ vs) n qs all is =
        let a = parts (place_of s v n) _ qs is in
        let more = parts (places_of s vs (n + refs_in_var s v)) _ qs a.2 in
        subst (AllIn Found) (the_spans (a.0 ∷ more.0) qs more.2) (each v n a.0 all.0 a.1, all_places Known Found each vs (n + refs_in_var s v) more.0 all.1 more.1)

    pub places_whole : (vs : List Var) (n : ℕ) (qs : List Span) → AllIn (λ (v : Var). IsVariable s.unit v.name) vs → places_of s vs n ≡ Ok qs
        → AllIn (λ (q : Span). IsPlace s.unit.names.variables (holds_words s.unit.names.variables q.variable) q) qs
    places_whole = all_places (λ (v : Var). IsVariable s.unit v.name) (λ (q : Span). IsPlace mine (holds_words mine q.variable) q)
        (λ v n q named is. place_holds mine (is_word named.0.1.kind) q (place_whole named.0 v n q named.1 is).0)

    -- ports

    pub port_whole : (v : Var) (n : ℕ) (q : Span) → IsPort s.unit v.name → place_of s v n ≡ Ok q → IsPlace s.unit.names.variables false q × (1 ≤ q.count)
    port_whole v n q named is = subst (λ b. IsPlace mine b q × (1 ≤ q.count)) named.2 (place_whole named.0 v n q named.1 is)

    pub port_places_whole : (t : PortFields) (vs : List Var) (n : ℕ) (qs : List Span) → AllIn (λ (v : Var). sort_of s.unit v.name ≡ Some (Out t)) vs → places_of s vs n ≡ Ok qs
        → AllIn (IsPlace s.unit.names.variables false) qs
    port_places_whole t = all_places (λ (v : Var). sort_of s.unit v.name ≡ Some (Out t)) (IsPlace mine false) (λ v n q sort is. (port_whole v n q (outport_there s.unit v.name t sort) is).0)

  -- how many references stand before the items of a RECEIVE
  pub iostat_number : (es : List Extra) (n : ℕ) (r : Option Span × ℕ) → iostat_of s es n ≡ Ok r → r.1 ≡ n + refs_in_extras s es
  iostat_number [] n r is = sym (ap (λ (x : Option Span × ℕ). x.1) (the_pair (None, n) r is)) ∙ (omega arith)
    where
      the_pair : (a b : Option Span × ℕ) → ◌≡◌ {A = Result (Option Span × ℕ) Fault} (Ok a) (Ok b) → a ≡ b
      the_pair a b e = cc
  iostat_number (extra.End l ∷ es) n r is = iostat_number es n r is
  iostat_number (extra.Iostat v ∷ es) n r is =
      let a = parts (place_of s v n) _ r is in
      let b = parts (iostat_of s es (n + refs_in_var s v)) _ r a.2 in
      let same : b.0.1 ≡ r.1 = ap (λ (x : Option Span × ℕ). x.1) (the_pair (Some a.0, b.0.1) r b.2) in
      omega (arith, same, iostat_number es (n + refs_in_var s v) b.0 b.1)
    where
      the_pair : (a b : Option Span × ℕ) → ◌≡◌ {A = Result (Option Span × ℕ) Fault} (Ok a) (Ok b) → a ≡ b
      the_pair a b e = cc
