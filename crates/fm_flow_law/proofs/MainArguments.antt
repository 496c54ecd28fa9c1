-- The ports that a PROCESSCALL takes are the port variables among its arguments, each whole, where no port variable is an array;
-- and the ports of a new channel stand in the variables that its CHANNEL names.
use Rattle.std.proofs.lemmas.Bool.Decides.{nat_tests}
use Rattle.std.proofs.Common.{◌≡◌, ℕ, suc, ℤ, ◌+◌, ◌≤◌, ◌==◌, Bool, true, false, cond, ◌||◌, Option, Some, None, option_map, List, [], ◌∷◌, ◌++◌, length, slice_get, Result, Ok, Err, refl, sym, ap, ◌∙◌, subst, arith}
use Rattle.std.specs.List.{flat_map}
use Rattle.std.specs.FinMap.{get}
use Rattle.fm_base.specs.declared.fault.Fault.{Fault}
use Rattle.fm_base.specs.declared.port.PortValue.{PortValue}
use Rattle.fm_base.specs.declared.port.PortValue.TheVariants.{Writer, Reader}
use Rattle.fm_base.specs.Channels.{Item, Words, Ports, channel_of}
use Rattle.fm_values.specs.Places.{element_place}
use Rattle.fm_values.specs.declared.value.Value.{Value}
use Rattle.fm_values.specs.declared.intrinsic.Intrinsic.{Intrinsic}
use Rattle.fm_values.specs.Intrinsics.{intrinsic_named}
use Rattle.fm_tree.specs.PortFields.{PortFields, FieldKind, Integer, Logical, In, Out}
use Rattle.fm_tree.specs.PortReading as reading
use Rattle.fm_tree.specs.Tree.{Tree, Trees, NoTrees, More, Number, Truth, Named, Ref, Paren, Signed, Not, Binary, trees_from}
use Rattle.fm_tree.specs.declared.port_type.Kind.{Kind}
use Rattle.fm_tree.specs.declared.port_type.Kind.TheVariants as kind
use Rattle.fm_tree.specs.declared.statement.Var.{Var}
use Rattle.fm_symbols.specs.Context.{symbols_of, symbol_place}
use Rattle.fm_symbols.specs.declared.names.Variable.{Variable}
use Rattle.fm_net.specs.Typed.{AllIn}
use Rattle.fm_mean.specs.Names.{ProgramUnit, unit_named, variable_at, variable_of}
use Rattle.fm_mean.specs.declared.place.Actual.{Actual}
use Rattle.fm_mean.specs.declared.place.Actual.TheVariants.{Given, Taken}
use Rattle.fm_mean.specs.declared.place.Span.{Span}
use Rattle.fm_mean.specs.Places.{ports_in}
use Rattle.fm_mean.specs.Evaluate.{Scope, Reference, Element, Call, Built, Unknown, function_by, intrinsic_or, is_array, array_or, reference_of, whole, single, spans_by, place_of, numbers_of, value_of, actual_at, named_actual, ref_actual, value_alone, actual_of, actuals_of, refs_in}
use Rattle.fm_mean.specs.Fits.{Types, MayStand, ItemFits, ValuesFit, sort_of_variable}
use Rattle.fm_mean.specs.Typing.{sort_of}
use Rattle.fm_mean.proofs.Sizes.{in_all}
use Rattle.fm_mean.proofs.Sorts.{parts}
use Rattle.fm_flow_law.specs.Flow.{is_among, is_port, port_in, port_named, port_with, sends_ports}
use Rattle.fm_flow_law.proofs.Stand.{AllWhole, AreNarrow, Every, Stand, taken_variables}

abbrev pub okay : {A : Type 0} → A → Result A Fault
okay x = Ok x

never : true ≡ false → ⊥
never e = absurd (cc)

-- ---- port variables of one element, whose messages have no ports

abbrev pub NarrowBy : Kind → Variable → Type 0
NarrowBy kind.Integer v = Unit {0}
NarrowBy kind.Logical v = Unit {0}
NarrowBy (kind.In t) v = (is_array v.bounds ≡ false) × (v.words ≡ 1) × (sends_ports t ≡ false)
NarrowBy (kind.Out t) v = (is_array v.bounds ≡ false) × (v.words ≡ 1) × (sends_ports t ≡ false)

abbrev pub IsNarrow : Variable → Type 0
IsNarrow v = NarrowBy v.kind v

item_narrow : (types : Types) (k : Kind) (v : Variable) (x : Item) → NarrowBy k v → ItemFits types (reading.kind_of k) v.words x → length (ports_in x) ≤ 1
item_narrow types kind.Integer v (Words ws) n h = omega arith
item_narrow types kind.Integer v (Ports ps) n h = absurd h
item_narrow types kind.Logical v (Words ws) n h = omega arith
item_narrow types kind.Logical v (Ports ps) n h = absurd h
item_narrow types (kind.In t) v (Words ws) n h = omega arith
item_narrow types (kind.In t) v (Ports ps) n h = let words = n.1 in let same = h.0 in omega (arith, words, same)
item_narrow types (kind.Out t) v (Words ws) n h = omega arith
item_narrow types (kind.Out t) v (Ports ps) n h = let words = n.1 in let same = h.0 in omega (arith, words, same)

pub fits_narrow : (types : Types) (vs : List Variable) (xs : List Item) → AllIn IsNarrow vs → ValuesFit types vs xs → AreNarrow xs
fits_narrow types [] [] n h = tt
fits_narrow types [] (x ∷ xs) n h = absurd h
fits_narrow types (v ∷ vs) [] n h = absurd h
fits_narrow types (v ∷ vs) (x ∷ xs) n h = (item_narrow types v.kind v x n.0 h.0, fits_narrow types vs xs n.1 h.1)

-- messages of its channel have no ports
abbrev pub IsPlain : Types → PortValue → Type 0
IsPlain types z = sends_ports (types (channel_of z)) ≡ false

ports_plain_in : (types : Types) (t : PortFields) (ps : List (Option PortValue)) → sends_ports t ≡ false → AllIn (MayStand types (In t)) ps → Every (IsPlain types) ps
ports_plain_in types t [] n h = tt
ports_plain_in types t (None ∷ ps) n h = (tt, ports_plain_in types t ps n h.1)
ports_plain_in types t (Some (Reader c) ∷ ps) n h = (ap sends_ports h.0 ∙ n, ports_plain_in types t ps n h.1)
ports_plain_in types t (Some (Writer c w) ∷ ps) n h = absurd h.0

ports_plain_out : (types : Types) (t : PortFields) (ps : List (Option PortValue)) → sends_ports t ≡ false → AllIn (MayStand types (Out t)) ps → Every (IsPlain types) ps
ports_plain_out types t [] n h = tt
ports_plain_out types t (None ∷ ps) n h = (tt, ports_plain_out types t ps n h.1)
ports_plain_out types t (Some (Writer c w) ∷ ps) n h = (ap sends_ports h.0 ∙ n, ports_plain_out types t ps n h.1)
ports_plain_out types t (Some (Reader c) ∷ ps) n h = absurd h.0

pub fits_plain : (types : Types) (i : ℕ) (vs : List Variable) (xs : List Item) → AllIn IsNarrow vs → ValuesFit types vs xs → Stand (λ j. IsPlain types) i xs
fits_plain types i [] [] n h = tt
fits_plain types i [] (x ∷ xs) n h = absurd h
fits_plain types i (v ∷ vs) [] n h = absurd h
fits_plain types i (v ∷ vs) (Words ws ∷ xs) n h = (tt, fits_plain types (suc i) vs xs n.1 h.1)
fits_plain types i (v ∷ vs) (Ports ps ∷ xs) n h = (by_kind v.kind n.0 h.0, fits_plain types (suc i) vs xs n.1 h.1)
  where
    by_kind : (k : Kind) → NarrowBy k v → ItemFits types (reading.kind_of k) v.words (Ports ps) → Every (IsPlain types) ps
    by_kind kind.Integer n h = absurd h
    by_kind kind.Logical n h = absurd h
    by_kind (kind.In t) n h = ports_plain_in types t ps n.2 h.1
    by_kind (kind.Out t) n h = ports_plain_out types t ps n.2 h.1

-- ---- variables by name

same_pair : (a b : ℕ × Variable) → Some a ≡ Some b → a ≡ b
same_pair a b e = cc

at_place : (vs : List Variable) (o : Option ℕ) (j : ℕ) (v : Variable) → variable_at vs o ≡ Some (j, v) → slice_get vs j ≡ Some v
at_place vs None j v e = absurd (cc e)
at_place vs (Some i) j v e = go (slice_get vs i) refl e
  where
    go : (o : Option Variable) → slice_get vs i ≡ o → option_map {U = ℕ × Variable} (λ v. (i, v)) o ≡ Some (j, v) → slice_get vs j ≡ Some v
    go None is e' = absurd (cc e')
    go (Some w) is e' = subst (λ (x : ℕ × Variable). slice_get vs x.0 ≡ Some x.1) (same_pair (i, w) (j, v) e') is

module _ (u : ProgramUnit) (narrow : AllIn IsNarrow u.names.variables) where
  narrow_at : (name : List ℕ) (j : ℕ) (v : Variable) → variable_of u name ≡ Some (j, v) → IsNarrow v
  narrow_at name j v e = in_all IsNarrow u.names.variables j v narrow (at_place u.names.variables (symbol_place (get (symbols_of u.names) name)) j v e)

  -- ---- what is taken

  -- the actual of an argument takes its port variable whole, or nothing
  abbrev TakesSo : Tree → Actual → Type 0
  TakesSo t a = (taken_variables (a ∷ []) ≡ port_in u t) × AllWhole (a ∷ [])

  by_variable : (s : Scope) (name : List ℕ) (v : ℕ × Variable) (k : Kind) → v.1.kind ≡ k → NarrowBy k v.1
      → (taken_variables (actual_at s k (whole v.0 v.1) ∷ []) ≡ cond (is_port k) (v.0 ∷ []) []) × AllWhole (actual_at s k (whole v.0 v.1) ∷ [])
  by_variable s name v kind.Integer is n = (refl, tt)
  by_variable s name v kind.Logical is n = (refl, tt)
  by_variable s name v (kind.In t) is n = (refl, ((refl, n.1), tt))
  by_variable s name v (kind.Out t) is n = (refl, ((refl, n.1), tt))

  named_takes : (s : Scope) (name : List ℕ) (o : Option (ℕ × Variable)) → ((j : ℕ) (v : Variable) → o ≡ Some (j, v) → IsNarrow v)
      → (taken_variables (named_actual s name o ∷ []) ≡ port_with o) × AllWhole (named_actual s name o ∷ [])
  named_takes s name None n = (refl, tt)
  named_takes s name (Some v) n = by_variable s name v v.1.kind refl (n v.0 v.1 refl)

  alone_takes : (r : Result Value Fault) (a : Actual) → value_alone r ≡ Ok a → (taken_variables (a ∷ []) ≡ []) × AllWhole (a ∷ [])
  alone_takes (Ok x) a e = given _ a e
    where
      given : (ws : List ℤ) (a : Actual) → okay (Given ws None) ≡ Ok a → (taken_variables (a ∷ []) ≡ []) × AllWhole (a ∷ [])
      given ws (Given vs back) e = (refl, tt)
      given ws (Taken s) e = absurd (cc e)
  alone_takes (Err fault) a e = absurd (cc e)

  function_no_element : (o : Option (ℕ × ProgramUnit)) (i : ℕ) (v : Variable) → function_by o ≡ Element i v → ⊥
  function_no_element None i v e = absurd (cc e)
  function_no_element (Some w) i v e = go _ e
    where
      go : (b : Bool) → cond b (Call w.0 w.1) Unknown ≡ Element i v → ⊥
      go true e' = absurd (cc e')
      go false e' = absurd (cc e')

  intrinsic_no_element : (f : Option Intrinsic) (o : Option (ℕ × ProgramUnit)) (i : ℕ) (v : Variable) → intrinsic_or f (function_by o) ≡ Element i v → ⊥
  intrinsic_no_element None o i v e = function_no_element o i v e
  intrinsic_no_element (Some f) o i v e = absurd (cc e)

  element_is : (o : Option (ℕ × Variable)) (f : Option Intrinsic) (w : Option (ℕ × ProgramUnit)) (i : ℕ) (v : Variable) → array_or o (intrinsic_or f (function_by w)) ≡ Element i v → (o ≡ Some (i, v)) × (is_array v.bounds ≡ true)
  element_is None f w i v e = absurd (intrinsic_no_element f w i v e)
  element_is (Some x) f w i v e = go (is_array x.1.bounds) refl e
    where
      go : (b : Bool) → is_array x.1.bounds ≡ b → cond b (Element x.0 x.1) (intrinsic_or f (function_by w)) ≡ Element i v → (Some x ≡ Some (i, v)) × (is_array v.bounds ≡ true)
      go true is e' = let number : x.0 ≡ i = cc e' in let variable : x.1 ≡ v = cc e' in ((λ k. Some (number k, variable k)), ap (λ (y : Variable). is_array y.bounds) (sym variable) ∙ is)
      go false is e' = absurd (intrinsic_no_element f w i v e')

  no_port_array : (v : Variable) (k : Kind) → NarrowBy k v → is_array v.bounds ≡ true → is_port k ≡ true → ⊥
  no_port_array v kind.Integer n a h = absurd (cc h)
  no_port_array v kind.Logical n a h = absurd (cc h)
  no_port_array v (kind.In t) n a h = absurd (never (sym a ∙ n.0))
  no_port_array v (kind.Out t) n a h = absurd (never (sym a ∙ n.0))

  ok_same : (a b : Actual) → okay a ≡ Ok b → a ≡ b
  ok_same a b e = cc e

  element_takes : (s : Scope) (k : Kind) (x : Span) → (is_port k ≡ true → ⊥) → (taken_variables (actual_at s k x ∷ []) ≡ []) × AllWhole (actual_at s k x ∷ [])
  element_takes s kind.Integer x no_port = (refl, tt)
  element_takes s kind.Logical x no_port = (refl, tt)
  element_takes s (kind.In t) x no_port = absurd (no_port refl)
  element_takes s (kind.Out t) x no_port = absurd (no_port refl)

  ref_takes : (s : Scope) → s.unit ≡ u → (name : List ℕ) (g : Reference) → reference_of s name ≡ g → (ks : Result (List ℤ) Fault) (x : Result Value Fault) (a : Actual) → ref_actual s g ks x ≡ Ok a
      → (taken_variables (a ∷ []) ≡ []) × AllWhole (a ∷ [])
  ref_takes s same name (Element i v) is ks x a e =
      let found = element_is (variable_of s.unit name) (intrinsic_named name) (unit_named s.program name) i v is in
      let narrow_v = narrow_at name i v (ap (λ (w : ProgramUnit). variable_of w name) (sym same) ∙ found.0) in
      let first = parts ks _ a e in
      let second = parts (element_place v.bounds first.0) _ a first.2 in
      subst (λ (a : Actual). (taken_variables (a ∷ []) ≡ []) × AllWhole (a ∷ [])) (ok_same _ a second.2) (element_takes s v.kind _ (no_port_array v v.kind narrow_v found.1))
  ref_takes s same name (Call n c) is ks x a e = alone_takes x a e
  ref_takes s same name (Built f) is ks x a e = alone_takes x a e
  ref_takes s same name Unknown is ks x a e = alone_takes x a e

  one_takes : (s : Scope) → s.unit ≡ u → (t : Tree) (n : ℕ) (a : Actual) → actual_of s t n ≡ Ok a → TakesSo t a
  one_takes s same (Number k) n a e = alone_takes (value_of s (Number k) n) a e
  one_takes s same (Truth b) n a e = alone_takes (value_of s (Truth b) n) a e
  one_takes s same (Named name) n a e =
      let here : (taken_variables (named_actual s name (variable_of s.unit name) ∷ []) ≡ port_with (variable_of u name)) × AllWhole (named_actual s name (variable_of s.unit name) ∷ []) =
      subst (λ (w : ProgramUnit). (taken_variables (named_actual s name (variable_of w name) ∷ []) ≡ port_with (variable_of u name)) × AllWhole (named_actual s name (variable_of w name) ∷ [])) (sym same) (named_takes s name (variable_of u name) (λ j v h. narrow_at name j v h)) in
      subst (λ (a : Actual). (taken_variables (a ∷ []) ≡ port_with (variable_of u name)) × AllWhole (a ∷ [])) (ok_same _ a e) here
  one_takes s same (Ref name args) n a e = ref_takes s same name (reference_of s name) refl _ _ a e
  one_takes s same (Paren t) n a e = alone_takes (value_of s (Paren t) n) a e
  one_takes s same (Signed op t) n a e = alone_takes (value_of s (Signed op t) n) a e
  one_takes s same (Not t) n a e = alone_takes (value_of s (Not t) n) a e
  one_takes s same (Binary op l r) n a e = alone_takes (value_of s (Binary op l r) n) a e

  taken_cons : (a : Actual) (more : List Actual) (ps qs : List ℕ) → taken_variables (a ∷ []) ≡ ps → taken_variables more ≡ qs → taken_variables (a ∷ more) ≡ ps ++ qs
  taken_cons (Given ws back) more ps qs e f = f ∙ ap (λ (l : List ℕ). l ++ qs) e
  taken_cons (Taken s) more ps qs e f = ap (λ (l : List ℕ). s.variable ∷ l) f ∙ ap (λ (l : List ℕ). l ++ qs) e

  whole_cons : (a : Actual) (more : List Actual) → AllWhole (a ∷ []) → AllWhole more → AllWhole (a ∷ more)
  whole_cons (Given ws back) more h g = g
  whole_cons (Taken s) more h g = (h.0, g)

  oks_same : (a b : List Actual) → okay a ≡ Ok b → a ≡ b
  oks_same a b e = cc e

  -- what is taken are the port variables among the arguments, in their order, each whole
  pub arguments_take : (s : Scope) → s.unit ≡ u → (ts : List Tree) (n : ℕ) (args : List Actual) → actuals_of s (trees_from ts) n ≡ Ok args → (taken_variables args ≡ flat_map (port_in u) ts) × AllWhole args
  arguments_take s same [] n args e = subst (λ (l : List Actual). (taken_variables l ≡ []) × AllWhole l) (oks_same [] args e) (refl, tt)
  arguments_take s same (t ∷ ts) n args e =
      let first = parts (actual_of s t n) _ args e in
      let rest = parts (actuals_of s (trees_from ts) (n + refs_in s t)) _ args first.2 in
      let here = one_takes s same t n first.0 first.1 in
      let more = arguments_take s same ts (n + refs_in s t) rest.0 rest.1 in
      subst (λ (l : List Actual). (taken_variables l ≡ port_in u t ++ flat_map (port_in u) ts) × AllWhole l) (oks_same (first.0 ∷ rest.0) args rest.2)
      (taken_cons first.0 rest.0 (port_in u t) (flat_map (port_in u) ts) here.0 more.0, whole_cons first.0 rest.0 here.1 more.1)

-- ---- the places of a new channel

span_same : (a b : Span) → okay a ≡ Ok b → a ≡ b
span_same a b e = cc e

span_variable : (v : ℕ × Variable) (ts : Trees) (ks : Result (List ℤ) Fault) (x : Span) → spans_by (Some v) ts ks ≡ Ok x → v.0 ≡ x.variable
span_variable v NoTrees ks x e = ap (λ (y : Span). y.variable) (span_same (whole v.0 v.1) x e)
span_variable v (More t ts) ks x e =
    let first = parts ks _ x e in
    let second = parts (element_place v.1.bounds first.0) _ x first.2 in
    ap (λ (y : Span). y.variable) (span_same (single v.0 second.0) x second.2)

same_number : (n : ℕ) → (n == n) ≡ true
same_number n = grind (arith, nat_tests)

-- the sort is that of a port
abbrev pub IsPortSort : FieldKind → Type 0
IsPortSort Integer = ⊥
IsPortSort Logical = ⊥
IsPortSort (In t) = Unit {0}
IsPortSort (Out t) = Unit {0}

the_sort : (a b : FieldKind) → Some a ≡ Some b → a ≡ b
the_sort a b e = cc

-- the place of a port variable is one that its name gives
pub place_named : (s : Scope) (w : Var) (n : ℕ) (x : Span) (r : FieldKind) → IsPortSort r → place_of s w n ≡ Ok x → sort_of s.unit w.name ≡ Some r → is_among x.variable (port_named s.unit w.name) ≡ true
place_named s w n x r port e sort = go (variable_of s.unit w.name) e sort
  where
    by_kind : (v : ℕ × Variable) (k : Kind) → IsPortSort (reading.kind_of k) → v.0 ≡ x.variable → is_among x.variable (cond (is_port k) (v.0 ∷ []) []) ≡ true
    by_kind v kind.Integer h same = absurd h
    by_kind v kind.Logical h same = absurd h
    by_kind v (kind.In t) h same = ap (λ (b : Bool). b || false) (ap (λ (m : ℕ). m == x.variable) same ∙ same_number x.variable)
    by_kind v (kind.Out t) h same = ap (λ (b : Bool). b || false) (ap (λ (m : ℕ). m == x.variable) same ∙ same_number x.variable)

    go : (o : Option (ℕ × Variable)) → spans_by o (trees_from w.subscripts) (numbers_of s (trees_from w.subscripts) n) ≡ Ok x → option_map (λ v. (sort_of_variable v.1)) o ≡ Some r → is_among x.variable (port_with o) ≡ true
    go None e' is = absurd (cc is)
    go (Some v) e' is =
        by_kind v v.1.kind (subst IsPortSort (sym (the_sort (sort_of_variable v.1) r is)) port) (span_variable v (trees_from w.subscripts) (numbers_of s (trees_from w.subscripts) n) x e')
