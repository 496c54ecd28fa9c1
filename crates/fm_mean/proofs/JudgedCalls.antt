-- The arguments of a call or a reference that break no rule are of the types and sizes of the formals.
use Rattle.std.proofs.Common.{◌≡◌, ℕ, suc, ℤ, ◌+◌, Bool, true, false, ◌&&◌, not, Option, Some, None, List, [], ◌∷◌, map, length, slice_get, refl, sym, ap, ◌∙◌, subst, arith}
use Rattle.std.specs.Prelude.{nat_eq}
use Rattle.std.specs.Cmp.{first_so, second_so}
use Rattle.std.specs.FinMap.{get}
use Rattle.std.proofs.lemmas.Bool.Decides.{Decides-eqb}
use Rattle.std.proofs.lemmas.List.{length-map}
use Rattle.fm_values.specs.Places.{size}
use Rattle.fm_tree.specs.Tree.{Tree, Trees, NoTrees, More, list_of}
use Rattle.fm_tree.specs.PortFields.{FieldKind}
use Rattle.fm_tree.specs.PortReading as reading
use Rattle.fm_tree.specs.declared.port_type.Kind.{Kind}
use Rattle.fm_tree.specs.declared.port_type.Kind.TheVariants as kind
use Rattle.fm_symbols.specs.Context.{symbol_by, symbol_of, symbols_of, scope_of, formal_by, formal_in, symbol_place}
use Rattle.fm_symbols.specs.Headings.{heading_formals}
use Rattle.fm_symbols.specs.declared.context.Context.{Context}
use Rattle.fm_symbols.specs.declared.context.Scope as symbols
use Rattle.fm_symbols.specs.declared.names.Variable.{Variable}
use Rattle.fm_symbols.specs.declared.names.UnitNames.{UnitNames}
use Rattle.fm_symbols.specs.declared.symbol.Formal.{Formal}
use Rattle.fm_symbols.specs.declared.symbol.Formal.TheVariants as formal
use Rattle.fm_symbols.specs.declared.symbol.Scalar.{Scalar}
use Rattle.fm_symbols.specs.declared.symbol.Scalar.TheVariants as scalar
use Rattle.fm_symbols.specs.declared.symbol.Symbol.{Symbol}
use Rattle.fm_rules.specs.declared.typing.ExprType.{ExprType}
use Rattle.fm_rules.specs.declared.typing.ExprType.TheVariants.{Value, Array, Port, Ports, Function, Nothing}
use Rattle.fm_rules.specs.declared.typing.Referent.{Referent}
use Rattle.fm_rules.specs.declared.typing.Referent.TheVariants as referent
use Rattle.fm_rules.specs.declared.typing.Arguments.{Arguments}
use Rattle.fm_rules.specs.Flags.{both, e42, e50}
use Rattle.fm_rules.specs.Typing.{fits, is_port, same_scalar}
use Rattle.fm_rules.specs.Expressions as typing
use Rattle.fm_rules.specs.Expressions.{arguments_judged, fits_wanted, formals_in, is_stray_port, judged, reference_judged, wanted}
use Rattle.fm_rules.specs.JudgedStatements as ports
use Rattle.fm_rules.specs.PortFitting.{is_whole, is_as_long, is_kind_of, fits_formal, breaks_variable, breaks_formal, break_formals}
use Rattle.fm_rules.specs.PortRules.{actuals_break, breaks_unit}
use Rattle.fm_rules.specs.declared.program.Program.{Program}
use Rattle.fm_mean.specs.Names.{ProgramUnit, unit_at, context, formal_place}
use Rattle.fm_mean.specs.Evaluate.{Scope}
use Rattle.fm_mean.specs.Fits.{sort_of_variable}
use Rattle.fm_mean.specs.ValueTypes.{arg_type, ArgumentsAreOf}
use Rattle.fm_mean.proofs.NamedTypes.{field_kind}
use Rattle.fm_mean.proofs.Unbroken.{or_left, or_right}
use Rattle.fm_mean.proofs.Unflagged.{IsUnflagged, left_unflagged, right_unflagged}
use Rattle.fm_mean.proofs.JudgedValues.{Stands, stands_none, stands_constant, stands_variable, stands, constant_placeless, symbol_placed, scope_by, scopes_there}
use Rattle.fm_mean.proofs.JudgedArguments.{ArgIs, HaveSizes}
use Rattle.fm_mean.proofs.JudgedItems.{kind_alike}
use Rattle.fm_mean.proofs.Sizes.{unit_parts}

never : true ≡ false → ⊥
never e = absurd (cc)

not_false : (b : Bool) → not b ≡ false → b ≡ true
not_false true e = refl
not_false false e = absurd (cc)

-- ---- one argument and its formal

abbrev Pair : Type 0
Pair = FieldKind × ℕ

alike : (a b : FieldKind) (m n : ℕ) (o : Option Pair) → o ≡ Some (a, m) → a ≡ b → m ≡ n → o ≡ Some (b, n)
alike a b m n o is e h =
    let first : FieldKind → Option Pair = λ k. Some (k, m) in
    let second : ℕ → Option Pair = λ n. Some (b, n) in
    is ∙ ap first e ∙ ap second h

same_scalars : (a b : Scalar) → same_scalar a b ≡ true → a ≡ b
same_scalars scalar.Integer scalar.Integer e = refl
same_scalars scalar.Integer scalar.Logical e = absurd (cc e)
same_scalars scalar.Logical scalar.Integer e = absurd (cc e)
same_scalars scalar.Logical scalar.Logical e = refl

-- a value, or a whole array
value_fits : (u : ProgramUnit) (t : ExprType) (o : Option Pair) (q : Scalar) (v : Variable) → ArgIs u t o → (t ≡ Nothing → ⊥) → fits (formal.Value q) t ≡ true → is_port t ≡ false → sort_of_variable v ≡ field_kind q → v.words ≡ 1
    → o ≡ Some (sort_of_variable v, v.words)
value_fits u (Value r) o q v h some e stray sort one = alike (field_kind r) (sort_of_variable v) 1 v.words o h (ap field_kind (same_scalars r q e) ∙ sym sort) (sym one)
value_fits u (Array r m) o q v h some e stray sort one = absurd (cc e)
value_fits u (Port k) o q v h some e stray sort one = absurd (never stray)
value_fits u (Ports k) o q v h some e stray sort one = absurd (never stray)
value_fits u Function o q v h some e stray sort one = absurd (cc e)
value_fits u Nothing o q v h some e stray sort one = absurd (some refl)

array_fits : (u : ProgramUnit) (t : ExprType) (o : Option Pair) (q : Scalar) (v : Variable) → ArgIs u t o → (t ≡ Nothing → ⊥) → fits (formal.Array q v.words) t ≡ true → is_port t ≡ false → sort_of_variable v ≡ field_kind q
    → o ≡ Some (sort_of_variable v, v.words)
array_fits u (Value r) o q v h some e stray sort = absurd (cc e)
array_fits u (Array r m) o q v h some e stray sort =
    alike (field_kind r) (sort_of_variable v) m v.words o h (ap field_kind (same_scalars r q (first_so (same_scalar r q) (nat_eq m v.words) e)) ∙ sym sort) ((Decides-eqb m v.words).0 (second_so (same_scalar r q) (nat_eq m v.words) e))
array_fits u (Port k) o q v h some e stray sort = absurd (never stray)
array_fits u (Ports k) o q v h some e stray sort = absurd (never stray)
array_fits u Function o q v h some e stray sort = absurd (cc e)
array_fits u Nothing o q v h some e stray sort = absurd (some refl)

-- a port
kind_there : (o : Option Variable) (v : Variable) (k : FieldKind) → o ≡ Some v → is_kind_of o k ≡ true → sort_of_variable v ≡ k
kind_there None v k is e = absurd (cc)
kind_there (Some w) v k is e = ap (λ (x : Variable). sort_of_variable x) (sym (the_variable w v is)) ∙ kind_alike (reading.kind_of w.kind) k e
  where
    the_variable : (a b : Variable) → Some a ≡ Some b → a ≡ b
    the_variable a b e = cc

long_there : (o : Option Variable) (v f : Variable) → o ≡ Some v → is_as_long o f ≡ true → v.words ≡ f.words
long_there None v f is e = absurd (cc)
long_there (Some w) v f is e = ap (λ (x : Variable). x.words) (sym (the_variable w v is)) ∙ (Decides-eqb w.words f.words).0 (second_so (is_whole f.bounds) (nat_eq w.words f.words) e)
  where
    the_variable : (a b : Variable) → Some a ≡ Some b → a ≡ b
    the_variable a b e = cc

no_array : (bs : List (ℤ × ℤ)) → not (is_whole bs) ≡ true → size bs ≡ 1
no_array [] e = refl
no_array (b ∷ bs) e = absurd (cc)

port_fits : (u : ProgramUnit) (t : ExprType) (o : Option Pair) (v : Variable) → ArgIs u t o → (t ≡ Nothing → ⊥) → fits_formal u.names t v ≡ true → v.words ≡ size v.bounds → o ≡ Some (sort_of_variable v, v.words)
port_fits u (Port j) o v h some e sized =
    let w = slice_get u.names.variables j in
    alike (sort_of_variable h.0) (sort_of_variable v) 1 v.words o h.2 (kind_there w h.0 (sort_of_variable v) h.1 (first_so (is_kind_of w (sort_of_variable v)) (not (is_whole v.bounds)) e))
    (sym (sized ∙ no_array v.bounds (second_so (is_kind_of w (sort_of_variable v)) (not (is_whole v.bounds)) e)))
port_fits u (Ports j) o v h some e sized =
    let w = slice_get u.names.variables j in
    alike (sort_of_variable h.0) (sort_of_variable v) h.0.words v.words o h.2 (kind_there w h.0 (sort_of_variable v) h.1 (first_so (is_kind_of w (sort_of_variable v)) (is_as_long w v) e))
    (long_there w h.0 v h.1 (second_so (is_kind_of w (sort_of_variable v)) (is_as_long w v) e))
port_fits u (Value r) o v h some e sized = absurd (cc e)
port_fits u (Array r m) o v h some e sized = absurd (cc e)
port_fits u Function o v h some e sized = absurd (cc e)
port_fits u Nothing o v h some e sized = absurd (some refl)

port_unbroken : (n : UnitNames) (t : ExprType) (o : Option Variable) (v : Variable) → o ≡ Some v → breaks_variable n t o ≡ false → fits_formal n t v ≡ true
port_unbroken n t None v is e = absurd (cc)
port_unbroken n t (Some w) v is e = ap (λ (x : Variable). fits_formal n t x) (sym (the_variable w v is)) ∙ not_false (fits_formal n t w) e
  where
    the_variable : (a b : Variable) → Some a ≡ Some b → a ≡ b
    the_variable a b e = cc

formal_fits : (u w : ProgramUnit) (t : ExprType) (o : Option Pair) (k : ℕ) (v : Variable) (kd : Kind) (bs : List (ℤ × ℤ)) → ArgIs u t o → (t ≡ Nothing → ⊥) → slice_get w.names.variables k ≡ Some v → v.words ≡ size v.bounds
    → v.kind ≡ kd → v.bounds ≡ bs → fits_wanted (Some (formal_by (Some (symbol_by kd bs v.words k)))) t ≡ true → is_stray_port (Some (formal_by (Some (symbol_by kd bs v.words k)))) t ≡ false
    → breaks_formal w.names u.names t (formal_by (Some (symbol_by kd bs v.words k))) ≡ false → o ≡ Some (sort_of_variable v, v.words)
formal_fits u w t o k v kind.Integer [] h some there sized ek eb e stray broken = value_fits u t o scalar.Integer v h some e stray (ap reading.kind_of ek) (sized ∙ ap size eb)
formal_fits u w t o k v kind.Logical [] h some there sized ek eb e stray broken = value_fits u t o scalar.Logical v h some e stray (ap reading.kind_of ek) (sized ∙ ap size eb)
formal_fits u w t o k v kind.Integer (b ∷ bs) h some there sized ek eb e stray broken = array_fits u t o scalar.Integer v h some e stray (ap reading.kind_of ek)
formal_fits u w t o k v kind.Logical (b ∷ bs) h some there sized ek eb e stray broken = array_fits u t o scalar.Logical v h some e stray (ap reading.kind_of ek)
formal_fits u w t o k v (kind.In p) [] h some there sized ek eb e stray broken = port_fits u t o v h some (port_unbroken u.names t (slice_get w.names.variables k) v there broken) sized
formal_fits u w t o k v (kind.Out p) [] h some there sized ek eb e stray broken = port_fits u t o v h some (port_unbroken u.names t (slice_get w.names.variables k) v there broken) sized
formal_fits u w t o k v (kind.In p) (b ∷ bs) h some there sized ek eb e stray broken = port_fits u t o v h some (port_unbroken u.names t (slice_get w.names.variables k) v there broken) sized
formal_fits u w t o k v (kind.Out p) (b ∷ bs) h some there sized ek eb e stray broken = port_fits u t o v h some (port_unbroken u.names t (slice_get w.names.variables k) v there broken) sized

-- ---- all arguments

-- the formals of a unit are variables, at the places of their numbers
abbrev pub HaveFormals : ProgramUnit → Type 0
HaveFormals w = (i : ℕ) (name : List ℕ) → slice_get (heading_formals w.tree.heading.stmt) i ≡ Some name → symbol_place (get (symbols_of w.names) name) ≡ Some (formal_place w (suc i))

-- a fact of each of the trees
abbrev pub AllTrees : (Tree → Type 0) → Trees → Type 0
AllTrees P NoTrees = Unit {0}
AllTrees P (More t ts) = P t × AllTrees P ts

abbrev count_of : Trees → ℕ
count_of NoTrees = 0
count_of (More t ts) = suc (count_of ts)

formal_there : (w : ProgramUnit) (name : List ℕ) (i : ℕ) → symbol_place (get (symbols_of w.names) name) ≡ Some i → (v : Variable) × (slice_get w.names.variables i ≡ Some v) × (get (symbols_of w.names) name ≡ Some (symbol_of i v))
formal_there w name i e = go (stands w name)
  where
    the_number : (a b : ℕ) → Some a ≡ Some b → a ≡ b
    the_number a b e = cc

    no : None ≡ Some i → ⊥
    no e = absurd (cc)

    go : Stands w name (get (symbols_of w.names) name) → (v : Variable) × (slice_get w.names.variables i ≡ Some v) × (get (symbols_of w.names) name ≡ Some (symbol_of i v))
    go (stands_none at none) = absurd (no (sym (ap symbol_place at) ∙ e))
    go (stands_constant c at none there) = absurd (no (sym (constant_placeless c) ∙ sym (ap symbol_place at) ∙ e))
    go (stands_variable k v at there here) =
        let same : k ≡ i = the_number k i (sym (symbol_placed v.kind v.bounds v.words k) ∙ sym (ap symbol_place at) ∙ e) in
        (v, subst (λ k. slice_get w.names.variables k ≡ Some v) same here, subst (λ k. get (symbols_of w.names) name ≡ Some (symbol_of k v)) same at)

module _ (c : Context) (sc : symbols.Scope) (r : Referent) where
  count_is : (ts : Trees) (i : ℕ) → (arguments_judged c sc r i ts).count ≡ count_of ts
  count_is NoTrees i = refl
  count_is (More t ts) i = ap suc (count_is ts (i + 1))

  -- each argument breaks nothing
  pub parts_unflagged : (ts : Trees) (i : ℕ) → IsUnflagged (arguments_judged c sc r i ts).flags → AllTrees (λ t. IsUnflagged (judged c sc t).flags) ts
  parts_unflagged NoTrees i h = tt
  parts_unflagged (More t ts) i h =
      let j = judged c sc t in
      let stray = e50 (is_stray_port (wanted c r i) j.expr_type) in
      let rest = (arguments_judged c sc r (i + 1) ts).flags in
      (left_unflagged j.flags stray (left_unflagged (both j.flags stray) rest h), parts_unflagged ts (i + 1) (right_unflagged (both j.flags stray) rest h))

module _ (c : Context) (s : Scope) (k : ℕ) (w : ProgramUnit) (sizes : HaveSizes w)
    (typed : (t : Tree) → IsUnflagged (judged c (scope_of s.unit.tree s.unit.names) t).flags → ArgIs s.unit (judged c (scope_of s.unit.tree s.unit.names) t).expr_type (arg_type s t)) where
  abbrev sc : symbols.Scope
  sc = scope_of s.unit.tree s.unit.names

  abbrev HasSome : Tree → Type 0
  HasSome t = IsUnflagged (judged c sc t).flags → (judged c sc t).expr_type ≡ Nothing → ⊥

  each_of : (ts : Trees) (names : List (List ℕ)) (i : ℕ) → IsUnflagged (arguments_judged c sc (referent.Unit k) i ts).flags → (arguments_judged c sc (referent.Unit k) i ts).fit ≡ true
      → ((j : ℕ) → wanted c (referent.Unit k) (i + j) ≡ slice_get (map (formal_in (symbols_of w.names)) names) j) → ((j : ℕ) (name : List ℕ) → slice_get names j ≡ Some name → symbol_place (get (symbols_of w.names) name) ≡ Some (formal_place w (suc (i + j))))
      → count_of ts ≡ length names → AllTrees HasSome ts → break_formals w.names s.unit.names (map (ports.type_of c sc) (list_of ts)) (map (formal_in (symbols_of w.names)) names) ≡ false → ArgumentsAreOf s w (suc i) ts
  unfolding ports.type_of
  each_of NoTrees names i h fit at placed many some broken = tt
  each_of (More t ts) [] i h fit at placed many some broken = absurd (omega (arith, many))
  each_of (More t ts) (name ∷ names) i h fit at placed many some broken =
      let j = judged c sc t in
      let next = arguments_judged c sc (referent.Unit k) (i + 1) ts in
      let stray = e50 (is_stray_port (wanted c (referent.Unit k) i) j.expr_type) in
      let here : i + 0 ≡ i = omega arith in
      let want : wanted c (referent.Unit k) i ≡ Some (formal_in (symbols_of w.names) name) = ap (wanted c (referent.Unit k)) (sym here) ∙ at 0 in
      let place : symbol_place (get (symbols_of w.names) name) ≡ Some (formal_place w (suc i)) = placed 0 name refl ∙ ap (λ (i : ℕ). Some (formal_place w (suc i))) here in
      let v = formal_there w name (formal_place w (suc i)) place in
      let full : wanted c (referent.Unit k) i ≡ Some (formal_by (Some (symbol_of (formal_place w (suc i)) v.0))) = want ∙ ap (λ (o : Option Symbol). Some (formal_by o)) v.2 in
      let both_flags = left_unflagged (both j.flags stray) next.flags h in
      let own = left_unflagged j.flags stray both_flags in
      let fits = first_so (fits_wanted (wanted c (referent.Unit k) i) j.expr_type) next.fit fit in
      let one = breaks_formal w.names s.unit.names j.expr_type (formal_in (symbols_of w.names) name) in
      let more = break_formals w.names s.unit.names (map (ports.type_of c sc) (list_of ts)) (map (formal_in (symbols_of w.names)) names) in
      let x = formal_fits s.unit w j.expr_type (arg_type s t) (formal_place w (suc i)) v.0 v.0.kind v.0.bounds (typed t own) (some.0 own) v.1 (sizes (formal_place w (suc i)) v.0 v.1) refl refl
      (ap (λ (o : Option Formal). fits_wanted o j.expr_type) (sym full) ∙ fits) (ap (λ (o : Option Formal). is_stray_port o j.expr_type) (sym full) ∙ (right_unflagged j.flags stray both_flags).e50)
      (ap (λ (o : Option Symbol). breaks_formal w.names s.unit.names j.expr_type (formal_by o)) (sym v.2) ∙ or_left one more broken) in
      let rest = each_of ts names (i + 1) (right_unflagged (both j.flags stray) next.flags h) (second_so (fits_wanted (wanted c (referent.Unit k) i) j.expr_type) next.fit fit)
      (λ n. ap (wanted c (referent.Unit k)) (omega arith) ∙ at (suc n))
      (λ n name there. placed (suc n) name there ∙ ap (λ (i : ℕ). Some (formal_place w (suc i))) (omega arith))
      (omega (arith, many)) some.1 (or_right one more broken) in
      (sort_of_variable v.0, v.0.words, x, record { variable = v.0; there = v.1; sort = refl; words = refl }, subst (λ (n : ℕ). ArgumentsAreOf s w n ts) (omega arith) rest)

-- ---- a unit that is called

module _ (p : Program) (s : Scope) (sizes : (k : ℕ) (w : ProgramUnit) → unit_at p k ≡ Some w → HaveSizes w) (formals : (k : ℕ) (w : ProgramUnit) → unit_at p k ≡ Some w → HaveFormals w)
    (typed : (t : Tree) → IsUnflagged (judged (context p) (scope_of s.unit.tree s.unit.names) t).flags → ArgIs s.unit (judged (context p) (scope_of s.unit.tree s.unit.names) t).expr_type (arg_type s t)) where
  abbrev judged_all : ℕ → Trees → Arguments
  judged_all k ts = arguments_judged (context p) (scope_of s.unit.tree s.unit.names) (referent.Unit k) 0 ts

  -- the arguments of the unit with a number
  pub arguments_are : (k : ℕ) (w : ProgramUnit) (ts : Trees) → unit_at p k ≡ Some w → IsUnflagged (reference_judged (context p) (referent.Unit k) (judged_all k ts)).flags
      → AllTrees (λ t. IsUnflagged (judged (context p) (scope_of s.unit.tree s.unit.names) t).flags → (judged (context p) (scope_of s.unit.tree s.unit.names) t).expr_type ≡ Nothing → ⊥) ts
      → breaks_unit p.names.units (context p) s.unit.names (map (ports.type_of (context p) (scope_of s.unit.tree s.unit.names)) (list_of ts)) (Some k) ≡ false → ArgumentsAreOf s w 1 ts
  arguments_are k w ts is h some broken =
      let a = judged_all k ts in
      let names = heading_formals w.tree.heading.stmt in
      let fs = map (formal_in (symbols_of w.names)) names in
      let there : slice_get (context p).scopes k ≡ Some (scope_of w.tree w.names) = scopes_there p.units.units p.names.units k ∙ ap scope_by is in
      let right = not_false (a.fit && nat_eq a.count (formals_in (slice_get (context p).scopes k))) (right_unflagged a.flags (e42 (not (a.fit && nat_eq a.count (formals_in (slice_get (context p).scopes k))))) h).e42 in
      let count : a.count ≡ formals_in (slice_get (context p).scopes k) = (Decides-eqb a.count (formals_in (slice_get (context p).scopes k))).0 (second_so a.fit (nat_eq a.count (formals_in (slice_get (context p).scopes k))) right) in
      let many : formals_in (slice_get (context p).scopes k) ≡ length fs = ap (λ (o : Option symbols.Scope). formals_in o) there in
      let counted = count_is (context p) (scope_of s.unit.tree s.unit.names) (referent.Unit k) ts 0 in
      let names_here : slice_get p.names.units k ≡ Some w.names = (unit_parts (slice_get p.units.units k) (slice_get p.names.units k) w is).1 in
      each_of (context p) s k w (sizes k w is) typed ts names 0 (left_unflagged a.flags (e42 (not (a.fit && nat_eq a.count (formals_in (slice_get (context p).scopes k))))) h)
      (first_so a.fit (nat_eq a.count (formals_in (slice_get (context p).scopes k))) right)
      (λ j. ap (wanted (context p) (referent.Unit k)) (omega arith) ∙ ap (λ (o : Option symbols.Scope). typing.formal_in o j) there)
      (λ j name at. formals k w is j name at ∙ ap (λ (i : ℕ). Some (formal_place w (suc i))) (omega arith))
      (omega (arith, count, many, counted, length-map names (formal_in (symbols_of w.names)))) some
      (sym (ap (λ (o : Option symbols.Scope). actuals_break s.unit.names (map (ports.type_of (context p) (scope_of s.unit.tree s.unit.names)) (list_of ts)) (Some w.names) o) there)
      ∙ sym (ap (λ (o : Option UnitNames). actuals_break s.unit.names (map (ports.type_of (context p) (scope_of s.unit.tree s.unit.names)) (list_of ts)) o (slice_get (context p).scopes k)) names_here) ∙ broken)
