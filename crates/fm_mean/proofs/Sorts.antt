-- The sort of a place that a name leads to, and the unit of a name.
use Rattle.std.proofs.Common.{◌≡◌, ℕ, zero, suc, ℤ, ◌+◌, Option, Some, None, option_map, List, [], ◌∷◌, slice_get, Result, Ok, Err, refl, ap, ◌∙◌, subst}
use Rattle.fm_base.specs.declared.fault.Fault.{Fault}
use Rattle.fm_tree.specs.Tree.{Trees, NoTrees, More, trees_from}
use Rattle.fm_tree.specs.declared.statement.Var.{Var}
use Rattle.fm_net.specs.Typed.{AllIn}
use Rattle.fm_mean.specs.Operands.{◌>>=◌}
use Rattle.fm_values.specs.Places.{element_place}
use Rattle.fm_tree.specs.PortFields.{PortFields, FieldKind, NoFields, FieldThen, Out}
use Rattle.fm_symbols.specs.Context.{symbols_of, unit_numbers, symbol_place}
use Rattle.std.specs.FinMap.{get}
use Rattle.fm_symbols.specs.declared.names.Variable.{Variable}
use Rattle.fm_rules.specs.declared.program.Program.{Program}
use Rattle.fm_mean.specs.Names.{ProgramUnit, unit_at, numbered, unit_named, variable_at, variable_of}
use Rattle.fm_mean.specs.declared.place.Span.{Span}
use Rattle.fm_mean.specs.Evaluate.{Scope, whole, single, spans_by, place_of, places_of, numbers_of, refs_in_var}
use Rattle.fm_mean.specs.Actions.{scalar_place, fields_by, fields_in, fields_at}
use Rattle.fm_mean.specs.Fits.{sort_of_variable, sort_at, PlacesFit}
use Rattle.fm_mean.specs.Typing.{sort_of, VarsFit}

-- a value that comes after another one comes from one
pub parts : {A B : Type 0} (r : Result A Fault) (f : A → Result B Fault) (y : B) → r >>= f ≡ Ok y → (x : A) × (r ≡ Ok x) × (f x ≡ Ok y)
parts (Ok x) f y e = (x, refl, e)
parts (Err fault) f y e = absurd (cc e)

same_pair : {A B : Type 0} (a b : A × B) → Some a ≡ Some b → a ≡ b
same_pair a b e = cc

pub sort_there : (vs : List Variable) (i : ℕ) (v : Variable) → slice_get vs i ≡ Some v → sort_at vs i ≡ Some (sort_of_variable v)
sort_there [] i v e = absurd (cc)
sort_there (w ∷ vs) zero v e = ap (λ (o : Option Variable). option_map sort_of_variable o) e
sort_there (w ∷ vs) (suc i) v e = sort_there vs i v e

sort_by : (vs : List Variable) (o : Option ℕ) (j : ℕ) (v : Variable) → variable_at vs o ≡ Some (j, v) → sort_at vs j ≡ Some (sort_of_variable v)
sort_by vs None j v e = absurd (cc)
sort_by vs (Some i) j v e = go (slice_get vs i) refl e
  where
    go : (o : Option Variable) → slice_get vs i ≡ o → option_map {U = ℕ × Variable} (λ v. (i, v)) o ≡ Some (j, v) → sort_at vs j ≡ Some (sort_of_variable v)
    go None is e' = absurd (cc e')
    go (Some w) is e' =
        let both : (i, w) ≡ (j, v) = same_pair (i, w) (j, v) e' in
        subst (λ (x : ℕ × Variable). sort_at vs x.0 ≡ Some (sort_of_variable x.1)) both (sort_there vs i w is)

variable_sort : (u : ProgramUnit) (name : List ℕ) (j : ℕ) (v : Variable) → variable_of u name ≡ Some (j, v) → sort_at u.names.variables j ≡ Some (sort_of_variable v)
variable_sort u name j v e = sort_by u.names.variables (symbol_place (get (symbols_of u.names) name)) j v e

spans_sort : (u : ProgramUnit) (o : Option (ℕ × Variable)) (ts : Trees) (ks : Result (List ℤ) Fault) (x : Span) (s : FieldKind)
    → ((j : ℕ) (v : Variable) → o ≡ Some (j, v) → sort_at u.names.variables j ≡ Some (sort_of_variable v)) → spans_by o ts ks ≡ Ok x → option_map (λ v. (sort_of_variable v.1)) o ≡ Some s → sort_at u.names.variables x.variable ≡ Some s
spans_sort u None ts ks x s known e is = absurd (cc is)
spans_sort u (Some v) NoTrees ks x s known e is =
    let same : whole v.0 v.1 ≡ x = cc e in
    subst (λ (x : Span). sort_at u.names.variables x.variable ≡ Some s) same (known v.0 v.1 refl ∙ is)
spans_sort u (Some v) (More t ts) ks x s known e is =
    let a = parts ks _ x e in
    let b = parts (element_place v.1.bounds a.0) _ x a.2 in
    let same : single v.0 b.0 ≡ x = cc (b.2) in
    subst (λ (x : Span). sort_at u.names.variables x.variable ≡ Some s) same (known v.0 v.1 refl ∙ is)

pub place_sort : (s : Scope) (v : Var) (n : ℕ) (x : Span) (r : FieldKind) → place_of s v n ≡ Ok x → sort_of s.unit v.name ≡ Some r → sort_at s.unit.names.variables x.variable ≡ Some r
place_sort s v n x r e is = spans_sort s.unit (variable_of s.unit v.name) (trees_from v.subscripts) (numbers_of s (trees_from v.subscripts) n) x r (λ j w h. variable_sort s.unit v.name j w h) e is

-- the places of the items of a RECEIVE
pub places_fit : (s : Scope) (t : PortFields) (vs : List Var) (n : ℕ) (xs : List Span) → places_of s vs n ≡ Ok xs → VarsFit s.unit t vs → PlacesFit s.unit.names.variables t xs
places_fit s NoFields vs n xs e fits = tt
places_fit s (FieldThen r b k rest) [] n xs e fits = absurd fits
places_fit s (FieldThen r b k rest) (v ∷ vs) n xs e fits =
    let a = parts (place_of s v n) _ xs e in
    let c = parts (places_of s vs (n + refs_in_var s v)) _ xs a.2 in
    let same : a.0 ∷ c.0 ≡ xs = cc (c.2) in
    subst (PlacesFit s.unit.names.variables (FieldThen r b k rest)) same (place_sort s v n a.0 r a.1 fits.0, places_fit s rest vs (n + refs_in_var s v) c.0 c.1 fits.1)

-- the places of outports
pub places_sorts : (s : Scope) (r : FieldKind) (vs : List Var) (n : ℕ) (xs : List Span) → places_of s vs n ≡ Ok xs → AllIn (λ (v : Var). sort_of s.unit v.name ≡ Some r) vs → AllIn (λ (x : Span). sort_at s.unit.names.variables x.variable ≡ Some r) xs
places_sorts s r [] n xs e all = subst (AllIn (λ (x : Span). sort_at s.unit.names.variables x.variable ≡ Some r)) (none xs e) tt
  where
    none : (xs : List Span) → ◌≡◌ {A = Result (List Span) Fault} (Ok []) (Ok xs) → [] ≡ xs
    none xs e = cc
places_sorts s r (v ∷ vs) n xs e all =
    let a = parts (place_of s v n) _ xs e in
    let c = parts (places_of s vs (n + refs_in_var s v)) _ xs a.2 in
    let same : a.0 ∷ c.0 ≡ xs = cc (c.2) in
    subst (AllIn (λ (x : Span). sort_at s.unit.names.variables x.variable ≡ Some r)) same (place_sort s v n a.0 r a.1 all.0, places_sorts s r vs (n + refs_in_var s v) c.0 c.1 all.1)

unit_there : (p : Program) (o : Option ℕ) (j : ℕ) (u : ProgramUnit) → numbered p o ≡ Some (j, u) → unit_at p j ≡ Some u
unit_there p None j u e = absurd (cc)
unit_there p (Some k) j u e = go (unit_at p k) refl e
  where
    go : (o : Option ProgramUnit) → unit_at p k ≡ o → option_map {U = ℕ × ProgramUnit} (λ u. (k, u)) o ≡ Some (j, u) → unit_at p j ≡ Some u
    go None is e' = absurd (cc e')
    go (Some w) is e' =
        let both : (k, w) ≡ (j, u) = same_pair (k, w) (j, u) e' in
        subst (λ (x : ℕ × ProgramUnit). unit_at p x.0 ≡ Some x.1) both is

-- the unit of a name stands at its number
pub named_at : (p : Program) (name : List ℕ) (j : ℕ) (u : ProgramUnit) → unit_named p name ≡ Some (j, u) → unit_at p j ≡ Some u
named_at p name j u e = unit_there p (get (unit_numbers p.units.units) name) j u e

loop_sort_by : (u : ProgramUnit) (o : Option (ℕ × Variable)) (r : FieldKind) → ((j : ℕ) (v : Variable) → o ≡ Some (j, v) → sort_at u.names.variables j ≡ Some (sort_of_variable v)) → option_map (λ v. (sort_of_variable v.1)) o ≡ Some r → sort_at u.names.variables (scalar_place o).variable ≡ Some r
loop_sort_by u None r known is = absurd (cc is)
loop_sort_by u (Some v) r known is = known v.0 v.1 refl ∙ is

-- the variable of a loop
pub loop_sort : (u : ProgramUnit) (name : List ℕ) (r : FieldKind) → sort_of u name ≡ Some r → sort_at u.names.variables (scalar_place (variable_of u name)).variable ≡ Some r
loop_sort u name r is = loop_sort_by u (variable_of u name) r (λ j v h. variable_sort u name j v h) is

-- the fields of an outport's messages
pub fields_of_outport : (u : ProgramUnit) (q : Var) (t : PortFields) → sort_of u q.name ≡ Some (Out t) → fields_at u q ≡ t
fields_of_outport u q t is = by_variable (variable_of u q.name) is
  where
    by_sort : (k : FieldKind) → Some k ≡ Some (Out t) → fields_by k ≡ t
    by_sort k e = ap fields_by (the_sort k (Out t) e)
      where
        the_sort : (a b : FieldKind) → Some a ≡ Some b → a ≡ b
        the_sort a b e = cc

    by_variable : (o : Option (ℕ × Variable)) → option_map (λ v. (sort_of_variable v.1)) o ≡ Some (Out t) → fields_in o ≡ t
    by_variable None e = absurd (cc e)
    by_variable (Some v) e = by_sort (sort_of_variable v.1) e
