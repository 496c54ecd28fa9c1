-- Calls, starts and references: the operands that their arguments leave fit the formals of the unit.
use Rattle.std.proofs.Common.{◌≡◌, ℕ, zero, suc, ◌+◌, ◌≤◌, Bool, true, false, cond, ◌&&◌, ◌==◌, Option, Some, None, List, [], ◌∷◌, ◌++◌, length, reverse, refl, sym, ap, subst, ◌∙◌, arith, append_assoc}
use Rattle.std.specs.Prelude.{slice_get}
use Rattle.std.proofs.lemmas.Bool.{eqb-true}
use Rattle.std.proofs.lemmas.List.{reverse-reverse}
use Rattle.fm_tree.specs.Tree.{Trees, NoTrees, More, trees_from}
use Rattle.fm_tree.specs.References.{applied_each, in_place}
use Rattle.fm_tree.specs.declared.form.UnitKind.{UnitKind}
use Rattle.fm_tree.specs.declared.form.UnitKind.TheVariants as unit_kind
use Rattle.fm_tree.specs.declared.program_unit.Unit as tree
use Rattle.fm_tree.specs.declared.statement.CallPart.{CallPart}
use Rattle.fm_symbols.specs.declared.names.UnitNames.{UnitNames}
use Rattle.fm_symbols.specs.declared.names.Variable.{Variable}
use Rattle.fm_rules.specs.declared.program.Program.{Program}
use Rattle.fm_mean.specs.Names.{ProgramUnit, kind_of, unit_at, unit_with, formal_from, formal_place}
use Rattle.fm_mean.specs.Actions.{arguments_in, where_in}
use Rattle.fm_mean.specs.Calls.{is_formal}
use Rattle.fm_mean.specs.Evaluate.{Scope, refs_in_all}
use Rattle.fm_mean.specs.Referring.{names_in}
use Rattle.fm_mean.specs.ValueTypes.{ArgumentsAreOf}
use Rattle.fm_code.specs.declared.instr.End.TheVariants as end
use Rattle.fm_code.specs.declared.instr.Instr.{Instr}
use Rattle.fm_code.specs.declared.instr.Instr.TheVariants as instr
use Rattle.fm_code_kinds.specs.declared.kinds.Kind.TheVariants.{Returned, Word, Operand, LoopOf}
use Rattle.fm_code_kinds.specs.declared.kinds.Passed.{Passed}
use Rattle.fm_code_kinds.specs.declared.sorts.Cell.{Cell}
use Rattle.fm_code_kinds.specs.declared.sorts.Heading.{Heading}
use Rattle.fm_code_kinds.specs.declared.sorts.Shape.{Shape}
use Rattle.fm_code_kinds.specs.declared.sorts.Shapes.{Shapes}
use Rattle.fm_code_kinds.specs.Shapes.{formal_at, is_process, is_subroutine}
use Rattle.fm_code_kinds.specs.Effects.{Over, Ill, Taken, only_results, results_in, operands_on, operands_over, fits_room, is_no_cell, fits_cell, fit_formals, heading_of, cells_of, calls_fit}
use Rattle.fm_gen_relation.specs.Sound.{IsSoundUnit, IsFull, formals_among}
use Rattle.fm_gen_relation.proofs.Numbered.{formals_numbered}
use Rattle.fm_gen_operands.specs.Code.{trees_count}
use Rattle.fm_gen_operands.specs.Places.{arguments_code, seat_code}
use Rattle.fm_gen.specs.Statements.{call_by, start_by}
use Rattle.fm_object.specs.declared.image.FieldImage.{FieldImage}
use Rattle.fm_compile_law.specs.Counted.{AreCounted}
use Rattle.fm_compile_law.specs.Passed.{AreArguments}
use Rattle.fm_image.specs.Types.{types_of}
use Rattle.fm_compile_law.specs.Types.{sort_by}
use Rattle.fm_compile_law.specs.Units.{cell_by, cells_by, heading_by, shape_by, shapes_by, shapes_of}
use Rattle.fm_compile_law.specs.Walks.{Walks}
use Rattle.fm_compile_law.proofs.Straight.{then_more, operands_results}
use Rattle.fm_compile_law.proofs.Cells.{same_variable}
use Rattle.fm_compile_law.proofs.Expressions.{Kinds, cs}
use Rattle.fm_compile_law.proofs.Arguments.{arguments_leave}
use Rattle.fm_compile_law.proofs.Seats.{refs_in_place, seat_leaves}
use Rattle.fm_compile_law.proofs.Walks.{end_apart, closes}

-- ---- operands on a list of results

taken_alike : (t s : Taken) (o : Passed) → t ≡ s → ◌≡◌ {A = Taken} (record { operands = o ∷ t.operands; rest = t.rest }) (record { operands = o ∷ s.operands; rest = s.rest })
taken_alike t s o e = λ i. record { operands = o ∷ (e i).operands; rest = (e i).rest }

none_on : (ks : Kinds) → only_results ks ≡ true → operands_on ks ≡ record { operands = []; rest = ks }
none_on [] e = refl
none_on (Returned ∷ ks) e = refl
none_on (Word s ∷ ks) e = absurd cc
none_on (Operand o ∷ ks) e = absurd cc
none_on (LoopOf l ∷ ks) e = absurd cc

pub taken_over : (os : List Passed) (rest : Kinds) → operands_on rest ≡ record { operands = []; rest = rest } → operands_on (operands_over os rest) ≡ record { operands = os; rest = rest }
taken_over [] rest e = e
taken_over (o ∷ os) rest e = taken_alike (operands_on (operands_over os rest)) (record { operands = os; rest = rest }) o (taken_over os rest e)

pub taken_results : (os : List Passed) (ks : Kinds) → only_results ks ≡ true → operands_on (operands_over os ks) ≡ record { operands = os; rest = ks }
taken_results os ks only = taken_over os ks (none_on ks only)

-- ---- formals by their numbers

at_least : (i n : ℕ) (vs : List Variable) → i ≤ formal_from i n vs
at_least i n [] = omega arith
at_least i n (v ∷ vs) = go (v.formal == n) (omega (arith, at_least (suc i) n vs))
  where
    go : (b : Bool) → i ≤ formal_from (suc i) n vs → i ≤ cond b i (formal_from (suc i) n vs)
    go true more = omega arith
    go false more = more

-- the formal with a number, among the variables and among the cells
record IsFormalAt (ts : List (List FieldImage)) (vs : List Variable) (n : ℕ) (v : Variable) : Type 0 where
  number : v.formal ≡ n
  cell : formal_at (cells_by ts vs) n ≡ Some (cell_by ts v)

formal_here : (ts : List (List FieldImage)) (i n k : ℕ) (vs : List Variable) (v : Variable) → formal_from i n vs ≡ i + k → slice_get vs k ≡ Some v → IsFormalAt ts vs n v
formal_here ts i n k [] v e at = absurd cc
formal_here ts i n zero (w ∷ vs) v e at = go (w.formal == n) refl e
  where
    same : w ≡ v
    same = same_variable w v at

    go : (b : Bool) → (w.formal == n) ≡ b → cond b i (formal_from (suc i) n vs) ≡ i + 0 → IsFormalAt ts (w ∷ vs) n v
    go true is f = record {
      number = sym (ap (λ (x : Variable). x.formal) same) ∙ eqb-true w.formal n is;
      cell = ap (λ b. cond b (Some (cell_by ts w)) (formal_at (cells_by ts vs) n)) is ∙ ap (λ (x : Variable). Some (cell_by ts x)) same;
    }
    go false is f = absurd (omega (arith, f, at_least (suc i) n vs))
formal_here ts i n (suc k) (w ∷ vs) v e at = go (w.formal == n) refl e (λ f. formal_here ts (suc i) n k vs v f at)
  where
    go : (b : Bool) → (w.formal == n) ≡ b → cond b i (formal_from (suc i) n vs) ≡ i + suc k → (formal_from (suc i) n vs ≡ suc i + k → IsFormalAt ts vs n v) → IsFormalAt ts (w ∷ vs) n v
    go true is f rest = absurd (omega (arith, f))
    go false is f rest =
        let h = rest (omega (arith, f)) in
        record { number = h.number; cell = ap (λ b. cond b (Some (cell_by ts w)) (formal_at (cells_by ts vs) n)) is ∙ h.cell }

-- a cell with a number is that of a variable
record IsOfVariable (vs : List Variable) (n : ℕ) : Type 0 where
  place : ℕ
  variable : Variable
  there : slice_get vs place ≡ Some variable
  number : variable.formal ≡ n

variable_found : (ts : List (List FieldImage)) (vs : List Variable) (n : ℕ) (c : Cell) → formal_at (cells_by ts vs) n ≡ Some c → IsOfVariable vs n
variable_found ts [] n c e = absurd cc
variable_found ts (v ∷ vs) n c e = go (v.formal == n) refl e (λ f. variable_found ts vs n c f)
  where
    go : (b : Bool) → (v.formal == n) ≡ b → cond b (Some (cell_by ts v)) (formal_at (cells_by ts vs) n) ≡ Some c → (formal_at (cells_by ts vs) n ≡ Some c → IsOfVariable vs n) → IsOfVariable (v ∷ vs) n
    go true is f rest = record { place = 0; variable = v; there = refl; number = eqb-true v.formal n is }
    go false is f rest = let h = rest f in record { place = suc h.place; variable = h.variable; there = h.there; number = h.number }

formal_some : (n : ℕ) → 1 ≤ n → is_formal n ≡ true
formal_some zero h = absurd (omega (arith, h))
formal_some (suc n) h = refl

module _ (p : Program) (ts : List (List FieldImage)) where
  -- no formal has a greater number than there are formals
  none_behind : (k : ℕ) (callee : ProgramUnit) → unit_at p k ≡ Some callee → (n : ℕ) → n ≡ suc (length (formals_among callee.names.variables)) → is_no_cell (formal_at (cells_by ts callee.names.variables) n) ≡ true
  none_behind k callee is n e = go (formal_at (cells_by ts callee.names.variables) n) refl
    where
      go : (o : Option Cell) → formal_at (cells_by ts callee.names.variables) n ≡ o → is_no_cell o ≡ true
      go None at = refl
      go (Some c) at =
          let x = variable_found ts callee.names.variables n c at in
          let y = formals_numbered p k callee is x.variable x.place x.there (formal_some x.variable.formal (omega (arith, x.number, e))) in
          let here : formal_from 0 (suc y.0) callee.names.variables ≡ 0 + x.place = omega (arith, y.1) in
          let z = formal_here ts 0 (suc y.0) x.place callee.names.variables x.variable here x.there in
          absurd (omega (arith, z.number, x.number, y.2, e))

  -- operands of the types and sizes of the formals fit them
  arguments_fit : (u callee : ProgramUnit) (k : ℕ) → unit_at p k ≡ Some callee → (l : Trees) (os : List Passed) (n : ℕ) → AreArguments ts (cells_by ts u.names.variables) (names_in p u) l os
      → ArgumentsAreOf (names_in p u) callee n l → n + trees_count l ≡ suc (length (formals_among callee.names.variables))
      → fit_formals (cells_by ts u.names.variables) (cells_by ts callee.names.variables) n os ≡ true
  arguments_fit u callee k is NoTrees [] n are of e = none_behind k callee is n (omega (arith, e))
  arguments_fit u callee k is NoTrees (o ∷ os) n are of e = absurd are
  arguments_fit u callee k is (More t l) [] n are of e = absurd are
  arguments_fit u callee k is (More t l) (o ∷ os) n are of e =
      let mine = cells_by ts u.names.variables in
      let theirs = cells_by ts callee.names.variables in
      let f = of.3 in
      let here : formal_from 0 n callee.names.variables ≡ 0 + formal_place callee n = omega arith in
      let x = formal_here ts 0 n (formal_place callee n) callee.names.variables f.variable here f.there in
      let room : fits_room mine (sort_by ts of.0) of.1 o ≡ true = are.0 of.0 of.1 of.2 in
      let fits : fits_cell mine o (formal_at theirs n) ≡ true =
      ap (fits_cell mine o) x.cell ∙ (λ i. fits_room mine (sort_by ts (f.sort i)) (f.words i) o) ∙ room in
      (λ i. fits i && fit_formals mine theirs (suc n) os) ∙ arguments_fit u callee k is l os (suc n) are.1 of.4 (omega (arith, e))

-- ---- units by their numbers

shapes_there : (ts : List (List FieldImage)) (us : List tree.Unit) (ns : List UnitNames) (k : ℕ) (u : ProgramUnit) → unit_with (slice_get us k) (slice_get ns k) ≡ Some u → slice_get (shapes_by ts us ns) k ≡ Some (shape_by ts u)
shapes_there ts [] ns k u e = absurd (no (slice_get ns k) e)
  where
    no : (o : Option UnitNames) → unit_with None o ≡ Some u → ⊥
    no o e = absurd cc
shapes_there ts (v ∷ us) [] k u e = absurd (no (slice_get (v ∷ us) k) e)
  where
    no : (o : Option tree.Unit) → unit_with o None ≡ Some u → ⊥
    no None e = absurd cc
    no (Some v) e = absurd cc
shapes_there ts (v ∷ us) (m ∷ ns) zero u e = ap (λ (x : ProgramUnit). Some (shape_by ts x)) (the_unit (record { tree = v; names = m }) u e)
  where
    the_unit : (a b : ProgramUnit) → Some a ≡ Some b → a ≡ b
    the_unit a b e = cc
shapes_there ts (v ∷ us) (m ∷ ns) (suc k) u e = shapes_there ts us ns k u e

pub unit_shape : (p : Program) (k : ℕ) (u : ProgramUnit) → unit_at p k ≡ Some u → slice_get (shapes_of p).units k ≡ Some (shape_by (types_of p) u)
unit_shape p k u is = shapes_there (types_of p) p.units.units p.names.units k u is

module _ (p : Program) (u : ProgramUnit) (sound : IsSoundUnit u) (n : ℕ) (Good : ℕ → Type 0) where
  abbrev ts : List (List FieldImage)
  ts = types_of p

  abbrev ss : Shapes
  ss = shapes_of p

  abbrev me : Shape
  me = shape_by ts u

  abbrev all : List Cell
  all = cs p u sound ts n

  abbrev now : Scope
  now = names_in p u

  abbrev Ends : ℕ → List Instr → Kinds → Type 0
  Ends at is ks = Walks Good ss me n at is ks []

  -- what is passed fits
  pub calls_so : (k : ℕ) (callee : ProgramUnit) → unit_at p k ≡ Some callee → (heading : Heading → Bool) → heading (heading_by (kind_of callee)) ≡ true → (l : Trees) (os : List Passed) (ks : Kinds)
      → only_results ks ≡ true → AreArguments ts all now l os → ArgumentsAreOf now callee 1 l → IsFull callee l → calls_fit ss me k heading (operands_on (operands_over (reverse os) ks)) ≡ true
  calls_so k callee is heading kind l os ks only are of full =
      let t : Taken = record { operands = reverse os; rest = ks } in
      let shape = unit_shape p k callee is in
      let fits : fit_formals all (cells_by ts callee.names.variables) 1 (reverse (reverse os)) ≡ true =
      ap (fit_formals all (cells_by ts callee.names.variables) 1) (reverse-reverse os) ∙ arguments_fit p ts u callee k is l os 1 are of (omega (arith, full)) in
      ap (calls_fit ss me k heading) (taken_results (reverse os) ks only)
      ∙ ap (λ (o : Option Shape). heading_of o heading && (only_results ks && fit_formals all (cells_of o) 1 (reverse (reverse os)))) shape
      ∙ (λ i. kind i && (only i && fits i))

  pub call_ends : (at k : ℕ) (callee : ProgramUnit) → unit_at p k ≡ Some callee → kind_of callee ≡ unit_kind.Subroutine → (l : Trees) (next : ℕ) (ks : Kinds) → only_results ks ≡ true → refs_in_all now l ≤ results_in ks
      → AreCounted p u (applied_each l) → ArgumentsAreOf now callee 1 l → IsFull callee l → Good next → Ends at (call_by p u (Some (k, callee)) l next) ks
  call_ends at k callee is kind l next ks only done h of full good =
      let x = arguments_leave p u sound ts n l 0 ks (omega (arith, done)) h in
      closes Good ss me n at (arguments_code p u l 0) (instr.End (end.Call k next)) ks (operands_over (reverse x.operands) ks) (next ∷ []) x.leaves
      (λ b. ap (λ c. cond c (Over (next ∷ []) 0) Ill) (calls_so k callee is is_subroutine (ap (λ (q : UnitKind). is_subroutine (heading_by q)) kind) l x.operands ks only x.are of full)) (good, tt) (end_apart (end.Call k next))

  pub start_ends : (at k : ℕ) (callee : ProgramUnit) → unit_at p k ≡ Some callee → kind_of callee ≡ unit_kind.Process → (part : Option CallPart) (next : ℕ) (ks : Kinds) → only_results ks ≡ true
      → refs_in_all now (trees_from (arguments_in part)) + refs_in_place now (where_in part) ≤ results_in ks → AreCounted p u (applied_each (trees_from (arguments_in part))) → AreCounted p u (in_place (where_in part))
      → ArgumentsAreOf now callee 1 (trees_from (arguments_in part)) → IsFull callee (trees_from (arguments_in part)) → Good next → Ends at (start_by p u (Some (k, callee)) part next) ks
  start_ends at k callee is kind part next ks only done h g of full good =
      let l = trees_from (arguments_in part) in
      let x = arguments_leave p u sound ts n l 0 ks (omega (arith, done)) h in
      let ms = operands_over (reverse x.operands) ks in
      let more : refs_in_all now l + refs_in_place now (where_in part) ≤ results_in ms = omega (arith, done, operands_results (reverse x.operands) ks) in
      let seat = seat_code p u (where_in part) (refs_in_all now l) in
      let last = instr.End (end.Start k next) in
      subst (λ (c : List Instr). Ends at c ks) (append_assoc (arguments_code p u l 0) seat (last ∷ []))
      (closes Good ss me n at (arguments_code p u l 0 ++ seat) last ks ms (next ∷ [])
      (then_more all n (arguments_code p u l 0) seat ks ms ms x.leaves (seat_leaves p u sound ts n (where_in part) (refs_in_all now l) ms more g))
      (λ b. ap (λ c. cond c (Over (next ∷ []) 0) Ill) (calls_so k callee is is_process (ap (λ (q : UnitKind). is_process (heading_by q)) kind) l x.operands ks only x.are of full)) (good, tt) (end_apart (end.Start k next)))
