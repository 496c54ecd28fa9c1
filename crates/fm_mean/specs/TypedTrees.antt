-- What the rules of types and ports say of the statements of a program, by the types of their trees.
-- Source: ANSI X3.9-1978, sections 10.1 (assignment), 11.10 (DO) and 15 (arguments); the Fortran M report (typed ports and channels).
use Rattle.std.specs.Prelude.{◌≡◌, ℕ, Option, Some, List, [], ◌∷◌, slice_get}
use Rattle.fm_tree.specs.Tree.{Tree, Trees, Ref, trees_from}
use Rattle.fm_tree.specs.PortFields.{PortFields, FieldKind, Integer, In, Out}
use Rattle.fm_tree.specs.declared.program_unit.Entry.{Entry}
use Rattle.fm_tree.specs.declared.statement.Simple.{Simple}
use Rattle.fm_tree.specs.declared.statement.Simple.TheVariants as simple
use Rattle.fm_tree.specs.declared.statement.Stmt.{Stmt}
use Rattle.fm_tree.specs.declared.statement.Stmt.TheVariants as stmt
use Rattle.fm_net.specs.Typed.{AllIn}
use Rattle.fm_rules.specs.declared.program.Program.{Program}
use Rattle.fm_mean.specs.Names.{ProgramUnit, unit_at, unit_named}
use Rattle.fm_mean.specs.Evaluate.{Scope, Call, reference_of}
use Rattle.fm_mean.specs.Actions.{trees_in, arguments_in, loop_of, next_reference}
use Rattle.fm_mean.specs.Typing.{sort_of, VarsFit, OneType, ExtraFits, LoopFits}
use Rattle.fm_mean.specs.ValueTypes.{type_of, ItemsAreOf, AreSized, ArgumentsAreOf}

-- a scope of the unit
pub record IsIn (p : Program) (u : ProgramUnit) (s : Scope) : Type 0 where
  pub unit : s.unit ≡ u
  pub program : s.program ≡ p

abbrev pub HasType : Program → ProgramUnit → Tree → Option FieldKind → Type 0
HasType p u t r = (s : Scope) → IsIn p u s → type_of s t ≡ r

abbrev pub ItemsHaveTypes : Program → ProgramUnit → PortFields → Trees → Type 0
ItemsHaveTypes p u t ts = (s : Scope) → IsIn p u s → ItemsAreOf s t ts

abbrev pub ArgumentsHaveTypes : Program → ProgramUnit → List ℕ → Trees → Type 0
ArgumentsHaveTypes p u name ts = (v : ℕ × ProgramUnit) (s : Scope) → unit_named p name ≡ Some v → IsIn p u s → ArgumentsAreOf s v.1 1 ts

abbrev pub SimpleHasTypes : Program → ProgramUnit → Simple → Type 0
SimpleHasTypes p u (simple.Assignment v t) = (r : FieldKind) × (sort_of u v.name ≡ Some r) × HasType p u t (Some r)
SimpleHasTypes p u (simple.Goto l) = Unit {0}
SimpleHasTypes p u simple.Continue = Unit {0}
SimpleHasTypes p u simple.Return = Unit {0}
SimpleHasTypes p u simple.Stop = Unit {0}
SimpleHasTypes p u (simple.Call name args) = ArgumentsHaveTypes p u name (trees_in args)
SimpleHasTypes p u (simple.Print items) = Unit {0}
SimpleHasTypes p u (simple.Write unit items) = Unit {0}
SimpleHasTypes p u (simple.Channel in_first i o) = OneType u i (o ∷ [])
SimpleHasTypes p u (simple.Merger i os) = OneType u i os
SimpleHasTypes p u (simple.Send named q items) = (t : PortFields) × (sort_of u q.name ≡ Some (Out t)) × ItemsHaveTypes p u t (trees_from items)
SimpleHasTypes p u (simple.Receive named q extras items) = (t : PortFields) × (sort_of u q.name ≡ Some (In t)) × VarsFit u t items × AllIn (ExtraFits u) extras
SimpleHasTypes p u (simple.EndChannel named q) = Unit {0}
SimpleHasTypes p u (simple.MovePort from to) = (r : FieldKind) × (sort_of u from.name ≡ Some r) × (sort_of u to.name ≡ Some r)
SimpleHasTypes p u (simple.Probe named q empty) = Unit {0}

abbrev pub StatementHasTypes : Program → ProgramUnit → Stmt → Type 0
StatementHasTypes p u (stmt.Simple k) = SimpleHasTypes p u k
StatementHasTypes p u (stmt.Do h) = sort_of u h.variable ≡ Some Integer
StatementHasTypes p u (stmt.ProcessDo h) = sort_of u h.variable ≡ Some Integer
StatementHasTypes p u (stmt.ProcessCall name part) = ArgumentsHaveTypes p u name (trees_from (arguments_in part))
StatementHasTypes p u other = Unit {0}

abbrev pub ReferenceHasTypes : Program → ProgramUnit → Tree → Type 0
ReferenceHasTypes p u (Ref name args) = (k : ℕ) (callee : ProgramUnit) (s : Scope) → reference_of s name ≡ Call k callee → IsIn p u s → ArgumentsAreOf s callee 1 args
ReferenceHasTypes p u other = Unit {0}

pub record EntryHasTypes (p : Program) (u : ProgramUnit) (e : Entry) : Type 0 where
  pub statement : StatementHasTypes p u e.stmt
  pub loop : LoopFits u (loop_of e.stmt)
  pub references : (i : ℕ) (t : Tree) → next_reference e i ≡ Some t → ReferenceHasTypes p u t

pub record HasTypes (p : Program) : Type 0 where
  pub sized : (n : ℕ) (u : ProgramUnit) → unit_at p n ≡ Some u → AreSized u.names.variables
  pub entries : (n : ℕ) (u : ProgramUnit) (i : ℕ) (e : Entry) → unit_at p n ≡ Some u → slice_get u.tree.body i ≡ Some e → EntryHasTypes p u e
