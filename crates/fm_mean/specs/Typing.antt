-- What the checks of ports say of a program, in the words of its meaning: sorts of places by name, and of
-- arguments as they come out when they are evaluated.
-- Source: the Fortran M report (typed ports and channels).
use Rattle.std.specs.Prelude.{◌≡◌, ℕ, Option, Some, option_map, List, [], ◌∷◌, slice_get, Ok}
use Rattle.fm_tree.specs.Tree.{Tree, Trees, Ref, trees_from}
use Rattle.fm_tree.specs.declared.statement.Var.{Var}
use Rattle.fm_tree.specs.declared.statement.Simple.{Simple}
use Rattle.fm_tree.specs.declared.statement.Simple.TheVariants as simple
use Rattle.fm_tree.specs.declared.statement.Stmt.{Stmt}
use Rattle.fm_tree.specs.declared.statement.Stmt.TheVariants as stmt
use Rattle.fm_net.specs.Typed.{AllIn}
use Rattle.fm_tree.specs.PortFields.{PortFields, FieldKind, NoFields, FieldThen, Integer, Logical, In, Out}
use Rattle.fm_tree.specs.declared.program_unit.Entry.{Entry}
use Rattle.fm_rules.specs.declared.program.Program.{Program}
use Rattle.fm_mean.specs.Names.{ProgramUnit, unit_at, variable_of, unit_named}
use Rattle.fm_mean.specs.declared.place.Actual.{Actual}
use Rattle.fm_mean.specs.declared.place.Span.{Span}
use Rattle.fm_mean.specs.Evaluate.{Scope, Call, reference_of, value_of, place_of, actuals_of}
use Rattle.fm_mean.specs.Actions.{trees_in, arguments_in, Loop, Counted, While, NoLoop, loop_of, next_reference}
use Rattle.fm_mean.specs.Fits.{sort_of_variable, Types, ValuesFit, IsBit, sort_at, ItemsFit, EnterFrom}
use Rattle.fm_values.specs.declared.value.Value.{Value}
use Rattle.fm_values.specs.Values.{word_of}
use Rattle.fm_tree.specs.declared.statement.Extra.{Extra}
use Rattle.fm_tree.specs.declared.statement.Extra.TheVariants as extra

-- the sort of a variable
abbrev pub sort_of : ProgramUnit → List ℕ → Option FieldKind
sort_of u name = option_map (λ v. (sort_of_variable v.1)) (variable_of u name)

-- variables fit the fields of a message
abbrev pub VarsFit : ProgramUnit → PortFields → List Var → Type 0
VarsFit u NoFields vs = Unit {0}
VarsFit u (FieldThen s r n rest) [] = ⊥
VarsFit u (FieldThen s r n rest) (v ∷ vs) = (sort_of u v.name ≡ Some s) × VarsFit u rest vs

-- a scope of the unit whose values fit
abbrev pub IsScope : Program → ProgramUnit → Scope → Type 0
IsScope p u s = (types : Types) × (s.unit ≡ u) × (s.program ≡ p) × ValuesFit types u.names.variables s.values

-- items fit the fields, whatever they come to
abbrev pub TreesFit : Program → ProgramUnit → PortFields → Trees → Type 0
TreesFit p u t ts = (s : Scope) (n : ℕ) (args : List Actual) → IsScope p u s → actuals_of s ts n ≡ Ok args → ItemsFit u.names.variables t args

-- arguments fit the formals of a unit
abbrev pub ArgumentsFit : Program → ProgramUnit → List ℕ → Trees → Type 0
ArgumentsFit p u name ts = (v : ℕ × ProgramUnit) (s : Scope) (n : ℕ) (args : List Actual) → unit_named p name ≡ Some v → IsScope p u s → actuals_of s ts n ≡ Ok args → EnterFrom u.names.variables v.1 1 args

-- the arguments of a reference of a FUNCTION fit its formals
abbrev pub ReferenceFits : Program → ProgramUnit → List ℕ → Trees → Type 0
ReferenceFits p u name ts = (k : ℕ) (callee : ProgramUnit) (s : Scope) (n : ℕ) (args : List Actual) → reference_of s name ≡ Call k callee → IsScope p u s → actuals_of s ts n ≡ Ok args → EnterFrom u.names.variables callee 1 args

-- ports of one type, one in and the others out
abbrev pub OneType : ProgramUnit → Var → List Var → Type 0
OneType u i os = (t : PortFields) × (sort_of u i.name ≡ Some (In t)) × AllIn (λ (o : Var). sort_of u o.name ≡ Some (Out t)) os

-- a logical variable gets a logical
abbrev pub ValueFits : Program → ProgramUnit → Var → Tree → Type 0
ValueFits p u v t = (s : Scope) (m n : ℕ) (y : Span) (x : Value) → IsScope p u s → place_of s v m ≡ Ok y → value_of s t n ≡ Ok x → sort_at u.names.variables y.variable ≡ Some Logical → IsBit (word_of x)

-- IOSTAT sets an integer
abbrev pub ExtraFits : ProgramUnit → Extra → Type 0
ExtraFits u (extra.End l) = Unit {0}
ExtraFits u (extra.Iostat v) = sort_of u v.name ≡ Some Integer

abbrev pub IsTypedSimple : Program → ProgramUnit → Simple → Type 0
IsTypedSimple p u (simple.Assignment v t) = ValueFits p u v t
IsTypedSimple p u (simple.Goto l) = Unit {0}
IsTypedSimple p u simple.Continue = Unit {0}
IsTypedSimple p u simple.Return = Unit {0}
IsTypedSimple p u simple.Stop = Unit {0}
IsTypedSimple p u (simple.Call name args) = ArgumentsFit p u name (trees_in args)
IsTypedSimple p u (simple.Print items) = Unit {0}
IsTypedSimple p u (simple.Write unit items) = Unit {0}
IsTypedSimple p u (simple.Channel in_first i o) = OneType u i (o ∷ [])
IsTypedSimple p u (simple.Merger i os) = OneType u i os
IsTypedSimple p u (simple.Send named q items) = (t : PortFields) × (sort_of u q.name ≡ Some (Out t)) × TreesFit p u t (trees_from items)
IsTypedSimple p u (simple.Receive named q extras items) = (t : PortFields) × (sort_of u q.name ≡ Some (In t)) × VarsFit u t items × AllIn (ExtraFits u) extras
IsTypedSimple p u (simple.EndChannel named q) = Unit {0}
IsTypedSimple p u (simple.MovePort from to) = (s : FieldKind) × (sort_of u from.name ≡ Some s) × (sort_of u to.name ≡ Some s)
IsTypedSimple p u (simple.Probe named q empty) = Unit {0}

abbrev pub IsTypedStatement : Program → ProgramUnit → Stmt → Type 0
IsTypedStatement p u (stmt.Simple k) = IsTypedSimple p u k
IsTypedStatement p u (stmt.Do h) = sort_of u h.variable ≡ Some Integer
IsTypedStatement p u (stmt.ProcessDo h) = sort_of u h.variable ≡ Some Integer
IsTypedStatement p u (stmt.ProcessCall name part) = ArgumentsFit p u name (trees_from (arguments_in part))
IsTypedStatement p u other = Unit {0}

abbrev pub IsTypedReference : Program → ProgramUnit → Tree → Type 0
IsTypedReference p u (Ref name args) = ReferenceFits p u name args
IsTypedReference p u other = Unit {0}

-- the variable of a counted loop is an integer
abbrev pub LoopFits : ProgramUnit → Loop → Type 0
LoopFits u (Counted name) = sort_of u name ≡ Some Integer
LoopFits u While = Unit {0}
LoopFits u NoLoop = Unit {0}

pub record IsTypedEntry (p : Program) (u : ProgramUnit) (e : Entry) : Type 0 where
  pub statement : IsTypedStatement p u e.stmt
  pub loop : LoopFits u (loop_of e.stmt)
  pub references : (i : ℕ) (t : Tree) → next_reference e i ≡ Some t → IsTypedReference p u t

abbrev pub IsTypedProgram : Program → Type 0
IsTypedProgram p = (n : ℕ) (u : ProgramUnit) (i : ℕ) (e : Entry) → unit_at p n ≡ Some u → slice_get u.tree.body i ≡ Some e → IsTypedEntry p u e
