-- What the rules say of the numbers of subscripts and of arguments in a checked program.
-- Source: ANSI X3.9-1978, sections 5.4 (subscripts) and 15.10 (intrinsic functions).
use Rattle.std.specs.Prelude.{◌≡◌, ℕ, true, Option, Some, None, List, length, slice_get}
use Rattle.fm_net.specs.Typed.{AllIn}
use Rattle.fm_values.specs.Intrinsics.{takes}
use Rattle.fm_tree.specs.Tree.{Tree, Trees, Number, Truth, Named, Ref, Paren, Signed, Not, Binary, NoTrees, More, trees_from}
use Rattle.fm_tree.specs.References.{applied, applied_in}
use Rattle.fm_tree.specs.declared.program_unit.Entry.{Entry}
use Rattle.fm_tree.specs.declared.statement.Extra.{Extra}
use Rattle.fm_tree.specs.declared.statement.Extra.TheVariants as extra
use Rattle.fm_tree.specs.declared.statement.Simple.{Simple}
use Rattle.fm_tree.specs.declared.statement.Simple.TheVariants as simple
use Rattle.fm_tree.specs.declared.statement.Stmt.TheVariants as stmt
use Rattle.fm_tree.specs.declared.statement.Var.{Var}
use Rattle.fm_symbols.specs.declared.names.Variable.{Variable}
use Rattle.fm_rules.specs.declared.program.Program.{Program}
use Rattle.fm_mean.specs.Names.{ProgramUnit, variable_of}
use Rattle.fm_mean.specs.Evaluate.{Reference, Element, Call, Built, Unknown, reference_of}
use Rattle.fm_mean.specs.Referring.{names_in}
use Rattle.fm_gen_operands.specs.Code.{trees_count}

-- an array has a subscript for each dimension, an intrinsic function as many arguments as it takes
abbrev pub FitsCount : Reference → (count : ℕ) → Type 0
FitsCount (Element i v) n = n ≡ length v.bounds
FitsCount (Call k callee) n = Unit {0}
FitsCount (Built f) n = takes f n ≡ true
FitsCount Unknown n = Unit {0}

-- a name with a list does
abbrev pub IsCounted : Program → ProgramUnit → Tree → Type 0
IsCounted p u (Number k) = Unit {0}
IsCounted p u (Truth b) = Unit {0}
IsCounted p u (Named name) = Unit {0}
IsCounted p u (Ref name args) = FitsCount (reference_of (names_in p u) name) (trees_count args)
IsCounted p u (Paren e) = Unit {0}
IsCounted p u (Signed o e) = Unit {0}
IsCounted p u (Not e) = Unit {0}
IsCounted p u (Binary o a b) = Unit {0}

-- all of these do
abbrev pub AreCounted : Program → ProgramUnit → List Tree → Type 0
AreCounted p u ts = AllIn (IsCounted p u) ts

-- a variable that stands with subscripts is an array with so many dimensions
abbrev pub VariableFits : Option (ℕ × Variable) → Trees → Type 0
VariableFits None ts = Unit {0}
VariableFits (Some v) NoTrees = Unit {0}
VariableFits (Some v) (More t ts) = trees_count (More t ts) ≡ length v.1.bounds

abbrev pub VarFits : ProgramUnit → Var → Type 0
VarFits u v = VariableFits (variable_of u v.name) (trees_from v.subscripts)

abbrev pub ExtraFits : ProgramUnit → Extra → Type 0
ExtraFits u (extra.End l) = Unit {0}
ExtraFits u (extra.Iostat v) = VarFits u v

-- each variable of a statement does that isn't one of an expression
abbrev pub VariablesFit : ProgramUnit → Simple → Type 0
VariablesFit u (simple.Assignment v t) = VarFits u v
VariablesFit u (simple.Goto l) = Unit {0}
VariablesFit u simple.Continue = Unit {0}
VariablesFit u simple.Return = Unit {0}
VariablesFit u simple.Stop = Unit {0}
VariablesFit u (simple.Call name args) = Unit {0}
VariablesFit u (simple.Print items) = Unit {0}
VariablesFit u (simple.Write unit items) = Unit {0}
VariablesFit u (simple.Channel in_first i o) = VarFits u i × VarFits u o
VariablesFit u (simple.Merger i os) = VarFits u i × AllIn (VarFits u) os
VariablesFit u (simple.Send named q items) = VarFits u q
VariablesFit u (simple.Receive named q extras items) = VarFits u q × AllIn (ExtraFits u) extras × AllIn (VarFits u) items
VariablesFit u (simple.EndChannel named q) = VarFits u q
VariablesFit u (simple.MovePort from to) = VarFits u from × VarFits u to
VariablesFit u (simple.Probe named q empty) = VarFits u q × VarFits u empty

pub record IsCountedEntry (p : Program) (u : ProgramUnit) (e : Entry) : Type 0 where
  pub trees : AreCounted p u (applied_in e.stmt)
  pub parts : (i : ℕ) (t : Tree) → slice_get (applied_in e.stmt) i ≡ Some t → AreCounted p u (applied t)
  pub variables : (k : Simple) → e.stmt ≡ stmt.Simple k → VariablesFit u k
