-- Which names with a list behind them refer to FUNCTIONs.
-- Source: ANSI X3.9-1978, section 15.5.2 (references of functions).
use Rattle.std.specs.Prelude.{Bool, true, false, List, [], filter}
use Rattle.fm_tree.specs.Tree.{Tree, Number, Truth, Named, Ref, Paren, Signed, Not, Binary}
use Rattle.fm_rules.specs.declared.program.Program.{Program}
use Rattle.fm_mean.specs.Names.{ProgramUnit}
use Rattle.fm_mean.specs.Evaluate.{Scope, Reference, Element, Call, Built, Unknown, reference_of}

-- what names mean in a unit, before any frame of it is there
abbrev pub names_in : Program → ProgramUnit → Scope
names_in p u = record { program = p; unit = u; values = []; results = [] }

-- whether a name with a list behind it refers to a FUNCTION
abbrev pub calls_one : Reference → Bool
calls_one (Element i v) = false
calls_one (Call n callee) = true
calls_one (Built f) = false
calls_one Unknown = false

abbrev pub is_call : Program → ProgramUnit → Tree → Bool
is_call p u (Number n) = false
is_call p u (Truth b) = false
is_call p u (Named name) = false
is_call p u (Ref name args) = calls_one (reference_of (names_in p u) name)
is_call p u (Paren e) = false
is_call p u (Signed op e) = false
is_call p u (Not e) = false
is_call p u (Binary op a b) = false

-- the references of functions among these
abbrev pub calls_among : Program → ProgramUnit → List Tree → List Tree
calls_among p u = filter (is_call p u)
