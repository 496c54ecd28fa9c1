-- What is judged of a statement before its ports are.
-- Source: ANSI X3.9-1978, section 6; this profile.
use Rattle.std.specs.Prelude.{Bool}
use Rattle.fm_tree.specs.Tree.{Tree}
use Rattle.fm_tree.specs.declared.statement.Stmt.{Stmt}
use Rattle.fm_tree.specs.declared.statement.Var.{Var}
use Rattle.fm_symbols.specs.declared.context.Scope.{Scope}
use Rattle.fm_symbols.specs.declared.context.Context.{Context}
use Rattle.fm_symbols.specs.declared.names.UnitNames.{UnitNames}
use Rattle.fm_rules.specs.declared.typing.ExprType.{ExprType}
use Rattle.fm_rules.specs.Expressions.{judged}
use Rattle.fm_rules.specs.VariableTypes.{variable_judged}
use Rattle.fm_rules.specs.TypeStatements.{flags_of}

-- the type of an expression
unfoldable pub type_of : Context → Scope → Tree → ExprType
type_of c s e = (judged c s e).expr_type

-- the type of what a variable or an element holds
unfoldable pub variable_type : Context → Scope → Var → ExprType
variable_type c s v = (variable_judged c s v).expr_type

-- E50: a port stands where a value is wanted
unfoldable pub has_stray_port : UnitNames → Context → Scope → Stmt → Bool
has_stray_port n c s t = (flags_of c s n.variables t).e50
