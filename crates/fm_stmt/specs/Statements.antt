-- How statements are read from all of their tokens.
-- Source: ANSI X3.9-1978, sections 8 and 10 to 15, the Fortran M report for processes and channels, MIL-STD-1753 for
-- IMPLICIT NONE, DO WHILE and ENDDO.
use Rattle.std.specs.Prelude.{ℕ, Bool, Option, Some, None, List, [], ◌∷◌}
use Rattle.fm_base.specs.declared.token.Class.{Class}
use Rattle.fm_base.specs.declared.token.Class.TheVariants as class
use Rattle.fm_base.specs.declared.token.Token.{Token}
use Rattle.fm_base.specs.declared.token.Token.TheVariants as token
use Rattle.fm_tree.specs.Tree.{Tree}
use Rattle.fm_tree.specs.PortFields.{PortFields}
use Rattle.fm_tree.specs.declared.statement.Decl.{Decl}
use Rattle.fm_tree.specs.declared.statement.Var.{Var}
use Rattle.fm_tree.specs.declared.statement.Defined.{Defined}
use Rattle.fm_tree.specs.declared.statement.Way.{Way}
use Rattle.fm_tree.specs.declared.statement.Item.{Item}
use Rattle.fm_tree.specs.declared.statement.WriteUnit.{WriteUnit}
use Rattle.fm_tree.specs.declared.statement.Extra.{Extra}
use Rattle.fm_tree.specs.declared.statement.CallPart.{CallPart}
use Rattle.fm_tree.specs.declared.statement.Simple.{Simple}
use Rattle.fm_tree.specs.declared.statement.Simple.TheVariants as simple
use Rattle.fm_tree.specs.declared.statement.Stmt.{Stmt}
use Rattle.fm_tree.specs.declared.statement.Stmt.TheVariants as stmt
use Rattle.fm_tree.specs.Statements as forms
use Rattle.fm_stmt_parts.specs.declared.mark.Mark.TheVariants.{Open, Close, Comma, Equals, Star}
use Rattle.fm_stmt_parts.specs.declared.mark.Mark.TheVariants as mark
use Rattle.fm_stmt_parts.specs.declared.mark.Word.TheVariants as word
use Rattle.fm_stmt_parts.specs.Reading.{Part, no_token, is_word_token, name, label, expr, behind, before, parens, assigned, pair, optional_behind, swapped, more, some_of, listed, whole, nothing_left, ◌>>=◌}
use Rattle.fm_stmt_parts.specs.Parts.{var_part, decl_part, array_part, defined_part, way_part, loop_part, item_part, unit_part, port_part, extras_part, call_part_part}
use Rattle.fm_stmt_parts.specs.Fields.{port_type_part}

-- PROCESS name [( [list(name)] )], and SUBROUTINE
abbrev pub heading_part : Part (List ℕ × Option (List (List ℕ)))
heading_part = pair name (optional_behind Open (before (listed name) Close))

-- FUNCTION name ( [list(name)] )
abbrev pub function_part : Part (List ℕ × List (List ℕ))
function_part = pair name (parens (listed name))

-- INTEGER list(decl), and LOGICAL
abbrev pub declaration_part : Part (List Decl)
declaration_part = some_of decl_part

-- DIMENSION list(name ( list(bound) ))
abbrev pub dimension_part : Part (List Decl)
dimension_part = some_of array_part

-- PARAMETER ( list(name = expr) )
abbrev pub parameter_part : Part (List Defined)
parameter_part = parens (some_of defined_part)

-- INPORT ( [list(field)] ) list(decl), and OUTPORT
abbrev pub ports_part : Part (PortFields × List Decl)
ports_part = pair port_type_part (some_of decl_part)

-- INTENT ( way ) list(name)
abbrev pub intent_part : Part (Way × List (List ℕ))
intent_part = pair (parens way_part) (some_of name)

-- PROCESSORS ( list(expr) )
abbrev pub processors_part : Part (List Tree)
processors_part = parens (some_of expr)

-- var = expr
abbrev pub assignment_part : Part (Var × Tree)
assignment_part = pair var_part (behind Equals expr)

-- IF ( expr ) THEN, and ELSEIF
abbrev pub then_part : Part Tree
then_part = before (parens expr) (mark.Word word.Then)

-- CALL name [( [list(expr)] )]
abbrev pub call_part : Part (List ℕ × Option (List Tree))
call_part = pair name (optional_behind Open (before (listed expr) Close))

-- PRINT * [, list(item)]
abbrev pub print_part : Part (List Item)
print_part = behind Star (more item_part)

-- WRITE ( unit , * ) [list(item)]
abbrev pub write_part : Part (WriteUnit × List Item)
write_part = pair (parens (before (before unit_part Comma) Star)) (listed item_part)

-- IN = var , OUT = var, also OUT first
abbrev pub two_ports_part : Part (Bool × (Var × Var))
two_ports_part = swapped (is_word_token word.In) (assigned word.In var_part) (assigned word.Out var_part)

-- CHANNEL ( IN = var , OUT = var ), also OUT first
abbrev pub channel_part : Part (Bool × (Var × Var))
channel_part = parens two_ports_part

-- OUT = var
abbrev pub out_part : Part Var
out_part = assigned word.Out var_part

-- IN = var , list(OUT = var)
abbrev pub merged_ports_part : Part (Var × List Var)
merged_ports_part = pair (assigned word.In var_part) (behind Comma (some_of out_part))

-- MERGER ( IN = var , list(OUT = var) )
abbrev pub merger_part : Part (Var × List Var)
merger_part = parens merged_ports_part

-- SEND ( [PORT =] var ) [list(expr)]
abbrev pub send_part : Part ((Bool × Var) × List Tree)
send_part = pair (parens port_part) (listed expr)

-- ( [PORT =] var {, extra} )
abbrev pub port_and_extras_part : Part ((Bool × Var) × List Extra)
port_and_extras_part = parens (pair port_part extras_part)

-- RECEIVE ( [PORT =] var {, extra} ) [list(var)]
abbrev pub receive_part : Part (((Bool × Var) × List Extra) × List Var)
receive_part = pair port_and_extras_part (listed var_part)

-- ENDCHANNEL ( [PORT =] var )
abbrev pub end_channel_part : Part (Bool × Var)
end_channel_part = parens port_part

-- MOVEPORT ( FROM = var , TO = var )
abbrev pub move_port_part : Part (Var × Var)
move_port_part = parens (pair (assigned word.From var_part) (behind Comma (assigned word.To var_part)))

-- [PORT =] var , EMPTY = var
abbrev pub port_and_empty_part : Part ((Bool × Var) × Var)
port_and_empty_part = pair port_part (behind Comma (assigned word.Empty var_part))

-- PROBE ( [PORT =] var , EMPTY = var )
abbrev pub probe_part : Part ((Bool × Var) × Var)
probe_part = parens port_and_empty_part

-- PROCESSCALL name [( [list(expr)] ) [where]]
abbrev pub process_call_part : Part (List ℕ × Option CallPart)
process_call_part = pair name (optional_behind Open call_part_part)

-- what is made of a value, where there is one
abbrev pub made : {X S : Type 0} → (X → S) → Option X → Option S
made f None = None
made f (Some x) = Some (f x)

-- the part is all of the tokens
abbrev pub all : {X S : Type 0} → (X → S) → Part X → List Token → Option S
all f g ts = made f (whole g.read ts)

-- no token is left
abbrev pub alone : {S : Type 0} → S → List Token → Option S
alone s ts = made (λ u. s) (nothing_left ts)

-- behind the keyword of a class
abbrev pub keyed_simple : Class → List Token → Option Simple
keyed_simple class.Goto ts = all simple.Goto label ts
keyed_simple class.Continue ts = alone simple.Continue ts
keyed_simple class.Return ts = alone simple.Return ts
keyed_simple class.Stop ts = alone simple.Stop ts
keyed_simple class.Call ts = all (λ p. simple.Call p.0 p.1) call_part ts
keyed_simple class.Print ts = all simple.Print print_part ts
keyed_simple class.Write ts = all (λ p. simple.Write p.0 p.1) write_part ts
keyed_simple class.Channel ts = all (λ p. simple.Channel p.0 p.1.0 p.1.1) channel_part ts
keyed_simple class.Merger ts = all (λ p. simple.Merger p.0 p.1) merger_part ts
keyed_simple class.Send ts = all (λ p. simple.Send p.0.0 p.0.1 p.1) send_part ts
keyed_simple class.Receive ts = all (λ p. simple.Receive p.0.0.0 p.0.0.1 p.0.1 p.1) receive_part ts
keyed_simple class.EndChannel ts = all (λ p. simple.EndChannel p.0 p.1) end_channel_part ts
keyed_simple class.MovePort ts = all (λ p. simple.MovePort p.0 p.1) move_port_part ts
keyed_simple class.Probe ts = all (λ p. simple.Probe p.0.0 p.0.1 p.1) probe_part ts
keyed_simple c ts = None

abbrev pub simple_at : List Token → Option Simple
simple_at (token.Key c ∷ ts) = keyed_simple c ts
simple_at ts = all (λ p. simple.Assignment p.0 p.1) assignment_part ts

-- a statement that may stand behind a logical IF; no token stands behind it
abbrev pub simple_part : Part Simple
simple_part = record { form = forms.simple_form; read = λ ts. simple_at ts >>= λ s. Some (s, []); stop = no_token }

-- IF ( expr ) simple
abbrev pub logical_if_part : Part (Tree × Simple)
logical_if_part = pair (parens expr) simple_part

-- behind the keyword of a class
abbrev pub keyed_statement : Class → List Token → Option Stmt
keyed_statement class.Program ts = all stmt.Program name ts
keyed_statement class.Process ts = all (λ p. stmt.Process p.0 p.1) heading_part ts
keyed_statement class.Subroutine ts = all (λ p. stmt.Subroutine p.0 p.1) heading_part ts
keyed_statement class.Function ts = all (λ p. stmt.Function p.0 p.1) function_part ts
keyed_statement class.IntegerFunction ts = all (λ p. stmt.IntegerFunction p.0 p.1) function_part ts
keyed_statement class.LogicalFunction ts = all (λ p. stmt.LogicalFunction p.0 p.1) function_part ts
keyed_statement class.ImplicitNone ts = alone stmt.ImplicitNone ts
keyed_statement class.Integer ts = all stmt.Integer declaration_part ts
keyed_statement class.Logical ts = all stmt.Logical declaration_part ts
keyed_statement class.Dimension ts = all stmt.Dimension dimension_part ts
keyed_statement class.Parameter ts = all stmt.Parameter parameter_part ts
keyed_statement class.Inport ts = all (λ p. stmt.Inport p.0 p.1) ports_part ts
keyed_statement class.Outport ts = all (λ p. stmt.Outport p.0 p.1) ports_part ts
keyed_statement class.Intent ts = all (λ p. stmt.Intent p.0 p.1) intent_part ts
keyed_statement class.Processors ts = all stmt.Processors processors_part ts
keyed_statement class.LogicalIf ts = all (λ p. stmt.LogicalIf p.0 p.1) logical_if_part ts
keyed_statement class.BlockIf ts = all stmt.BlockIf then_part ts
keyed_statement class.ElseIf ts = all stmt.ElseIf then_part ts
keyed_statement class.Else ts = alone stmt.Else ts
keyed_statement class.EndIf ts = alone stmt.EndIf ts
keyed_statement class.Do ts = all stmt.Do loop_part ts
keyed_statement class.DoWhile ts = all stmt.DoWhile (parens expr) ts
keyed_statement class.EndDo ts = alone stmt.EndDo ts
keyed_statement class.End ts = alone stmt.End ts
keyed_statement class.Processes ts = alone stmt.Processes ts
keyed_statement class.EndProcesses ts = alone stmt.EndProcesses ts
keyed_statement class.ProcessCall ts = all (λ p. stmt.ProcessCall p.0 p.1) process_call_part ts
keyed_statement class.ProcessDo ts = all stmt.ProcessDo loop_part ts
keyed_statement class.EndProcessDo ts = alone stmt.EndProcessDo ts
keyed_statement c ts = made stmt.Simple (keyed_simple c ts)

abbrev pub statement_at : List Token → Option Stmt
statement_at (token.Key c ∷ ts) = keyed_statement c ts
statement_at ts = made stmt.Simple (simple_at ts)
