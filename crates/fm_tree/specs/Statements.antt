-- The forms of statements: the one spelling of each, and its shape.
-- Source: ANSI X3.9-1978, sections 8, 10 to 13 and 15, the Fortran M report for processes and channels, MIL-STD-1753 for DO WHILE and ENDDO.
use Rattle.std.specs.Prelude.{ℕ, Bool, Option, List, [], ◌∷◌, codes}
use Rattle.fm_base.specs.declared.token.Class.{Class}
use Rattle.fm_base.specs.declared.token.Class.TheVariants as class
use Rattle.fm_base.specs.declared.token.Token.{Token}
use Rattle.fm_base.specs.declared.token.Token.TheVariants as token
use Rattle.fm_tree.specs.Tree.{Tree}
use Rattle.fm_tree.specs.PortFields.{PortFields}
use Rattle.fm_tree.specs.declared.statement.Decl.{Decl}
use Rattle.fm_tree.specs.declared.statement.Var.{Var}
use Rattle.fm_tree.specs.declared.statement.Defined.{Defined}
use Rattle.fm_tree.specs.declared.statement.Way.{Way}
use Rattle.fm_tree.specs.declared.statement.Item.{Item}
use Rattle.fm_tree.specs.declared.statement.WriteUnit.{WriteUnit}
use Rattle.fm_tree.specs.declared.statement.Extra.{Extra}
use Rattle.fm_tree.specs.declared.statement.CallPart.{CallPart}
use Rattle.fm_tree.specs.declared.statement.Simple.{Simple}
use Rattle.fm_tree.specs.declared.statement.Simple.TheVariants as simple
use Rattle.fm_tree.specs.declared.statement.Stmt.{Stmt}
use Rattle.fm_tree.specs.declared.statement.Stmt.TheVariants as stmt
use Rattle.fm_tree.specs.Forms.{Form, star, name, label, expr, behind, before, before_word, parens, assigned, pair, optional_behind, swapped, more, some_of, listed}
use Rattle.fm_tree.specs.Parts.{var_form, decl_form, array_form, defined_form, way_form, port_type_form, loop_form, item_form, unit_form, port_form, extras_form, call_part_form}

-- PROCESS name [( [list(name)] )], and SUBROUTINE
abbrev pub heading_form : Form (List ℕ × Option (List (List ℕ)))
heading_form = pair name (optional_behind token.Open (before (listed name) token.Close))

-- FUNCTION name ( [list(name)] )
abbrev pub function_form : Form (List ℕ × List (List ℕ))
function_form = pair name (parens (listed name))

-- INTEGER list(decl), and LOGICAL
abbrev pub declaration_form : Form (List Decl)
declaration_form = some_of decl_form

-- DIMENSION list(name ( list(bound) ))
abbrev pub dimension_form : Form (List Decl)
dimension_form = some_of array_form

-- PARAMETER ( list(name = expr) )
abbrev pub parameter_form : Form (List Defined)
parameter_form = parens (some_of defined_form)

-- INPORT ( [list(field)] ) list(decl), and OUTPORT
abbrev pub ports_form : Form (PortFields × List Decl)
ports_form = pair port_type_form (some_of decl_form)

-- INTENT ( way ) list(name)
abbrev pub intent_form : Form (Way × List (List ℕ))
intent_form = pair (parens way_form) (some_of name)

-- PROCESSORS ( list(expr) )
abbrev pub processors_form : Form (List Tree)
processors_form = parens (some_of expr)

-- var = expr
abbrev pub assignment_form : Form (Var × Tree)
assignment_form = pair var_form (behind token.Equals expr)

-- IF ( expr ) THEN, and ELSEIF
abbrev pub then_form : Form Tree
then_form = before_word (parens expr) (codes "THEN")

-- CALL name [( [list(expr)] )]
abbrev pub call_form : Form (List ℕ × Option (List Tree))
call_form = pair name (optional_behind token.Open (before (listed expr) token.Close))

-- PRINT * [, list(item)]
abbrev pub print_form : Form (List Item)
print_form = behind star (more item_form)

-- WRITE ( unit , * ) [list(item)]
abbrev pub write_form : Form (WriteUnit × List Item)
write_form = pair (parens (before (before unit_form token.Comma) star)) (listed item_form)

-- CHANNEL ( IN = var , OUT = var ), also OUT first
abbrev pub channel_form : Form (Bool × (Var × Var))
channel_form = parens (swapped (assigned (codes "IN") var_form) (assigned (codes "OUT") var_form))

-- MERGER ( IN = var , list(OUT = var) )
abbrev pub merger_form : Form (Var × List Var)
merger_form = parens (pair (assigned (codes "IN") var_form) (behind token.Comma (some_of (assigned (codes "OUT") var_form))))

-- SEND ( [PORT =] var ) [list(expr)]
abbrev pub send_form : Form ((Bool × Var) × List Tree)
send_form = pair (parens port_form) (listed expr)

-- RECEIVE ( [PORT =] var {, extra} ) [list(var)]
abbrev pub receive_form : Form (((Bool × Var) × List Extra) × List Var)
receive_form = pair (parens (pair port_form extras_form)) (listed var_form)

-- ENDCHANNEL ( [PORT =] var )
abbrev pub end_channel_form : Form (Bool × Var)
end_channel_form = parens port_form

-- MOVEPORT ( FROM = var , TO = var )
abbrev pub move_port_form : Form (Var × Var)
move_port_form = parens (pair (assigned (codes "FROM") var_form) (behind token.Comma (assigned (codes "TO") var_form)))

-- PROBE ( [PORT =] var , EMPTY = var )
abbrev pub probe_form : Form ((Bool × Var) × Var)
probe_form = parens (pair port_form (behind token.Comma (assigned (codes "EMPTY") var_form)))

-- PROCESSCALL name [( [list(expr)] ) [where]]
abbrev pub process_call_form : Form (List ℕ × Option CallPart)
process_call_form = pair name (optional_behind token.Open call_part_form)

-- the keyword of a class, then a form
abbrev pub keyed : {X : Type 0} → Class → Form X → X → List Token
keyed c g x = token.Key c ∷ g.spelled x

-- a keyword alone
abbrev pub key : Class → List Token
key c = token.Key c ∷ []

abbrev pub simple_spelling : Simple → List Token
simple_spelling (simple.Assignment v e) = assignment_form.spelled (v, e)
simple_spelling (simple.Goto l) = keyed class.Goto label l
simple_spelling simple.Continue = key class.Continue
simple_spelling simple.Return = key class.Return
simple_spelling simple.Stop = key class.Stop
simple_spelling (simple.Call n arguments) = keyed class.Call call_form (n, arguments)
simple_spelling (simple.Print items) = keyed class.Print print_form items
simple_spelling (simple.Write u items) = keyed class.Write write_form (u, items)
simple_spelling (simple.Channel in_first inport outport) = keyed class.Channel channel_form (in_first, (inport, outport))
simple_spelling (simple.Merger inport outports) = keyed class.Merger merger_form (inport, outports)
simple_spelling (simple.Send named port items) = keyed class.Send send_form ((named, port), items)
simple_spelling (simple.Receive named port extras items) = keyed class.Receive receive_form (((named, port), extras), items)
simple_spelling (simple.EndChannel named port) = keyed class.EndChannel end_channel_form (named, port)
simple_spelling (simple.MovePort from to) = keyed class.MovePort move_port_form (from, to)
simple_spelling (simple.Probe named port empty) = keyed class.Probe probe_form ((named, port), empty)

abbrev pub IsWellShapedSimple : Simple → Type 0
IsWellShapedSimple (simple.Assignment v e) = assignment_form.Shape (v, e)
IsWellShapedSimple (simple.Goto l) = label.Shape l
IsWellShapedSimple simple.Continue = Unit {0}
IsWellShapedSimple simple.Return = Unit {0}
IsWellShapedSimple simple.Stop = Unit {0}
IsWellShapedSimple (simple.Call n arguments) = call_form.Shape (n, arguments)
IsWellShapedSimple (simple.Print items) = print_form.Shape items
IsWellShapedSimple (simple.Write u items) = write_form.Shape (u, items)
IsWellShapedSimple (simple.Channel in_first inport outport) = channel_form.Shape (in_first, (inport, outport))
IsWellShapedSimple (simple.Merger inport outports) = merger_form.Shape (inport, outports)
IsWellShapedSimple (simple.Send named port items) = send_form.Shape ((named, port), items)
IsWellShapedSimple (simple.Receive named port extras items) = receive_form.Shape (((named, port), extras), items)
IsWellShapedSimple (simple.EndChannel named port) = end_channel_form.Shape (named, port)
IsWellShapedSimple (simple.MovePort from to) = move_port_form.Shape (from, to)
IsWellShapedSimple (simple.Probe named port empty) = probe_form.Shape ((named, port), empty)

abbrev pub simple_form : Form Simple
simple_form = record { spelled = simple_spelling; Shape = IsWellShapedSimple }

-- IF ( expr ) simple
abbrev pub logical_if_form : Form (Tree × Simple)
logical_if_form = pair (parens expr) simple_form

-- no text spells the end of a labelled loop that is put behind a statement
abbrev pub spelling_of : Stmt → List Token
spelling_of (stmt.Program n) = keyed class.Program name n
spelling_of (stmt.Process n formals) = keyed class.Process heading_form (n, formals)
spelling_of (stmt.Subroutine n formals) = keyed class.Subroutine heading_form (n, formals)
spelling_of (stmt.Function n formals) = keyed class.Function function_form (n, formals)
spelling_of (stmt.IntegerFunction n formals) = keyed class.IntegerFunction function_form (n, formals)
spelling_of (stmt.LogicalFunction n formals) = keyed class.LogicalFunction function_form (n, formals)
spelling_of stmt.ImplicitNone = key class.ImplicitNone
spelling_of (stmt.Integer decls) = keyed class.Integer declaration_form decls
spelling_of (stmt.Logical decls) = keyed class.Logical declaration_form decls
spelling_of (stmt.Dimension decls) = keyed class.Dimension dimension_form decls
spelling_of (stmt.Parameter constants) = keyed class.Parameter parameter_form constants
spelling_of (stmt.Inport fields decls) = keyed class.Inport ports_form (fields, decls)
spelling_of (stmt.Outport fields decls) = keyed class.Outport ports_form (fields, decls)
spelling_of (stmt.Intent w names) = keyed class.Intent intent_form (w, names)
spelling_of (stmt.Processors sizes) = keyed class.Processors processors_form sizes
spelling_of (stmt.Simple s) = simple_spelling s
spelling_of (stmt.LogicalIf e s) = keyed class.LogicalIf logical_if_form (e, s)
spelling_of (stmt.BlockIf e) = keyed class.BlockIf then_form e
spelling_of (stmt.ElseIf e) = keyed class.ElseIf then_form e
spelling_of stmt.Else = key class.Else
spelling_of stmt.EndIf = key class.EndIf
spelling_of (stmt.Do head) = keyed class.Do loop_form head
spelling_of (stmt.DoWhile e) = keyed class.DoWhile (parens expr) e
spelling_of stmt.EndDo = key class.EndDo
spelling_of stmt.End = key class.End
spelling_of stmt.Processes = key class.Processes
spelling_of stmt.EndProcesses = key class.EndProcesses
spelling_of (stmt.ProcessCall n part) = keyed class.ProcessCall process_call_form (n, part)
spelling_of (stmt.ProcessDo head) = keyed class.ProcessDo loop_form head
spelling_of stmt.EndProcessDo = key class.EndProcessDo
spelling_of stmt.LoopEnd = []

abbrev pub IsWellShapedStatement : Stmt → Type 0
IsWellShapedStatement (stmt.Program n) = name.Shape n
IsWellShapedStatement (stmt.Process n formals) = heading_form.Shape (n, formals)
IsWellShapedStatement (stmt.Subroutine n formals) = heading_form.Shape (n, formals)
IsWellShapedStatement (stmt.Function n formals) = function_form.Shape (n, formals)
IsWellShapedStatement (stmt.IntegerFunction n formals) = function_form.Shape (n, formals)
IsWellShapedStatement (stmt.LogicalFunction n formals) = function_form.Shape (n, formals)
IsWellShapedStatement stmt.ImplicitNone = Unit {0}
IsWellShapedStatement (stmt.Integer decls) = declaration_form.Shape decls
IsWellShapedStatement (stmt.Logical decls) = declaration_form.Shape decls
IsWellShapedStatement (stmt.Dimension decls) = dimension_form.Shape decls
IsWellShapedStatement (stmt.Parameter constants) = parameter_form.Shape constants
IsWellShapedStatement (stmt.Inport fields decls) = ports_form.Shape (fields, decls)
IsWellShapedStatement (stmt.Outport fields decls) = ports_form.Shape (fields, decls)
IsWellShapedStatement (stmt.Intent w names) = intent_form.Shape (w, names)
IsWellShapedStatement (stmt.Processors sizes) = processors_form.Shape sizes
IsWellShapedStatement (stmt.Simple s) = IsWellShapedSimple s
IsWellShapedStatement (stmt.LogicalIf e s) = logical_if_form.Shape (e, s)
IsWellShapedStatement (stmt.BlockIf e) = then_form.Shape e
IsWellShapedStatement (stmt.ElseIf e) = then_form.Shape e
IsWellShapedStatement stmt.Else = Unit {0}
IsWellShapedStatement stmt.EndIf = Unit {0}
IsWellShapedStatement (stmt.Do head) = loop_form.Shape head
IsWellShapedStatement (stmt.DoWhile e) = (parens expr).Shape e
IsWellShapedStatement stmt.EndDo = Unit {0}
IsWellShapedStatement stmt.End = Unit {0}
IsWellShapedStatement stmt.Processes = Unit {0}
IsWellShapedStatement stmt.EndProcesses = Unit {0}
IsWellShapedStatement (stmt.ProcessCall n part) = process_call_form.Shape (n, part)
IsWellShapedStatement (stmt.ProcessDo head) = loop_form.Shape head
IsWellShapedStatement stmt.EndProcessDo = Unit {0}
IsWellShapedStatement stmt.LoopEnd = ⊥
