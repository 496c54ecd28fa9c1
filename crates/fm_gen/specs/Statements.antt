-- The instructions of statements. `address` tells where an entry begins.
-- Source: ANSI X3.9-1978, sections 10 (assignment), 11 (control), 12 (PRINT) and 15 (calls, references and returns);
-- MIL-STD-1753 for DO WHILE; the Fortran M report for processes and channels; the order of instructions by this profile.
use Rattle.std.specs.Prelude.{ℕ, suc, pos, ◌+◌, Bool, true, false, ◌&&◌, not, nat_lt, cond, Option, Some, None, List, [], ◌∷◌, ◌++◌, map, slice_get, ◌-◌, option_map}
use Rattle.fm_values.specs.Values.{word_of}
use Rattle.fm_values.specs.Operations.{is_arithmetic}
use Rattle.fm_tree.specs.Tree.{Tree, Trees, Number, Truth, Named, Ref, Paren, Signed, Not, Binary, NoTrees, More, trees_from}
use Rattle.fm_tree.specs.PortFields.{PortFields, NoFields, FieldThen}
use Rattle.fm_tree.specs.declared.port_type.Kind.{Kind}
use Rattle.fm_tree.specs.declared.port_type.Kind.TheVariants as kind
use Rattle.fm_tree.specs.declared.form.UnitKind.{UnitKind}
use Rattle.fm_tree.specs.declared.form.UnitKind.TheVariants as unit_kind
use Rattle.fm_tree.specs.declared.program_unit.Entry.{Entry}
use Rattle.fm_tree.specs.declared.statement.Var.{Var}
use Rattle.fm_tree.specs.declared.statement.LoopHead.{LoopHead}
use Rattle.fm_tree.specs.declared.statement.CallPart.{CallPart}
use Rattle.fm_tree.specs.declared.statement.Extra.{Extra}
use Rattle.fm_tree.specs.declared.statement.Extra.TheVariants as extra
use Rattle.fm_tree.specs.declared.statement.Item.{Item}
use Rattle.fm_tree.specs.declared.statement.Item.TheVariants as item
use Rattle.fm_tree.specs.declared.statement.Simple.{Simple}
use Rattle.fm_tree.specs.declared.statement.Simple.TheVariants as simple
use Rattle.fm_tree.specs.declared.statement.Stmt.{Stmt}
use Rattle.fm_tree.specs.declared.statement.Stmt.TheVariants as stmt
use Rattle.fm_symbols.specs.declared.names.Constant.{Constant}
use Rattle.fm_symbols.specs.declared.names.Constant.TheVariants as constant
use Rattle.fm_symbols.specs.declared.names.Variable.{Variable}
use Rattle.fm_rules.specs.PortTypes.{sizing_place}
use Rattle.fm_rules.specs.declared.program.Program.{Program}
use Rattle.fm_mean.specs.Names.{ProgramUnit, Point, kind_of, unit_named, variable_of, constant_of, result_variable}
use Rattle.fm_mean.specs.Evaluate.{Scope, Reference, Element, Call, Built, Unknown, reference_of, refs_in, refs_in_all, refs_in_var, constant_by}
use Rattle.fm_mean.specs.Actions.{Loop, Counted, While, NoLoop, loop_of, trees_in, arguments_in, where_in, fields_at}
use Rattle.fm_code.specs.declared.code.Span.{Span}
use Rattle.fm_code.specs.declared.instr.Instr.{Instr}
use Rattle.fm_code.specs.declared.instr.Instr.TheVariants as instr
use Rattle.fm_code.specs.declared.instr.Eval.TheVariants as eval
use Rattle.fm_code.specs.declared.instr.Build.TheVariants as build
use Rattle.fm_code.specs.declared.instr.End.TheVariants as end
use Rattle.fm_code.specs.declared.instr.Meet.TheVariants as meet
use Rattle.fm_gen_relation.specs.Sound.{is_word}
use Rattle.fm_gen_relation.specs.Frames.{opens_counted, loop_number}
use Rattle.fm_gen_operands.specs.Places.{var_code, arguments_code, targets_code, seat_code}
use Rattle.fm_gen_operands.specs.Code.{push, place_code, trees_count, expression_code, expressions_code}
use Rattle.fm_mean.specs.Referring.{names_in}

-- where an entry begins, or behind the last one
abbrev pub Addresses : Type 0
Addresses = ℕ → ℕ

abbrev pub goto : ℕ → Instr
goto to = instr.End (end.Goto to)

-- nothing is there that could be stored
abbrev pub stuck : List Instr
stuck = instr.End (end.Store 0 0) ∷ []

-- Assignment.

abbrev pub holds_word : Variable → Bool
holds_word v = is_word v.kind && nat_lt 0 v.words

-- the variable that a name stands for; the first one where it names none, which no checked program has
abbrev pub variable_meant : ProgramUnit → Option (ℕ × Variable) → Option Variable
variable_meant u None = slice_get u.names.variables 0
variable_meant u (Some v) = Some v.1

-- the value on top is stored at the first word of a variable, where it has one
abbrev pub first_store : Option Variable → (next : ℕ) → Instr
first_store None next = goto next
first_store (Some v) next = cond (holds_word v) (instr.End (end.Store v.first next)) (goto next)

-- the place of an element by its number in the frame, below the value that is stored there
abbrev pub locate_code : Kind → (first : ℕ) → List Instr
locate_code kind.Integer first = instr.Eval (eval.Locate first) ∷ []
locate_code kind.Logical first = instr.Eval (eval.Locate first) ∷ []
locate_code (kind.In t) first = []
locate_code (kind.Out t) first = []

abbrev pub element_store : Kind → (next : ℕ) → Instr
element_store kind.Integer next = instr.End (end.StoreAt next)
element_store kind.Logical next = instr.End (end.StoreAt next)
element_store (kind.In t) next = goto next
element_store (kind.Out t) next = goto next

-- the place of an element comes before the value
abbrev pub assigned_code : Program → ProgramUnit → Option (ℕ × Variable) → Trees → (value : List Instr) → (next : ℕ) → List Instr
assigned_code p u None ts value next = value ++ first_store (variable_meant u None) next ∷ []
assigned_code p u (Some v) NoTrees value next = value ++ first_store (Some v.1) next ∷ []
assigned_code p u (Some v) (More t ts) value next =
    expressions_code p u (More t ts) 0 ++ (place_code v.1 (trees_count (More t ts)) (locate_code v.1.kind v.1.first) ++ (value ++ element_store v.1.kind next ∷ []))

abbrev pub assignment_code : Program → ProgramUnit → Var → Tree → (next : ℕ) → List Instr
assignment_code p u v t next = assigned_code p u (variable_of u v.name) (trees_from v.subscripts) (expression_code p u t (refs_in_var (names_in p u) v)) next

-- Printing.

abbrev pub letters : List ℕ → List Instr
letters bytes = map (λ b. instr.Build (build.Letter b)) bytes

abbrev pub is_logical_kind : Kind → Bool
is_logical_kind kind.Integer = false
is_logical_kind kind.Logical = true
is_logical_kind (kind.In t) = false
is_logical_kind (kind.Out t) = false

abbrev pub is_logical_constant : Option Constant → Bool
is_logical_constant None = false
is_logical_constant (Some (constant.Integer n)) = false
is_logical_constant (Some (constant.Logical b)) = true

abbrev pub is_logical_named : ProgramUnit → List ℕ → Option (ℕ × Variable) → Bool
is_logical_named u name None = is_logical_constant (constant_of u name)
is_logical_named u name (Some v) = is_logical_kind v.1.kind

abbrev pub is_logical_result : Option (ℕ × Variable) → Bool
is_logical_result None = false
is_logical_result (Some v) = is_logical_kind v.1.kind

abbrev pub is_logical_reference : Reference → Bool
is_logical_reference (Element i v) = is_logical_kind v.kind
is_logical_reference (Call n callee) = is_logical_result (result_variable callee)
is_logical_reference (Built f) = false
is_logical_reference Unknown = false

-- whether the value of an expression is a truth
abbrev pub is_logical : Program → ProgramUnit → Tree → Bool
is_logical p u (Number k) = false
is_logical p u (Truth b) = true
is_logical p u (Named name) = is_logical_named u name (variable_of u name)
is_logical p u (Ref name args) = is_logical_reference (reference_of (names_in p u) name)
is_logical p u (Paren e) = is_logical p u e
is_logical p u (Signed o e) = false
is_logical p u (Not e) = true
is_logical p u (Binary o a b) = not (is_arithmetic o)

abbrev pub show : Bool → Instr
show true = instr.Build build.ShowTruth
show false = instr.Build build.Show

-- all words of a variable that holds some
abbrev pub words_shown : Kind → Span → Instr
words_shown kind.Integer s = instr.Build (build.ShowWords s)
words_shown kind.Logical s = instr.Build (build.ShowTruths s)
words_shown (kind.In t) s = instr.Build (build.ShowWords s)
words_shown (kind.Out t) s = instr.Build (build.ShowWords s)

abbrev pub variable_shown : Variable → List Instr
variable_shown v = cond (holds_word v) (words_shown v.kind (record { first = v.first; count = v.words }) ∷ []) []

abbrev pub named_shown : Program → ProgramUnit → List ℕ → Option (ℕ × Variable) → List Instr
named_shown p u name None = push (word_of (constant_by (constant_of u name))) ∷ show (is_logical_constant (constant_of u name)) ∷ []
named_shown p u name (Some v) = variable_shown v.1

abbrev pub value_shown : Program → ProgramUnit → Tree → (n : ℕ) → List Instr
value_shown p u t n = expression_code p u t n ++ show (is_logical p u t) ∷ []

abbrev pub tree_shown : Program → ProgramUnit → Tree → (n : ℕ) → List Instr
tree_shown p u (Number k) n = value_shown p u (Number k) n
tree_shown p u (Truth b) n = value_shown p u (Truth b) n
tree_shown p u (Named name) n = named_shown p u name (variable_of u name)
tree_shown p u (Ref name args) n = value_shown p u (Ref name args) n
tree_shown p u (Paren e) n = value_shown p u (Paren e) n
tree_shown p u (Signed o e) n = value_shown p u (Signed o e) n
tree_shown p u (Not e) n = value_shown p u (Not e) n
tree_shown p u (Binary o a b) n = value_shown p u (Binary o a b) n

abbrev pub item_code : Program → ProgramUnit → Item → (n : ℕ) → List Instr
item_code p u (item.Constant bytes) n = letters bytes ++ instr.Build build.ShowText ∷ []
item_code p u (item.Expr e) n = tree_shown p u e n

abbrev pub refs_in_item : Program → ProgramUnit → Item → ℕ
refs_in_item p u (item.Constant bytes) = 0
refs_in_item p u (item.Expr e) = refs_in (names_in p u) e

-- from left to right
abbrev pub items_code : Program → ProgramUnit → List Item → (n : ℕ) → List Instr
items_code p u [] n = []
items_code p u (i ∷ is) n = item_code p u i n ++ items_code p u is (n + refs_in_item p u i)

-- Loops.

-- those of all entries, where the first counted one has this number
abbrev pub loop_numbers : (n : ℕ) → List Entry → List ℕ
loop_numbers n [] = []
loop_numbers n (e ∷ es) = n ∷ loop_numbers (cond (opens_counted e) (suc n) n) es

abbrev pub step_code : Program → ProgramUnit → Option Tree → (n : ℕ) → List Instr
step_code p u None n = push (pos 1) ∷ []
step_code p u (Some t) n = expression_code p u t n

abbrev pub bounds_code : Program → ProgramUnit → LoopHead → List Instr
bounds_code p u h =
    let s = names_in p u in
    expression_code p u h.from 0 ++ (expression_code p u h.to (refs_in s h.from) ++ step_code p u h.step (refs_in s h.from + refs_in s h.to))

abbrev pub first_in : Option Variable → ℕ
first_in None = 0
first_in (Some v) = v.first

-- the first word of the variable of a loop
abbrev pub loop_word : ProgramUnit → List ℕ → ℕ
loop_word u name = first_in (variable_meant u (variable_of u name))

abbrev pub loop_code : ProgramUnit → (number : ℕ) → (variable : List ℕ) → Instr
loop_code u number name = instr.Build (build.Loop (record { number = number; word = loop_word u name }))

abbrev pub do_code : Program → ProgramUnit → LoopHead → (number body behind : ℕ) → List Instr
do_code p u h number body behind =
    bounds_code p u h ++ (loop_code u number h.variable ∷ instr.End (end.Enter body behind) ∷ [])

abbrev pub again_code : ProgramUnit → (opener : ℕ) → Loop → (body behind start : ℕ) → List Instr
again_code u opener (Counted name) body behind start =
    loop_code u (loop_number u.tree.body opener) name ∷ instr.End (end.Again body behind) ∷ []
again_code u opener While body behind start = goto start ∷ []
again_code u opener NoLoop body behind start = stuck

abbrev pub end_code : ProgramUnit → Addresses → (behind opener : ℕ) → Option Entry → List Instr
end_code u address behind opener None = stuck
end_code u address behind opener (Some o) = again_code u opener (loop_of o.stmt) (address o.after) behind (address opener)

abbrev pub loop_end_code : ProgramUnit → Addresses → (behind : ℕ) → Option ℕ → List Instr
loop_end_code u address behind None = stuck
loop_end_code u address behind (Some opener) = end_code u address behind opener (slice_get u.tree.body opener)

-- Jumps, tests and lines.

abbrev pub jump_code : Addresses → Option ℕ → List Instr
jump_code address None = stuck
jump_code address (Some k) = goto (address k) ∷ []

abbrev pub test_code : Program → ProgramUnit → Tree → (holding failing : ℕ) → List Instr
test_code p u t holding failing = expression_code p u t 0 ++ instr.End (end.Test holding failing) ∷ []

abbrev pub print_code : Program → ProgramUnit → List Item → (next : ℕ) → List Instr
print_code p u items next = items_code p u items 0 ++ instr.End (end.Print next) ∷ []

-- Calls and returns.

abbrev pub call_by : Program → ProgramUnit → Option (ℕ × ProgramUnit) → Trees → (next : ℕ) → List Instr
call_by p u None args next = stuck
call_by p u (Some callee) args next = arguments_code p u args 0 ++ instr.End (end.Call callee.0 next) ∷ []

abbrev pub result_word : ProgramUnit → ℕ
result_word u = first_in (variable_meant u (result_variable u))

abbrev pub return_code : ProgramUnit → UnitKind → List Instr
return_code u unit_kind.Program = instr.Meet meet.Stop ∷ []
return_code u unit_kind.Process = instr.Meet meet.Stop ∷ []
return_code u unit_kind.Subroutine = instr.End end.Return ∷ []
return_code u unit_kind.Function = instr.End (end.ReturnValue (result_word u)) ∷ []

-- Processes.

-- the arguments come before the place
abbrev pub start_by : Program → ProgramUnit → Option (ℕ × ProgramUnit) → Option CallPart → (next : ℕ) → List Instr
start_by p u None part next = stuck
start_by p u (Some callee) part next =
    let args = trees_from (arguments_in part) in
    arguments_code p u args 0 ++ (seat_code p u (where_in part) (refs_in_all (names_in p u) args) ++ instr.End (end.Start callee.0 next) ∷ [])

-- the join is a statement of its own, right behind the begin
abbrev pub block_code : (here next : ℕ) → List Instr
block_code here next = instr.Meet (meet.Begin (suc here)) ∷ instr.Meet (meet.Join next) ∷ []

-- Ports.

abbrev pub cut_one : (item : ℕ) → (size : Option ℕ) → List Instr
cut_one item None = []
cut_one item (Some place) = instr.Build (build.Cut item place) ∷ []

-- items for fields that earlier ones size are cut, from this item on
abbrev pub cuts_code : (item : ℕ) → PortFields → List Instr
cuts_code item NoFields = []
cuts_code item (FieldThen kind name bounds rest) = cut_one item (sizing_place bounds) ++ cuts_code (suc item) rest

abbrev pub send_code : Program → ProgramUnit → Var → Trees → (next : ℕ) → List Instr
send_code p u q items next =
    var_code p u q 0 ++ (arguments_code p u items (refs_in_var (names_in p u) q) ++ (cuts_code 0 (fields_at u q) ++ instr.Meet (meet.Send next) ∷ []))

-- IOSTAT
abbrev pub extras_code : Program → ProgramUnit → List Extra → (n : ℕ) → List Instr
extras_code p u [] n = []
extras_code p u (extra.End l ∷ es) n = extras_code p u es n
extras_code p u (extra.Iostat v ∷ es) n = var_code p u v n ++ (instr.Build build.Status ∷ extras_code p u es (n + refs_in_var (names_in p u) v))

-- the number of references up to the items of a RECEIVE
abbrev pub refs_behind : Scope → List Extra → (n : ℕ) → ℕ
refs_behind s [] n = n
refs_behind s (extra.End l ∷ es) n = refs_behind s es n
refs_behind s (extra.Iostat v ∷ es) n = refs_behind s es (n + refs_in_var s v)

abbrev pub receive_end : (at_end : Option ℕ) → (next : ℕ) → Instr
receive_end None next = instr.Meet (meet.Receive next)
receive_end (Some to) next = instr.Meet (meet.ReceiveOr to next)

abbrev pub receive_code : Program → ProgramUnit → Var → List Extra → List Var → (at_end : Option ℕ) → (next : ℕ) → List Instr
receive_code p u q extras items at_end next =
    let s = names_in p u in
    var_code p u q 0
    ++ (extras_code p u extras (refs_in_var s q) ++ (targets_code p u items (refs_behind s extras (refs_in_var s q)) ++ receive_end at_end next ∷ []))

-- in order of text
abbrev pub channel_code : Program → ProgramUnit → (in_first : Bool) → (inport outport : Var) → (next : ℕ) → List Instr
channel_code p u true i o next = var_code p u i 0 ++ (var_code p u o (refs_in_var (names_in p u) i) ++ instr.Meet (meet.Channel next) ∷ [])
channel_code p u false i o next = var_code p u o 0 ++ (var_code p u i (refs_in_var (names_in p u) o) ++ instr.Meet (meet.ChannelFrom next) ∷ [])

abbrev pub merger_code : Program → ProgramUnit → Var → List Var → (next : ℕ) → List Instr
merger_code p u i os next = var_code p u i 0 ++ (targets_code p u os (refs_in_var (names_in p u) i) ++ instr.Meet (meet.Merger next) ∷ [])

abbrev pub close_code : Program → ProgramUnit → Var → (next : ℕ) → List Instr
close_code p u q next = var_code p u q 0 ++ instr.Meet (meet.EndChannel next) ∷ []

-- two places, one after the other, and what is done with them
abbrev pub two_code : Program → ProgramUnit → (first second : Var) → Instr → List Instr
two_code p u a b i = var_code p u a 0 ++ (var_code p u b (refs_in_var (names_in p u) a) ++ i ∷ [])

-- Statements.

abbrev pub simple_code : Program → ProgramUnit → Addresses → Point → Simple → List Instr
simple_code p u address e (simple.Assignment v t) = assignment_code p u v t (address e.entry.after)
simple_code p u address e (simple.Goto l) = jump_code address e.links.jump
simple_code p u address e simple.Continue = goto (address e.entry.after) ∷ []
simple_code p u address e simple.Return = return_code u (kind_of u)
simple_code p u address e simple.Stop = instr.Meet meet.Stop ∷ []
simple_code p u address e (simple.Call name args) = call_by p u (unit_named p name) (trees_in args) (address e.entry.after)
simple_code p u address e (simple.Print items) = print_code p u items (address e.entry.after)
simple_code p u address e (simple.Write unit items) = print_code p u items (address e.entry.after)
simple_code p u address e (simple.Channel in_first i o) = channel_code p u in_first i o (address e.entry.after)
simple_code p u address e (simple.Merger i os) = merger_code p u i os (address e.entry.after)
simple_code p u address e (simple.Send named q items) = send_code p u q (trees_from items) (address e.entry.after)
simple_code p u address e (simple.Receive named q extras items) = receive_code p u q extras items (option_map address e.links.jump) (address e.entry.after)
simple_code p u address e (simple.EndChannel named q) = close_code p u q (address e.entry.after)
simple_code p u address e (simple.MovePort from to) = two_code p u from to (instr.Meet (meet.MovePort (address e.entry.after)))
simple_code p u address e (simple.Probe named q empty) = two_code p u q empty (instr.Meet (meet.Probe (address e.entry.after)))

-- of the entry with this number in its unit, where the code of the statement itself begins here
abbrev pub statement_code : Program → ProgramUnit → Addresses → (here number : ℕ) → Point → Stmt → List Instr
statement_code p u address here k e (stmt.Simple s) = simple_code p u address e s
statement_code p u address here k e (stmt.LogicalIf t s) = test_code p u t (address e.entry.after) (address e.links.other)
statement_code p u address here k e (stmt.BlockIf t) = test_code p u t (address e.entry.after) (address e.links.other)
statement_code p u address here k e (stmt.ElseIf t) = test_code p u t (address e.entry.after) (address e.links.other)
statement_code p u address here k e stmt.Else = goto (address e.entry.after) ∷ []
statement_code p u address here k e stmt.EndIf = goto (address e.entry.after) ∷ []
statement_code p u address here k e (stmt.Do h) = do_code p u h (loop_number u.tree.body k) (address e.entry.after) (address e.links.other)
statement_code p u address here k e (stmt.ProcessDo h) = do_code p u h (loop_number u.tree.body k) (address e.entry.after) (address e.links.other)
statement_code p u address here k e (stmt.DoWhile t) = test_code p u t (address e.entry.after) (address e.links.other)
statement_code p u address here k e stmt.EndDo = loop_end_code u address (address e.entry.after) e.entry.mate
statement_code p u address here k e stmt.EndProcessDo = loop_end_code u address (address e.entry.after) e.entry.mate
statement_code p u address here k e stmt.LoopEnd = loop_end_code u address (address e.entry.after) e.entry.mate
statement_code p u address here k e stmt.End = return_code u (kind_of u)
statement_code p u address here k e stmt.Processes = goto (address e.entry.after) ∷ []
statement_code p u address here k e stmt.EndProcesses = block_code here (address e.entry.after)
statement_code p u address here k e (stmt.ProcessCall name part) = start_by p u (unit_named p name) part (address e.entry.after)
statement_code p u address here k e (stmt.Program name) = stuck
statement_code p u address here k e (stmt.Process name formals) = stuck
statement_code p u address here k e (stmt.Subroutine name formals) = stuck
statement_code p u address here k e (stmt.Function name formals) = stuck
statement_code p u address here k e (stmt.IntegerFunction name formals) = stuck
statement_code p u address here k e (stmt.LogicalFunction name formals) = stuck
statement_code p u address here k e stmt.ImplicitNone = stuck
statement_code p u address here k e (stmt.Integer ds) = stuck
statement_code p u address here k e (stmt.Logical ds) = stuck
statement_code p u address here k e (stmt.Dimension ds) = stuck
statement_code p u address here k e (stmt.Parameter ds) = stuck
statement_code p u address here k e (stmt.Inport t ds) = stuck
statement_code p u address here k e (stmt.Outport t ds) = stuck
statement_code p u address here k e (stmt.Intent way names) = stuck
statement_code p u address here k e (stmt.Processors es) = stuck

-- References.

-- what a reference of a function evaluates; those of its arguments were done right before it
abbrev pub reference_operands : Program → ProgramUnit → (number : ℕ) → Option Tree → List Instr
reference_operands p u j None = []
reference_operands p u j (Some (Number n)) = []
reference_operands p u j (Some (Truth b)) = []
reference_operands p u j (Some (Named name)) = []
reference_operands p u j (Some (Ref name args)) = arguments_code p u args (j - refs_in_all (names_in p u) args)
reference_operands p u j (Some (Paren e)) = []
reference_operands p u j (Some (Signed o e)) = []
reference_operands p u j (Some (Not e)) = []
reference_operands p u j (Some (Binary o a b)) = []

abbrev pub refer : Reference → (next : ℕ) → Instr
refer (Element i v) next = instr.End (end.Store 0 0)
refer (Call n callee) next = instr.End (end.Refer n next)
refer (Built f) next = instr.End (end.Store 0 0)
refer Unknown next = instr.End (end.Store 0 0)

abbrev pub reference_end : Program → ProgramUnit → Option Tree → (next : ℕ) → Instr
reference_end p u None next = instr.End (end.Store 0 0)
reference_end p u (Some (Number n)) next = instr.End (end.Store 0 0)
reference_end p u (Some (Truth b)) next = instr.End (end.Store 0 0)
reference_end p u (Some (Named name)) next = instr.End (end.Store 0 0)
reference_end p u (Some (Ref name args)) next = refer (reference_of (names_in p u) name) next
reference_end p u (Some (Paren e)) next = instr.End (end.Store 0 0)
reference_end p u (Some (Signed o e)) next = instr.End (end.Store 0 0)
reference_end p u (Some (Not e)) next = instr.End (end.Store 0 0)
reference_end p u (Some (Binary o a b)) next = instr.End (end.Store 0 0)
