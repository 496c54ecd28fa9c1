-- The forms of statements and entries, and what each does to the blocks.
-- Source: ANSI X3.9-1978, sections 3.5 (order of statements), 11.6 to 11.9 (block IF) and 11.10 (DO);
-- MIL-STD-1753 for DO WHILE and END DO; the Fortran M report for process blocks.
use Rattle.std.specs.Prelude.{not, ◌||◌, Bool, true, false, Option, Some, None, List, [], ◌∷◌}
use Rattle.fm_base.specs.declared.name.Label.{Label}
use Rattle.fm_tree.specs.declared.statement.Extra.{Extra}
use Rattle.fm_tree.specs.declared.statement.Extra.TheVariants as extra
use Rattle.fm_tree.specs.declared.statement.LoopHead.{LoopHead}
use Rattle.fm_tree.specs.declared.statement.LoopLabel.{LoopLabel}
use Rattle.fm_tree.specs.declared.statement.Simple.{Simple}
use Rattle.fm_tree.specs.declared.statement.Simple.TheVariants as simple
use Rattle.fm_tree.specs.declared.statement.Stmt.{Stmt}
use Rattle.fm_tree.specs.declared.statement.Stmt.TheVariants as stmt
use Rattle.fm_tree.specs.declared.form.Form.{Form}
use Rattle.fm_tree.specs.declared.form.Form.TheVariants as form
use Rattle.fm_tree.specs.declared.form.UnitKind.TheVariants as kind
use Rattle.fm_tree.specs.declared.form.Bracket.{Bracket}
use Rattle.fm_tree.specs.declared.form.Bracket.TheVariants.{Opens, Closes, Parts, Stays}
use Rattle.fm_tree.specs.declared.form.Terminal.{Terminal}
use Rattle.fm_tree.specs.declared.form.Terminal.TheVariants as terminal

-- The form of a statement.

abbrev pub extra_label : Extra → Option Label
extra_label (extra.End label) = Some label
extra_label (extra.Iostat v) = None

abbrev pub or_later : Option Label → Option Label → Option Label
or_later None later = later
or_later (Some label) later = Some label

-- the label behind END=
abbrev pub end_label : List Extra → Option Label
end_label [] = None
end_label (x ∷ xs) = or_later (extra_label x) (end_label xs)

-- of a statement that may stand behind a logical IF
unfoldable pub simple_form_of : Simple → Form
simple_form_of (simple.Goto label) = form.Goto label
simple_form_of simple.Continue = form.Continue
simple_form_of simple.Return = form.Return
simple_form_of simple.Stop = form.Stop
simple_form_of (simple.Receive named port extras items) = form.Receive (end_label extras)
simple_form_of s = form.Plain

abbrev pub label_behind : Option LoopLabel → Option Label
label_behind None = None
label_behind (Some l) = Some l.label

-- the label behind DO
abbrev pub loop_label : LoopHead → Option Label
loop_label head = label_behind head.label

-- of a logical IF the form of its test. Whether a separator parts a block isn't known yet
unfoldable pub form_of : Stmt → Form
form_of (stmt.Program name) = form.Heading kind.Program
form_of (stmt.Process name formals) = form.Heading kind.Process
form_of (stmt.Subroutine name formals) = form.Heading kind.Subroutine
form_of (stmt.Function name formals) = form.Heading kind.Function
form_of (stmt.IntegerFunction name formals) = form.Heading kind.Function
form_of (stmt.LogicalFunction name formals) = form.Heading kind.Function
form_of stmt.ImplicitNone = form.Declaration
form_of (stmt.Integer decls) = form.Declaration
form_of (stmt.Logical decls) = form.Declaration
form_of (stmt.Dimension decls) = form.Declaration
form_of (stmt.Parameter constants) = form.Declaration
form_of (stmt.Inport ports decls) = form.Declaration
form_of (stmt.Outport ports decls) = form.Declaration
form_of (stmt.Intent way names) = form.Declaration
form_of (stmt.Processors sizes) = form.Processors
form_of (stmt.Simple s) = simple_form_of s
form_of (stmt.LogicalIf e s) = form.Test
form_of (stmt.BlockIf e) = form.BlockIf
form_of (stmt.ElseIf e) = form.ElseIf false
form_of stmt.Else = form.Else false
form_of stmt.EndIf = form.EndIf
form_of (stmt.Do head) = form.Do (loop_label head)
form_of (stmt.DoWhile e) = form.DoWhile
form_of stmt.EndDo = form.EndDo
form_of stmt.End = form.End
form_of stmt.Processes = form.Processes
form_of stmt.EndProcesses = form.EndProcesses
form_of (stmt.ProcessCall name part) = form.ProcessCall
form_of (stmt.ProcessDo head) = form.ProcessDo (loop_label head)
form_of stmt.EndProcessDo = form.EndProcessDo
form_of stmt.LoopEnd = form.LoopEnd terminal.Fit

-- the form of the statement in a logical IF
unfoldable pub contained_form : Stmt → Option Form
contained_form (stmt.LogicalIf e s) = Some (simple_form_of s)
contained_form s = None

-- What an entry does to the open blocks.

unfoldable pub bracket_of : Form → Bracket
bracket_of form.BlockIf = Opens
bracket_of (form.Do label) = Opens
bracket_of form.DoWhile = Opens
bracket_of form.Processes = Opens
bracket_of form.Wrap = Opens
bracket_of (form.ProcessDo label) = Opens
bracket_of (form.ElseIf true) = Parts
bracket_of (form.Else true) = Parts
bracket_of form.EndIf = Closes
bracket_of form.EndDo = Closes
bracket_of form.EndProcesses = Closes
bracket_of form.EndWrap = Closes
bracket_of form.EndProcessDo = Closes
bracket_of (form.LoopEnd t) = Closes
bracket_of f = Stays

-- what a statement is to a labelled loop that it closes; a logical IF may end a DO whatever it contains
unfoldable pub terminal_of : Form → Terminal
terminal_of form.Continue = terminal.Continue
terminal_of (form.Goto label) = terminal.Unfit
terminal_of form.Return = terminal.Unfit
terminal_of form.Stop = terminal.Unfit
terminal_of form.End = terminal.Unfit
terminal_of form.BlockIf = terminal.Unfit
terminal_of (form.ElseIf fits) = terminal.Unfit
terminal_of (form.Else fits) = terminal.Unfit
terminal_of form.EndIf = terminal.Unfit
terminal_of (form.Do label) = terminal.Unfit
terminal_of form.DoWhile = terminal.Unfit
terminal_of form.EndDo = terminal.Unfit
terminal_of form.Processes = terminal.Unfit
terminal_of form.EndProcesses = terminal.Unfit
terminal_of form.ProcessCall = terminal.Unfit
terminal_of (form.ProcessDo label) = terminal.Unfit
terminal_of form.EndProcessDo = terminal.Unfit
terminal_of f = terminal.Fit

-- Kinds of forms.

abbrev pub is_heading : Form → Bool
is_heading (form.Heading unit) = true
is_heading f = false

abbrev pub is_declaration : Form → Bool
is_declaration form.Declaration = true
is_declaration form.Processors = true
is_declaration f = false

abbrev pub is_executable : Form → Bool
is_executable f = not (is_heading f || is_declaration f)

abbrev pub is_end : Form → Bool
is_end form.End = true
is_end f = false

abbrev pub is_block_if : Form → Bool
is_block_if form.BlockIf = true
is_block_if f = false

abbrev pub is_else : Form → Bool
is_else (form.Else fits) = true
is_else f = false

-- ELSE IF or ELSE
abbrev pub is_separator : Form → Bool
is_separator (form.ElseIf fits) = true
is_separator (form.Else fits) = true
is_separator f = false

abbrev pub is_wrap : Form → Bool
is_wrap form.Wrap = true
is_wrap f = false

abbrev pub is_process_loop : Form → Bool
is_process_loop (form.ProcessDo label) = true
is_process_loop f = false

-- opens a block in which processes are called
abbrev pub makes_processes : Form → Bool
makes_processes form.Processes = true
makes_processes form.Wrap = true
makes_processes (form.ProcessDo label) = true
makes_processes f = false

-- opens a block that ends behind a labelled statement, with this label
abbrev pub terminal_label : Form → Option Label
terminal_label (form.Do label) = label
terminal_label (form.ProcessDo label) = label
terminal_label f = None
