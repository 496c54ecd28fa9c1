-- What the rules of structure ask of a form.
-- Source: ANSI X3.9-1978, sections 3.5 (order of statements), 11.6 to 11.10 (block IF, DO) and 15.7.2 (RETURN); MIL-STD-1753
-- for DO WHILE and END DO; the Fortran M report for process blocks and PROCESSORS; this profile for units that break a rule.
use Rattle.std.specs.Prelude.{not, ◌||◌, Bool, true, false, Option, Some, None}
use Rattle.fm_tree.specs.declared.form.Form.{Form}
use Rattle.fm_tree.specs.declared.form.Form.TheVariants as form
use Rattle.fm_tree.specs.declared.form.UnitKind.TheVariants as kind
use Rattle.fm_tree.specs.declared.form.Terminal.TheVariants as terminal
use Rattle.fm_tree.specs.declared.entry_mark.Open.{Open}
use Rattle.fm_tree.specs.Structure.{is_block_if, makes_processes}
use Rattle.fm_rules.specs.Main.{is_program}

-- Units.

-- PROGRAM heads the unit
unfoldable pub heads_program : Form → Bool
heads_program (form.Heading unit) = is_program unit
heads_program f = false

-- of a PROGRAM or a PROCESS: a unit that may say PROCESSORS
unfoldable pub has_processors : Form → Bool
has_processors (form.Heading kind.Program) = true
has_processors (form.Heading kind.Process) = true
has_processors f = false

-- Openers. A loop with a label isn't ended by ENDDO or ENDPROCESSDO.

-- the form of the innermost open block's opener; where no block is open, a form that opens none
abbrev pub opener_of : Option Open → Form
opener_of None = form.End
opener_of (Some o) = o.form

unfoldable pub is_do : Form → Bool
is_do (form.Do None) = true
is_do form.DoWhile = true
is_do f = false

unfoldable pub is_processes : Form → Bool
is_processes form.Processes = true
is_processes f = false

unfoldable pub is_process_do : Form → Bool
is_process_do (form.ProcessDo None) = true
is_process_do f = false

-- Places of statements.

-- a statement, by whether it is the unit's first, whether an executable one comes before it, the form of the unit's first
-- one, and the opener of the innermost open block
unfoldable pub misplaced : Form → Bool → Bool → Form → Form → Bool
misplaced (form.Heading unit) first late heading opener = not first
misplaced form.Declaration first late heading opener = first || late
misplaced form.Processors first late heading opener = first || (late || not (has_processors heading))
misplaced form.Return first late heading opener = first || heads_program heading
misplaced form.ProcessCall first late heading opener = first || not (makes_processes opener)
misplaced f first late heading opener = first

-- an end or a separator that the innermost open block doesn't fit, or an opener without label that is open at END
unfoldable pub unmatched : Form → Form → Bool → Bool
unmatched (form.ElseIf fits) opener open_at_end = not fits
unmatched (form.Else fits) opener open_at_end = not fits
unmatched form.EndIf opener open_at_end = not (is_block_if opener)
unmatched form.EndDo opener open_at_end = not (is_do opener)
unmatched form.EndProcesses opener open_at_end = not (is_processes opener)
unmatched form.EndProcessDo opener open_at_end = not (is_process_do opener)
unmatched form.BlockIf opener open_at_end = open_at_end
unmatched form.DoWhile opener open_at_end = open_at_end
unmatched form.Processes opener open_at_end = open_at_end
unmatched (form.Do None) opener open_at_end = open_at_end
unmatched (form.ProcessDo None) opener open_at_end = open_at_end
unmatched f opener open_at_end = false

-- what may stand directly in a process block; a CONTINUE where it ends the block. What a lone PROCESSDO stands in is no
-- statement of its own
unfoldable pub belongs : Form → Bool → Bool
belongs form.ProcessCall ends_block = true
belongs (form.ProcessDo label) ends_block = true
belongs form.EndProcesses ends_block = true
belongs form.EndProcessDo ends_block = true
belongs (form.LoopEnd t) ends_block = true
belongs form.Wrap ends_block = true
belongs form.EndWrap ends_block = true
belongs form.Continue ends_block = ends_block
belongs f ends_block = false

-- Ends of labelled loops.

-- the end that a statement with the label makes, of a kind that may end a DO
unfoldable pub ends_do : Form → Bool
ends_do (form.LoopEnd terminal.Continue) = true
ends_do (form.LoopEnd terminal.Fit) = true
ends_do f = false

unfoldable pub ends_process_do : Form → Bool
ends_process_do (form.LoopEnd terminal.Continue) = true
ends_process_do f = false

-- a labelled loop, by what ends it
unfoldable pub badly_ended : Form → Form → Bool
badly_ended (form.Do (Some label)) end = not (ends_do end)
badly_ended (form.ProcessDo (Some label)) end = not (ends_process_do end)
badly_ended f end = false
