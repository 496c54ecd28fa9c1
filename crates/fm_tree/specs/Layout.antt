-- The entries of a unit: its statements, a logical IF as two, a PROCESSDO outside process blocks inside one of its own, and
-- behind a labelled statement an end for each loop that it closes.
-- Source: ANSI X3.9-1978, section 11.10 (terminal statement, shared by DO-loops; incrementation at its end); the Fortran M
-- report for PROCESSDO; this profile for the logical IF and for units that break a rule.
use Rattle.std.specs.Prelude.{ℕ, ◌+◌, nat_eq, not, ◌&&◌, Bool, false, if◌then◌else◌, Option, Some, None, List, [], ◌∷◌, ◌++◌}
use Rattle.fm_base.specs.declared.name.Label.{Label}
use Rattle.fm_base.specs.declared.name.Line.{Line}
use Rattle.fm_tree.specs.declared.program_unit.Placed.{Placed}
use Rattle.fm_tree.specs.declared.statement.Simple.TheVariants as simple
use Rattle.fm_tree.specs.declared.statement.Stmt.{Stmt}
use Rattle.fm_tree.specs.declared.statement.Stmt.TheVariants as stmt
use Rattle.fm_tree.specs.declared.form.Form.{Form}
use Rattle.fm_tree.specs.declared.form.Form.TheVariants as form
use Rattle.fm_tree.specs.declared.form.Bracket.{Bracket}
use Rattle.fm_tree.specs.declared.form.Bracket.TheVariants.{Opens}
use Rattle.fm_tree.specs.declared.form.Terminal.{Terminal}
use Rattle.fm_tree.specs.declared.entry_mark.EntryMark.{EntryMark}
use Rattle.fm_tree.specs.declared.entry_mark.Open.{Open}
use Rattle.fm_tree.specs.Structure.{bracket_of, contained_form, form_of, is_block_if, is_process_loop, is_wrap, makes_processes, terminal_label, terminal_of}
use Rattle.fm_tree.specs.Blocks.{behind, head_of}

-- What a statement itself is, by the innermost block that is open before it.

-- an IF whose ELSE hasn't come
abbrev pub may_part : Option Open → Bool
may_part None = false
may_part (Some o) = is_block_if o.form && not o.has_else

-- a process block
abbrev pub is_parallel : Option Open → Bool
is_parallel None = false
is_parallel (Some o) = makes_processes o.form

-- a separator parts the innermost block, or nothing
abbrev pub fitted : Form → Option Open → Form
fitted (form.ElseIf fits) inner = form.ElseIf (may_part inner)
fitted (form.Else fits) inner = form.Else (may_part inner)
fitted f inner = f

-- a PROCESSDO that isn't in a process block stands in one of its own
abbrev pub wrapped : Form → Option Open → List Form
wrapped f inner = if is_process_loop f && not (is_parallel inner) then form.Wrap ∷ f ∷ [] else fitted f inner ∷ []

-- a logical IF is its test and the statement in it
abbrev pub own_forms : Form → Option Form → Option Open → List Form
own_forms f (Some contained) inner = f ∷ contained ∷ []
own_forms f None inner = wrapped f inner

-- entries of the statement at a place. The first has the statement's label
abbrev pub marks_of : Line → Option Label → ℕ → List Form → List EntryMark
marks_of line label place [] = []
marks_of line label place (f ∷ fs) = record { line = line; label = label; form = f; place = place } ∷ marks_of line None place fs

-- What a statement ends.

abbrev pub is_this_label : Label → Option Label → Bool
is_this_label label None = false
is_this_label label (Some other) = nat_eq label.0 other.0

-- a loop with this label
abbrev pub is_closed_by : Option Label → Open → Bool
is_closed_by None o = false
is_closed_by (Some label) o = is_this_label label (terminal_label o.form)

-- what ends an open block behind a statement: the end of a block that a PROCESSDO stands in alone, once the PROCESSDO has
-- ended, or of a loop with the statement's label
abbrev pub end_form : Terminal → Option Label → Open → Option Form
end_form t label o =
    if is_wrap o.form then Some form.EndWrap
    else if is_closed_by label o then Some (form.LoopEnd t)
    else None

abbrev pub put_end : Option Form → List Form → List Form
put_end None rest = []
put_end (Some f) rest = f ∷ rest

-- the ends behind a statement, with these blocks open: of the innermost, as long as it ends what is innermost
abbrev pub closing : Terminal → Option Label → List Open → List Form
closing t label [] = []
closing t label (o ∷ os) = put_end (end_form t label o) (closing t label os)

abbrev pub label_left : Option Label → List Form → Option Label
label_left label [] = label
label_left label (f ∷ fs) = None

-- An opener with a label closes its loops first, and then opens; the label stands on the first of all these entries.
-- Any other statement closes the loops with its label behind itself.
abbrev pub ends_behind : Placed → List Open → List Form
ends_behind p os = closing (terminal_of (form_of p.stmt)) p.label os

abbrev pub own_behind : Placed → Option Label → ℕ → List EntryMark → List EntryMark
own_behind p label place entries = entries ++ marks_of p.line label place (own_forms (form_of p.stmt) (contained_form p.stmt) (head_of (behind entries)))

abbrev pub with_opener : List EntryMark → ℕ → Placed → List Form → List EntryMark
with_opener entries place p ended = own_behind p (label_left p.label ended) place (entries ++ marks_of p.line p.label place ended)

abbrev pub with_ends : List EntryMark → ℕ → Placed → List EntryMark
with_ends entries place p = entries ++ marks_of p.line None place (ends_behind p (behind entries))

abbrev pub with_statement : Bracket → List EntryMark → ℕ → Placed → List EntryMark
with_statement Opens entries place p = with_opener entries place p (ends_behind p (behind entries))
with_statement b entries place p = with_ends (own_behind p p.label place entries) place p

-- what these statements, the first of which has this place, make behind what is laid out
abbrev pub laid_behind : List EntryMark → ℕ → List Placed → List EntryMark
laid_behind entries place [] = entries
laid_behind entries place (p ∷ ps) = laid_behind (with_statement (bracket_of (form_of p.stmt)) entries place p) (place + 1) ps

abbrev pub laid_out : List Placed → List EntryMark
laid_out statements = laid_behind [] 0 statements

-- The statement of an entry, made of the one at its place.

unfoldable pub test_of : Stmt → Stmt
test_of (stmt.LogicalIf e s) = stmt.LogicalIf e simple.Continue
test_of s = s

unfoldable pub contained_in : Stmt → Stmt
contained_in (stmt.LogicalIf e s) = stmt.Simple s
contained_in s = s

unfoldable pub statement_of : Form → Stmt → Stmt
statement_of form.Wrap s = stmt.Processes
statement_of form.EndWrap s = stmt.EndProcesses
statement_of (form.LoopEnd t) s = stmt.LoopEnd
statement_of form.Test s = test_of s
statement_of f s = contained_in s
