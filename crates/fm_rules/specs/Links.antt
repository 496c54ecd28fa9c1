-- Where an entry of a unit that breaks no rule leads to, besides the entry that comes after it.
-- Source: ANSI X3.9-1978, sections 11.1 (GO TO), 11.4 (logical IF), 11.6 to 11.9 (block IF) and 11.10 (DO); MIL-STD-1753 for DO
-- WHILE; the Fortran M report for END= and PROCESSDO.
use Rattle.std.specs.Prelude.{ℕ, ◌+◌, true, if◌then◌else◌, Option, Some, None, List, [], ◌∷◌, map, slice_get}
use Rattle.fm_base.specs.declared.name.Label.{Label}
use Rattle.fm_tree.specs.declared.form.Form.{Form}
use Rattle.fm_tree.specs.declared.form.Form.TheVariants as form
use Rattle.fm_tree.specs.declared.entry_mark.EntryMark.{EntryMark}
use Rattle.fm_tree.specs.declared.program_unit.Entry.{Entry}
use Rattle.fm_tree.specs.Structure.{form_of, is_else}
use Rattle.fm_tree.specs.Blocks.{branch_end}
use Rattle.fm_tree.specs.Labels.{jump_label, target}
use Rattle.fm_tree.specs.Units.{form_at}
use Rattle.fm_rules.specs.declared.entry_links.EntryLinks.{EntryLinks}

-- in a unit that breaks no rule each separator parts the innermost block
unfoldable pub parted : Form → Form
parted (form.ElseIf fits) = form.ElseIf true
parted (form.Else fits) = form.Else true
parted f = f

abbrev pub mark_of : Entry → EntryMark
mark_of e = record { line = e.line; label = e.label; form = parted (form_of e.stmt); place = 0 }

abbrev pub marks_of : List Entry → List EntryMark
marks_of body = map mark_of body

-- the entry that comes after the one at k
abbrev pub after_in : Option Entry → ℕ → ℕ
after_in None k = k + 1
after_in (Some e) k = e.after

abbrev pub after_at : List Entry → ℕ → ℕ
after_at body k = after_in (slice_get body k) k

-- the entry that ends the block of the one at k
abbrev pub mate_in : Option Entry → Option ℕ
mate_in None = None
mate_in (Some e) = e.mate

abbrev pub after_mate : List Entry → ℕ → Option ℕ → ℕ
after_mate body k None = k + 1
after_mate body k (Some end) = after_at body end

-- behind a loop
abbrev pub behind_loop : List Entry → ℕ → ℕ
behind_loop body k = after_mate body k (mate_in (slice_get body k))

-- the next ELSE IF, the statement behind ELSE, or END IF
abbrev pub into_branch : List EntryMark → ℕ → Option ℕ → ℕ
into_branch marks k None = k + 1
into_branch marks k (Some end) = if is_else (form_at marks end) then end + 1 else end

abbrev pub next_branch : List EntryMark → ℕ → ℕ
next_branch marks k = into_branch marks k (branch_end marks k)

-- where the test at k goes when it fails, or the loop that begins at k when it has no trips
unfoldable pub other_by : Form → List Entry → List EntryMark → ℕ → ℕ
other_by form.Test body marks k = after_at body (k + 1)
other_by form.BlockIf body marks k = next_branch marks k
other_by (form.ElseIf fits) body marks k = next_branch marks k
other_by form.DoWhile body marks k = behind_loop body k
other_by (form.Do label) body marks k = behind_loop body k
other_by (form.ProcessDo label) body marks k = behind_loop body k
other_by f body marks k = after_at body k

-- where GOTO, or RECEIVE at the end of its channel, goes
abbrev pub jump_by : List EntryMark → Option Label → Option ℕ
jump_by marks None = None
jump_by marks (Some label) = target marks label

abbrev pub links_at : List Entry → List EntryMark → ℕ → EntryLinks
links_at body marks k = record { jump = jump_by marks (jump_label (form_at marks k)); other = other_by (form_at marks k) body marks k }

abbrev pub links_from : List Entry → List EntryMark → ℕ → List EntryMark → List EntryLinks
links_from body marks k [] = []
links_from body marks k (m ∷ ms) = links_at body marks k ∷ links_from body marks (k + 1) ms

-- of each entry of a body
abbrev pub links_of : List Entry → List EntryLinks
links_of body = links_from body (marks_of body) 0 (marks_of body)
