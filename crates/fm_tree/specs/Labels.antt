-- Labels of a unit and their targets, and the first executable statement.
-- Source: ANSI X3.9-1978, sections 3.4 (statement labels) and 11.1 (GO TO); this profile for labels that stand twice.
use Rattle.std.specs.Prelude.{ℕ, ◌+◌, ◌&&◌, Bool, cond, Option, Some, None, List, [], ◌∷◌}
use Rattle.fm_base.specs.declared.name.Label.{Label}
use Rattle.fm_tree.specs.declared.form.Form.{Form}
use Rattle.fm_tree.specs.declared.form.Form.TheVariants as form
use Rattle.fm_tree.specs.declared.entry_mark.EntryMark.{EntryMark}
use Rattle.fm_tree.specs.Structure.{is_executable}
use Rattle.fm_tree.specs.Layout.{is_this_label}

-- the first place where an entry passes a test, counted from one on
abbrev pub first_where : (EntryMark → Bool) → List EntryMark → ℕ → Option ℕ
first_where test [] at = None
first_where test (e ∷ es) at = cond (test e) (Some at) (first_where test es (at + 1))

-- the first statement with a label
abbrev pub first_labelled : List EntryMark → Label → Option ℕ
first_labelled entries label = first_where (λ e. is_this_label label e.label) entries 0

-- the first executable statement with a label: where a jump to it goes
abbrev pub target : List EntryMark → Label → Option ℕ
target entries label = first_where (λ e. is_executable e.form && is_this_label label e.label) entries 0

-- the first executable statement
abbrev pub first_executable : List EntryMark → Option ℕ
first_executable entries = first_where (λ e. is_executable e.form) entries 0

-- the label that GOTO or END= names
abbrev pub jump_label : Form → Option Label
jump_label (form.Goto label) = Some label
jump_label (form.Receive label) = label
jump_label f = None
