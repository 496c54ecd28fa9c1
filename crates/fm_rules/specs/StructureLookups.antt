-- What the rules of structure look up in the entries of a unit.
-- Source: ANSI X3.9-1978, sections 3.4 (statement labels), 3.5 (END) and 11.1 (GO TO); this profile.
use Rattle.std.specs.Prelude.{ℕ, nat_lt, Bool, true, false, if◌then◌else◌, Option, Some, None, List, [], ◌∷◌}
use Rattle.fm_base.specs.declared.name.Label.{Label}
use Rattle.fm_base.specs.declared.name.Line.{Line}
use Rattle.fm_tree.specs.declared.form.Form.{Form}
use Rattle.fm_tree.specs.declared.form.Form.TheVariants as form
use Rattle.fm_tree.specs.declared.entry_mark.EntryMark.{EntryMark}
use Rattle.fm_tree.specs.declared.entry_mark.Open.{Open}
use Rattle.fm_tree.specs.Structure.{is_end, is_executable}
use Rattle.fm_tree.specs.Blocks.{head_of}
use Rattle.fm_tree.specs.Labels.{target}
use Rattle.fm_tree.specs.Units.{block_path, form_at, mark_at}

abbrev pub line_at : List EntryMark → ℕ → Line
line_at entries k = (mark_at entries k).line

abbrev pub label_at : List EntryMark → ℕ → Option Label
label_at entries k = (mark_at entries k).label

-- there is one, and it passes
abbrev pub some_passes : {X : Type 0} → (X → Bool) → Option X → Bool
some_passes test None = false
some_passes test (Some x) = test x

-- there is one, and it comes before k
abbrev pub is_before : Option ℕ → ℕ → Bool
is_before None k = false
is_before (Some i) k = nat_lt i k

-- whether the unit has its END
abbrev pub has_end : List EntryMark → Bool
has_end [] = false
has_end (e ∷ es) = if is_end e.form then true else has_end es

-- the form at a place; where there is no place, one that ends no loop
abbrev pub form_or_end : List EntryMark → Option ℕ → Form
form_or_end entries None = form.End
form_or_end entries (Some k) = form_at entries k

-- where the jump to a label, if it is one, goes
abbrev pub target_of : List EntryMark → Option Label → Option ℕ
target_of entries None = None
target_of entries (Some label) = target entries label

-- the innermost block round an entry, with its branch
abbrev pub block_round : List EntryMark → ℕ → Option Open
block_round entries k = head_of (block_path entries k)

-- the label of an entry, or only that of an executable one
abbrev pub wanted_label : Bool → EntryMark → Option Label
wanted_label only_executable e = if only_executable then (if is_executable e.form then e.label else None) else e.label
