-- What an image shows in the end: what its processes show as stack code, and the variables of main by the cells of its unit.
-- Source: this profile.
use Rattle.std.specs.Prelude.{ℕ, zero, suc, ℤ, Option, Some, None, List, [], map, drop, take, slice_get}
use Rattle.std.specs.FinMap.{get, entries}
use Rattle.fm_values.specs.Values.{is_truth}
use Rattle.fm_symbols.specs.ByName.{first_of_each}
use Rattle.fm_code.specs.declared.body.Body.{Body}
use Rattle.fm_code.specs.declared.body.Frame.{Frame}
use Rattle.fm_net.specs.Machine.{State}
use Rattle.fm_mean.specs.declared.outcome.Outcome.{Outcome}
use Rattle.fm_mean.specs.declared.outcome.Shown.{Shown}
use Rattle.fm_mean.specs.declared.outcome.Shown.TheVariants as shown
use Rattle.fm_mean.specs.declared.outcome.ShownVariable.{ShownVariable}
use Rattle.fm_object.specs.declared.image.Cell.{Cell}
use Rattle.fm_object.specs.declared.image.Image.{Image}
use Rattle.fm_object.specs.declared.image.UnitImage.{UnitImage}
use Rattle.fm_proc_language.specs.Slots.{Slots}
use Rattle.fm_proc_language.specs.Processes.{CodeProc}
use Rattle.fm_shown.specs.Outcome.{channels_in, outcome_with, own_frame}

-- words of this kind, as an image numbers kinds: 0 integers, 1 truths, else ports
abbrev pub words_shown : (kind : ℕ) → Slots → List ℤ → Shown
words_shown zero s ws = shown.Numbers ws
words_shown (suc zero) s ws = shown.Truths (map is_truth ws)
words_shown (suc (suc k)) s ws = shown.Ports (channels_in s ws)

-- the words of a variable among those of a frame
abbrev pub own_words : List ℤ → Cell → List ℤ
own_words ws c = take c.words (drop c.first ws)

-- its name, and what they show
abbrev pub cell_shown : Slots → List ℤ → Cell → List ℕ × Shown
cell_shown s ws c = (c.name, words_shown c.kind s (own_words ws c))

-- in byte order of the names; of two variables of a name the first counts
abbrev pub cells_shown : Slots → List ℤ → List Cell → List ShownVariable
cells_shown s ws cs = map (λ (e : List ℕ × Shown). record { name = e.0; shown = e.1 }) (entries (first_of_each (map (cell_shown s ws) cs)))

abbrev pub cells_in : Option UnitImage → List Cell
cells_in None = []
cells_in (Some u) = u.cells

abbrev pub frame_shown : Image → Slots → Frame → List ShownVariable
frame_shown i s m = cells_shown s m.words (cells_in (slice_get i.units m.unit))

-- those of the process itself, below those of calls
abbrev pub body_shown : Image → Slots → Option Body → List ShownVariable
body_shown i s None = []
body_shown i s (Some b) = frame_shown i s (own_frame b.frame b.below)

abbrev pub shown_all : Image → Option CodeProc → List ShownVariable
shown_all i None = []
shown_all i (Some y) = body_shown i y.slots y.body

-- what a state of processes of the image's code shows that was reached at this cost
abbrev pub outcome_of : Image → (used : ℕ) → State CodeProc → Outcome
outcome_of i used t = outcome_with (shown_all i (get t.procs [])) used t
