-- Room for what children give back and what they still have, by the words at which ports may stand.
-- Source: this profile.
use Rattle.std.specs.Prelude.{◌≡◌, ℕ, ◌+◌, ℤ, Option, Some, None, List, [], ◌∷◌, ◌++◌, slice_get}
use Rattle.std.specs.List.{flat_map}
use Rattle.fm_base.specs.declared.port.PortValue.{PortValue}
use Rattle.fm_code.specs.declared.body.Body.{Body}
use Rattle.fm_code.specs.declared.body.Frame.{Frame}
use Rattle.fm_code.specs.declared.body.Start.{Start}
use Rattle.fm_code.specs.declared.code.Code.{Code}
use Rattle.fm_code.specs.Passing.{ports_in}
use Rattle.fm_code.specs.Statements.{ports_of}
use Rattle.fm_proc_language.specs.Slots.{Slots, vacated}
use Rattle.fm_proc_slots.specs.Rooms.{span_words}

-- as many ports as the words of a unit name at most
abbrev pub unit_room : Code → ℕ → ℕ
unit_room c n = span_words (ports_of (slice_get c.units n))

abbrev pub starts_room : Code → List Start → ℕ
starts_room c [] = 0
starts_room c (s ∷ ss) = unit_room c s.unit + starts_room c ss

abbrev pub frame_room : Code → Frame → ℕ
frame_room c m = unit_room c m.unit + starts_room c m.starts

abbrev pub frames_room : Code → List Frame → ℕ
frames_room c [] = 0
frames_room c (m ∷ ms) = frame_room c m + frames_room c ms

abbrev pub body_room : Body → ℕ
body_room b = frame_room b.code b.frame + frames_room b.code b.below

abbrev pub left_room : Option Body → ℕ
left_room None = 0
left_room (Some b) = body_room b

abbrev pub lefts_room : List (Option Body × Slots) → ℕ
lefts_room [] = 0
lefts_room (x ∷ xs) = left_room x.0 + lefts_room xs

-- the ports of starts, by the code
abbrev pub starts_words : Code → List Start → List ℤ
starts_words c = flat_map (λ (s : Start). ports_in (ports_of (slice_get c.units s.unit)) s.words)

-- the ports of a frame and of its starts
abbrev pub words_by : Code → Frame → List ℤ
words_by c m = ports_in (ports_of (slice_get c.units m.unit)) m.words ++ starts_words c m.starts

-- the ports at these words are let go first: what others give then is what they gave behind these
abbrev pub Sheds : (words : List ℤ) → (old : Slots) → (drops : List PortValue) → (new : Slots) → (after : List PortValue) → Type 0
Sheds words old drops new after = (others : List ℤ) → after ++ vacated new others ≡ drops ++ vacated old (words ++ others)
