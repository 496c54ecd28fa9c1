-- Room for ports that come and go, taken before they do.
-- Source: this profile.
use Rattle.std.specs.Prelude.{ℕ, ◌+◌, List, [], ◌∷◌}
use Rattle.fm_code.specs.declared.code.Span.{Span}
use Rattle.fm_proc_language.specs.Slots.{Slots}
use Rattle.fm_proc_slots.specs.Stocks.{HasRoomIn, slots_of}
use Rattle.fm_proc_slots.specs.declared.open.OpenSlots.{OpenSlots}

-- the slots
abbrev pub slots_in : OpenSlots → Slots
slots_in o = slots_of o.stock

-- so many ports may come, and so many may go, without memory
abbrev pub HasRoom : OpenSlots → ℕ → Type 0
HasRoom o n = HasRoomIn o.stock n

-- after this, room for so many more is left
abbrev pub LeavesRoom : (used : ℕ) → (old new : OpenSlots) → Type 0
LeavesRoom used old new = (n : ℕ) → HasRoom old (used + n) → HasRoom new n

-- as many words as these spans have at most
abbrev pub span_words : List Span → ℕ
span_words [] = 0
span_words (s ∷ ss) = s.count + span_words ss
