-- What a child gives back, as functions hold it, and the room that this takes.
-- Source: this profile.
use Rattle.std.specs.Prelude.{◌≡◌, ℕ, ◌+◌, ◌*◌, ◌≤◌, vec_len, vec_capacity}
use Rattle.fm_proc_language.specs.Slots.{Slots}
use Rattle.fm_proc_language.specs.Frames.{Joined}
use Rattle.fm_proc_slots.specs.Helds.{held}
use Rattle.fm_proc_slots.specs.Rooms.{HasRoom, slots_in}
use Rattle.fm_proc_slots.specs.declared.joining.Child.{Child}
use Rattle.fm_proc_slots.specs.declared.joining.Gains.{Gains}

abbrev pub joined : Gains → Child → Joined
joined g c = record { mine = held g.words.items (slots_in g.slots); theirs = held c.words c.slots; drops = g.drops.items }

-- both have the same port in each slot, whichever slots are free
abbrev pub SamePorts : Slots → Slots → Type 0
SamePorts s t = s.ports ≡ t.ports

-- both are the same but for the free slots of the one who gives
pub record GivesAlike (j k : Joined) : Type 0 where
  pub mine : j.mine ≡ k.mine
  pub drops : j.drops ≡ k.drops
  pub words : j.theirs.words ≡ k.theirs.words
  pub slots : SamePorts j.theirs.slots k.theirs.slots

-- what a parent and a child have after this was given back: the slots that the child left needn't be noted
abbrev pub GivesSo : Joined → Gains → Child → Type 0
GivesSo j g c = GivesAlike j (joined g c)

-- so many words may be given back without memory: for each a port may go and one may come, and one may be let go
pub record HasRoomFor (g : Gains) (n : ℕ) : Type 0 where
  pub words : vec_len g.words + n ≤ vec_capacity g.words
  pub slots : HasRoom g.slots (2 * n)
  pub drops : vec_len g.drops + n ≤ vec_capacity g.drops

-- after this, room for so many words more is left
abbrev pub LeavesRoomFor : (used : ℕ) → (old new : Gains) → Type 0
LeavesRoomFor used old new = (n : ℕ) → HasRoomFor old (used + n) → HasRoomFor new n
