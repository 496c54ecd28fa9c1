-- One item of a message at its place, and one port at its word.
-- Source: this profile.
use Rattle.std.specs.Prelude.{◌≡◌, ◌≤◌, ℕ, ℤ, ◌+◌, ◌*◌, List, [], ◌∷◌, ◌++◌, length, take, vec_len, vec_capacity}
use Rattle.fm_base.specs.declared.port.PortValue.{PortValue}
use Rattle.fm_base.specs.Channels.{Item, Words, Ports, Message}
use Rattle.fm_code.specs.declared.ask.Operand.{Operand}
use Rattle.fm_code.specs.declared.ask.Operand.TheVariants as operand
use Rattle.fm_code.specs.Passing.{spliced}
use Rattle.fm_proc_language.specs.Frames.{Held, all_stored, all_placed}
use Rattle.fm_proc_slots.specs.declared.storing.Stage.{Stage}
use Rattle.fm_proc_slots.specs.Helds.{held}
use Rattle.fm_proc_slots.specs.Operands.{reach}
use Rattle.fm_proc_slots.specs.Rooms.{HasRoom, slots_in}

-- the words of a frame after words came to an operand
abbrev pub words_stored : List ℤ → Operand → List ℤ → List ℤ
words_stored ws (operand.Value v) ns = ws
words_stored ws (operand.Words s) ns = spliced ws s.first (take s.count ns)
words_stored ws (operand.Ports s) ns = ws

-- After an item is stored, and what it replaces is let go, the rest of a message gives what the whole gave.
pub record PlacesMessage (h : Held) (os : List Operand) (out : List PortValue) (i : Item) (h' : Held) (os' : List Operand) (out' : List PortValue) : Type 0 where
  pub keeps : (ms : Message) → (all_stored h' os' ms).0 ≡ (all_stored h os (i ∷ ms)).0
  pub gives : (ms : Message) → out' ++ (all_stored h' os' ms).1 ≡ out ++ (all_stored h os (i ∷ ms)).1

-- After a port is placed, the rest gives what the whole gave.
pub record PlacesPort (h : Held) (ks : List ℕ) (out : List PortValue) (x : PortValue) (h' : Held) (ks' : List ℕ) (out' : List PortValue) : Type 0 where
  pub keeps : (xs : List PortValue) → (all_placed h' ks' xs).0 ≡ (all_placed h ks (x ∷ xs)).0
  pub gives : (xs : List PortValue) → out' ++ (all_placed h' ks' xs).1 ≡ out ++ (all_placed h ks (x ∷ xs)).1

-- how many ports and NULLs an item has
abbrev pub item_slots : Item → ℕ
item_slots (Words ws) = 0
item_slots (Ports ps) = length ps

abbrev pub message_slots : Message → ℕ
message_slots [] = 0
message_slots (i ∷ is) = item_slots i + message_slots is

abbrev pub holds : Stage → Held
holds g = held g.words.items (slots_in g.slots)

-- items with so many ports may come to these places without memory: for each port one may go and one may come, and one may be let go
pub record HasRoomToStore (g : Stage) (places : List Operand) (n : ℕ) : Type 0 where
  pub words : reach (vec_len g.words) places ≤ vec_capacity g.words
  pub slots : HasRoom g.slots (2 * n)
  pub drops : vec_len g.drops + n ≤ vec_capacity g.drops

-- after an item with so many ports came to a place, the room for the rest is left
abbrev pub LeavesRoomToStore : Operand → (used : ℕ) → (old new : Stage) → Type 0
LeavesRoomToStore o used old new = (places : List Operand) (n : ℕ) → HasRoomToStore old (o ∷ places) (used + n) → HasRoomToStore new places n
