-- Items that come to places one after the other, in the room for them.
use Rattle.std.proofs.Common.{◌≡◌, ℕ, ◌+◌, ◌*◌, ◌≤◌, List, [], ◌∷◌, refl, subst, arith, vec_len, vec_capacity}
use Rattle.fm_code.specs.declared.ask.Operand.{Operand}
use Rattle.fm_proc_slots.specs.declared.storing.Stage.{Stage}
use Rattle.fm_proc_slots.specs.Operands.{operand_grown}
use Rattle.fm_proc_slots.specs.Rooms.{LeavesRoom}
use Rattle.fm_proc_slots.specs.Stores.{HasRoomToStore, LeavesRoomToStore}
use Rattle.fm_proc_slots.proofs.Reaches.{words_now, words_then}
use Rattle.fm_proc_slots.proofs.Roomy.{room_within}

module _ (old new : Stage) (o : Operand) (k : ℕ) where
  -- where an item takes no more than its share
  pub room_stored : vec_len new.words ≤ operand_grown (vec_len old.words) o → vec_capacity old.words ≤ vec_capacity new.words → LeavesRoom (2 * k) old.slots new.slots
      → vec_len new.drops ≤ vec_len old.drops + k → vec_capacity old.drops ≤ vec_capacity new.drops → LeavesRoomToStore o k old new
  room_stored len capacity slots drops more places n r = record {
    words = words_then (o ∷ places) places o refl (vec_len old.words) (vec_len new.words) (vec_capacity old.words) (vec_capacity new.words) r.words len capacity;
    slots = slots (2 * n) (room_within old.slots (2 * (k + n)) (2 * k + 2 * n) (omega arith) r.slots);
    drops = omega (arith, drops, more, r.drops);
  }

-- the first place
pub room_first : (g : Stage) (places rest : List Operand) (o : Operand) (k : ℕ) → places ≡ o ∷ rest → HasRoomToStore g places k → HasRoomToStore g (o ∷ []) k
room_first g places rest o k is r = record { words = words_now places rest o is (vec_len g.words) (vec_capacity g.words) r.words; slots = r.slots; drops = r.drops }

pub room_others : (g h : Stage) (places rest : List Operand) (o : Operand) (k : ℕ) → places ≡ o ∷ rest → LeavesRoomToStore o k g h → (n : ℕ) → HasRoomToStore g places (k + n) → HasRoomToStore h rest n
room_others g h places rest o k is l n r = l rest n (subst (λ (os : List Operand). HasRoomToStore g os (k + n)) is r)
