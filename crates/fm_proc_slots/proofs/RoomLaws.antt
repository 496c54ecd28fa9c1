-- Room for what is given back, used word by word.
use Rattle.std.proofs.Common.{◌≡◌, ℕ, ◌+◌, ◌*◌, ◌≤◌, List, ◌∷◌, ap, arith, vec_len, vec_capacity}
use Rattle.fm_code.specs.declared.body.Back.{Back}
use Rattle.fm_code.specs.Passing.{back_words}
use Rattle.fm_proc_slots.specs.Rooms.{LeavesRoom}
use Rattle.fm_proc_slots.specs.Joins.{HasRoomFor, LeavesRoomFor}
use Rattle.fm_proc_slots.specs.declared.joining.Gains.{Gains}
use Rattle.fm_proc_slots.proofs.Roomy.{room_within}

pub fewer : (g : Gains) (m n : ℕ) → n ≤ m → HasRoomFor g m → HasRoomFor g n
fewer g m n e h = record { words = omega arith; slots = room_within g.slots (2 * m) (2 * n) (omega arith) h.slots; drops = omega arith }

-- one exchange, and what is let go
pub room_exchanged : (g h : Gains) → vec_len h.words ≡ vec_len g.words → vec_capacity h.words ≡ vec_capacity g.words → LeavesRoom 2 g.slots h.slots →
    vec_len h.drops ≤ vec_len g.drops + 1 → vec_capacity g.drops ≤ vec_capacity h.drops → LeavesRoomFor 1 g h
room_exchanged g h a b f d e = λ n r. record {
  words = omega arith;
  slots = f (2 * n) (room_within g.slots (2 * (1 + n)) (2 + 2 * n) (omega arith) r.slots);
  drops = omega arith;
}

pub room_after : (g h i : Gains) (m n k : ℕ) → k ≡ m + n → LeavesRoomFor m g h → LeavesRoomFor n h i → LeavesRoomFor k g i
room_after g h i m n k e f r = λ x a. r x (f (n + x) (fewer g (k + x) (m + (n + x)) (omega arith) a))

-- the room for what is left to give back
pub room_left : (g h i : Gains) (used : ℕ) (rest more : List Back) (b : Back) → rest ≡ b ∷ more → ((n : ℕ) → HasRoomFor g (used + n) → HasRoomFor h (back_words rest + n)) →
    LeavesRoomFor b.words h i → (n : ℕ) → HasRoomFor g (used + n) → HasRoomFor i (back_words more + n)
room_left g h i used rest more b e f r n a =
    let all : back_words rest ≡ b.words + back_words more = ap back_words e in
    r (back_words more + n) (fewer h (back_words rest + n) (b.words + (back_words more + n)) (omega arith) (f n a))

pub room_for_one : (g h : Gains) (used : ℕ) (rest more : List Back) (b : Back) → rest ≡ b ∷ more → ((n : ℕ) → HasRoomFor g (used + n) → HasRoomFor h (back_words rest + n)) → HasRoomFor g used → HasRoomFor h b.words
room_for_one g h used rest more b e f a =
    let all : back_words rest ≡ b.words + back_words more = ap back_words e in
    fewer h (back_words rest + 0) b.words (omega arith) (f 0 (fewer g used (used + 0) (omega arith) a))
