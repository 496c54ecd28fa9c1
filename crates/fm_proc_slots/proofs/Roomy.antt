-- Room that is used step by step.
use Rattle.std.proofs.Common.{◌≡◌, ℕ, ◌+◌, ◌≤◌, ◌<◌, Box, Option, Some, arith, subst, sym}
use Rattle.std.specs.declared.alloc.Global.{Global}
use Rattle.fm_proc_slots.specs.declared.open.OpenSlots.{OpenSlots}
use Rattle.fm_proc_slots.specs.declared.stock.Stock.{Stock}
use Rattle.fm_proc_slots.specs.Rooms.{HasRoom, LeavesRoom}
use Rattle.fm_proc_slots.specs.Stocks.{HasPlaces, HasRoomIn}

pub room_within : (o : OpenSlots) (n m : ℕ) → m ≤ n → HasRoom o n → HasRoom o m
room_within o n m h r = record { to_come = omega (arith, r.to_come); to_go = omega (arith, r.to_go); numbers = omega (arith, r.numbers) }

pub all_left : (o : OpenSlots) → LeavesRoom 0 o o
all_left o n r = room_within o (0 + n) n (omega arith) r

pub room_for_one : (o o' : OpenSlots) (i n : ℕ) → i < n → LeavesRoom i o o' → HasRoom o n → HasRoom o' 1
room_for_one o o' i n h l r = l 1 (room_within o n (i + 1) (omega arith) r)

pub one_used : (o o' o'' : OpenSlots) (i : ℕ) → LeavesRoom i o o' → LeavesRoom 1 o' o'' → LeavesRoom (i + 1) o o''
one_used o o' o'' i l m n r = m n (l (1 + n) (room_within o ((i + 1) + n) (i + (1 + n)) (omega arith) r))

pub more_left : (o o' : OpenSlots) (i k : ℕ) → i ≤ k → LeavesRoom i o o' → LeavesRoom k o o'
more_left o o' i k h l n r = l n (room_within o (k + n) (i + n) (omega arith) r)

-- what a step uses of the room for it and for the rest
pub rest_left : (o o' o'' : OpenSlots) (all now step rest : ℕ) → now ≡ step + rest → ((n : ℕ) → HasRoom o (all + n) → HasRoom o' (now + n)) → LeavesRoom step o' o'' → (n : ℕ) → HasRoom o (all + n) → HasRoom o'' (rest + n)
rest_left o o' o'' all now step rest e l m n r = m (rest + n) (room_within o' (now + n) (step + (rest + n)) (omega arith) (l n r))

-- room for one more span
pub room_for_span : (o o' : OpenSlots) (all now step rest : ℕ) → now ≡ step + rest → ((n : ℕ) → HasRoom o (all + n) → HasRoom o' (now + n)) → HasRoom o all → HasRoom o' step
room_for_span o o' all now step rest e l r = room_within o' (now + 0) step (omega arith) (l 0 (room_within o all (all + 0) (omega arith) r))

-- none is needed any more
pub none_needed : (o o' : OpenSlots) (all now : ℕ) → now ≡ 0 → ((n : ℕ) → HasRoom o (all + n) → HasRoom o' (now + n)) → LeavesRoom all o o'
none_needed o o' all now e l n r = room_within o' (now + n) n (omega arith) (l n r)

-- Room in the box.

box_has : (b : Box Stock Global) (n : ℕ) → HasRoomIn (Some b) n → HasPlaces b.value n
box_has b n r = record { to_come = r.to_come; to_go = r.to_go; numbers = r.numbers }

in_box : (o : OpenSlots) (b : Box Stock Global) (n : ℕ) → o.stock ≡ Some b → HasRoom o n → HasPlaces b.value n
in_box o b n e r = box_has b n (subst (λ (s : Option (Box Stock Global)). HasRoomIn s n) e r)

-- what is left in the box is left
pub left_in_box : (o : OpenSlots) (b b' : Box Stock Global) (s : Stock) (k : ℕ) → o.stock ≡ Some b → s ≡ b.value → ((n : ℕ) → HasPlaces s (k + n) → HasPlaces b'.value n) → (n : ℕ) → HasRoom o (k + n) → HasRoomIn (Some b') n
left_in_box o b b' s k e f l n r =
    let left = l n (subst (λ (t : Stock). HasPlaces t (k + n)) (sym f) (in_box o b (k + n) e r)) in
    record { to_come = left.to_come; to_go = left.to_go; numbers = left.numbers }
