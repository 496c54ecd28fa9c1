-- Ports that are placed one after the other, in the room for them.
use Rattle.std.proofs.Common.{◌≡◌, ℕ, suc, ◌+◌, ◌*◌, ◌<◌, ◌≤◌, List, ◌∷◌, length, ap, arith}
use Rattle.fm_base.specs.declared.port.PortValue.{PortValue}
use Rattle.fm_proc_slots.specs.declared.open.OpenSlots.{OpenSlots}
use Rattle.fm_proc_slots.specs.Rooms.{HasRoom, LeavesRoom}
use Rattle.fm_proc_slots.proofs.Roomy.{room_within}

module _ (all rest : List PortValue) (x : PortValue) (is : all ≡ x ∷ rest) where
  one_more : length all ≡ suc (length rest)
  one_more = ap length is

  -- for each a port may go and one may come
  pub room_for_next : (o : OpenSlots) → HasRoom o (2 * length all) → HasRoom o 2
  room_for_next o r = room_within o (2 * length all) 2 (omega (arith, one_more)) r

  pub room_for_rest : (o o' : OpenSlots) → HasRoom o (2 * length all) → LeavesRoom 2 o o' → HasRoom o' (2 * length rest)
  room_for_rest o o' r l = l (2 * length rest) (room_within o (2 * length all) (2 + 2 * length rest) (omega (arith, one_more)) r)

  -- and one may be let go
  pub empty_for_next : (len capacity : ℕ) → len + length all ≤ capacity → len < capacity
  empty_for_next len capacity room = omega (arith, one_more, room)

  pub empty_for_rest : (len len' capacity capacity' : ℕ) → len + length all ≤ capacity → len' ≤ len + 1 → capacity ≤ capacity' → len' + length rest ≤ capacity'
  empty_for_rest len len' capacity capacity' room more keeps = omega (arith, one_more, room, more, keeps)
