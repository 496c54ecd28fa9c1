-- Ports and free slots in a box, which a process has that has had room for ports.
-- Source: this profile.
use Rattle.std.specs.Prelude.{ℕ, ◌+◌, ◌≤◌, Box, Option, Some, None, reverse, vec_len, vec_capacity}
use Rattle.std.specs.declared.alloc.Global.{Global}
use Rattle.fm_proc_language.specs.Slots.{Slots, no_slots}
use Rattle.fm_proc_slots.specs.declared.stock.Stock.{Stock}

-- the slots
abbrev pub slots_by : Stock → Slots
slots_by s = record { ports = s.ports.items; free = reverse s.free.items }

-- those in the box, if there is one
abbrev pub slots_of : Option (Box Stock Global) → Slots
slots_of None = no_slots
slots_of (Some b) = slots_by b.value

-- so many ports may come, and so many may go, without memory
pub record HasPlaces (s : Stock) (n : ℕ) : Type 0 where
  pub to_come : vec_len s.ports + n ≤ vec_capacity s.ports
  pub to_go : vec_len s.free + n ≤ vec_capacity s.free
  pub numbers : vec_len s.ports + n ≤ 9223372036854775807

-- how many slots there are, how many there may be without memory, and the same of those that are free
abbrev pub slot_count : Option (Box Stock Global) → ℕ
slot_count None = 0
slot_count (Some b) = vec_len b.value.ports

abbrev pub slot_room : Option (Box Stock Global) → ℕ
slot_room None = 0
slot_room (Some b) = vec_capacity b.value.ports

abbrev pub free_count : Option (Box Stock Global) → ℕ
free_count None = 0
free_count (Some b) = vec_len b.value.free

abbrev pub free_room : Option (Box Stock Global) → ℕ
free_room None = 0
free_room (Some b) = vec_capacity b.value.free

-- so many may come, and so many may go; none where there is no box
pub record HasRoomIn (s : Option (Box Stock Global)) (n : ℕ) : Type 0 where
  pub to_come : slot_count s + n ≤ slot_room s
  pub to_go : free_count s + n ≤ free_room s
  pub numbers : slot_count s + n ≤ 9223372036854775807
