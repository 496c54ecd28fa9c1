-- The ports that a process holds, by slots.
-- Source: this profile.
use Rattle.std.specs.Prelude.{ℕ, suc, pred, ℤ, pos, Option, Some, None, List, [], ◌∷◌, ◌++◌, length, option_to_list, slice_get, slice_set, unwrap_or, cond}
use Rattle.fm_base.specs.declared.port.PortValue.{PortValue}
use Rattle.fm_base.specs.declared.port.PortValue.TheVariants.{Reader}
use Rattle.fm_values.specs.Trips.{natural}
use Rattle.fm_code.specs.Passing.{is_port}

-- What stands in the slots, the first of which has number 1; and those that are free, by how many stand before them, in the
-- order in which they are used again.
pub record Slots : Type 0 where
  pub ports : List (Option PortValue)
  pub free : List ℕ

abbrev pub no_slots : Slots
no_slots = record { ports = []; free = [] }

-- how many slots stand before the one with this number
abbrev pub before : ℤ → ℕ
before z = pred (natural z)

abbrev pub no_port : PortValue
no_port = Reader (record { maker = []; number = 0 })

-- the port in a slot
abbrev pub in_slot : Slots → ℤ → Option PortValue
in_slot s z = unwrap_or (slice_get s.ports (before z)) None

abbrev pub port_in : Slots → ℤ → PortValue
port_in s z = unwrap_or (in_slot s z) no_port

-- a port comes to the free slot that is next, or else to a new one: its number, and the slots then
abbrev pub put_by : List ℕ → Slots → PortValue → ℤ × Slots
put_by [] s x = (pos (suc (length s.ports)), record { ports = s.ports ++ Some x ∷ []; free = [] })
put_by (k ∷ ks) s x = (pos (suc k), record { ports = slice_set s.ports k (Some x); free = ks })

abbrev pub put : Slots → PortValue → ℤ × Slots
put s x = put_by s.free s x

-- the word of what may be NULL
abbrev pub put_any : Slots → Option PortValue → ℤ × Slots
put_any s None = (pos 0, s)
put_any s (Some x) = put s x

-- a slot is free again
abbrev pub left : Slots → ℤ → Slots
left s z = record { ports = slice_set s.ports (before z) None; free = before z ∷ s.free }

abbrev pub all_left : Slots → List ℤ → Slots
all_left s [] = s
all_left s (z ∷ zs) = all_left (left s z) zs

-- a port leaves its slot, which no other port comes to any more
abbrev pub drained : Slots → ℤ → Slots
drained s z = record s { ports = slice_set s.ports (before z) None }

abbrev pub all_drained : Slots → List ℤ → Slots
all_drained s [] = s
all_drained s (z ∷ zs) = all_drained (drained s z) zs

-- the ports that stand in these slots, which are left one after the other
abbrev pub vacated : Slots → List ℤ → List PortValue
vacated s [] = []
vacated s (z ∷ zs) = option_to_list (in_slot s z) ++ vacated (left s z) zs

-- what stands at a port word, whose slot is left
abbrev pub taken : Slots → ℤ → Option PortValue × Slots
taken s z = cond (is_port z) (in_slot s z, left s z) (None, s)

abbrev pub all_taken : Slots → List ℤ → List (Option PortValue) × Slots
all_taken s [] = ([], s)
all_taken s (z ∷ zs) = ((taken s z).0 ∷ (all_taken (taken s z).1 zs).0, (all_taken (taken s z).1 zs).1)

-- the words of these, one after the other
abbrev pub all_put : Slots → List (Option PortValue) → List ℤ × Slots
all_put s [] = ([], s)
all_put s (x ∷ xs) = ((put_any s x).0 ∷ (all_put (put_any s x).1 xs).0, (all_put (put_any s x).1 xs).1)
