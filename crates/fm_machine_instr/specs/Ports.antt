-- What stands at the port words of a frame.
-- Source: this profile.
use Rattle.std.specs.Prelude.{◌≡◌, ℤ, pos, false, Option, Some, None}
use Rattle.std.specs.Ordering.{int_eq}
use Rattle.fm_machine_instr.specs.declared.asking.Port.{Port}
use Rattle.fm_machine_instr.specs.declared.asking.Port.TheVariants as port

-- what stands at a word, if the frame has it: 0 for NULL, or a slot
abbrev pub IsPort : Port → Option ℤ → Type 0
IsPort (port.Slot z) word = (word ≡ Some z) × (int_eq z (pos 0) ≡ false)
IsPort port.Null word = word ≡ Some (pos 0)
IsPort port.Nothing word = word ≡ None
