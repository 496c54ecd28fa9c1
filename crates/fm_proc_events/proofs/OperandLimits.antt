-- Operands as the limits of a receive.
use Rattle.std.proofs.Common.{◌≡◌, ℤ, true, List, [], ◌∷◌, length, map, refl, arith}
use Rattle.fm_base.specs.Channels.{Words, fits_limits}
use Rattle.fm_chan.specs.declared.message.Item.{Item}
use Rattle.fm_chan.specs.Items.{plain_item}
use Rattle.fm_code.specs.declared.ask.Operand.{Operand}
use Rattle.fm_proc_language.specs.Processes.{limits_of}

-- where there are none, any message fits
pub no_operands : (os : List Operand) (is : List Item) → length os ≡ 0 → true ≡ fits_limits (limits_of os) (map plain_item is)
no_operands [] is none = refl
no_operands (o ∷ os) is none = absurd (omega (arith, none))

pub word_unbounded : (os : List Operand) (w : ℤ) → length os ≡ 0 → true ≡ fits_limits (limits_of os) (Words (w ∷ []) ∷ [])
word_unbounded [] w none = refl
word_unbounded (o ∷ os) w none = absurd (omega (arith, none))
