-- The greater numbers of kinds.
use Rattle.std.proofs.Common.{◌≡◌, ℕ, zero, suc, ◌≤◌, ℤ, List, refl, arith}
use Rattle.fm_mean.specs.declared.outcome.Shown.TheVariants as shown
use Rattle.fm_proc_language.specs.Slots.{Slots}
use Rattle.fm_shown.specs.Outcome.{channels_in}
use Rattle.fm_execute_image.specs.Outcome.{words_shown}

pub ports_from : (kind : ℕ) (s : Slots) (ws : List ℤ) → 2 ≤ kind → words_shown kind s ws ≡ shown.Ports (channels_in s ws)
ports_from zero s ws l = absurd (omega (arith, l))
ports_from (suc zero) s ws l = absurd (omega (arith, l))
ports_from (suc (suc k)) s ws l = refl
