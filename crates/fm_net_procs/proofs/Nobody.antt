-- Who has no number can't step.
use Rattle.std.proofs.Common.{◌≡◌, ℕ, false, Option, Some, None, refl, ap, ◌∙◌}
use Rattle.fm_finmap.specs.Rows.{place_at, value_at}
use Rattle.fm_net.specs.Language.{Language}
use Rattle.fm_net.specs.Machine.{Place}
use Rattle.fm_net_procs.specs.declared.processes.Processes.{Processes}
use Rattle.fm_net_procs.specs.Readings.{order_of, state_of}
use Rattle.fm_net_procs.specs.Waiting.{can_at, can_in}
use Rattle.fm_net_procs.proofs.Maps.{found, there}
use Rattle.fm_net_procs.proofs.Steps.{steps_not}

pub nobody_can : {P L W X : Type 0} (seen : P → X) (language : Language X) (s : Processes P L W) (n : ℕ) → None ≡ value_at s.entries.rows n → can_at language (state_of seen s) (order_of s.entries) n ≡ false
nobody_can seen language s n e = go (place_at s.entries.rows n) refl
  where
    go : (o : Option Place) → place_at s.entries.rows n ≡ o → can_at language (state_of seen s) (order_of s.entries) n ≡ false
    go None is = ap (can_in language (state_of seen s)) is
    go (Some q) is = ap (can_in language (state_of seen s)) is ∙ steps_not language (state_of seen s) q (there seen s.entries q None (found s.entries n q None is e))
