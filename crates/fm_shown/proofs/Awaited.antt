-- The first of some children that hasn't ended.
use Rattle.std.proofs.Common.{◌≡◌, ℕ, suc, ◌+◌, ◌-◌, ◌<◌, true, false, cond, Option, Some, None, refl, ap, ◌∙◌, arith}
use Rattle.std.specs.FinMap.{get}
use Rattle.fm_net.specs.Machine.{Place, Procs, child}
use Rattle.fm_proc_language.specs.Processes.{CodeProc}
use Rattle.fm_procs.specs.Waiting as stacks
use Rattle.fm_shown.specs.Outcome.{awaited, ended_at}

pub same_ended : (o : Option CodeProc) → stacks.ended_at o ≡ ended_at o
same_ended None = refl
same_ended (Some y) = refl

module _ (m : Procs CodeProc) (p : Place) (b : ℕ) where
  -- where one child more has ended, another is waited for
  pub awaited_more : (count place : ℕ) → place < count → ended_at (get m (child p b (place + 1))) ≡ true → awaited m p b (place + 1) (count - place) ≡ awaited m p b (place + 1 + 1) (count - (place + 1))
  awaited_more count place low done =
      let left : count - place ≡ suc (count - (place + 1)) = omega arith in
      let next : suc (place + 1) ≡ place + 1 + 1 = omega arith in
      ap (awaited m p b (place + 1)) left ∙ ap (λ c. cond c (awaited m p b (suc (place + 1)) (count - (place + 1))) (Some (child p b (place + 1)))) done
      ∙ ap (λ (k : ℕ). awaited m p b k (count - (place + 1))) next

  -- where one child hasn't ended, it is waited for
  pub awaited_here : (count place : ℕ) → place < count → ended_at (get m (child p b (place + 1))) ≡ false → awaited m p b (place + 1) (count - place) ≡ Some (child p b (place + 1))
  awaited_here count place low this =
      let left : count - place ≡ suc (count - (place + 1)) = omega arith in
      ap (awaited m p b (place + 1)) left ∙ ap (λ c. cond c (awaited m p b (suc (place + 1)) (count - (place + 1))) (Some (child p b (place + 1)))) this
