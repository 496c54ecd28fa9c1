-- For which children a process waits, by its phase.
use Rattle.std.proofs.Common.{◌≡◌, ℕ, Some, None, List, [], ◌∷◌, length, refl, sym, ap, ◌∙◌}
use Rattle.std.specs.List.{AllByRecursion}
use Rattle.fm_net_procs.specs.Kept.{count_awaited}
use Rattle.fm_net_procs.proofs.Awaiting.{two}
use Rattle.fm_proc_language.specs.Processes.{CodeProc, Ended, Faulted, Joining, Kid, Phase, Running}
use Rattle.fm_procs.specs.Readings.{awaited_in, awaits}
use Rattle.fm_procs.specs.Waiting.{kids_in}

-- how many children are waited for
pub kids_awaited : (phase : Phase) → count_awaited (awaited_in phase) ≡ length (kids_in phase)
kids_awaited Running = refl
kids_awaited (Joining block kids) = refl
kids_awaited Ended = refl
kids_awaited (Faulted line fault) = refl

-- whoever waits so waits for children that are told by its phase
pub waits_by_phase : (phase : Phase) (block n : ℕ) → ((b : ℕ) (kids : List Kid) → phase ≡ Joining b kids → (b ≡ block) × (length kids ≡ n)) → (b k : ℕ) → awaited_in phase ≡ Some (b, k) → (b ≡ block) × (k ≡ n)
waits_by_phase Running block n waits b k e = absurd (cc e)
waits_by_phase (Joining c kids) block n waits b k e =
    let same = two e in
    let w = waits c kids refl in
    (sym same.0 ∙ w.0, sym same.1 ∙ w.1)
waits_by_phase Ended block n waits b k e = absurd (cc e)
waits_by_phase (Faulted line fault) block n waits b k e = absurd (cc e)

-- those that run wait for nobody
pub run_alone : (xs : List CodeProc) → AllByRecursion (λ (y : CodeProc). y.phase ≡ Running) xs → AllByRecursion (λ (y : CodeProc). awaits y ≡ None) xs
run_alone [] all = tt
run_alone (x ∷ xs) all = (ap awaited_in all.0, run_alone xs all.1)
