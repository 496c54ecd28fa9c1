-- The children of a block that is joined, by their numbers, and processes in other words of this crate and of the table.
use Rattle.std.proofs.Common.{◌≡◌, ℕ, Some, None, List, [], ◌∷◌, length, refl, sym, ap, subst, ◌∙◌, arith}
use Rattle.std.specs.List.{AllByRecursion}
use Rattle.fm_net.specs.Machine.{Place}
use Rattle.fm_net_procs.specs.Kept.{AreChildren, count_awaited}
use Rattle.fm_net_procs.proofs.Awaiting.{two}
use Rattle.fm_rules.specs.declared.program.Program.{Program}
use Rattle.fm_mean.specs.Actions.{Join, Meets, action_in, action_of, joining}
use Rattle.fm_mean.specs.Process.{Ended, Faulted, Frame, Joining, Kid, Phase, Proc, Running}
use Rattle.fm_plain_replies.specs.Joins.{kids_in}
use Rattle.fm_plain_net.specs.Held.{HasFamily}
use Rattle.fm_run.specs.Awaited.{awaited_in, awaits}

-- who joins a block has its children told
module _ (program : Program) (x : Proc) (block next : ℕ) (does : action_of program x ≡ Meets (Join block (kids_in x.phase) next)) (ps : List Place) (first : ℕ) (p : Place) where
  none_left : (count : ℕ) → count ≡ 0 → AreChildren ps first p block count
  none_left count none i low = absurd (omega (arith, low, none))

  one_block : (b n : ℕ) (kids : List Kid) → Meets (Join b kids n) ≡ Meets (Join block kids next) → b ≡ block
  one_block b n kids e = cc e

  waits_so : (b : ℕ) (kids : List Kid) (fs : List Frame) → joining program b kids fs ≡ Meets (Join block kids next) → b ≡ block
  waits_so b kids [] e = absurd (cc e)
  waits_so b kids (f ∷ below) e = one_block b _ kids e

  pub joined_family : HasFamily ps p x.phase first → (count : ℕ) → count ≡ length (kids_in x.phase) → AreChildren ps first p block count
  joined_family = go x.phase does
    where
      go : (phase : Phase) → action_in program x.execution phase ≡ Meets (Join block (kids_in phase) next) → HasFamily ps p phase first → (count : ℕ) → count ≡ length (kids_in phase) → AreChildren ps first p block count
      go Running e has count is = none_left count is
      go Ended e has count is = none_left count is
      go (Faulted line fault) e has count is = none_left count is
      go (Joining b kids) e has count is =
          subst (λ (k : ℕ). AreChildren ps first p block k) (sym is) (subst (λ (k : ℕ). AreChildren ps first p k (length kids)) (waits_so b kids x.execution.frames e) (has b (length kids) refl))

-- how many children are waited for
pub kids_awaited : (phase : Phase) → count_awaited (awaited_in phase) ≡ length (kids_in phase)
kids_awaited Running = refl
kids_awaited (Joining block kids) = refl
kids_awaited Ended = refl
kids_awaited (Faulted line fault) = refl

-- whoever waits so waits for children that are told by its phase
pub waits_by_phase : (phase : Phase) (block n : ℕ) → ((b : ℕ) (kids : List Kid) → phase ≡ Joining b kids → (b ≡ block) × (length kids ≡ n)) → (b k : ℕ) → awaited_in phase ≡ Some (b, k) → (b ≡ block) × (k ≡ n)
waits_by_phase Running block n waits b k e = absurd (cc e)
waits_by_phase (Joining c kids) block n waits b k e =
    let same = two e in
    let w = waits c kids refl in
    (sym same.0 ∙ w.0, sym same.1 ∙ w.1)
waits_by_phase Ended block n waits b k e = absurd (cc e)
waits_by_phase (Faulted line fault) block n waits b k e = absurd (cc e)

-- those that run wait for nobody
pub run_alone : (xs : List Proc) → AllByRecursion (λ (y : Proc). y.phase ≡ Running) xs → AllByRecursion (λ (y : Proc). awaits y ≡ None) xs
run_alone [] all = tt
run_alone (x ∷ xs) all = (ap awaited_in all.0, run_alone xs all.1)
