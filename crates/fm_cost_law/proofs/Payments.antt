-- What so many quiet steps of one process cost: each what its process owes and 131,074 turns, and 65,536 for each sized field of a
-- message, less what it owes then.
use Rattle.std.proofs.Common.{◌≡◌, ℕ, zero, suc, ◌+◌, ◌*◌, ◌≤◌, Some, List, [], ◌∷◌, ◌++◌, replicate, sym, ap, ◌∙◌, arith}
use Rattle.std.proofs.Math.Nat.{mul-suc}
use Rattle.std.specs.FinMap.{get}
use Rattle.fm_finmap.specs.Changes.{alters}
use Rattle.fm_finmap.proofs.Alters.{alter_here}
use Rattle.fm_sched.specs.Schedule.{IsLegal, Throughout, cost, next, play, used}
use Rattle.fm_sched.proofs.Runs.{cost-Some, next-Some}
use Rattle.fm_net.specs.Machine.{Place, State, made, need_changes, start_changes}
use Rattle.fm_net.proofs.Keys.{path_order}
use Rattle.fm_net.proofs.Taken.{taken}
use Rattle.fm_rules.specs.declared.program.Program.{Program}
use Rattle.fm_mean.specs.Process.{Proc, emptied}
use Rattle.fm_mean.specs.Owed.{HaveShortMessages, SizesAtMost, owed}
use Rattle.fm_mean.specs.Steps.{first, language, step}
use Rattle.fm_mean.proofs.StepCosts.{paid_along, quiet_costs, short_along}
use Rattle.fm_cost_law.specs.Quiet.{AreQuiet}

-- the process that steps, before and after
record IsStep (p : Program) (s : State Proc) (q : Place) (t : State Proc × ℕ) : Type 0 where
  self : Proc
  there : get s.procs q ≡ Some self
  after : Proc
  stays : get t.0.procs q ≡ Some after

module _ (p : Program) (q : Place) where
  stepped : (s : State Proc) (t : State Proc × ℕ) → step p s q ≡ Some t → IsStep p s q t
  stepped s t is =
      let k = taken (language p) s q t is in
      let b = k.start in
      let o = b.goes (made q b.need) b.reply in
      let rest = alters (start_changes q o.block 1 o.starts ++ need_changes emptied q b.need) s.procs in
      record {
        self = b.self;
        there = b.is;
        after = o.self;
        stays = sym (ap (λ (t : State Proc × ℕ). get t.0.procs q) k.there) ∙ alter_here path_order rest q (λ v. Some o.self);
      }

  -- the most that a step costs more than its process owes less
  abbrev most : ℕ → ℕ
  most sizes = 131074 + 65536 * sizes

  paid_steps : (sizes : ℕ) → SizesAtMost sizes p → (n : ℕ) (s : State Proc) (x : Proc) → Throughout (step p) (HaveShortMessages sizes) s → get s.procs q ≡ Some x
      → IsLegal (step p) s (replicate n q) → AreQuiet p q n s → used (step p) s (replicate n q) ≤ most sizes * n + owed x
  paid_steps sizes few_sizes zero s x short there legal quiet = omega arith
  paid_steps sizes few_sizes (suc n) s x short there legal quiet =
      let t = legal.0.0 in
      let is = legal.0.1 in
      let k = stepped s t is in
      let few : t.1 + owed k.after ≤ most sizes + owed x = quiet_costs p sizes few_sizes s q t x k.after (short [] tt) is there k.stays (quiet.0 x there) in
      let on : next (step p) s q ≡ t.0 = next-Some (step p) s q t is in
      let price : cost (step p) s q ≡ t.1 = cost-Some (step p) s q t is in
      let stays : get (next (step p) s q).procs q ≡ Some k.after = ap (λ (u : State Proc). get u.procs q) on ∙ k.stays in
      let rest = paid_steps sizes few_sizes n (next (step p) s q) k.after (λ cs more. short (q ∷ cs) (legal.0, more)) stays legal.1 quiet.1 in
      omega (arith, few, price, rest, mul-suc (most sizes) n)

  -- what holds along every schedule holds along those that go on behind one
  later : (Fact : State Proc → Type 0) (cs : List Place) (s : State Proc) → Throughout (step p) Fact s → IsLegal (step p) s cs → Throughout (step p) Fact (play (step p) s cs)
  later Fact [] s all legal = all
  later Fact (c ∷ cs) s all legal = later Fact cs (next (step p) s c) (λ ds more. all (c ∷ ds) (legal.0, more)) legal.1

  paid_entry : (sizes : ℕ) → SizesAtMost sizes p → (cs : List Place) → IsLegal (step p) (first p) cs → (n : ℕ) → IsLegal (step p) (play (step p) (first p) cs) (replicate n q) → AreQuiet p q n (play (step p) (first p) cs)
      → used (step p) (play (step p) (first p) cs) (replicate n q) ≤ most sizes * n + used (step p) (first p) cs
  paid_entry sizes few_sizes cs legal zero more quiet = omega arith
  paid_entry sizes few_sizes cs legal (suc n) more quiet =
      let s = play (step p) (first p) cs in
      let k = stepped s more.0.0 more.0.1 in
      let short = later (HaveShortMessages sizes) cs (first p) (short_along sizes p few_sizes) legal in
      let all = paid_steps sizes few_sizes (suc n) s k.self short k.there more quiet in
      let owes = paid_along p cs legal q k.self k.there in
      omega (arith, all, owes)

pub entries_paid : (p : Program) (sizes : ℕ) → SizesAtMost sizes p → (cs : List Place) → IsLegal (step p) (first p) cs → (q : Place) (n : ℕ) → IsLegal (step p) (play (step p) (first p) cs) (replicate n q) → AreQuiet p q n (play (step p) (first p) cs)
    → used (step p) (play (step p) (first p) cs) (replicate n q) ≤ (131074 + 65536 * sizes) * n + used (step p) (first p) cs
entries_paid p sizes few_sizes cs legal q n more quiet = paid_entry p q sizes few_sizes cs legal n more quiet
