-- Local steps are all that a slice lets a process do.
use Rattle.std.proofs.Common.{◌≡◌, ◌⊎◌, inl, inr, ℕ, zero, suc, ◌+◌, ◌<◌, ◌≤◌, Bool, true, false, Option, Some, None, [], replicate, refl, sym, ap, ◌∙◌, subst, arith}
use Rattle.std.specs.Prelude.{is_some, option_and_then}
use Rattle.std.specs.FinMap.{get}
use Rattle.fm_finmap.proofs.Inserts.{insert_here}
use Rattle.fm_sched.specs.Schedule.{IsLegal}
use Rattle.fm_net.specs.Machine.{Place, Procs, State}
use Rattle.fm_net.proofs.Keys.{path_order}
use Rattle.fm_net_procs.proofs.Slices.{slice_within}
use Rattle.fm_rules.specs.declared.program.Program.{Program}
use Rattle.fm_mean.specs.Process.{Proc}
use Rattle.fm_mean.specs.Actions.{local_step}
use Rattle.fm_mean.specs.Steps.{step}
use Rattle.fm_plain.specs.declared.advancing.Advanced.{Advanced}
use Rattle.fm_plain.specs.Advance.{HasRoom, has_local, local_steps, with_cost}
use Rattle.fm_plain_net.specs.Advances.{AdvancesAt}
use Rattle.fm_run.specs.Pieces.{most_steps}
use Rattle.fm_run.specs.Programs.{IsFull, Makes, after_steps, is_local_at, is_local_in}
use Rattle.fm_plain_net.proofs.Parts.{behind, there_behind, local_steps_make}
use Rattle.fm_plain_net.proofs.Steps.{with_process, makes_local}

module _ (program : Program) where
  -- before the last of several local steps there is one
  last_local : (n : ℕ) (x : Proc) (r : Proc × ℕ) → local_steps program (suc n) x ≡ Some r → (q : Proc × ℕ) × (local_steps program n x ≡ Some q) × (is_some (local_step program q.0) ≡ true)
  last_local n x r e = go (local_steps program n x) refl e
    where
      inner : (q : Proc × ℕ) (o : Option (Proc × ℕ)) → with_cost q.1 o ≡ Some r → is_some o ≡ true
      inner q None e' = absurd (cc e')
      inner q (Some l) e' = refl

      go : (o : Option (Proc × ℕ)) → local_steps program n x ≡ o → option_and_then (λ q. with_cost q.1 (local_step program q.0)) o ≡ Some r → (q : Proc × ℕ) × (local_steps program n x ≡ Some q) × (is_some (local_step program q.0) ≡ true)
      go None is e' = absurd (cc e')
      go (Some q) is e' = (q, is, inner q (local_step program q.0) e')

  local_along : (n : ℕ) (x : Proc) (r : Proc × ℕ) → local_steps program n x ≡ Some r → (k : ℕ) → k < n → (q : Proc × ℕ) × (local_steps program k x ≡ Some q) × (is_some (local_step program q.0) ≡ true)
  local_along zero x r e k low = absurd (omega arith)
  local_along (suc n) x r e k low =
      let last = last_local n x r e in
      go last (λ (h : k < n). local_along n x last.0 last.1 k h) (last_or_before k n low)
    where
      last_or_before : (k n : ℕ) → k < suc n → (k ≡ n) ⊎ (k < n)
      last_or_before k n h = grind arith

      go : (q : Proc × ℕ) × (local_steps program n x ≡ Some q) × (is_some (local_step program q.0) ≡ true)
          → (k < n → (q : Proc × ℕ) × (local_steps program k x ≡ Some q) × (is_some (local_step program q.0) ≡ true))
          → (k ≡ n) ⊎ (k < n) → (q : Proc × ℕ) × (local_steps program k x ≡ Some q) × (is_some (local_step program q.0) ≡ true)
      go last rest (inl same) = subst (λ (i : ℕ). (q : Proc × ℕ) × (local_steps program i x ≡ Some q) × (is_some (local_step program q.0) ≡ true)) (sym same) last
      go last rest (inr h) = rest h

-- room for one step more
pub room_for : (slice : ℕ) (spare : Bool) (steps : ℕ) → HasRoom slice spare steps → steps + 1 ≤ most_steps slice spare
room_for slice true steps room = omega (arith, room.0)
room_for slice false steps room = let low = room.1 refl in omega (arith, low)

module _ (program : Program) (slice : ℕ) (spare : Bool) (s : State Proc) (p : Place) (x : Proc) (is : get s.procs p ≡ Some x) (a : Advanced) (m : Procs Proc) (at : AdvancesAt program slice spare p x a s.procs m) where
  abbrev pub stood : State Proc
  stood = behind program slice spare s p x is a m at

  pub made_there : Makes program s p a.steps stood a.cost []
  made_there = local_steps_make program slice spare s p x is a m at

  there : get stood.procs p ≡ Some at.advanced.stopped
  there = there_behind program slice spare s p x is a m at

  -- each of its local steps is one
  pub each_local : (k : ℕ) → k < a.steps → is_local_at program (after_steps program s p k) p ≡ true
  each_local k low =
      let q = local_along program a.steps x (at.advanced.stopped, a.cost) at.advanced.made k low in
      let led : after_steps program s p k ≡ with_process program s p q.0.0 = (makes_local program k s p x q.0 is q.1).leads.there in
      ap (λ (t : State Proc). is_local_at program t p) led ∙ ap (is_local_in program) (insert_here path_order s.procs p q.0.0) ∙ q.2

  they_lead : after_steps program s p a.steps ≡ stood
  they_lead = made_there.leads.there

  -- what stands behind them
  local_there : is_local_at program (after_steps program s p a.steps) p ≡ has_local program at.advanced.stopped
  local_there = ap (λ (t : State Proc). is_local_at program t p) they_lead ∙ ap (is_local_in program) there

  -- all its steps
  pub whole_full : a.steps ≡ slice → (spare ≡ true → has_local program at.advanced.stopped ≡ true) → IsFull program slice spare s p a.steps
  whole_full whole own = record {
    can = made_there.leads.legal;
    within = omega (arith, whole, slice_within slice spare);
    before = λ k low. each_local k (omega arith);
    stops = inl (whole, λ e. local_there ∙ own e);
  }

  -- and one more that isn't local
  pub step_full : HasRoom slice spare a.steps → local_step program at.advanced.stopped ≡ None → IsLegal (step program) s (replicate (a.steps + 1) p) → IsFull program slice spare s p (a.steps + 1)
  step_full room none can = record {
    can = can;
    within = room_for slice spare a.steps room;
    before = λ k low. each_local k (omega arith);
    stops = inr (inl (a.steps, refl, local_there ∙ ap is_some none));
  }
