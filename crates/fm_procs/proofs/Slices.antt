-- Pieces are full.
use Rattle.std.proofs.Common.{◌≡◌, inl, inr, ℕ, zero, suc, ◌+◌, ◌<◌, ◌≤◌, Bool, true, false, ◌==◌, ◌&&◌, Some, None, List, [], replicate, refl, sym, ap, ap₂, ◌∙◌, subst, arith}
use Rattle.std.specs.Prelude.{is_some}
use Rattle.std.proofs.lemmas.Bool.{eq-eqb, eqb-true}
use Rattle.std.specs.FinMap.{get}
use Rattle.fm_finmap.proofs.Inserts.{insert_here}
use Rattle.fm_sched.specs.Schedule.{IsLegal}
use Rattle.fm_net.specs.Machine.{Place, Procs, State}
use Rattle.fm_net.proofs.Keys.{path_order}
use Rattle.fm_net.specs.Starts.{child_places, starts_at}
use Rattle.fm_proc_language.specs.Needs.{is_local}
use Rattle.fm_proc_language.specs.Processes.{CodeProc, Phase, code_language}
use Rattle.fm_machine_calls.specs.declared.looking.Look.TheVariants as look
use Rattle.fm_procs.specs.declared.advancing.Advanced.{Advanced}
use Rattle.fm_procs.specs.Runs.{with_ran}
use Rattle.fm_proc_events.specs.Told.{is_running, look_of, runs_by}
use Rattle.fm_net_procs.specs.declared.piece.Piece.{Piece as CodePiece}
use Rattle.fm_procs.specs.Pieces.{Finishes, IsFull, IsNewAlong, IsNewAt, IsPiece, Makes, StepsOrWaits, after_steps, is_local_at, is_local_in, is_used_up, most_steps}
use Rattle.fm_procs.specs.Readings.{code_step}
use Rattle.fm_procs.specs.Stepping.{AdvancesAt}
use Rattle.fm_procs.proofs.Looked.{goes_local}
use Rattle.fm_procs.proofs.Statements.{each_local, makes_more, makes_none, makes_run, with_process}
use native.Mathlib.Decide.{ℕ_discrete}

and_false : (b : Bool) → (b && false) ≡ false
and_false true = refl
and_false false = refl

-- a slice that is used up, with no step to spare
pub used_both : (n m : ℕ) (b : Bool) → is_used_up n m b ≡ true → (n ≡ m) × (b ≡ false)
used_both n m true e = absurd (cc (sym (and_false (n == m)) ∙ e))
used_both n m false e = (eqb-true n m (whole (n == m) e), refl)
  where
    whole : (t : Bool) → (t && true) ≡ true → t ≡ true
    whole true h = refl
    whole false h = h

room_for : (n m : ℕ) (b : Bool) → n ≤ m → is_used_up n m b ≡ false → n + 1 ≤ most_steps m b
room_for n m true within e = omega (arith, within)
room_for n m false within e = elim (ℕ_discrete n m) [
  | yes same ↦ absurd (cc (sym (ap (λ (t : Bool). t && true) (eq-eqb n m same)) ∙ e))
  | no less ↦ omega (arith, within, less)
]

module _ (slice : ℕ) (s : State CodeProc) (p : Place) (y : CodeProc) (is : get s.procs p ≡ Some y) (a : Advanced) (m : Procs CodeProc) (at : AdvancesAt slice p y a s.procs m) where
  -- where its statements lead
  abbrev pub behind : State CodeProc
  behind = with_process s p at.after

  pub there_behind : get behind.procs p ≡ Some at.after
  there_behind = insert_here path_order s.procs p at.after

  pub procs_behind : record { procs = m; chans = s.chans } ≡ behind
  procs_behind = ap (λ (n : Procs CodeProc). record { procs = n; chans = s.chans }) at.procs_are

  pub statements_make : Makes s p a.steps behind a.cost []
  statements_make =
      let k = at.runs in
      subst (λ (z : CodeProc). Makes s p a.steps (with_process s p z) a.cost []) (sym k.is_after)
      (subst (λ (c : ℕ). Makes s p a.steps (with_process s p (with_ran y k.after)) c []) (sym k.cost_is) (makes_run y k.before k.running k.is_before s p is a.steps k.after k.ran))

  pub each_is_local : (k : ℕ) → k < a.steps → is_local_at (after_steps s p k) p ≡ true
  each_is_local = each_local y at.runs.before at.runs.running at.runs.is_before s p is a.steps at.runs.after at.runs.ran

  -- what is new along all its steps is so behind these
  pub new_behind : IsNewAlong s p → IsNewAt behind p
  new_behind new = subst (λ (t : State CodeProc). IsNewAt t p) statements_make.leads.there (new a.steps statements_make.leads.legal)

  -- where it made none, nothing changed
  unchanged : a.steps ≡ 0 → s ≡ behind
  unchanged none = go a.steps none statements_make.leads.there
    where
      go : (n : ℕ) → n ≡ 0 → after_steps s p n ≡ behind → s ≡ behind
      go zero e there = there
      go (suc n) e there = absurd (cc e)

  -- what it does next is told
  pub told_behind : (z : CodeProc) → get m p ≡ Some z → a.next ≡ look_of z
  told_behind z there =
      let same : at.after ≡ z = cc (sym there_behind ∙ ap (λ (n : Procs CodeProc). get n p) (sym at.procs_are) ∙ there) in
      at.next ∙ ap look_of same

  running_behind : is_running at.after ≡ true
  running_behind = ap is_running at.runs.is_after ∙ ap (λ (phase : Phase). runs_by phase (Some at.runs.after.body)) at.runs.running

  -- the next one is its own where it asks for nothing
  pub own_behind : a.next ≡ look.Goes → is_local_at behind p ≡ true
  own_behind goes = ap is_local_in there_behind ∙ goes_local at.after running_behind (sym at.next ∙ goes)

  -- where the next one is its own, the slice is used up
  pub used_up : is_local_at behind p ≡ true → a.steps ≡ slice
  used_up own = elim (ℕ_discrete a.steps slice) [
    | yes e ↦ e
    | no few ↦ absurd (cc (sym own ∙ ap is_local_in there_behind ∙ at.stops few))
  ]

  module _ (spare : Bool) where
    most_of : slice ≤ most_steps slice spare
    most_of = elim spare as (λ b. slice ≤ most_steps slice b) [ true ↦ omega arith | false ↦ omega arith ]

    local_piece : 1 ≤ a.steps → IsFull slice spare s p a.steps → IsPiece slice spare s p (record { steps = a.steps; cost = a.cost; block = 0; started = 0 }) behind
    local_piece some full = record { makes = statements_make; some_steps = some; full = full }

    -- the whole slice
    pub whole_piece : a.steps ≡ slice → 1 ≤ slice → (spare ≡ true → is_local_at behind p ≡ true) → IsPiece slice spare s p (record { steps = a.steps; cost = a.cost; block = 0; started = 0 }) behind
    whole_piece whole some own = local_piece (omega arith) (record {
      can = statements_make.leads.legal;
      within = omega (arith, at.within, most_of);
      before = λ k low. each_is_local k (omega arith);
      stops = inl (whole, λ e. ap (λ (t : State CodeProc). is_local_at t p) statements_make.leads.there ∙ own e);
    })

    -- it can't step behind them
    pub waiting_piece : is_some (code_step s p) ≡ true → code_step behind p ≡ None → IsPiece slice spare s p (record { steps = a.steps; cost = a.cost; block = 0; started = 0 }) behind
    waiting_piece can waits = local_piece (go a.steps refl) (record {
      can = statements_make.leads.legal;
      within = omega (arith, at.within, most_of);
      before = λ k low. each_is_local k (omega arith);
      stops = inr (inr (at.within, ap (λ (t : State CodeProc). code_step t p) statements_make.leads.there ∙ waits));
    })
      where
        go : (n : ℕ) → a.steps ≡ n → 1 ≤ n
        go zero none = absurd (cc (sym can ∙ ap (λ (t : State CodeProc). is_some (code_step t p)) (unchanged none) ∙ ap is_some waits))
        go (suc n) some = omega arith

    step_full : a.steps + 1 ≤ most_steps slice spare → is_local_at behind p ≡ false → IsLegal code_step s (replicate (a.steps + 1) p) → IsFull slice spare s p (a.steps + 1)
    step_full room shared can =
        let last : is_local_at (after_steps s p a.steps) p ≡ false = ap (λ (t : State CodeProc). is_local_at t p) statements_make.leads.there ∙ shared in
        record {
          can = can;
          within = room;
          before = λ k low. each_is_local k (omega arith);
          stops = inr (inl (a.steps, refl, last));
        }

    -- a step behind them that concerns others
    step_piece : a.steps + 1 ≤ most_steps slice spare → is_local_at behind p ≡ false → (t : State CodeProc) (cost block started : ℕ) → code_step behind p ≡ Some (t, cost) → starts_at code_language behind p ≡ child_places p block 1 started
        → IsPiece slice spare s p (record { steps = a.steps + 1; cost = a.cost + cost; block = block; started = started }) t
    step_piece room shared t cost block started goes starts =
        let made = makes_more s behind p a.steps a.cost (t, cost) statements_make goes in
        record {
          makes = subst (λ (ps : List Place). Makes s p (a.steps + 1) t (a.cost + cost) ps) starts made;
          some_steps = omega arith;
          full = step_full room shared made.leads.legal;
        }

    behind_piece : a.steps + 1 ≤ most_steps slice spare → 1 ≤ slice → is_some (code_step s p) ≡ true → (r : CodePiece) (t : State CodeProc) → Finishes behind p a.steps a.cost r t → IsPiece slice spare s p r t
    behind_piece room some can r t (inl h) =
        let is_so : r ≡ record { steps = a.steps + 1; cost = a.cost + h.1.paid; block = r.block; started = r.started } =
        ap₂ (λ (n k : ℕ). record { steps = n; cost = k; block = r.block; started = r.started }) h.1.steps_are h.1.cost_is in
        subst (λ (q : CodePiece). IsPiece slice spare s p q t) (sym is_so) (step_piece room h.0 t h.1.paid r.block r.started h.1.leads h.1.starts)
    behind_piece room some can r t (inr (inl waits)) =
        subst (λ (q : CodePiece). IsPiece slice spare s p q t) (sym waits.piece)
        (subst (λ (u : State CodeProc). IsPiece slice spare s p (record { steps = a.steps; cost = a.cost; block = 0; started = 0 }) u) (sym waits.stays)
        (waiting_piece can waits.waits))
    behind_piece room some can r t (inr (inr pauses)) =
        subst (λ (q : CodePiece). IsPiece slice spare s p q t) (sym pauses.piece)
        (subst (λ (u : State CodeProc). IsPiece slice spare s p (record { steps = a.steps; cost = a.cost; block = 0; started = 0 }) u) (sym pauses.stays)
        (whole_piece (used_up pauses.own) some (λ e. pauses.own)))

    -- what comes behind them, where there is room for it
    pub finished_piece : a.steps + 1 ≤ most_steps slice spare → 1 ≤ slice → is_some (code_step s p) ≡ true → (r : CodePiece) (t : State CodeProc) → Finishes (record { procs = m; chans = s.chans }) p a.steps a.cost r t → IsPiece slice spare s p r t
    finished_piece room some can r t does = behind_piece room some can r t (subst (λ (u : State CodeProc). Finishes u p a.steps a.cost r t) procs_behind does)

    -- there is room for a step behind a slice that isn't used up, or has one to spare
    pub room_behind : is_used_up a.steps slice spare ≡ false → a.steps + 1 ≤ most_steps slice spare
    room_behind e = room_for a.steps slice spare at.within e

-- what a process comes to that asks for something concerns others
pub finishes_asked : (s : State CodeProc) (p : Place) (steps cost : ℕ) (r : CodePiece) (t : State CodeProc) → is_local_at s p ≡ false → StepsOrWaits s p steps cost r t → Finishes s p steps cost r t
finishes_asked s p steps cost r t shared (inl made) = inl (shared, made)
finishes_asked s p steps cost r t shared (inr waits) = inr (inl waits)

one_fits : (slice : ℕ) (spare : Bool) → (spare ≡ false → 1 ≤ slice) → 1 ≤ most_steps slice spare
one_fits slice true some = omega arith
one_fits slice false some = some refl

-- a piece of one step that concerns others
pub one_piece : (slice : ℕ) (spare : Bool) (s t : State CodeProc) (p : Place) (y : CodeProc) → get s.procs p ≡ Some y → (spare ≡ false → 1 ≤ slice) → is_local y ≡ false → (r : CodePiece) (paid : ℕ) → code_step s p ≡ Some (t, paid) → starts_at code_language s p ≡ child_places p r.block 1 r.started
    → r.steps ≡ 0 + 1 → r.cost ≡ 0 + paid → IsPiece slice spare s p r t
one_piece slice spare s t p y is some shared r paid goes starts steps_are cost_is =
    let made : Makes s p 1 t (0 + paid) (starts_at code_language s p) = makes_more s s p 0 0 (t, paid) (makes_none s p) goes in
    let is_so : r ≡ record { steps = 1; cost = 0 + paid; block = r.block; started = r.started } =
    ap₂ (λ (n k : ℕ). record { steps = n; cost = k; block = r.block; started = r.started }) steps_are cost_is in
    subst (λ (q : CodePiece). IsPiece slice spare s p q t) (sym is_so) (record {
      makes = subst (λ (ps : List Place). Makes s p 1 t (0 + paid) ps) starts made;
      some_steps = omega arith;
      full = record {
        can = made.leads.legal;
        within = one_fits slice spare some;
        before = λ k low. absurd (omega arith);
        stops = inr (inl (0, refl, ap is_local_in is ∙ shared));
      };
    })
