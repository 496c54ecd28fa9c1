-- Pieces are full.
use Rattle.std.proofs.Common.{◌≡◌, inl, inr, ℕ, zero, suc, ◌+◌, ◌<◌, ◌≤◌, Bool, true, false, Some, None, List, [], refl, sym, ap, ap₂, ◌∙◌, subst, arith}
use Rattle.std.specs.Prelude.{is_some}
use Rattle.fm_net.specs.Language.{Language, language_step}
use Rattle.fm_net.specs.Machine.{Place, State}
use Rattle.fm_net.specs.Starts.{child_places, starts_at}
use Rattle.fm_net_procs.specs.declared.piece.Piece.{Piece}
use Rattle.fm_net_procs.specs.Pieces.{IsFull, IsPiece, Makes, StepsOrWaits, after_steps, is_local_at, most_steps}
use Rattle.fm_net_procs.proofs.Steps.{makes_more, makes_none}

pub slice_within : (slice : ℕ) (spare : Bool) → slice ≤ most_steps slice spare
slice_within slice true = omega arith
slice_within slice false = omega arith

pub one_fits : (slice : ℕ) (spare : Bool) → 1 ≤ slice → 0 + 1 ≤ most_steps slice spare
one_fits slice true some = omega arith
one_fits slice false some = omega (arith, some)

module _ {X : Type 0} (language : Language X) (is_local : X → Bool) (slice : ℕ) (spare : Bool) (s t : State X) (p : Place) (steps cost : ℕ) (makes : Makes language s p steps t cost []) where
  -- a process pauses behind its steps
  pub pause_piece : 1 ≤ steps → IsFull language is_local slice spare s p steps → IsPiece language is_local slice spare s p (record { steps = steps; cost = cost; block = 0; started = 0 }) t
  pause_piece some full = record { makes = makes; some_steps = some; full = full }

  -- where it made none, nothing changed
  unchanged : steps ≡ 0 → s ≡ t
  unchanged none = go steps none makes.leads.there
    where
      go : (n : ℕ) → n ≡ 0 → after_steps language s p n ≡ t → s ≡ t
      go zero e there = there
      go (suc n) e there = absurd (cc e)

  module _ (each : (k : ℕ) → k < steps → is_local_at is_local (after_steps language s p k) p ≡ true) (within : steps ≤ slice) (room : steps + 1 ≤ most_steps slice spare)
      (shared : is_local_at is_local t p ≡ false) (can : is_some (language_step language s p) ≡ true) where
    some_steps : language_step language t p ≡ None → 1 ≤ steps
    some_steps waits = go steps refl
      where
        go : (n : ℕ) → steps ≡ n → 1 ≤ n
        go zero none = absurd (cc (sym can ∙ ap (λ (u : State X). is_some (language_step language u p)) (unchanged none) ∙ ap is_some waits))
        go (suc n) some = omega arith

    -- it can't step behind them
    waiting_piece : language_step language t p ≡ None → IsPiece language is_local slice spare s p (record { steps = steps; cost = cost; block = 0; started = 0 }) t
    waiting_piece waits = pause_piece (some_steps waits) (record {
      can = makes.leads.legal;
      within = omega (arith, within, slice_within slice spare);
      before = λ k low. each k (omega (arith, low));
      stops = inr (inr (within, ap (λ (u : State X). language_step language u p) makes.leads.there ∙ waits));
    })

    -- a step behind them that concerns others
    step_piece : (u : State X) (paid block started : ℕ) → language_step language t p ≡ Some (u, paid) → starts_at language t p ≡ child_places p block 1 started
        → IsPiece language is_local slice spare s p (record { steps = steps + 1; cost = cost + paid; block = block; started = started }) u
    step_piece u paid block started goes starts =
        let made = makes_more language s t p steps cost (u, paid) makes goes in
        record {
          makes = subst (λ (ps : List Place). Makes language s p (steps + 1) u (cost + paid) ps) starts made;
          some_steps = omega arith;
          full = record {
            can = made.leads.legal;
            within = room;
            before = λ k low. each k (omega (arith, low));
            stops = inr (inl (steps, refl, ap (λ (v : State X). is_local_at is_local v p) makes.leads.there ∙ shared));
          };
        }

    -- either
    pub meets_piece : (r : Piece) (u : State X) → StepsOrWaits language t p steps cost r u → IsPiece language is_local slice spare s p r u
    meets_piece r u (inl made) =
        let is : r ≡ record { steps = steps + 1; cost = cost + made.paid; block = r.block; started = r.started } =
        ap₂ (λ (n k : ℕ). record { steps = n; cost = k; block = r.block; started = r.started }) made.steps_are made.cost_is in
        subst (λ (q : Piece). IsPiece language is_local slice spare s p q u) (sym is) (step_piece u made.paid r.block r.started made.leads made.starts)
    meets_piece r u (inr waits) =
        subst (λ (q : Piece). IsPiece language is_local slice spare s p q u) (sym waits.piece)
        (subst (λ (v : State X). IsPiece language is_local slice spare s p (record { steps = steps; cost = cost; block = 0; started = 0 }) v) (sym waits.stays) (waiting_piece waits.waits))

-- a piece of one step that concerns others
pub one_piece : {X : Type 0} (language : Language X) (is_local : X → Bool) (slice : ℕ) (spare : Bool) (s u : State X) (p : Place) → 1 ≤ slice → is_local_at is_local s p ≡ false → is_some (language_step language s p) ≡ true
    → (r : Piece) → StepsOrWaits language s p 0 0 r u → IsPiece language is_local slice spare s p r u
one_piece language is_local slice spare s u p some shared can r made =
    meets_piece language is_local slice spare s s p 0 0 (makes_none language s p) (λ k low. absurd (omega (arith, low))) (omega (arith, some)) (one_fits slice spare some) shared can r u made
