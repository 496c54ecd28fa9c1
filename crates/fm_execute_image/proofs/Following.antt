-- What follows choices in the one follows them in the other, which does the same.
use Rattle.std.proofs.Common.{◌≡◌, ◌⊎◌, inl, inr, ℕ, suc, ◌+◌, ◌≤◌, true, false, Option, Some, None, List, [], ◌∷◌, ◌++◌, filter, length, replicate, refl, sym, ap, ap₂, subst, ◌∙◌, arith}
use Rattle.std.specs.Prelude.{is_some, slice_get}
use Rattle.std.specs.FinMap.{get}
use Rattle.fm_base.specs.declared.schedule.Turn.{Turn}
use Rattle.fm_sched.specs.Schedule.{IsLegal, play}
use Rattle.fm_net.specs.Correspondence.{AreAlike, BothOrNeither, StandsFor}
use Rattle.fm_net.specs.Machine.{Place, State}
use Rattle.fm_net.specs.Starts.{starts_along}
use Rattle.fm_run.specs.Orders.{can_at, can_in, chosen, in_turn, ready_after}
use Rattle.fm_run.specs.Pieces.{IsFull, after_steps, is_local_at, is_local_in}
use Rattle.fm_run.specs.Plays.{Play, first, language, step}
use Rattle.fm_run.specs.Runs.{Follows, FollowsFrom, Stand, after_entry, first_stand, place_of, steps_of}
use Rattle.fm_run_law.proofs.Pieces.{legal_part}
use Rattle.fm_execute_image.proofs.Alike.{waits}

pub same_tail : (a b : List Place) → ◌≡◌ {A = List Place} ([] ∷ a) ([] ∷ b) → a ≡ b
same_tail a b e = cc e

module _ (p q : Play) (Relates : q.Proc → p.Proc → Type 0) (IsLive : State p.Proc → Type 0) (alike : AreAlike Relates IsLive p.speaks q.speaks)
    (begins : StandsFor Relates IsLive (first q) (first p))
    (local : (x : p.Proc) (y : q.Proc) → Relates y x → q.is_local y ≡ p.is_local x) where
  abbrev Stands : State q.Proc → State p.Proc → Type 0
  Stands = StandsFor Relates IsLive

  module _ (s : State p.Proc) (t : State q.Proc) (stands : Stands t s) where
    steps_alike : (c : Place) → is_some (step q t c) ≡ is_some (step p s c)
    steps_alike c = go (step q t c) (step p s c) refl refl
      where
        go : (b : Option (State q.Proc × ℕ)) (a : Option (State p.Proc × ℕ)) → step q t c ≡ b → step p s c ≡ a → is_some b ≡ is_some a
        go None None f e = refl
        go (Some b) (Some a) f e = refl
        go (Some b) None f e = let can = alike.step.back s t c stands (b, f) in absurd (cc (sym e ∙ can.1))
        go None (Some a) f e = let can = alike.step.forth.can s t c stands (a, e) in absurd (cc (sym f ∙ can.1))

    local_alike : (c : Place) → is_local_at q t c ≡ is_local_at p s c
    local_alike c = go (get t.procs c) (get s.procs c) (stands.procs c)
      where
        go : (n : Option q.Proc) (o : Option p.Proc) → BothOrNeither Relates n o → is_local_in q n ≡ is_local_in p o
        go None None both = refl
        go None (Some x) both = absurd both
        go (Some y) None both = absurd both
        go (Some y) (Some x) both = local x y both

    can_in_alike : (o : Option Place) → can_in q t o ≡ can_in p s o
    can_in_alike None = refl
    can_in_alike (Some c) = steps_alike c

    can_alike : (places : List Place) (n : ℕ) → can_at q t places n ≡ can_at p s places n
    can_alike places n = can_in_alike (slice_get places n)

    able_alike : (places : List Place) (numbers : List ℕ) → filter (can_at q t places) numbers ≡ filter (can_at p s places) numbers
    able_alike places numbers = λ j. filter (λ (n : ℕ). can_alike places n j) numbers

    starts_same : (cs : List Place) → IsLegal (step p) s cs → starts_along (language q) t cs ≡ starts_along (language p) s cs
    starts_same cs legal = same_tail (starts_along (language q) t cs) (starts_along (language p) s cs) (alike.starts s t stands cs legal)

  -- ---- a piece

  module _ (s : State p.Proc) (t : State q.Proc) (stands : Stands t s) (slice : ℕ) (c : Place) (steps : ℕ) (full : IsFull p slice true s c steps) where
    stands_after : (k : ℕ) → k ≤ steps → Stands (after_steps q t c k) (after_steps p s c k)
    stands_after k low = alike.runs.state s t stands (replicate k c) (legal_part (step p) s c steps k low full.can)

    stops : ((steps ≡ slice) × (true ≡ true → is_local_at p (after_steps p s c steps) c ≡ true))
        ⊎ (((k : ℕ) × (steps ≡ k + 1) × (is_local_at p (after_steps p s c k) c ≡ false)) ⊎ ((steps ≤ slice) × (step p (after_steps p s c steps) c ≡ None)))
        → ((steps ≡ slice) × (true ≡ true → is_local_at q (after_steps q t c steps) c ≡ true))
        ⊎ (((k : ℕ) × (steps ≡ k + 1) × (is_local_at q (after_steps q t c k) c ≡ false)) ⊎ ((steps ≤ slice) × (step q (after_steps q t c steps) c ≡ None)))
    stops (inl h) = inl (h.0, λ e. local_alike (after_steps p s c steps) (after_steps q t c steps) (stands_after steps (omega arith)) c ∙ h.1 e)
    stops (inr (inl h)) = inr (inl (h.0, h.1, local_alike (after_steps p s c h.0) (after_steps q t c h.0) (stands_after h.0 (omega (arith, h.1))) c ∙ h.2))
    stops (inr (inr h)) = inr (inr (h.0, waits p q Relates IsLive alike (after_steps p s c steps) (after_steps q t c steps) (stands_after steps (omega arith)) c h.1))

    full_alike : IsFull q slice true t c steps
    full_alike = record {
      can = (alike.runs.legal s t stands (replicate steps c)).0 full.can;
      within = full.within;
      before = λ k low. local_alike (after_steps p s c k) (after_steps q t c k) (stands_after k (omega (arith, low))) c ∙ full.before k low;
      stops = stops full.stops;
    }

  -- ---- an entry

  module _ (a : Stand p.Proc) (b : Stand q.Proc) (stands : Stands b.state a.state) (places : b.places ≡ a.places) (able : b.able ≡ a.able) (e : Turn) (legal : IsLegal (step p) a.state (steps_of a.places e)) where
    entry_stands : Stands (after_entry q b e).state (after_entry p a e).state
    entry_stands =
        subst (λ (ps : List Place). Stands (play (step q) b.state (steps_of ps e)) (play (step p) a.state (steps_of a.places e))) (sym places)
        (alike.runs.state a.state b.state stands (steps_of a.places e) legal)

    entry_places : (after_entry q b e).places ≡ (after_entry p a e).places
    entry_places =
        ap₂ (λ (ps qs : List Place). ps ++ qs) places
        (ap (λ (ps : List Place). starts_along (language q) b.state (steps_of ps e)) places ∙ starts_same a.state b.state stands (steps_of a.places e) legal)

    entry_able : (after_entry q b e).able ≡ (after_entry p a e).able
    entry_able =
        (λ j. ready_after q (after_entry q b e).state (entry_places j) (able j) e.number)
        ∙ able_alike (after_entry p a e).state (after_entry q b e).state entry_stands (after_entry p a e).places (in_turn e.number a.able (length (after_entry p a e).places))

  module _ (slice : ℕ) (choices : List ℕ) where
    follows_from : (ts : List Turn) (n : ℕ) (a : Stand p.Proc) (b : Stand q.Proc) → Stands b.state a.state → b.places ≡ a.places → b.able ≡ a.able
        → FollowsFrom p slice choices n a ts → FollowsFrom q slice choices n b ts
    follows_from [] n a b stands places able h = tt
    follows_from (e ∷ ts) n a b stands places able h = (
      record {
        who = ap (chosen (slice_get choices n)) able ∙ h.0.who;
        full =
            subst (λ (c : Place). IsFull q slice true b.state c e.steps) (sym (ap (λ (ps : List Place). place_of ps e) places))
            (full_alike a.state b.state stands slice (place_of a.places e) e.steps h.0.full);
      },
      follows_from ts (suc n) (after_entry p a e) (after_entry q b e) (entry_stands a b stands places able e h.0.full.can) (entry_places a b stands places able e h.0.full.can) (entry_able a b stands places able e h.0.full.can) h.1,
    )

    pub follows_alike : (history : List Turn) → Follows p slice choices history → Follows q slice choices history
    follows_alike history h = follows_from history 0 (first_stand p) (first_stand q) begins refl (able_alike (first p) (first q) begins ([] ∷ []) (0 ∷ [])) h
