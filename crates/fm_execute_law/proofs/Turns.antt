-- What follows choices in what stands for something else, and does the same, follows them in that.
use Rattle.std.proofs.Common.{◌≡◌, ◌⊎◌, inl, inr, ℕ, suc, ◌+◌, ◌≤◌, true, false, Option, Some, None, List, [], ◌∷◌, ◌++◌, filter, length, replicate, refl, sym, ap, ap₂, subst, ◌∙◌, arith}
use Rattle.std.specs.Prelude.{is_some, slice_get}
use Rattle.std.specs.FinMap.{get}
use Rattle.fm_base.specs.declared.schedule.Turn.{Turn}
use Rattle.fm_sched.specs.Schedule.{IsLegal, play}
use Rattle.fm_net.specs.Correspondence.{AreAlike, BothOrNeither, StandsFor}
use Rattle.fm_net.specs.Machine.{Place, State}
use Rattle.fm_net.specs.Starts.{starts_along}
use Rattle.fm_run.specs.Orders.{can_at, can_in, chosen, in_turn, ready_after}
use Rattle.fm_run.specs.Pieces.{IsFull, after_steps, is_local_at, is_local_in}
use Rattle.fm_run.specs.Plays.{Play, first, language, step}
use Rattle.fm_run.specs.Runs.{Follows, FollowsFrom, Stand, after_entry, first_stand, place_of, steps_of}
use Rattle.fm_run_law.proofs.Pieces.{legal_part}
use Rattle.fm_execute_image.proofs.Following.{same_tail}

module _ (p q : Play) (Relates : q.Proc → p.Proc → Type 0) (IsLive : State p.Proc → Type 0) (alike : AreAlike Relates IsLive p.speaks q.speaks)
    (begins : StandsFor Relates IsLive (first q) (first p))
    (local : (s : State p.Proc) → IsLive s → (c : Place) (x : p.Proc) (y : q.Proc) → get s.procs c ≡ Some x → Relates y x → q.is_local y ≡ p.is_local x) where
  abbrev Stands : State q.Proc → State p.Proc → Type 0
  Stands = StandsFor Relates IsLive

  module _ (s : State p.Proc) (t : State q.Proc) (stands : Stands t s) where
    steps_alike : (c : Place) → is_some (step p s c) ≡ is_some (step q t c)
    steps_alike c = go (step q t c) (step p s c) refl refl
      where
        go : (b : Option (State q.Proc × ℕ)) (a : Option (State p.Proc × ℕ)) → step q t c ≡ b → step p s c ≡ a → is_some a ≡ is_some b
        go None None f e = refl
        go (Some b) (Some a) f e = refl
        go (Some b) None f e = let can = alike.step.back s t c stands (b, f) in absurd (cc (sym e ∙ can.1))
        go None (Some a) f e = let can = alike.step.forth.can s t c stands (a, e) in absurd (cc (sym f ∙ can.1))

    -- who can't step there can't step here
    waits_too : (c : Place) → step q t c ≡ None → step p s c ≡ None
    waits_too c none = go (step p s c) refl
      where
        go : (o : Option (State p.Proc × ℕ)) → step p s c ≡ o → o ≡ None
        go None e = refl
        go (Some a) e = let can = alike.step.forth.can s t c stands (a, e) in absurd (cc (sym none ∙ can.1))

    local_alike : (c : Place) → is_local_at p s c ≡ is_local_at q t c
    local_alike c = go (get t.procs c) (get s.procs c) refl (stands.procs c)
      where
        go : (n : Option q.Proc) (o : Option p.Proc) → get s.procs c ≡ o → BothOrNeither Relates n o → is_local_in p o ≡ is_local_in q n
        go None None is both = refl
        go None (Some x) is both = absurd both
        go (Some y) None is both = absurd both
        go (Some y) (Some x) is both = sym (local s stands.live c x y is both)

    can_in_alike : (o : Option Place) → can_in p s o ≡ can_in q t o
    can_in_alike None = refl
    can_in_alike (Some c) = steps_alike c

    can_alike : (places : List Place) (n : ℕ) → can_at p s places n ≡ can_at q t places n
    can_alike places n = can_in_alike (slice_get places n)

    able_alike : (places : List Place) (numbers : List ℕ) → filter (can_at p s places) numbers ≡ filter (can_at q t places) numbers
    able_alike places numbers = λ j. filter (λ (n : ℕ). can_alike places n j) numbers

    starts_same : (cs : List Place) → IsLegal (step p) s cs → starts_along (language p) s cs ≡ starts_along (language q) t cs
    starts_same cs legal = sym (same_tail (starts_along (language q) t cs) (starts_along (language p) s cs) (alike.starts s t stands cs legal))

  -- ---- a piece

  module _ (s : State p.Proc) (t : State q.Proc) (stands : Stands t s) (slice : ℕ) (c : Place) (steps : ℕ) (full : IsFull q slice true t c steps) where
    can : IsLegal (step p) s (replicate steps c)
    can = (alike.runs.legal s t stands (replicate steps c)).1 full.can

    stands_after : (k : ℕ) → k ≤ steps → Stands (after_steps q t c k) (after_steps p s c k)
    stands_after k low = alike.runs.state s t stands (replicate k c) (legal_part (step p) s c steps k low can)

    same_local : (k : ℕ) → k ≤ steps → is_local_at p (after_steps p s c k) c ≡ is_local_at q (after_steps q t c k) c
    same_local k low = local_alike (after_steps p s c k) (after_steps q t c k) (stands_after k low) c

    stops : ((steps ≡ slice) × (true ≡ true → is_local_at q (after_steps q t c steps) c ≡ true))
        ⊎ (((k : ℕ) × (steps ≡ k + 1) × (is_local_at q (after_steps q t c k) c ≡ false)) ⊎ ((steps ≤ slice) × (step q (after_steps q t c steps) c ≡ None)))
        → ((steps ≡ slice) × (true ≡ true → is_local_at p (after_steps p s c steps) c ≡ true))
        ⊎ (((k : ℕ) × (steps ≡ k + 1) × (is_local_at p (after_steps p s c k) c ≡ false)) ⊎ ((steps ≤ slice) × (step p (after_steps p s c steps) c ≡ None)))
    stops (inl h) = inl (h.0, λ e. same_local steps (omega arith) ∙ h.1 e)
    stops (inr (inl h)) = inr (inl (h.0, h.1, same_local h.0 (omega (arith, h.1)) ∙ h.2))
    stops (inr (inr h)) = inr (inr (h.0, waits_too (after_steps p s c steps) (after_steps q t c steps) (stands_after steps (omega arith)) c h.1))

    full_back : IsFull p slice true s c steps
    full_back = record {
      can = can;
      within = full.within;
      before = λ k low. same_local k (omega (arith, low)) ∙ full.before k low;
      stops = stops full.stops;
    }

  -- ---- an entry

  module _ (a : Stand p.Proc) (b : Stand q.Proc) (stands : Stands b.state a.state) (places : a.places ≡ b.places) (able : a.able ≡ b.able) (e : Turn) (legal : IsLegal (step p) a.state (steps_of a.places e)) where
    entry_stands : Stands (after_entry q b e).state (after_entry p a e).state
    entry_stands =
        subst (λ (ps : List Place). Stands (play (step q) b.state (steps_of ps e)) (play (step p) a.state (steps_of a.places e))) places
        (alike.runs.state a.state b.state stands (steps_of a.places e) legal)

    entry_places : (after_entry p a e).places ≡ (after_entry q b e).places
    entry_places =
        ap₂ (λ (ps qs : List Place). ps ++ qs) places
        (starts_same a.state b.state stands (steps_of a.places e) legal ∙ ap (λ (ps : List Place). starts_along (language q) b.state (steps_of ps e)) places)

    entry_able : (after_entry p a e).able ≡ (after_entry q b e).able
    entry_able =
        able_alike (after_entry p a e).state (after_entry q b e).state entry_stands (after_entry p a e).places (in_turn e.number a.able (length (after_entry p a e).places))
        ∙ (λ j. ready_after q (after_entry q b e).state (entry_places j) (able j) e.number)

  module _ (slice : ℕ) (choices : List ℕ) where
    follows_from : (ts : List Turn) (n : ℕ) (a : Stand p.Proc) (b : Stand q.Proc) → Stands b.state a.state → a.places ≡ b.places → a.able ≡ b.able
        → FollowsFrom q slice choices n b ts → FollowsFrom p slice choices n a ts
    follows_from [] n a b stands places able h = tt
    follows_from (e ∷ ts) n a b stands places able h =
        let full : IsFull p slice true a.state (place_of a.places e) e.steps =
        subst (λ (c : Place). IsFull p slice true a.state c e.steps) (sym (ap (λ (ps : List Place). place_of ps e) places))
        (full_back a.state b.state stands slice (place_of b.places e) e.steps h.0.full) in (
          record { who = ap (chosen (slice_get choices n)) able ∙ h.0.who; full = full },
          follows_from ts (suc n) (after_entry p a e) (after_entry q b e) (entry_stands a b stands places able e full.can) (entry_places a b stands places able e full.can) (entry_able a b stands places able e full.can) h.1,
        )

    pub follows_back : (history : List Turn) → Follows q slice choices history → Follows p slice choices history
    follows_back history h = follows_from history 0 (first_stand p) (first_stand q) begins refl (able_alike (first p) (first q) begins ([] ∷ []) (0 ∷ [])) h
