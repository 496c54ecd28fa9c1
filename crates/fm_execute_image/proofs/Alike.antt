-- Two plays of which the one does what the other does: states that stand for one another, whatever is chosen.
use Rattle.std.proofs.Common.{◌≡◌, ℕ, Option, Some, None, List, [], ◌∷◌, refl, sym, subst, ◌∙◌}
use Rattle.fm_sched.specs.Schedule.{next, play}
use Rattle.fm_sched.proofs.Runs.{next-None}
use Rattle.fm_net.specs.Correspondence.{AreAlike, StandsFor}
use Rattle.fm_net.specs.Machine.{Place, State}
use Rattle.fm_run.specs.Plays.{Play, step}

module _ (p q : Play) (Relates : q.Proc → p.Proc → Type 0) (IsLive : State p.Proc → Type 0) (alike : AreAlike Relates IsLive p.speaks q.speaks) where
  abbrev Stands : State q.Proc → State p.Proc → Type 0
  Stands = StandsFor Relates IsLive

  -- who can't step there can't step here
  pub waits : (s : State p.Proc) (t : State q.Proc) → Stands t s → (c : Place) → step p s c ≡ None → step q t c ≡ None
  waits s t stands c none = go (step q t c) refl
    where
      go : (o : Option (State q.Proc × ℕ)) → step q t c ≡ o → o ≡ None
      go None e = refl
      go (Some b) e = let can = alike.step.back s t c stands (b, e) in absurd (cc (sym none ∙ can.1))

  -- whatever is chosen
  next_stands : (s : State p.Proc) (t : State q.Proc) → Stands t s → (c : Place) → Stands (next (step q) t c) (next (step p) s c)
  next_stands s t stands c = go (step p s c) refl
    where
      go : (o : Option (State p.Proc × ℕ)) → step p s c ≡ o → Stands (next (step q) t c) (next (step p) s c)
      go (Some r) e = alike.step.forth.stands s t c stands (r, e)
      go None e =
          subst (λ (u : State q.Proc). Stands u (next (step p) s c)) (sym (next-None (step q) t c (waits s t stands c e)))
          (subst (λ (u : State p.Proc). Stands t u) (sym (next-None (step p) s c e)) stands)

  pub play_stands : (cs : List Place) (s : State p.Proc) (t : State q.Proc) → Stands t s → Stands (play (step q) t cs) (play (step p) s cs)
  play_stands [] s t stands = stands
  play_stands (c ∷ cs) s t stands = play_stands cs (next (step p) s c) (next (step q) t c) (next_stands s t stands c)
