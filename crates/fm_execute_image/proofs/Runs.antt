-- A run of what does and shows the same as something else is a run of that.
use Rattle.std.proofs.Common.{◌≡◌, ℕ, ◌+◌, ◌≤◌, ◌<◌, Option, Some, None, List, [], ◌∷◌, refl, sym, ap, ap₂, subst, ◌∙◌}
use Rattle.fm_sched.specs.Schedule.{next, play, used}
use Rattle.fm_sched.proofs.Runs.{cost-None, next-None}
use Rattle.fm_net.specs.Correspondence.{AreAlike, StandsFor}
use Rattle.fm_net.specs.Machine.{Place, State}
use Rattle.fm_run.specs.declared.run.Ending.{Ending}
use Rattle.fm_run.specs.declared.run.Ending.TheVariants.{Ended, Spent}
use Rattle.fm_run.specs.declared.run.Run.{Run}
use Rattle.fm_run.specs.Plays.{Play, first, step}
use Rattle.fm_run.specs.Runs.{EndsSo, IsRun}
use Rattle.fm_execute_image.proofs.Alike.{waits}

module _ (p q : Play) (Relates : q.Proc → p.Proc → Type 0) (IsLive : State p.Proc → Type 0) (alike : AreAlike Relates IsLive p.speaks q.speaks)
    (begins : StandsFor Relates IsLive (first q) (first p)) (shows : (used : ℕ) (s : State p.Proc) (t : State q.Proc) → StandsFor Relates IsLive t s → p.shows used s ≡ q.shows used t) where
  abbrev Stands : State q.Proc → State p.Proc → Type 0
  Stands = StandsFor Relates IsLive

  -- the same cost, whatever is chosen
  pub same_cost : (cs : List Place) (s : State p.Proc) (t : State q.Proc) → Stands t s → used (step q) t cs ≡ used (step p) s cs
  same_cost [] s t stands = refl
  same_cost (c ∷ cs) s t stands = go (same_cost cs) (step p s c) refl
    where
      go : ((s : State p.Proc) (t : State q.Proc) → Stands t s → used (step q) t cs ≡ used (step p) s cs)
          → (o : Option (State p.Proc × ℕ)) → step p s c ≡ o → used (step q) t (c ∷ cs) ≡ used (step p) s (c ∷ cs)
      go rest (Some r) e =
          ap₂ (λ (m n : ℕ). m + n) (alike.step.forth.costs s t c stands (r, e))
          (rest (next (step p) s c) (next (step q) t c) (alike.step.forth.stands s t c stands (r, e)))
      go rest None e =
          let none = waits p q Relates IsLive alike s t stands c e in
          ap₂ (λ (m n : ℕ). m + n) (cost-None (step q) t c none ∙ sym (cost-None (step p) s c e))
          (ap (λ (u : State q.Proc). used (step q) u cs) (next-None (step q) t c none) ∙ rest s t stands ∙ sym (ap (λ (u : State p.Proc). used (step p) u cs) (next-None (step p) s c e)))

  module _ (turns : ℕ) (run : Run) (h : IsRun p turns run) where
    abbrev cs : List Place
    cs = h.choices

    abbrev s : State p.Proc
    s = play (step p) (first p) cs

    abbrev t : State q.Proc
    t = play (step q) (first q) cs

    stands : Stands t s
    stands = alike.runs.state (first p) (first q) begins cs h.legal

    cost : used (step q) (first q) cs ≡ used (step p) (first p) cs
    cost = same_cost cs (first p) (first q) begins

    ends : (e : Ending) → EndsSo p turns cs e → EndsSo q turns cs e
    ends (Ended o) so = (
      (alike.runs.final s t stands).0 so.0,
      subst (λ (n : ℕ). n ≤ turns) (sym cost) so.1,
      so.2 ∙ shows (used (step p) (first p) cs) s t stands ∙ ap (λ (n : ℕ). q.shows n t) (sym cost),
    )
    ends Spent so = subst (λ (n : ℕ). turns < n) (sym cost) so

    pub run_alike : IsRun q turns run
    run_alike = record {
      choices = cs;
      kept = h.kept;
      places = h.places ∙ sym (alike.starts (first p) (first q) begins cs h.legal);
      legal = (alike.runs.legal (first p) (first q) begins cs).0 h.legal;
      some_steps = h.some_steps;
      front_within = λ front last choices whole named. subst (λ (n : ℕ). n ≤ turns) (sym (same_cost choices (first p) (first q) begins)) (h.front_within front last choices whole named);
      ends = ends run.ending h.ends;
    }
