-- A run of what stands for something else, and does and shows the same, is a run of that.
use Rattle.std.proofs.Common.{◌≡◌, ℕ, ◌≤◌, ◌<◌, List, sym, ap, subst, ◌∙◌}
use Rattle.fm_sched.specs.Schedule.{IsLegal, play, used}
use Rattle.fm_net.specs.Correspondence.{AreAlike, StandsFor}
use Rattle.fm_net.specs.Machine.{Place, State}
use Rattle.fm_run.specs.declared.run.Ending.{Ending}
use Rattle.fm_run.specs.declared.run.Ending.TheVariants.{Ended, Spent}
use Rattle.fm_run.specs.declared.run.Run.{Run}
use Rattle.fm_run.specs.Plays.{Play, first, step}
use Rattle.fm_run.specs.Runs.{EndsSo, IsRun}
use Rattle.fm_execute_image.proofs.Runs.{same_cost}

module _ (p q : Play) (Relates : q.Proc → p.Proc → Type 0) (IsLive : State p.Proc → Type 0) (alike : AreAlike Relates IsLive p.speaks q.speaks)
    (begins : StandsFor Relates IsLive (first q) (first p)) (shows : (used : ℕ) (s : State p.Proc) (t : State q.Proc) → StandsFor Relates IsLive t s → p.shows used s ≡ q.shows used t)
    (turns : ℕ) (run : Run) (h : IsRun q turns run) where
  abbrev cs : List Place
  cs = h.choices

  abbrev s : State p.Proc
  s = play (step p) (first p) cs

  abbrev t : State q.Proc
  t = play (step q) (first q) cs

  legal : IsLegal (step p) (first p) cs
  legal = (alike.runs.legal (first p) (first q) begins cs).1 h.legal

  stands : StandsFor Relates IsLive t s
  stands = alike.runs.state (first p) (first q) begins cs legal

  cost : (ds : List Place) → used (step q) (first q) ds ≡ used (step p) (first p) ds
  cost ds = same_cost p q Relates IsLive alike begins shows ds (first p) (first q) begins

  ends : (e : Ending) → EndsSo q turns cs e → EndsSo p turns cs e
  ends (Ended o) so = (
    (alike.runs.final s t stands).1 so.0,
    subst (λ (n : ℕ). n ≤ turns) (cost cs) so.1,
    so.2 ∙ ap (λ (n : ℕ). q.shows n t) (cost cs) ∙ sym (shows (used (step p) (first p) cs) s t stands),
  )
  ends Spent so = subst (λ (n : ℕ). turns < n) (cost cs) so

  pub run_back : IsRun p turns run
  run_back = record {
    choices = cs;
    kept = h.kept;
    places = h.places ∙ alike.starts (first p) (first q) begins cs legal;
    legal = legal;
    some_steps = h.some_steps;
    front_within = λ front last choices whole named. subst (λ (n : ℕ). n ≤ turns) (cost choices) (h.front_within front last choices whole named);
    ends = ends run.ending h.ends;
  }
