-- What is fair in the one is fair in the other, which does the same.
use Rattle.std.proofs.Common.{List, [], ◌∷◌}
use Rattle.fm_base.specs.declared.schedule.Turn.{Turn}
use Rattle.fm_sched.specs.Schedule.{play}
use Rattle.fm_net.specs.Correspondence.{AreAlike, StandsFor}
use Rattle.fm_net.specs.Machine.{Place, State}
use Rattle.fm_run.specs.Plays.{Play, first, step}
use Rattle.fm_run.specs.Runs.{steps_of}
use Rattle.fm_run_law.specs.Fair.{IsFairFrom}
use Rattle.fm_run_law.specs.Alike.{IsFairAs}
use Rattle.fm_execute_image.proofs.Alike.{play_stands}

module _ (p q : Play) (Relates : q.Proc → p.Proc → Type 0) (IsLive : State p.Proc → Type 0) (alike : AreAlike Relates IsLive p.speaks q.speaks) where
  fair_from : (ts : List Turn) (s : State p.Proc) (t : State q.Proc) → StandsFor Relates IsLive t s → (places : List Place) → IsFairFrom p s places ts → IsFairFrom q t places ts
  fair_from [] s t stands places fair = tt
  fair_from (e ∷ ts) s t stands places fair =
      let ds = steps_of places e in (
        (λ c can. fair.0 c (alike.step.back s t c stands can)),
        fair_from ts (play (step p) s ds) (play (step q) t ds) (play_stands p q Relates IsLive alike ds s t stands) places fair.1,
      )

  pub fair_alike : StandsFor Relates IsLive (first q) (first p) → IsFairAs p q
  fair_alike begins = λ history places fair. fair_from history (first p) (first q) begins places fair
