-- What of the runs of one play is so in another.
-- Source: this profile.
use Rattle.std.specs.Prelude.{ℕ, List}
use Rattle.fm_base.specs.declared.schedule.Turn.{Turn}
use Rattle.fm_net.specs.Machine.{Place}
use Rattle.fm_run.specs.Plays.{Play}
use Rattle.fm_run.specs.Runs.{Follows, IsRun}
use Rattle.fm_run.specs.declared.run.Run.{Run}
use Rattle.fm_run_law.specs.Fair.{IsFair}

-- each run of the one is a run of the other, under the same turns
abbrev pub RunsAs : (one other : Play) → Type 0
RunsAs one other = (turns : ℕ) (run : Run) → IsRun one turns run → IsRun other turns run

-- what follows choices in the one follows them in the other
abbrev pub FollowsAs : (one other : Play) → Type 0
FollowsAs one other = (slice : ℕ) (choices : List ℕ) (history : List Turn) → Follows one slice choices history → Follows other slice choices history

-- what is fair in the one is fair in the other
abbrev pub IsFairAs : (one other : Play) → Type 0
IsFairAs one other = (history : List Turn) (places : List Place) → IsFair one history places → IsFair other history places
