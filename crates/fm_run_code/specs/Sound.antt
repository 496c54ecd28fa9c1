-- When processes of stack code stand for what is run, between two pieces.
-- Source: this profile.
use Rattle.std.specs.Prelude.{◌≡◌, Some, List}
use Rattle.fm_base.specs.declared.schedule.Turn.{Turn}
use Rattle.fm_net.specs.Correspondence.{StandsFor}
use Rattle.fm_net.specs.Machine.{Place, State}
use Rattle.fm_net.specs.Starts.{choices_of}
use Rattle.fm_proc_language.specs.Processes.{CodeProc}
use Rattle.fm_procs.specs.Kept.{AreKept}
use Rattle.fm_procs.specs.Readings.{CodeProcs, order_of, state_of}
use Rattle.fm_run.specs.Plays.{Play}
use Rattle.fm_run_code.specs.Played.{played}

-- what each process does next is told; each piece is of a process; and processes and channels stand for those of the state to which the
-- pieces lead
pub record IsSound (p : Play) (Corresponds : CodeProc → p.Proc → Type 0) (IsLive : State p.Proc → Type 0) (stacks : CodeProcs) (history : List Turn) : Type 0 where
  pub kept : AreKept stacks.entries
  pub choices : List Place
  pub named : choices_of history (order_of stacks.entries) ≡ Some choices
  pub stands : StandsFor Corresponds IsLive (state_of stacks) (played p history (order_of stacks.entries))
