-- The state of what is run to which the pieces of a run lead.
-- Source: this profile.
use Rattle.std.specs.Prelude.{List, [], unwrap_or}
use Rattle.fm_base.specs.declared.schedule.Turn.{Turn}
use Rattle.fm_sched.specs.Schedule as schedule
use Rattle.fm_net.specs.Machine.{Place, State}
use Rattle.fm_net.specs.Starts.{choices_of}
use Rattle.fm_run.specs.Plays.{Play, first, step}

-- the choices of these pieces, or none where a piece is of nobody among the processes
abbrev pub choices_in : List Turn → List Place → List Place
choices_in history places = unwrap_or (choices_of history places) []

-- where they lead from main alone
unfoldable pub played : (p : Play) → List Turn → List Place → State p.Proc
played p history places = schedule.play (step p) (first p) (choices_in history places)
