-- What a process does next, told without doing it.
-- Source: this profile.
use Rattle.std.specs.Prelude.{Bool, true, false, Option, Some, None}
use Rattle.fm_code.specs.declared.body.Body.{Body}
use Rattle.fm_code.specs.Statements.{action_of}
use Rattle.fm_machine_calls.specs.declared.looking.Look.{Look}
use Rattle.fm_machine_calls.specs.declared.looking.Look.TheVariants.{Stuck}
use Rattle.fm_machine_calls.specs.Looks.{look_in}
use Rattle.fm_proc_language.specs.Processes.{CodeProc, Phase, Running, Joining, Ended, Faulted}

abbrev pub look_by : Phase → Option Body → Look
look_by Running None = Stuck
look_by Running (Some b) = look_in (action_of b)
look_by (Joining block kids) None = Stuck
look_by (Joining block kids) (Some b) = look_in (action_of b)
look_by Ended b = Stuck
look_by (Faulted line fault) b = Stuck

-- what its next statement does; one that has ended or met a fault has none
abbrev pub look_of : CodeProc → Look
look_of y = look_by y.phase y.body

abbrev pub runs_by : Phase → Option Body → Bool
runs_by Running None = false
runs_by Running (Some b) = true
runs_by (Joining block kids) b = false
runs_by Ended b = false
runs_by (Faulted line fault) b = false

-- whether it makes steps of its own
abbrev pub is_running : CodeProc → Bool
is_running y = runs_by y.phase y.body

abbrev pub joins_by : Phase → Bool
joins_by Running = false
joins_by (Joining block kids) = true
joins_by Ended = false
joins_by (Faulted line fault) = false

-- whether it waits for children
abbrev pub is_joining : CodeProc → Bool
is_joining y = joins_by y.phase
