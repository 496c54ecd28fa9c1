-- What a process of stack code needs next, and whether its next step concerns itself alone.
-- Source: the Fortran M report (SEND, RECEIVE, process blocks), with this profile's atomic step.
use Rattle.std.specs.Prelude.{ℤ, Bool, true, false, Option, Some, None, List, [], ◌∷◌}
use Rattle.fm_net.specs.Machine.{Need, Ask, Stop, Go}
use Rattle.fm_code.specs.declared.body.Body.{Body}
use Rattle.fm_code.specs.Statements as code
use Rattle.fm_code.specs.Statements.{Action, action_of}
use Rattle.fm_proc_language.specs.Processes.{CodeProc, Phase, Running, Joining, Ended, Faulted, asks}

abbrev pub need_in : Ask CodeProc → Option Need
need_in Stop = None
need_in (Go need onward) = Some need

-- what it needs before it goes on; none where it does nothing more
abbrev pub need_of : CodeProc → Option Need
need_of y = need_in (asks y)

abbrev pub is_empty : List ℤ → Bool
is_empty [] = true
is_empty (z ∷ zs) = false

-- a step that lets no port go
abbrev pub is_local_action : Action → Bool
is_local_action code.Stuck = false
is_local_action (code.Own after lines drops cost) = is_empty drops
is_local_action (code.Meets ask) = false

abbrev pub is_local_by : Phase → Option Body → Bool
is_local_by Running None = false
is_local_by Running (Some b) = is_local_action (action_of b)
is_local_by (Joining block kids) b = false
is_local_by Ended b = false
is_local_by (Faulted line fault) b = false

-- whether its next step touches neither channels nor other processes
abbrev pub is_local : CodeProc → Bool
is_local y = is_local_by y.phase y.body
