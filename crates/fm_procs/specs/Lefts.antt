-- What processes leave to their parents.
-- Source: this profile.
use Rattle.std.specs.Prelude.{Option}
use Rattle.fm_code.specs.declared.body.Body.{Body}
use Rattle.fm_proc_language.specs.Slots.{Slots}
use Rattle.fm_proc_language.specs.Processes.{CodeProc}
use Rattle.fm_procs.specs.declared.opening.Left.{Left}

-- what a process leaves to its parent: its body, and its slots
abbrev pub left_by : CodeProc → Option Body × Slots
left_by y = (y.body, y.slots)

abbrev pub left_of : Left → Option Body × Slots
left_of l = (l.body, l.slots)
