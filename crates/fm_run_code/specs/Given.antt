-- The body of a process, and when what came of a slice that was made outside is of a process as it stands.
-- Source: this profile.
use Rattle.std.specs.Prelude.{◌≡◌, ℕ, Option, Some, slice_get}
use Rattle.std.specs.FinMap.{get}
use Rattle.fm_code.specs.declared.body.Body.{Body}
use Rattle.fm_machine.specs.declared.done.Done.{Done}
use Rattle.fm_net.specs.Machine.{Place}
use Rattle.fm_proc_language.specs.Processes.{CodeProc}
use Rattle.fm_procs.specs.Readings.{CodeProcs, order_of, procs_of}

-- this is the body of the process of this number, or none where it has none
abbrev pub IsBodyAt : CodeProcs → (number : ℕ) → Option Body → Type 0
IsBodyAt stacks number body = (q : Place) (y : CodeProc) → slice_get (order_of stacks.entries) number ≡ Some q → get (procs_of stacks.entries) q ≡ Some y → body ≡ y.body

-- the process of this number has the body of which the slice was made
abbrev pub IsOwn : CodeProcs → (number : ℕ) → Done → Type 0
IsOwn stacks number done = IsBodyAt stacks number (Some done.start.value)
