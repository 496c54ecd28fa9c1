-- Where processes are: each on the first node of its machine.
-- Source: the Fortran M report (LOCATION, SUBMACHINE), with this profile's machines.
use Rattle.std.specs.Prelude.{◌≡◌, Some}
use Rattle.std.specs.FinMap.{get}
use Rattle.fm_net.specs.Machine.{Place, State}
use Rattle.fm_mean.specs.Process.{Proc}

abbrev pub AreOnFirstNodes : State Proc → Type 0
AreOnFirstNodes s = (q : Place) (x : Proc) → get s.procs q ≡ Some x → x.execution.node ≡ x.execution.machine.first
