-- Machines of processes: the numbers of their nodes, and how many there are.
-- Source: the Fortran M report (PROCESSORS, LOCATION, SUBMACHINE), with this profile's machines.
use Rattle.std.specs.Prelude.{◌≡◌, ◌≤◌, ◌<◌, ◌+◌, ℕ, Some, List, [], ◌∷◌}
use Rattle.std.specs.FinMap.{get}
use Rattle.fm_base.specs.declared.schedule.Machine.{Machine}
use Rattle.fm_map.specs.Placement.{product}
use Rattle.fm_net.specs.Machine.{Place, State}
use Rattle.fm_net.specs.Typed.{AllIn}
use Rattle.fm_rules.specs.declared.program.Program.{Program}
use Rattle.fm_mean.specs.Names.{ProgramUnit, unit_at}
use Rattle.fm_mean.specs.Process.{Frame, Proc}
use Rattle.fm_mean.specs.Steps.{first_proc}

-- as many nodes as PROCESSORS asks for, where a unit has it
abbrev pub HasNodes : Machine → (extents : List ℕ) → Type 0
HasNodes m [] = Unit {0}
HasNodes m (e ∷ es) = m.count ≡ product (e ∷ es)

-- as many as the unit of this number asks for
abbrev pub HasNodesOf : Program → Machine → (unit : ℕ) → Type 0
HasNodesOf p m n = (u : ProgramUnit) → unit_at p n ≡ Some u → HasNodes m u.names.extents

-- how many nodes the machine of main has, which is the first
abbrev pub main_nodes : Program → ℕ
main_nodes p = (first_proc p).execution.machine.count

-- the process is on a node of its machine, whose nodes are among those of the first one, and numbered below 65,536; it has as many as
-- the units at work ask for
pub record HasMachine (p : Program) (x : Proc) : Type 0 where
  pub from : x.execution.machine.first ≤ x.execution.node
  pub to : x.execution.node < x.execution.machine.first + x.execution.machine.count
  pub within : x.execution.machine.first + x.execution.machine.count ≤ main_nodes p
  pub numbered : x.execution.machine.first + x.execution.machine.count ≤ 65536
  pub asked : AllIn (λ (f : Frame). HasNodesOf p x.execution.machine f.unit) x.execution.frames

abbrev pub HaveMachines : Program → State Proc → Type 0
HaveMachines p s = (q : Place) (x : Proc) → get s.procs q ≡ Some x → HasMachine p x
