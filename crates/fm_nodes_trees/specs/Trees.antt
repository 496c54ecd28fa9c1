-- The runner over trees: its program, its hosts, and where a process is.
-- Source: the Fortran M report (PROCESSORS), with this profile's plans of nodes.
use Rattle.std.specs.Prelude.{ℕ, nat_lt, cond}
use Rattle.std.specs.Arc.{arc_value}
use Rattle.fm_base.specs.declared.schedule.Plan.{Plan}
use Rattle.fm_map.specs.Placement.{worker_of}
use Rattle.fm_rules.specs.declared.program.Program.{Program}
use Rattle.fm_mean.specs.Machines.{main_nodes}
use Rattle.fm_mean.specs.Process.{Proc}
use Rattle.fm_nodes_trees.specs.declared.trees.Trees.{Trees}

-- the program, the number of hosts, and how nodes are mapped to them
abbrev pub program_of : Trees → Program
program_of t = arc_value t.program

abbrev pub hosts_on : Trees → ℕ
hosts_on t = t.hosts

abbrev pub plan_of : Trees → Plan
plan_of t = t.plan

-- the host of a process: the worker of its node, of as many nodes as main's machine has; the first one where there is no such node
abbrev pub host_of : Program → (hosts : ℕ) → Plan → Proc → ℕ
host_of p hosts plan x = cond (nat_lt x.execution.node (main_nodes p)) (worker_of plan x.execution.node (main_nodes p) hosts) 0
