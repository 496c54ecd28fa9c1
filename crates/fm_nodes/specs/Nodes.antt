-- A program on hosts: what may happen to it, when it can't, and what it makes of the hosts, the history and the paths.
-- Source: this profile, after the laws of links.
use Rattle.std.specs.Prelude.{◌≡◌, ◌<◌, ◌≤◌, ℕ, Bool, true, false, Result, Ok, Err}
use Rattle.fm_base.specs.declared.memory.NoMemory.{NoMemory}
use Rattle.fm_base.specs.declared.schedule.Plan.{Plan}
use Rattle.fm_map.specs.Placement.{worker_of}
use Rattle.fm_rules.specs.declared.program.Program.{Program}
use Rattle.fm_mean.specs.Machines.{main_nodes}
use Rattle.fm_mean.specs.Process.{Proc}
use Rattle.fm_mean.specs.Steps.{first, language}
use Rattle.fm_link_law.specs.Hosts.{answered, delivered, lost, sent}
use Rattle.fm_nodes_plain.specs.Plain.{IsPlainProgram}
use Rattle.fm_nodes_rounds.specs.declared.hosts.NodeEvent.{NodeEvent}
use Rattle.fm_nodes_rounds.specs.declared.hosts.NodeEvent.TheVariants.{Step, Send, Answer, Deliver, Lose, Restart}
use Rattle.fm_plain_frame.specs.Frames.{proc_of}
use Rattle.fm_plain_frame.specs.declared.process.PlainProc.{PlainProc}
use Rattle.fm_nodes_hosts.specs.Ends.{restarted_run}
use Rattle.fm_nodes_hosts.specs.Played.{IsSound}
use Rattle.fm_nodes_hosts.specs.Runs.{Run, IsMoved, IsTried}
use Rattle.fm_nodes_hosts.specs.States.{run_of}
use Rattle.fm_nodes_hosts.specs.declared.state.NodeState.{NodeState}
use Rattle.fm_nodes_trees.specs.Trees.{hosts_on, plan_of, program_of}
use Rattle.fm_nodes_trees.specs.declared.trees.Trees.{Trees}

-- a program, the number of hosts, how nodes are mapped to them, and what has happened so far
pub record Hosted : Type 0 where
  pub program : Program
  pub hosts : ℕ
  pub plan : Plan
  pub run : Run Proc

-- the host of a process: the worker of its node, of as many nodes as main's machine has
abbrev pub host_in : Hosted → Proc → ℕ
host_in h x = worker_of h.plan x.execution.node (main_nodes h.program) h.hosts

-- what is kept in memory: the runner over trees (its program, hosts and plan), and what events change
abbrev pub hosted_of : Trees → NodeState PlainProc → Hosted
hosted_of t s = record { program = program_of t; hosts = hosts_on t; plan = plan_of t; run = run_of (proc_of (program_of t)) s }

-- what holds between two events: the program is plain, and the history tells a legal schedule that leads to the state for which the
-- hosts stand
pub record IsHosted (h : Hosted) : Type 0 where
  pub plain : IsPlainProgram h.program
  pub played : IsSound (language h.program) (first h.program) h.run

-- what no event changes: the program, the number of hosts, and how nodes are mapped to them
pub record Setting : Type 0 where
  pub program : Program
  pub hosts : ℕ
  pub plan : Plan

abbrev pub setting_of : Hosted → Setting
setting_of h = record { program = h.program; hosts = h.hosts; plan = h.plan }

-- what became of a host that starts again: it has; or there is no such host, and nothing has changed; or memory was wanting, and
-- nothing has changed
abbrev pub IsRestarted : Hosted → (host : ℕ) → Run Proc → Result Bool NoMemory → Type 0
IsRestarted h host new (Ok true) = (host < h.hosts) × (new ≡ restarted_run (language h.program) (host_in h) host h.run)
IsRestarted h host new (Ok false) = (h.hosts ≤ host) × (new ≡ h.run)
IsRestarted h host new (Err want) = new ≡ h.run

-- what became of an event
abbrev pub IsDone : Hosted → NodeEvent → Run Proc → Result Bool NoMemory → Type 0
IsDone h (Step path) new r = IsTried (language h.program) path h.run new r
IsDone h (Send channel place) new r = IsMoved (sent h.run.hosts channel place) h.run new r
IsDone h (Answer channel) new r = IsMoved (answered h.run.hosts channel) h.run new r
IsDone h (Deliver place) new r = IsMoved (delivered h.run.hosts place) h.run new r
IsDone h (Lose place) new r = IsMoved (lost h.run.hosts place) h.run new r
IsDone h (Restart host) new r = IsRestarted h host new r
