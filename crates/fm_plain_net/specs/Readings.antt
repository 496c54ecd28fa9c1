-- The processes, channels and ports in memory as the meaning's state, and the ports by their values.
-- Source: this profile.
use Rattle.std.specs.Prelude.{Option, List}
use Rattle.std.specs.FinMap.{get}
use Rattle.fm_base.specs.declared.port.PortValue.{PortValue}
use Rattle.fm_base.specs.declared.port.PortValue.TheVariants.{Writer, Reader}
use Rattle.fm_base.specs.PathOrder.{channel_cmp}
use Rattle.fm_finmap.specs.Map.{map_of}
use Rattle.fm_net.specs.Machine.{Place, Procs, State}
use Rattle.fm_net_procs.specs.declared.entries.Actor.{Actor}
use Rattle.fm_net_procs.specs.declared.entries.Entries.{Entries}
use Rattle.fm_net_procs.specs.declared.entries.Entry.{Entry}
use Rattle.fm_net_procs.specs.declared.processes.Processes as run
use Rattle.fm_net_procs.specs.Readings as table
use Rattle.fm_rules.specs.declared.program.Program.{Program}
use Rattle.fm_mean.specs.Outports.{outport_cmp}
use Rattle.fm_mean.specs.Process.{Proc}
use Rattle.fm_plain.specs.declared.looking.Next.{Next}
use Rattle.fm_plain_frame.specs.Frames.{proc_of}
use Rattle.fm_plain_net.specs.declared.ports.Ports.{Ports}
use Rattle.fm_plain_net.specs.declared.processes.TreeProc.{TreeProc}

abbrev pub tree_of : Program → TreeProc → Proc
tree_of program x = proc_of program x.plain

-- a process, and what is kept of it
abbrev pub Slot : Type 0
Slot = Entry TreeProc Next

abbrev pub Processes : Type 0
Processes = Entries TreeProc Next

-- the processes, channels and ports of a run
abbrev pub Trees : Type 0
Trees = run.Processes TreeProc Next Ports

abbrev pub proc_in : Program → Slot → Proc
proc_in program s = tree_of program s.process

-- the processes by their paths
abbrev pub procs_of : Program → Processes → Procs Proc
procs_of program x = table.procs_of (tree_of program) x

-- their places, in the order of their numbers
abbrev pub order_of : Processes → List Place
order_of x = table.order_of x

abbrev pub actor_place : Actor → Place
actor_place a = table.actor_place a

-- the number of a process is that of its path
abbrev pub IsActor : Processes → Actor → Type 0
IsActor x a = table.IsActor x a

abbrev pub state_of : Program → Trees → State Proc
state_of program n = table.state_of (tree_of program) n

-- what is kept under the value of a port, if something is
unfoldable pub kept : Ports → PortValue → Option PortValue
kept ports (Writer c w) = get (map_of outport_cmp ports.outports) (record { channel = c; number = w })
kept ports (Reader c) = get (map_of channel_cmp ports.inports) c
