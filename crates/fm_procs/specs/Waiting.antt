-- Whether a process can step, and where it waits.
-- Source: the Fortran M report (RECEIVE waits for a message or the end of its channel, a process block for its processes).
use Rattle.std.specs.Prelude.{◌≡◌, ◌⊎◌, ℕ, Bool, true, false, is_some, Option, Some, None, List, [], Contains}
use Rattle.std.specs.FinMap.{get}
use Rattle.fm_base.specs.declared.path.ChanName.{ChanName}
use Rattle.fm_base.specs.declared.port.PortValue.{PortValue}
use Rattle.fm_base.specs.declared.port.PortValue.TheVariants.{Writer, Reader}
use Rattle.fm_base.specs.Channels.{Chans}
use Rattle.fm_chan.specs.declared.channels.Channels.{Channels}
use Rattle.fm_chan.specs.Received.{pops_at}
use Rattle.fm_chan.specs.Woken.{waiting_reader, woken_of}
use Rattle.fm_net.specs.Machine as net
use Rattle.fm_net.specs.Machine.{Place, Procs, State, Need, Stop, Go, served}
use Rattle.fm_code.specs.declared.ask.Ask.{Ask}
use Rattle.fm_code.specs.declared.ask.Ask.TheVariants as ask
use Rattle.fm_machine_calls.specs.declared.looking.Look as looking
use Rattle.fm_machine_calls.specs.declared.looking.Look.TheVariants as look
use Rattle.fm_proc_language.specs.Processes.{CodeProc, Kid, Phase, Running, Joining, Ended, Faulted, has_ended, asks, code_language}
use Rattle.fm_proc_language.specs.Needs.{need_of}
use Rattle.fm_net_procs.specs.Readings as table
use Rattle.fm_net_procs.specs.Waiting as waiting

-- the children for which a process in this phase waits
abbrev pub kids_in : Phase → List Kid
kids_in Running = []
kids_in (Joining block kids) = kids
kids_in Ended = []
kids_in (Faulted line fault) = []

abbrev pub ended_at : Option CodeProc → Bool
ended_at o = table.ended_at has_ended o

abbrev pub can_in : State CodeProc → Option Place → Bool
can_in s o = waiting.can_in code_language s o

-- whether the process of this number can step
abbrev pub can_at : State CodeProc → List Place → ℕ → Bool
can_at s places n = waiting.can_at code_language s places n

-- the channel of a receive
abbrev pub channel_needed : Option Need → Option ChanName
channel_needed o = waiting.channel_needed o

-- the channel at which a process waits for a message, if it waits at one
abbrev pub channel_waited : CodeProc → Option ChanName
channel_waited y = channel_needed (need_of y)

-- a process of this number is noted at the channel where it waits for a message, or was woken
abbrev pub IsNoted : Channels → (number : ℕ) → CodeProc → Type 0
IsNoted channels number y = (c : ChanName) → channel_waited y ≡ Some c → (waiting_reader channels c ≡ Some number) ⊎ Contains (woken_of channels) number

-- whether a message can be sent by what stands in a slot
abbrev pub sends_at : Option PortValue → Chans → Bool
sends_at None cs = false
sends_at (Some (Reader c)) cs = false
sends_at (Some (Writer c w)) cs = is_some (get cs c)

-- whether a receive by it is ready
abbrev pub receives_at : Option PortValue → Chans → Bool
receives_at None cs = false
receives_at (Some (Writer c w)) cs = false
receives_at (Some (Reader c)) cs = pops_at (get cs c)

-- whether it can be probed
abbrev pub probes_at : Option PortValue → Chans → Bool
probes_at None cs = false
probes_at (Some (Writer c w)) cs = false
probes_at (Some (Reader c)) cs = is_some (get cs c)

-- the channel of an inport
abbrev pub inport_in : Option PortValue → Option ChanName
inport_in None = None
inport_in (Some (Writer c w)) = None
inport_in (Some (Reader c)) = Some c

-- whether this is a join
abbrev pub is_join : Ask → Bool
is_join (ask.Fail line fault) = false
is_join (ask.LetGo slots) = false
is_join (ask.Channel inport outport next) = false
is_join (ask.Merger inport outports next) = false
is_join (ask.Send slot items next) = false
is_join (ask.Receive slot items status at_end next) = false
is_join (ask.Probe slot empty next) = false
is_join (ask.Begin next) = false
is_join (ask.Join next) = true
is_join ask.End = false

-- the event at which a process stands that does this next, if it stands at one
abbrev pub event_in : looking.Look → Option Ask
event_in look.Goes = None
event_in (look.Asks k) = Some k
event_in look.Stuck = None

abbrev pub served_asked : (m : Procs CodeProc) → Chans → Place → net.Ask CodeProc → Bool
served_asked m cs q Stop = false
served_asked m cs q (Go need f) = is_some (served has_ended m cs q need)

-- whether the processes and channels let a process at this place go on
abbrev pub is_served : (m : Procs CodeProc) → Chans → Place → CodeProc → Bool
is_served m cs q y = served_asked m cs q (asks y)
