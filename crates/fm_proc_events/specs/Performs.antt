-- What a process does with its event: to itself, to the channels, and with the children that it starts or joins.
-- Source: the Fortran M report (processes, channels, process blocks), with this profile's atomic step.
use Rattle.std.specs.Prelude.{◌≡◌, ℕ, Bool, true, false, is_some, Option, Some, None, List, [], ◌++◌}
use Rattle.std.specs.FinMap.{get}
use Rattle.fm_base.specs.declared.path.ChanName.{ChanName}
use Rattle.fm_base.specs.Channels.{Chans, all_shed}
use Rattle.fm_code.specs.declared.ask.Ask.{Ask}
use Rattle.fm_code.specs.declared.ask.Ask.TheVariants as ask
use Rattle.fm_net.specs.Machine.{Place, Need, Nothing, Event, New, Children, Reply, Onward, Go, made, chans_after, spilt, served_at, reply_with}
use Rattle.fm_proc_language.specs.Processes.{CodeProc, asks}
use Rattle.fm_proc_language.specs.Needs.{need_of}

-- the reply of the channels to a need, or none where the process has to wait, or needs its children
abbrev pub reply_of : Chans → Need → Option (Reply CodeProc)
reply_of cs Nothing = Some (reply_with [])
reply_of cs (Event c a) = served_at a (get cs c)
reply_of cs (New n writers) = Some (reply_with [])
reply_of cs (Children b n) = None

abbrev pub reply_to : Chans → Option Need → Option (Reply CodeProc)
reply_to cs None = None
reply_to cs (Some need) = reply_of cs need

-- the channels let the process do its event
abbrev pub CanPerform : CodeProc → Chans → Type 0
CanPerform y cs = is_some (reply_to cs (need_of y)) ≡ true

-- the channel that it makes, if it makes one, isn't there yet
abbrev pub MakesNew : Place → CodeProc → Chans → Type 0
MakesNew p y cs = (number writers : ℕ) → need_of y ≡ Some (New number writers) → get cs (record { maker = p; number = number }) ≡ None

-- how it goes on: itself, the children that start, and the channels, at this cost
pub record GoesOn (p : Place) (y : CodeProc) (cs : Chans) (need : Need) (o : Onward CodeProc) (z : CodeProc) (starts : List CodeProc) (after : Chans) (cost : ℕ) : Type 0 where
  pub self : z ≡ o.self
  pub block : o.block ≡ y.next_block
  pub starts_are : starts ≡ o.starts
  pub chans : after ≡ all_shed (o.drops ++ spilt need cs) (chans_after p need cs)
  pub cost_is : cost ≡ o.cost

-- the process at this place did its event
pub record Performs (p : Place) (y : CodeProc) (cs : Chans) (z : CodeProc) (starts : List CodeProc) (after : Chans) (cost : ℕ) : Type 0 where
  pub need : Need
  pub goes : ChanName → Reply CodeProc → Onward CodeProc
  pub asks_so : asks y ≡ Go need goes
  pub reply : Reply CodeProc
  pub comes : reply_of cs need ≡ Some reply
  pub on : GoesOn p y cs need (goes (made p need) reply) z starts after cost

-- the process at this place joined these children
pub record Joins (p : Place) (y : CodeProc) (children : List CodeProc) (cs : Chans) (z : CodeProc) (after : Chans) (cost : ℕ) : Type 0 where
  pub block : ℕ
  pub count : ℕ
  pub goes : ChanName → Reply CodeProc → Onward CodeProc
  pub asks_so : asks y ≡ Go (Children block count) goes
  pub on : GoesOn p y cs (Children block count) (goes (made p (Children block count)) (reply_with children)) z [] after cost

-- what is asked by a port that the process has
abbrev pub is_at_port : Ask → Bool
is_at_port (ask.Fail line fault) = false
is_at_port (ask.LetGo slots) = false
is_at_port (ask.Channel inport outport next) = false
is_at_port (ask.Merger inport outports next) = false
is_at_port (ask.Send slot items next) = true
is_at_port (ask.Receive slot items status at_end next) = true
is_at_port (ask.Probe slot empty next) = true
is_at_port (ask.Begin next) = false
is_at_port (ask.Join next) = false
is_at_port ask.End = false
