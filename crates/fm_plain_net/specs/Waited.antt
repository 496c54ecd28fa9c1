-- The channel at which a process waits.
-- Source: this profile.
use Rattle.std.specs.Prelude.{Option, Some, None}
use Rattle.fm_base.specs.declared.path.ChanName.{ChanName}
use Rattle.fm_plain.specs.declared.event.Event as plain
use Rattle.fm_plain.specs.declared.event.Event.TheVariants as event
use Rattle.fm_plain.specs.declared.looking.Next.{Next}
use Rattle.fm_plain.specs.declared.looking.Next.TheVariants as next

-- the channel of a receive
abbrev pub channel_received : plain.Event → Option ChanName
channel_received (event.Fail line fault) = None
channel_received (event.Make places writers cost next) = None
channel_received (event.Send channel writer items next) = None
channel_received (event.Receive channel line items iostat at_end next) = Some channel
channel_received (event.Probe channel empty next) = None
channel_received event.Begin = None
channel_received (event.Join block count next) = None
channel_received event.End = None

-- the event at which a process stands that does this next, if it may wait there
abbrev pub event_in : Next → Option plain.Event
event_in next.Steps = None
event_in next.Rests = None
event_in (next.Meets e) = Some e
