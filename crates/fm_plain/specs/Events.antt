-- The events that a process meets, as the code tells them.
-- Source: this profile.
use Rattle.std.specs.Prelude.{◌≡◌, List, [], length}
use Rattle.fm_mean.specs.Process.{Phase, Kid, Running, Joining, Ended, Faulted}
use Rattle.fm_mean.specs.Actions as mean
use Rattle.fm_plain.specs.declared.event.Event.{Event}
use Rattle.fm_plain.specs.declared.event.Event.TheVariants as event

-- the children that a process waits for
abbrev pub kids_in : Phase → List Kid
kids_in Running = []
kids_in (Joining block kids) = kids
kids_in Ended = []
kids_in (Faulted line fault) = []

-- the meaning's event; the children that are joined stand in the phase
abbrev pub event_by : Phase → Event → mean.Event
event_by phase (event.Fail line fault) = mean.Fail line.0 fault
event_by phase (event.Make places writers cost next) = mean.Make places writers cost next
event_by phase (event.Send channel writer items next) = mean.Send channel writer items next
event_by phase (event.Receive channel line items iostat at_end next) = mean.Receive channel line.0 items iostat at_end next
event_by phase (event.Probe channel empty next) = mean.Probe channel empty next
event_by phase event.Begin = mean.Begin
event_by phase (event.Join block count next) = mean.Join block (kids_in phase) next
event_by phase event.End = mean.End

-- the children are counted
abbrev pub IsCounted : Phase → Event → Type 0
IsCounted phase (event.Fail line fault) = Unit {0}
IsCounted phase (event.Make places writers cost next) = Unit {0}
IsCounted phase (event.Send channel writer items next) = Unit {0}
IsCounted phase (event.Receive channel line items iostat at_end next) = Unit {0}
IsCounted phase (event.Probe channel empty next) = Unit {0}
IsCounted phase event.Begin = Unit {0}
IsCounted phase (event.Join block count next) = count ≡ length (kids_in phase)
IsCounted phase event.End = Unit {0}

-- what a process meets is this event
abbrev pub IsEvent : Phase → mean.Action → Event → Type 0
IsEvent phase a e = (a ≡ mean.Meets (event_by phase e)) × IsCounted phase e
