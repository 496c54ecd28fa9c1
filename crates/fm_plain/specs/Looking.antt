-- What a process does next, told without doing it.
-- Source: this profile.
use Rattle.std.specs.Prelude.{◌≡◌, Bool, true, false, Option, Some, None, List, [], ◌∷◌}
use Rattle.fm_base.specs.Channels.{ChannelOp, Push, Pop, Look}
use Rattle.fm_net.specs.Machine.{Need, Nothing, Event, New, Children}
use Rattle.fm_rules.specs.declared.program.Program.{Program}
use Rattle.fm_mean.specs.Process.{Phase, Proc}
use Rattle.fm_mean.specs.Process as process
use Rattle.fm_mean.specs.Actions as mean
use Rattle.fm_mean.specs.Actions.{Action, action_of}
use Rattle.fm_mean.specs.Outcome.{need_of}
use Rattle.fm_plain_frame.specs.declared.frame.Frame.{Frame}
use Rattle.fm_plain_frame.specs.Frames.{frame_of}
use Rattle.fm_plain.specs.declared.event.Event as code
use Rattle.fm_plain.specs.declared.event.Event.TheVariants as event
use Rattle.fm_plain.specs.declared.looking.Next.{Next}
use Rattle.fm_plain.specs.declared.looking.Next.TheVariants as next
use Rattle.fm_plain.specs.Events.{IsEvent}

-- an event of a channel that waits for nobody
abbrev pub is_free_event : ChannelOp → Bool
is_free_event (Push w m) = true
is_free_event (Pop limits) = false
is_free_event Look = true

-- a step that waits for nobody
abbrev pub is_free : Option Need → Bool
is_free None = false
is_free (Some Nothing) = true
is_free (Some (Event c a)) = is_free_event a
is_free (Some (New n writers)) = true
is_free (Some (Children b n)) = false

-- an action that waits for nobody
abbrev pub goes_free : Action → Bool
goes_free mean.Rest = false
goes_free (mean.Own w lines drops cost) = true
goes_free (mean.Meets (mean.Fail line fault)) = true
goes_free (mean.Meets (mean.Make places writers cost next)) = true
goes_free (mean.Meets (mean.Send channel writer items next)) = true
goes_free (mean.Meets (mean.Receive channel line items iostat at_end next)) = false
goes_free (mean.Meets (mean.Probe channel empty next)) = true
goes_free (mean.Meets mean.Begin) = true
goes_free (mean.Meets (mean.Join block kids next)) = false
goes_free (mean.Meets mean.End) = true

-- a receive, or the join of a block
abbrev pub waits_in : code.Event → Bool
waits_in (event.Fail line fault) = false
waits_in (event.Make places writers cost next) = false
waits_in (event.Send channel writer items next) = false
waits_in (event.Receive channel line items iostat at_end next) = true
waits_in (event.Probe channel empty next) = false
waits_in event.Begin = false
waits_in (event.Join block count next) = true
waits_in event.End = false

-- what the action of a process in this phase is
abbrev pub IsSeen : Phase → Action → Next → Type 0
IsSeen phase a next.Steps = goes_free a ≡ true
IsSeen phase a next.Rests = a ≡ mean.Rest
IsSeen phase a (next.Meets e) = IsEvent phase a e × (waits_in e ≡ true)

-- what a process does next: a step that waits for nobody, nothing, or an event that may wait
abbrev pub IsNext : Program → Proc → Next → Type 0
IsNext p x next.Steps = is_free (need_of p x) ≡ true
IsNext p x next.Rests = need_of p x ≡ None
IsNext p x (next.Meets e) = IsEvent x.phase (action_of p x) e × (waits_in e ≡ true)

-- an action that waits for nobody, or none
abbrev pub IsFreeOrNone : Bool → Action → Type 0
IsFreeOrNone true a = goes_free a ≡ true
IsFreeOrNone false a = a ≡ mean.Rest

-- the frames below the innermost one
abbrev pub below_top : List process.Frame → List process.Frame
below_top [] = []
below_top (f ∷ fs) = fs

-- the frame that is innermost, unless there is none
abbrev pub StandsOn : Program → List process.Frame → Option Frame → Type 0
StandsOn p fs None = fs ≡ []
StandsOn p fs (Some f) = fs ≡ frame_of p f ∷ below_top fs
