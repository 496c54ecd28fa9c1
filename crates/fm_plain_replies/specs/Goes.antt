-- How a process goes on with the reply to its event, in its innermost frame. A process without frames stays as it is.
-- Source: the Fortran M report (CHANNEL, MERGER, SEND, RECEIVE, process blocks), with this profile's PROBE, discarding and costs.
use Rattle.std.specs.Prelude.{ℕ, Bool, Option, List, [], ◌∷◌}
use Rattle.fm_base.specs.declared.path.ChanName.{ChanName}
use Rattle.fm_base.specs.Channels.{Message}
use Rattle.fm_net.specs.Machine.{Onward}
use Rattle.fm_mean.specs.declared.place.Actual.{Actual}
use Rattle.fm_mean.specs.declared.place.Span.{Span}
use Rattle.fm_mean.specs.Places.{message_from}
use Rattle.fm_mean.specs.Process.{Frame, Proc}
use Rattle.fm_mean.specs.Steps.{onward, made, left_with, came, at_the_end, probed, began}

abbrev pub in_frames : Proc → (List Frame → Frame → Onward Proc) → List Frame → Onward Proc
in_frames x k [] = onward x x [] [] 0
in_frames x k (f ∷ below) = k below f

-- with the innermost frame, and those below it
abbrev pub in_frame : Proc → (List Frame → Frame → Onward Proc) → Onward Proc
in_frame x k = in_frames x k x.execution.frames

-- the ports of the channel that was made are put into these places
abbrev pub after_make : Proc → (next : ℕ) → List Span → (writers cost : ℕ) → ChanName → Onward Proc
after_make x next places n cost c = in_frame x (λ below f. made x below f next places n cost c)

-- the items of the message that was sent are taken
abbrev pub after_send : Proc → (next : ℕ) → List Actual → Onward Proc
after_send x next items = in_frame x (λ below f. left_with x below f next (message_from f.values items))

abbrev pub message_in : List Frame → List Actual → Message
message_in [] items = []
message_in (f ∷ below) items = (message_from f.values items).1

-- the message that is sent
abbrev pub message_sent : Proc → List Actual → Message
message_sent x items = message_in x.execution.frames items

-- a message was received
abbrev pub after_message : Proc → (next : ℕ) → List Span → Option Span → Message → Onward Proc
after_message x next items iostat m = in_frame x (λ below f. came x below f next items iostat m)

-- the channel is at its end
abbrev pub after_end_of_channel : Proc → (line next : ℕ) → Option Span → Option ℕ → Onward Proc
after_end_of_channel x line next iostat to = in_frame x (λ below f. at_the_end x line below f next iostat to)

-- it was asked whether a receive would wait
abbrev pub after_probe : Proc → (next : ℕ) → Span → Bool → Onward Proc
after_probe x next place waits = in_frame x (λ below f. probed x below f next place waits)

-- the open block begins
abbrev pub after_begin : Proc → Onward Proc
after_begin x = in_frame x (λ below f. began x below f)
