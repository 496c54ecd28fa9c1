-- The steps of a program: what each action needs, and how the process goes on with the reply.
-- Source: the Fortran M report (processes, channels, process blocks), with this profile's copying back, discarding and costs.
use Rattle.std.specs.Prelude.{ℕ, suc, ℤ, pos, negsuc, ◌+◌, ◌==◌, Bool, true, false, Option, Some, None, List, [], ◌∷◌, ◌++◌, length, map, unwrap_or}
use Rattle.fm_base.specs.declared.fault.Fault.{Fault}
use Rattle.fm_base.specs.declared.fault.Fault.TheVariants.{EndOfChannel, Subscript}
use Rattle.fm_base.specs.declared.path.ChanName.{ChanName}
use Rattle.fm_base.specs.declared.port.PortValue.{PortValue}
use Rattle.fm_base.specs.Channels.{Item, Message, Limits, Push, Pop, Look}
use Rattle.fm_values.specs.Values.{truth_word}
use Rattle.fm_net.specs.Lawful.{ports_from}
use Rattle.fm_net.specs.Machine.{Place, Nothing, New, Children, Onward, Ask, Stop, Go, State, machine_step}
use Rattle.fm_net.specs.Machine as net
use Rattle.fm_net.specs.Language.{Language}
use Rattle.fm_net.specs.Owned.{main_alone}
use Rattle.fm_rules.specs.declared.program.Program.{Program}
use Rattle.fm_mean.specs.Names.{ProgramUnit, unit_at, main_number, all_unset}
use Rattle.fm_mean.specs.declared.place.Back.{Back}
use Rattle.fm_mean.specs.declared.place.Span.{Span}
use Rattle.fm_mean.specs.Places.{message_from, written, stored_all, placed_all, Returned, all_back, without_theirs}
use Rattle.fm_map.specs.Placement.{product}
use Rattle.fm_mean.specs.Process.{Start, Frame, Execution, Kid, Running, Joining, Ended, Faulted, Proc, with_frames, started_ports, frames_ports, has_ended, held, emptied}
use Rattle.fm_mean.specs.Calls.{back_words, new_frame, child_of, ended_frames}
use Rattle.fm_mean.specs.Actions.{Event, Fail, Make, Send, Receive, Probe, Begin, Join, End, Action, Rest, Own, Meets, at_entry, message_words, gone_on, action_of}

-- children begin in the block whose number comes next
abbrev pub onward : (before after : Proc) → (starts : List Proc) → (drops : List PortValue) → (cost : ℕ) → Onward Proc
onward x y starts drops cost = record { self = y; block = x.next_block; starts = starts; drops = drops; cost = cost }

-- a step that faults changes the phase alone, and costs 1
abbrev pub faulted : Proc → (line : ℕ) → Fault → Onward Proc
faulted x line fault = onward x (record x { phase = Faulted line fault }) [] [] 1

-- the process with other values in its top frame, at another entry
abbrev pub going_on : Proc → List Frame → Frame → (next : ℕ) → List Item → Proc
going_on x below f next vs = with_frames x (at_entry (record f { values = vs }) next ∷ below)

-- the inport is put first, then the outports, writer 0 first; what stood in their places is let go
abbrev pub made : Proc → List Frame → Frame → (next : ℕ) → List Span → (writers cost : ℕ) → ChanName → Onward Proc
made x below f next places n cost c = onward x
    (record (going_on x below f next (placed_all f.values places (ports_from c n)).0) { next_channel = suc x.next_channel })
    [] (placed_all f.values places (ports_from c n)).1 cost

-- the items of the message are taken
abbrev pub left_with : Proc → List Frame → Frame → (next : ℕ) → List Item × Message → Onward Proc
left_with x below f next m = onward x (going_on x below f next m.0) [] [] (1 + message_words m.1)

-- the word of IOSTAT, where it is asked for
abbrev pub with_status : List Item → Option Span → ℤ → List Item
with_status vs None n = vs
with_status vs (Some s) n = written vs s (n ∷ [])

-- the items are stored from left to right, and then IOSTAT = 0
abbrev pub came : Proc → List Frame → Frame → (next : ℕ) → List Span → Option Span → Message → Onward Proc
came x below f next items iostat m = onward x
    (going_on x below f next (with_status (stored_all f.values items m).0 iostat (pos 0)))
    [] (stored_all f.values items m).1 (1 + message_words m)

abbrev pub jump_to : (next : ℕ) → Option ℕ → ℕ
jump_to next to = unwrap_or to next

-- at the end of the channel IOSTAT = -1 and a jump to END, where they are given; with neither it is a fault
abbrev pub at_the_end : Proc → (line : ℕ) → List Frame → Frame → (next : ℕ) → Option Span → Option ℕ → Onward Proc
at_the_end x line below f next None None = faulted x line EndOfChannel
at_the_end x line below f next None (Some n) = onward x (going_on x below f n f.values) [] [] 1
at_the_end x line below f next (Some s) to = onward x (going_on x below f (jump_to next to) (with_status f.values (Some s) (negsuc 0))) [] [] 1

abbrev pub received : Proc → (line : ℕ) → List Frame → Frame → (next : ℕ) → List Span → Option Span → Option ℕ → Option Message → Onward Proc
received x line below f next items iostat to None = at_the_end x line below f next iostat to
received x line below f next items iostat to (Some m) = came x below f next items iostat m

-- a receive takes as many elements for each item as its place has
abbrev pub limits_of : List Span → Limits
limits_of items = map (λ s. Some s.count) items

-- where none came since the first one has more, it stays, and that is a fault
abbrev pub met : Proc → (line : ℕ) → List Frame → Frame → (next : ℕ) → List Span → Option Span → Option ℕ → (exceeds : Bool) → Option Message → Onward Proc
met x line below f next items iostat to true None = faulted x line Subscript
met x line below f next items iostat to true (Some m) = received x line below f next items iostat to (Some m)
met x line below f next items iostat to false m = received x line below f next items iostat to m

abbrev pub probed : Proc → List Frame → Frame → (next : ℕ) → Span → Bool → Onward Proc
probed x below f next place waits = onward x (going_on x below f next (written f.values place (truth_word waits ∷ []))) [] [] 1

abbrev pub kid_of : Start → Kid
kid_of s = record { unit = s.unit; backs = s.backs }

-- all starts begin as the next block, and the process joins
abbrev pub began : Proc → List Frame → Frame → Onward Proc
began x below f = onward x
    (record (with_frames x (record f { starts = [] } ∷ below)) { phase = Joining x.next_block (map kid_of f.starts); next_block = suc x.next_block })
    (map child_of f.starts) [] (1 + length f.starts)

abbrev pub dropping : List PortValue → Returned → Returned
dropping zs r = record r { drops = r.drops ++ zs }

-- a child of this unit gives back; the parent started no other
abbrev pub given_back : Bool → Returned → List Back → Returned
given_back true r bs = all_back r bs
given_back false r bs = r

-- copying back from the frame of a child, and then discarding what it still has
abbrev pub kid_back : Returned → Kid → List Frame → Returned
kid_back r k [] = r
kid_back r k (f ∷ fs) = dropping (started_ports f.starts ++ frames_ports fs) (without_theirs (given_back (f.unit == k.unit) (record r { theirs = f.values }) k.backs))

-- in order of the starts, and of the arguments
abbrev pub kids_back : Returned → List Kid → List Proc → Returned
kids_back r kids [] = r
kids_back r [] (y ∷ ys) = kids_back (kid_back r (record { unit = 0; backs = [] }) y.execution.frames) [] ys
kids_back r (k ∷ kids) (y ∷ ys) = kids_back (kid_back r k y.execution.frames) kids ys

abbrev pub joining_words : List Kid → ℕ
joining_words [] = 0
joining_words (k ∷ ks) = back_words k.backs + joining_words ks

abbrev pub joins_with : Proc → List Frame → Frame → (next cost : ℕ) → Returned → Onward Proc
joins_with x below f next cost r = onward x (record (going_on x below f next r.mine) { phase = Running }) [] r.drops cost

abbrev pub joined : Proc → List Frame → Frame → (next : ℕ) → List Kid → List Proc → Onward Proc
joined x below f next kids ys = joins_with x below f next (1 + joining_words kids) (kids_back (record { mine = f.values; theirs = []; drops = [] }) kids ys)

abbrev pub ended : Program → Proc → Onward Proc
ended p x = onward x (record (with_frames x (ended_frames p x.execution.frames).0) { phase = Ended }) [] (ended_frames p x.execution.frames).1 1

-- what an event needs, and how the process goes on with the reply, in its innermost frame
abbrev pub ask_at : Program → Proc → List Frame → Frame → Event → Ask Proc
ask_at p x below f (Fail line fault) = Go Nothing (λ c r. faulted x line fault)
ask_at p x below f (Make places n cost next) = Go (New x.next_channel n) (λ c r. made x below f next places n cost c)
ask_at p x below f (Send d w items next) = Go (net.Event d (Push w (message_from f.values items).1)) (λ c r. left_with x below f next (message_from f.values items))
ask_at p x below f (Receive d line items iostat to next) = Go (net.Event d (Pop (limits_of items))) (λ c r. met x line below f next items iostat to r.exceeds r.message)
ask_at p x below f (Probe d place next) = Go (net.Event d Look) (λ c r. probed x below f next place r.waits)
ask_at p x below f Begin = Go Nothing (λ c r. began x below f)
ask_at p x below f (Join block kids next) = Go (Children block (length kids)) (λ c r. joined x below f next kids r.children)
ask_at p x below f End = Go Nothing (λ c r. ended p x)

-- a process without frames meets nobody
abbrev pub ask_event : Program → Proc → Event → List Frame → Ask Proc
ask_event p x e [] = Stop
ask_event p x e (f ∷ below) = ask_at p x below f e

-- the same of an action
abbrev pub ask_for : Program → Proc → Action → Ask Proc
ask_for p x Rest = Stop
ask_for p x (Own w lines drops cost) = Go Nothing (λ c r. onward x (gone_on x w lines) [] drops cost)
ask_for p x (Meets e) = ask_event p x e x.execution.frames

-- what a process does next
abbrev pub ask : Program → Proc → Ask Proc
ask p x = ask_for p x (action_of p x)

-- the next state and the cost, where the process at this path can step
abbrev pub step : Program → State Proc → Place → Option (State Proc × ℕ)
step p = machine_step (ask p) has_ended emptied

-- the language of a program, as the machine and its laws see it
abbrev pub language : Program → Language Proc
language p = record { ask = ask p; has_ended = has_ended; emptied = emptied; held = held; next_block = λ x. x.next_block; next_channel = λ x. x.next_channel }

-- The PROGRAM at its first entry, with the nodes of its PROCESSORS, or one.

abbrev pub nodes_of : List ℕ → ℕ
nodes_of [] = 1
nodes_of (e ∷ es) = product (e ∷ es)

abbrev pub proc_of : Execution → Proc
proc_of w = record { phase = Running; execution = w; lines = []; next_block = 1; next_channel = 1 }

abbrev pub no_frames : Execution
no_frames = record { frames = []; machine = record { first = 0; count = 1 }; node = 0 }

abbrev pub main_in : ℕ → Option ProgramUnit → Execution
main_in n None = no_frames
main_in n (Some u) = record { frames = new_frame n (all_unset u.names.variables) [] ∷ []; machine = record { first = 0; count = nodes_of u.names.extents }; node = 0 }

abbrev pub main_by : Program → Option ℕ → Execution
main_by p None = no_frames
main_by p (Some n) = main_in n (unit_at p n)

abbrev pub first_proc : Program → Proc
first_proc p = proc_of (main_by p (main_number p))

-- main alone, and no channel
abbrev pub first : Program → State Proc
first p = main_alone (first_proc p)
