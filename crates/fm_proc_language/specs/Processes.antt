-- Processes of stack code: what each needs next, and how it goes on with the reply.
-- Source: the Fortran M report (processes, channels, process blocks), with this profile's copying back, discarding and costs.
use Rattle.std.specs.Prelude.{ℕ, suc, ℤ, pos, negsuc, ◌+◌, ◌==◌, Bool, true, false, Option, Some, None, List, [], ◌∷◌, ◌++◌, length, map, unwrap_or, slice_set, replicate}
use Rattle.std.specs.List.{flat_map}
use Rattle.fm_base.specs.declared.fault.Fault.{Fault}
use Rattle.fm_base.specs.declared.fault.Fault.TheVariants.{EndOfChannel, Subscript}
use Rattle.fm_base.specs.declared.path.ChanName.{ChanName}
use Rattle.fm_base.specs.declared.port.PortValue.{PortValue}
use Rattle.fm_base.specs.declared.port.PortValue.TheVariants.{Writer, Reader}
use Rattle.fm_base.specs.Channels.{Words, Ports, Message, Limits, Push, Pop, Look}
use Rattle.fm_values.specs.Values.{truth_word}
use Rattle.fm_net.specs.Lawful.{ports_from}
use Rattle.fm_net.specs.Machine as net
use Rattle.fm_net.specs.Machine.{Nothing, New, Children, Onward, Stop, Go, Reply}
use Rattle.fm_net.specs.Language.{Language}
use Rattle.fm_code.specs.declared.ask.Ask.{Ask}
use Rattle.fm_code.specs.declared.ask.Ask.TheVariants as ask
use Rattle.fm_code.specs.declared.ask.Operand.{Operand}
use Rattle.fm_code.specs.declared.ask.Operand.TheVariants as operand
use Rattle.fm_code.specs.declared.body.Back.{Back}
use Rattle.fm_code.specs.declared.body.Body.{Body}
use Rattle.fm_code.specs.declared.body.Frame.{Frame}
use Rattle.fm_code.specs.declared.body.Start.{Start}
use Rattle.fm_code.specs.declared.code.Formal.{Formal}
use Rattle.fm_code.specs.Passing.{back_words}
use Rattle.fm_code.specs.Statements as code
use Rattle.fm_code.specs.Statements.{CodeUnit, unit_at, ports_of, line_of, at_statement, new_frame, action_of, start_ports, left_ports}
use Rattle.fm_proc_language.specs.Slots.{Slots, no_slots, in_slot, port_in, all_left, all_drained, vacated}
use Rattle.fm_proc_language.specs.Frames.{Held, message_from, all_stored, port_words, all_placed, moved_over, Joined, all_given, kept}

-- a child that is to be joined: its unit, and what it gives back
pub record Kid : Type 0 where
  pub unit : ℕ
  pub backs : List Back

pub data Phase : Type 0 where
  Running : Phase
  Joining : (block : ℕ) → (kids : List Kid) → Phase
  Ended : Phase
  Faulted : (line : ℕ) → (fault : Fault) → Phase

-- a body with the ports of its slots, its phase, its output, and the numbers of the block and of the channel that it makes next;
-- a child that was joined has no body
pub record CodeProc : Type 0 where
  pub phase : Phase
  pub body : Option Body
  pub slots : Slots
  pub lines : List (List ℕ)
  pub next_block : ℕ
  pub next_channel : ℕ

abbrev pub is_ended : Phase → Bool
is_ended Running = false
is_ended (Joining block kids) = false
is_ended Ended = true
is_ended (Faulted line fault) = false

abbrev pub has_ended : CodeProc → Bool
has_ended y = is_ended y.phase

abbrev pub emptied : CodeProc → CodeProc
emptied y = record y { body = None; slots = no_slots }

-- Ports.

abbrev pub frame_words : Body → Frame → List ℤ
frame_words b m = left_ports (record b { frame = m }) m.words

abbrev pub body_words : Body → List ℤ
body_words b = frame_words b b.frame ++ flat_map (frame_words b) b.below

abbrev pub held_by : Option Body → Slots → List PortValue
held_by None s = []
held_by (Some b) s = map (port_in s) (body_words b)

abbrev pub held : CodeProc → List PortValue
held y = held_by y.body y.slots

-- Going on.

abbrev pub onward : (before after : CodeProc) → (starts : List CodeProc) → (drops : List PortValue) → (cost : ℕ) → Onward CodeProc
onward y z starts drops cost = record { self = z; block = y.next_block; starts = starts; drops = drops; cost = cost }

abbrev pub faulted : CodeProc → (line : ℕ) → Fault → Onward CodeProc
faulted y line fault = onward y (record y { phase = Faulted line fault }) [] [] 1

-- after a step of its own
abbrev pub gone_on : CodeProc → Body → List (List ℕ) → List ℤ → CodeProc
gone_on y b lines drops = record y { body = Some b; slots = all_left y.slots drops; lines = y.lines ++ lines }

-- what its innermost frame holds
abbrev pub holding : CodeProc → Body → Held
holding y b = record { words = b.frame.words; slots = y.slots }

-- with other words in its innermost frame, at another statement
abbrev pub going_on : CodeProc → Body → (next : ℕ) → Held → CodeProc
going_on y b next h = record y { body = Some (record b { frame = at_statement (record b.frame { words = h.words }) next }); slots = h.slots }

abbrev pub made : CodeProc → Body → (next : ℕ) → List ℕ → (writers cost : ℕ) → ChanName → Onward CodeProc
made y b next words n cost c = onward y
    (record (going_on y b next (all_placed (holding y b) words (ports_from c n)).0) { next_channel = suc y.next_channel })
    [] (all_placed (holding y b) words (ports_from c n)).1 cost

abbrev pub message_words : Message → ℕ
message_words [] = 0
message_words (Words ws ∷ is) = length ws + message_words is
message_words (Ports ps ∷ is) = length ps + message_words is

abbrev pub sent : CodeProc → Body → (next : ℕ) → Held × Message → Onward CodeProc
sent y b next m = onward y (going_on y b next m.0) [] [] (1 + message_words m.1)

-- the word of IOSTAT, where it is asked for
abbrev pub with_status : Held → Option ℕ → ℤ → Held
with_status h None n = h
with_status h (Some k) n = record h { words = slice_set h.words k n }

abbrev pub came : CodeProc → Body → (next : ℕ) → List Operand → Option ℕ → Message → Onward CodeProc
came y b next items status m = onward y
    (going_on y b next (with_status (all_stored (holding y b) items m).0 status (pos 0)))
    [] (all_stored (holding y b) items m).1 (1 + message_words m)

-- at the end of the channel IOSTAT = -1 and a jump to END, where they are given; with neither it is a fault
abbrev pub at_the_end : CodeProc → Body → (next : ℕ) → Option ℕ → Option ℕ → Onward CodeProc
at_the_end y b next None None = faulted y (line_of b) EndOfChannel
at_the_end y b next None (Some to) = onward y (going_on y b to (holding y b)) [] [] 1
at_the_end y b next (Some k) to = onward y (going_on y b (unwrap_or to next) (with_status (holding y b) (Some k) (negsuc 0))) [] [] 1

abbrev pub received : CodeProc → Body → (next : ℕ) → List Operand → Option ℕ → Option ℕ → Option Message → Onward CodeProc
received y b next items status at_end None = at_the_end y b next status at_end
received y b next items status at_end (Some m) = came y b next items status m

-- a receive takes as many elements for each item as its place has
abbrev pub limit_of : Operand → Option ℕ
limit_of (operand.Value v) = None
limit_of (operand.Words s) = Some s.count
limit_of (operand.Ports s) = Some s.count

abbrev pub limits_of : List Operand → Limits
limits_of items = map limit_of items

-- where none came since the first one has more, it stays, and that is a fault
abbrev pub met : CodeProc → Body → (next : ℕ) → List Operand → Option ℕ → Option ℕ → (exceeds : Bool) → Option Message → Onward CodeProc
met y b next items status at_end true None = faulted y (line_of b) Subscript
met y b next items status at_end true (Some m) = received y b next items status at_end (Some m)
met y b next items status at_end false m = received y b next items status at_end m

abbrev pub probed : CodeProc → Body → (next : ℕ) → (empty : ℕ) → Bool → Onward CodeProc
probed y b next k waits = onward y (going_on y b next (with_status (holding y b) (Some k) (truth_word waits))) [] [] 1

-- Blocks.

abbrev pub kid_of : Start → Kid
kid_of s = record { unit = s.unit; backs = s.backs }

abbrev pub loops_in : Option CodeUnit → ℕ
loops_in None = 0
loops_in (Some u) = u.loops

-- the frame with which a child begins
abbrev pub first_frame : Body → Start → List ℤ → Frame
first_frame b s ws = record { unit = s.unit; address = 0; words = ws; loops = replicate (loops_in (unit_at b s.unit)) None; results = []; starts = []; backs = s.backs }

abbrev pub child_with : Body → Start → List ℤ → Slots → CodeProc
child_with b s ws slots = record {
  phase = Running;
  body = Some (record { code = b.code; machine = s.machine; node = s.node; frame = first_frame b s ws; below = [] });
  slots = slots;
  lines = [];
  next_block = 1;
  next_channel = 1;
}

-- the ports of its words come to slots of its own: the child, and the slots of its parent then
abbrev pub child_of : Body → Slots → Start → CodeProc × Slots
child_of b slots s =
    let over = moved_over (ports_of (unit_at b s.unit)) s.words slots no_slots in
    (child_with b s over.0 over.1.1, over.1.0)

abbrev pub children_of : Body → Slots → List Start → List CodeProc × Slots
children_of b slots [] = ([], slots)
children_of b slots (s ∷ ss) = ((child_of b slots s).0 ∷ (children_of b (child_of b slots s).1 ss).0, (children_of b (child_of b slots s).1 ss).1)

-- all starts begin as the next block, and the process joins
abbrev pub began : CodeProc → Body → (next : ℕ) → Onward CodeProc
began y b next = onward y
    (record y {
      phase = Joining y.next_block (map kid_of b.frame.starts);
      body = Some (record b { frame = record b.frame { starts = []; address = next } });
      slots = (children_of b y.slots b.frame.starts).1;
      next_block = suc y.next_block;
    })
    (children_of b y.slots b.frame.starts).0 [] (1 + length b.frame.starts)

-- a child of this unit gives back
abbrev pub given_back : Bool → Joined → List Back → Joined
given_back true j bs = all_given j bs
given_back false j bs = j

-- copying back from the frame of a child, and then discarding what it still has
abbrev pub rest_dropped : Body → Joined → Joined
rest_dropped b j = record j { drops = j.drops ++ vacated j.theirs.slots (left_ports b j.theirs.words ++ flat_map (frame_words b) b.below) }

abbrev pub kid_back : Joined → Kid → Slots → Option Body → Joined
kid_back j k slots None = j
kid_back j k slots (Some b) = rest_dropped b (given_back (b.frame.unit == k.unit) (record j { theirs = record { words = b.frame.words; slots = slots } }) k.backs)

-- in order of the starts, and of the arguments
abbrev pub kids_back : Joined → List Kid → List CodeProc → Joined
kids_back j kids [] = j
kids_back j [] (z ∷ zs) = kids_back (kid_back j (record { unit = 0; backs = [] }) z.slots z.body) [] zs
kids_back j (k ∷ kids) (z ∷ zs) = kids_back (kid_back j k z.slots z.body) kids zs

abbrev pub joining_words : List Kid → ℕ
joining_words [] = 0
joining_words (k ∷ ks) = back_words k.backs + joining_words ks

abbrev pub joins_with : CodeProc → Body → (next cost : ℕ) → Joined → Onward CodeProc
joins_with y b next cost j = onward y (record (going_on y b next j.mine) { phase = Running }) [] j.drops cost

abbrev pub joined : CodeProc → Body → (next : ℕ) → List Kid → List CodeProc → Onward CodeProc
joined y b next kids zs =
    joins_with y b next (1 + joining_words kids) (kids_back (record { mine = holding y b; theirs = record { words = []; slots = no_slots }; drops = [] }) kids zs)

-- The end of a process.

abbrev pub formals_in : Option CodeUnit → List Formal
formals_in None = []
formals_in (Some u) = u.formals

-- the process's own frame stays with what is kept; all other ports are let go, innermost first
abbrev pub ended_frame : Body → Frame → List Frame → Frame × List ℤ
ended_frame b m [] =
    let k = kept (formals_in (unit_at b m.unit)) (ports_of (unit_at b m.unit)) m.words in
    (record m { words = k.0; results = []; starts = [] }, k.1 ++ start_ports b m.starts)
ended_frame b m (n ∷ ns) = ((ended_frame b n ns).0, frame_words b m ++ (ended_frame b n ns).1)

-- no port comes to its slots any more
abbrev pub ended : CodeProc → Body → Onward CodeProc
ended y b =
    let e = ended_frame b b.frame b.below in
    onward y (record y { phase = Ended; body = Some (record b { frame = e.0; below = [] }); slots = all_drained y.slots e.1 }) [] (vacated y.slots e.1) 1

-- Asking.

-- the event at the channel of a port: a send by a writer, or a receive or a look at an inport. Where no such port stands in the
-- slot, nothing is asked
abbrev pub sends_by : CodeProc → Body → Option PortValue → Held × Message → (next : ℕ) → net.Ask CodeProc
sends_by y b None m next = Stop
sends_by y b (Some (Reader c)) m next = Stop
sends_by y b (Some (Writer c w)) m next = Go (net.Event c (Push w m.1)) (λ n r. sent y b next m)

abbrev pub receives_by : CodeProc → Body → Option PortValue → List Operand → (status at_end : Option ℕ) → (next : ℕ) → net.Ask CodeProc
receives_by y b None items status at_end next = Stop
receives_by y b (Some (Writer c w)) items status at_end next = Stop
receives_by y b (Some (Reader c)) items status at_end next = Go (net.Event c (Pop (limits_of items))) (λ n r. met y b next items status at_end r.exceeds r.message)

abbrev pub probes_by : CodeProc → Body → Option PortValue → (empty next : ℕ) → net.Ask CodeProc
probes_by y b None empty next = Stop
probes_by y b (Some (Writer c w)) empty next = Stop
probes_by y b (Some (Reader c)) empty next = Go (net.Event c Look) (λ n r. probed y b next empty r.waits)

-- of a running process
abbrev pub runs_by : CodeProc → Body → Ask → net.Ask CodeProc
runs_by y b (ask.Fail line fault) = Go Nothing (λ c r. faulted y line.0 fault)
runs_by y b (ask.LetGo slots) = Stop
runs_by y b (ask.Channel inport outport next) = Go (New y.next_channel 1) (λ c r. made y b next (inport ∷ outport ∷ []) 1 1 c)
runs_by y b (ask.Merger inport outports next) =
    Go (New y.next_channel (length (port_words outports))) (λ c r. made y b next (inport ∷ port_words outports) (length (port_words outports)) (1 + length (port_words outports)) c)
runs_by y b (ask.Send slot items next) = sends_by y b (in_slot y.slots slot) (message_from (holding y b) items) next
runs_by y b (ask.Receive slot items status at_end next) = receives_by y b (in_slot y.slots slot) items status at_end next
runs_by y b (ask.Probe slot empty next) = probes_by y b (in_slot y.slots slot) empty next
runs_by y b (ask.Begin next) = Go Nothing (λ c r. began y b next)
runs_by y b (ask.Join next) = Stop
runs_by y b ask.End = Go Nothing (λ c r. ended y b)

abbrev pub running_by : CodeProc → Body → code.Action → net.Ask CodeProc
running_by y b code.Stuck = Stop
running_by y b (code.Own after lines drops cost) = Go Nothing (λ c r. onward y (gone_on y after lines drops) [] (vacated y.slots drops) cost)
running_by y b (code.Meets k) = runs_by y b k

-- of one that joins
abbrev pub joins_by : CodeProc → Body → (block : ℕ) → List Kid → Ask → net.Ask CodeProc
joins_by y b block kids (ask.Fail line fault) = Stop
joins_by y b block kids (ask.LetGo slots) = Stop
joins_by y b block kids (ask.Channel inport outport next) = Stop
joins_by y b block kids (ask.Merger inport outports next) = Stop
joins_by y b block kids (ask.Send slot items next) = Stop
joins_by y b block kids (ask.Receive slot items status at_end next) = Stop
joins_by y b block kids (ask.Probe slot empty next) = Stop
joins_by y b block kids (ask.Begin next) = Stop
joins_by y b block kids (ask.Join next) = Go (Children block (length kids)) (λ c r. joined y b next kids r.children)
joins_by y b block kids ask.End = Stop

abbrev pub joining_by : CodeProc → Body → (block : ℕ) → List Kid → code.Action → net.Ask CodeProc
joining_by y b block kids code.Stuck = Stop
joining_by y b block kids (code.Own after lines drops cost) = Stop
joining_by y b block kids (code.Meets k) = joins_by y b block kids k

abbrev pub asks_by : CodeProc → Phase → Option Body → net.Ask CodeProc
asks_by y phase None = Stop
asks_by y Running (Some b) = running_by y b (action_of b)
asks_by y (Joining block kids) (Some b) = joining_by y b block kids (action_of b)
asks_by y Ended (Some b) = Stop
asks_by y (Faulted line fault) (Some b) = Stop

-- what a process does next
abbrev pub asks : CodeProc → net.Ask CodeProc
asks y = asks_by y y.phase y.body

-- the language of stack code, as the machine and its laws see it
abbrev pub code_language : Language CodeProc
code_language = record { ask = asks; has_ended = has_ended; emptied = emptied; held = held; next_block = λ y. y.next_block; next_channel = λ y. y.next_channel }
