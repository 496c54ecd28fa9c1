-- Whether processes and channels let a process go on, by what is told of it.
use Rattle.std.proofs.Common.{◌≡◌, ℕ, Bool, true, false, cond, Option, Some, None, List, [], ◌∷◌, refl, sym, ap, ap₂, ◌∙◌}
use Rattle.std.specs.Prelude.{◌&&◌, is_some, option_map}
use Rattle.std.specs.FinMap.{get}
use Rattle.fm_base.specs.declared.path.ChanName.{ChanName}
use Rattle.fm_base.specs.declared.port.PortValue.{PortValue}
use Rattle.fm_base.specs.declared.port.PortValue.TheVariants.{Writer, Reader}
use Rattle.fm_base.specs.Channels.{Chan, Chans, Limits, Message, Push, Pop, Look, is_ready}
use Rattle.fm_chan.specs.Received.{pops_at}
use Rattle.fm_net.specs.Machine as net
use Rattle.fm_net.specs.Machine.{Place, Procs, State, Nothing, Event, New, Children, Stop, Go, act, act_of, finished, served_at, reply_at}
use Rattle.fm_net_procs.proofs.Steps.{some_map}
use Rattle.fm_code.specs.declared.ask.Ask.{Ask}
use Rattle.fm_code.specs.declared.ask.Ask.TheVariants as ask
use Rattle.fm_code.specs.declared.ask.Operand.{Operand}
use Rattle.fm_code.specs.declared.body.Body.{Body}
use Rattle.fm_code.specs.Statements as code
use Rattle.fm_code.specs.Statements.{Action, action_of}
use Rattle.fm_machine_calls.specs.declared.looking.Look.TheVariants as look
use Rattle.fm_machine_calls.specs.Looks.{look_in}
use Rattle.fm_proc_language.specs.Frames.{Held}
use Rattle.fm_proc_language.specs.Needs.{need_in, need_of}
use Rattle.fm_proc_language.specs.Processes.{CodeProc, Kid, Phase, Running, Joining, Ended, Faulted, asks, asks_by, emptied, has_ended, joining_by, joins_by, limits_of, probes_by, receives_by, running_by, runs_by, sends_by}
use Rattle.fm_proc_language.specs.Slots.{in_slot}
use Rattle.fm_proc_events.specs.Performs.{reply_to}
use Rattle.fm_proc_events.specs.Told as told_of
use Rattle.fm_proc_events.specs.Told.{is_joining, is_running, look_by, look_of}
use Rattle.fm_procs.specs.Readings.{code_step}
use Rattle.fm_procs.specs.Waiting.{channel_needed, channel_waited, inport_in, is_join, is_served, probes_at, receives_at, sends_at, served_asked}
use Rattle.fm_procs.proofs.Letting.{lets_go, never_lets}

-- ---- steps of the machine

module _ (s : State CodeProc) (p : Place) where
  acts_served : (k : net.Ask CodeProc) → is_some (option_map finished (act asks has_ended emptied s.procs s.chans p k)) ≡ served_asked s.procs s.chans p k
  acts_served Stop = refl
  acts_served (Go need f) = some_map _ _ ∙ some_map _ _

  pub steps_not : get s.procs p ≡ None → is_some (code_step s p) ≡ false
  steps_not is = ap (λ o. is_some (option_map finished (act_of asks has_ended emptied s.procs s.chans p o))) is

  pub steps_served : (y : CodeProc) → get s.procs p ≡ Some y → is_some (code_step s p) ≡ is_served s.procs s.chans p y
  steps_served y is = ap (λ o. is_some (option_map finished (act_of asks has_ended emptied s.procs s.chans p o))) is ∙ acts_served (asks y)

-- ---- what is told

same_ask : (j k : Ask) → look.Asks j ≡ look.Asks k → j ≡ k
same_ask j k e = cc e

-- a running process with its body
pub record InBody (y : CodeProc) : Type 0 where
  pub body : Body
  pub runs : y.phase ≡ Running
  pub is : y.body ≡ Some body

pub in_body : (y : CodeProc) → is_running y ≡ true → InBody y
in_body y running = go y.phase y.body refl refl running
  where
    go : (phase : Phase) (b : Option Body) → y.phase ≡ phase → y.body ≡ b → told_of.runs_by phase b ≡ true → InBody y
    go Running None ph is e = absurd (cc e)
    go Running (Some b) ph is e = record { body = b; runs = ph; is = is }
    go (Joining block kids) b ph is e = absurd (cc e)
    go Ended b ph is e = absurd (cc e)
    go (Faulted line fault) b ph is e = absurd (cc e)

module _ (y : CodeProc) (i : InBody y) where
  asks_running : asks y ≡ running_by y i.body (action_of i.body)
  asks_running = ap₂ (asks_by y) i.runs i.is

  looks_running : look_of y ≡ look_in (action_of i.body)
  looks_running = ap₂ look_by i.runs i.is

-- ---- where a port stands in a slot

sends_reply : (y : CodeProc) (b : Body) (o : Option PortValue) (m : Held × Message) (next : ℕ) (cs : Chans) → is_some (reply_to cs (need_in (sends_by y b o m next))) ≡ sends_at o cs
sends_reply y b None m next cs = refl
sends_reply y b (Some (Reader c)) m next cs = refl
sends_reply y b (Some (Writer c w)) m next cs = go (get cs c)
  where
    go : (o : Option Chan) → is_some (served_at {Proc = CodeProc} (Push w m.1) o) ≡ is_some o
    go None = refl
    go (Some ch) = refl

pops_served : (limits : Limits) (o : Option Chan) → is_some (served_at {Proc = CodeProc} (Pop limits) o) ≡ pops_at o
pops_served limits None = refl
pops_served limits (Some ch) = elim (is_ready (Pop limits) ch) as (λ b. is_some (cond b (Some (reply_at {Proc = CodeProc} (Pop limits) ch)) None) ≡ b) [
  | true ↦ refl
  | false ↦ refl
]

receives_reply : (y : CodeProc) (b : Body) (o : Option PortValue) (items : List Operand) (status at_end : Option ℕ) (next : ℕ) (cs : Chans) → is_some (reply_to cs (need_in (receives_by y b o items status at_end next))) ≡ receives_at o cs
receives_reply y b None items status at_end next cs = refl
receives_reply y b (Some (Writer c w)) items status at_end next cs = refl
receives_reply y b (Some (Reader c)) items status at_end next cs = pops_served (limits_of items) (get cs c)

receives_channel : (y : CodeProc) (b : Body) (o : Option PortValue) (items : List Operand) (status at_end : Option ℕ) (next : ℕ) → channel_needed (need_in (receives_by y b o items status at_end next)) ≡ inport_in o
receives_channel y b None items status at_end next = refl
receives_channel y b (Some (Writer c w)) items status at_end next = refl
receives_channel y b (Some (Reader c)) items status at_end next = refl

sends_channel : (y : CodeProc) (b : Body) (o : Option PortValue) (m : Held × Message) (next : ℕ) → channel_needed (need_in (sends_by y b o m next)) ≡ None
sends_channel y b None m next = refl
sends_channel y b (Some (Reader c)) m next = refl
sends_channel y b (Some (Writer c w)) m next = refl

probes_reply : (y : CodeProc) (b : Body) (o : Option PortValue) (empty next : ℕ) (cs : Chans) → is_some (reply_to cs (need_in (probes_by y b o empty next))) ≡ probes_at o cs
probes_reply y b None empty next cs = refl
probes_reply y b (Some (Writer c w)) empty next cs = refl
probes_reply y b (Some (Reader c)) empty next cs = go (get cs c)
  where
    go : (o : Option Chan) → is_some (served_at {Proc = CodeProc} Look o) ≡ is_some o
    go None = refl
    go (Some ch) = refl

probes_channel : (y : CodeProc) (b : Body) (o : Option PortValue) (empty next : ℕ) → channel_needed (need_in (probes_by y b o empty next)) ≡ None
probes_channel y b None empty next = refl
probes_channel y b (Some (Writer c w)) empty next = refl
probes_channel y b (Some (Reader c)) empty next = refl

-- ---- a running process that asks for something

-- whether the channels let it, by what it asks for
abbrev pub freed : CodeProc → Chans → Ask → Bool
freed y cs (ask.Fail line fault) = true
freed y cs (ask.LetGo slots) = true
freed y cs (ask.Channel inport outport next) = true
freed y cs (ask.Merger inport outports next) = true
freed y cs (ask.Send slot items next) = sends_at (in_slot y.slots slot) cs
freed y cs (ask.Receive slot items status at_end next) = receives_at (in_slot y.slots slot) cs
freed y cs (ask.Probe slot empty next) = probes_at (in_slot y.slots slot) cs
freed y cs (ask.Begin next) = true
freed y cs (ask.Join next) = false
freed y cs ask.End = true

runs_reply : (y : CodeProc) (b : Body) (cs : Chans) (k : Ask) → lets_go k ≡ false → is_some (reply_to cs (need_in (runs_by y b k))) ≡ freed y cs k
runs_reply y b cs (ask.Fail line fault) e = refl
runs_reply y b cs (ask.LetGo slots) e = absurd (cc e)
runs_reply y b cs (ask.Channel inport outport next) e = refl
runs_reply y b cs (ask.Merger inport outports next) e = refl
runs_reply y b cs (ask.Send slot items next) e = sends_reply y b _ _ next cs
runs_reply y b cs (ask.Receive slot items status at_end next) e = receives_reply y b _ items status at_end next cs
runs_reply y b cs (ask.Probe slot empty next) e = probes_reply y b _ empty next cs
runs_reply y b cs (ask.Begin next) e = refl
runs_reply y b cs (ask.Join next) e = refl
runs_reply y b cs ask.End e = refl

-- the channel of its receive
abbrev pub received : CodeProc → Ask → Option ChanName
received y (ask.Fail line fault) = None
received y (ask.LetGo slots) = None
received y (ask.Channel inport outport next) = None
received y (ask.Merger inport outports next) = None
received y (ask.Send slot items next) = None
received y (ask.Receive slot items status at_end next) = inport_in (in_slot y.slots slot)
received y (ask.Probe slot empty next) = None
received y (ask.Begin next) = None
received y (ask.Join next) = None
received y ask.End = None

runs_channel : (y : CodeProc) (b : Body) (k : Ask) → channel_needed (need_in (runs_by y b k)) ≡ received y k
runs_channel y b (ask.Fail line fault) = refl
runs_channel y b (ask.LetGo slots) = refl
runs_channel y b (ask.Channel inport outport next) = refl
runs_channel y b (ask.Merger inport outports next) = refl
runs_channel y b (ask.Send slot items next) = sends_channel y b _ _ next
runs_channel y b (ask.Receive slot items status at_end next) = receives_channel y b _ items status at_end next
runs_channel y b (ask.Probe slot empty next) = probes_channel y b _ empty next
runs_channel y b (ask.Begin next) = refl
runs_channel y b (ask.Join next) = refl
runs_channel y b ask.End = refl

lets_none : (b : Body) (k : Ask) → action_of b ≡ code.Meets k → (c : Bool) → lets_go k ≡ c → c ≡ false
lets_none b (ask.Fail line fault) acts c e = sym e
lets_none b (ask.LetGo slots) acts c e = absurd (never_lets b slots acts)
lets_none b (ask.Channel inport outport next) acts c e = sym e
lets_none b (ask.Merger inport outports next) acts c e = sym e
lets_none b (ask.Send slot items next) acts c e = sym e
lets_none b (ask.Receive slot items status at_end next) acts c e = sym e
lets_none b (ask.Probe slot empty next) acts c e = sym e
lets_none b (ask.Begin next) acts c e = sym e
lets_none b (ask.Join next) acts c e = sym e
lets_none b ask.End acts c e = sym e

module _ (y : CodeProc) (k : Ask) (told : look_of y ≡ look.Asks k) (running : is_running y ≡ true) where
  -- what the channels reply to it
  pub replies : (cs : Chans) → is_some (reply_to cs (need_of y)) ≡ freed y cs k
  replies cs =
      let i = in_body y running in
      ap (λ v. is_some (reply_to cs (need_in v))) (asks_running y i) ∙ go i.body (action_of i.body) refl (sym (looks_running y i) ∙ told)
    where
      go : (b : Body) (a : Action) → action_of b ≡ a → look_in a ≡ look.Asks k → is_some (reply_to cs (need_in (running_by y b a))) ≡ freed y cs k
      go b code.Stuck acts e = absurd (cc e)
      go b (code.Own after lines [] cost) acts e = absurd (cc e)
      go b (code.Own after lines (z ∷ zs) cost) acts e = ap (freed y cs) (same_ask (ask.LetGo (z ∷ zs)) k e)
      go b (code.Meets j) acts e = runs_reply y b cs j (lets_none b j acts (lets_go j) refl) ∙ ap (freed y cs) (same_ask j k e)

  -- where it waits
  pub waits_receiving : channel_waited y ≡ received y k
  waits_receiving =
      let i = in_body y running in
      ap (λ v. channel_needed (need_in v)) (asks_running y i) ∙ go i.body (action_of i.body) (sym (looks_running y i) ∙ told)
    where
      go : (b : Body) (a : Action) → look_in a ≡ look.Asks k → channel_needed (need_in (running_by y b a)) ≡ received y k
      go b code.Stuck e = absurd (cc e)
      go b (code.Own after lines [] cost) e = absurd (cc e)
      go b (code.Own after lines (z ∷ zs) cost) e = ap (received y) (same_ask (ask.LetGo (z ∷ zs)) k e)
      go b (code.Meets j) e = runs_channel y b j ∙ ap (received y) (same_ask j k e)

-- ---- a process that doesn't wait for children is served by the channels alone

abbrev is_alone : net.Ask CodeProc → Bool
is_alone Stop = true
is_alone (Go Nothing f) = true
is_alone (Go (Event c a) f) = true
is_alone (Go (New n writers) f) = true
is_alone (Go (Children b n) f) = false

sends_alone : (y : CodeProc) (b : Body) (o : Option PortValue) (m : Held × Message) (next : ℕ) → is_alone (sends_by y b o m next) ≡ true
sends_alone y b None m next = refl
sends_alone y b (Some (Reader c)) m next = refl
sends_alone y b (Some (Writer c w)) m next = refl

receives_alone : (y : CodeProc) (b : Body) (o : Option PortValue) (items : List Operand) (status at_end : Option ℕ) (next : ℕ) → is_alone (receives_by y b o items status at_end next) ≡ true
receives_alone y b None items status at_end next = refl
receives_alone y b (Some (Writer c w)) items status at_end next = refl
receives_alone y b (Some (Reader c)) items status at_end next = refl

probes_alone : (y : CodeProc) (b : Body) (o : Option PortValue) (empty next : ℕ) → is_alone (probes_by y b o empty next) ≡ true
probes_alone y b None empty next = refl
probes_alone y b (Some (Writer c w)) empty next = refl
probes_alone y b (Some (Reader c)) empty next = refl

asked_alone : (y : CodeProc) (b : Body) (k : Ask) → is_alone (runs_by y b k) ≡ true
asked_alone y b (ask.Fail line fault) = refl
asked_alone y b (ask.LetGo slots) = refl
asked_alone y b (ask.Channel inport outport next) = refl
asked_alone y b (ask.Merger inport outports next) = refl
asked_alone y b (ask.Send slot items next) = sends_alone y b _ _ next
asked_alone y b (ask.Receive slot items status at_end next) = receives_alone y b _ items status at_end next
asked_alone y b (ask.Probe slot empty next) = probes_alone y b _ empty next
asked_alone y b (ask.Begin next) = refl
asked_alone y b (ask.Join next) = refl
asked_alone y b ask.End = refl

running_alone : (y : CodeProc) (b : Body) (a : Action) → is_alone (running_by y b a) ≡ true
running_alone y b code.Stuck = refl
running_alone y b (code.Own after lines drops cost) = refl
running_alone y b (code.Meets k) = asked_alone y b k

joins_nothing : (y : CodeProc) (b : Body) (block : ℕ) (kids : List Kid) (k : Ask) → is_join k ≡ false → joins_by y b block kids k ≡ Stop
joins_nothing y b block kids (ask.Fail line fault) e = refl
joins_nothing y b block kids (ask.LetGo slots) e = refl
joins_nothing y b block kids (ask.Channel inport outport next) e = refl
joins_nothing y b block kids (ask.Merger inport outports next) e = refl
joins_nothing y b block kids (ask.Send slot items next) e = refl
joins_nothing y b block kids (ask.Receive slot items status at_end next) e = refl
joins_nothing y b block kids (ask.Probe slot empty next) e = refl
joins_nothing y b block kids (ask.Begin next) e = refl
joins_nothing y b block kids (ask.Join next) e = absurd (cc e)
joins_nothing y b block kids ask.End e = refl

joins_channel : (y : CodeProc) (b : Body) (block : ℕ) (kids : List Kid) (k : Ask) → channel_needed (need_in (joins_by y b block kids k)) ≡ None
joins_channel y b block kids (ask.Fail line fault) = refl
joins_channel y b block kids (ask.LetGo slots) = refl
joins_channel y b block kids (ask.Channel inport outport next) = refl
joins_channel y b block kids (ask.Merger inport outports next) = refl
joins_channel y b block kids (ask.Send slot items next) = refl
joins_channel y b block kids (ask.Receive slot items status at_end next) = refl
joins_channel y b block kids (ask.Probe slot empty next) = refl
joins_channel y b block kids (ask.Begin next) = refl
joins_channel y b block kids (ask.Join next) = refl
joins_channel y b block kids ask.End = refl

joining_channel : (y : CodeProc) (b : Body) (block : ℕ) (kids : List Kid) (a : Action) → channel_needed (need_in (joining_by y b block kids a)) ≡ None
joining_channel y b block kids code.Stuck = refl
joining_channel y b block kids (code.Own after lines drops cost) = refl
joining_channel y b block kids (code.Meets k) = joins_channel y b block kids k

-- who doesn't run waits for no message
pub waits_not : (y : CodeProc) → is_running y ≡ false → channel_waited y ≡ None
waits_not y running = go y.phase y.body running
  where
    go : (phase : Phase) (b : Option Body) → told_of.runs_by phase b ≡ false → channel_needed (need_in (asks_by y phase b)) ≡ None
    go Running None e = refl
    go Running (Some b) e = absurd (cc e)
    go (Joining block kids) None e = refl
    go (Joining block kids) (Some b) e = joining_channel y b block kids (action_of b)
    go Ended None e = refl
    go Ended (Some b) e = refl
    go (Faulted line fault) None e = refl
    go (Faulted line fault) (Some b) e = refl

-- nor does one with a step of its own
pub goes_waits : (y : CodeProc) → look_of y ≡ look.Goes → channel_waited y ≡ None
goes_waits y told = go y.phase y.body told
  where
    acts_goes : (b : Body) (a : Action) → look_in a ≡ look.Goes → channel_needed (need_in (running_by y b a)) ≡ None
    acts_goes b code.Stuck e = refl
    acts_goes b (code.Own after lines drops cost) e = refl
    acts_goes b (code.Meets k) e = absurd (cc e)

    go : (phase : Phase) (b : Option Body) → look_by phase b ≡ look.Goes → channel_needed (need_in (asks_by y phase b)) ≡ None
    go Running None e = refl
    go Running (Some b) e = acts_goes b (action_of b) e
    go (Joining block kids) None e = refl
    go (Joining block kids) (Some b) e = joining_channel y b block kids (action_of b)
    go Ended None e = refl
    go Ended (Some b) e = refl
    go (Faulted line fault) None e = refl
    go (Faulted line fault) (Some b) e = refl

stuck_stops : (y : CodeProc) → look_of y ≡ look.Stuck → asks y ≡ Stop
stuck_stops y told = go y.phase y.body told
  where
    runs_stuck : (b : Body) (a : Action) → look_in a ≡ look.Stuck → running_by y b a ≡ Stop
    runs_stuck b code.Stuck e = refl
    runs_stuck b (code.Own after lines [] cost) e = absurd (cc e)
    runs_stuck b (code.Own after lines (z ∷ zs) cost) e = absurd (cc e)
    runs_stuck b (code.Meets k) e = absurd (cc e)

    joins_stuck : (b : Body) (block : ℕ) (kids : List Kid) (a : Action) → look_in a ≡ look.Stuck → joining_by y b block kids a ≡ Stop
    joins_stuck b block kids code.Stuck e = refl
    joins_stuck b block kids (code.Own after lines drops cost) e = refl
    joins_stuck b block kids (code.Meets k) e = absurd (cc e)

    go : (phase : Phase) (b : Option Body) → look_by phase b ≡ look.Stuck → asks_by y phase b ≡ Stop
    go Running None e = refl
    go Running (Some b) e = runs_stuck b (action_of b) e
    go (Joining block kids) None e = refl
    go (Joining block kids) (Some b) e = joins_stuck b block kids (action_of b) e
    go Ended None e = refl
    go Ended (Some b) e = refl
    go (Faulted line fault) None e = refl
    go (Faulted line fault) (Some b) e = refl

-- nor one that is stuck
pub stuck_waits : (y : CodeProc) → look_of y ≡ look.Stuck → channel_waited y ≡ None
stuck_waits y told = ap (λ v. channel_needed (need_in v)) (stuck_stops y told)

module _ (m : Procs CodeProc) (cs : Chans) (q : Place) where
  alone_served : (k : net.Ask CodeProc) → is_alone k ≡ true → served_asked m cs q k ≡ is_some (reply_to cs (need_in k))
  alone_served Stop e = refl
  alone_served (Go Nothing f) e = refl
  alone_served (Go (Event c a) f) e = refl
  alone_served (Go (New n writers) f) e = refl
  alone_served (Go (Children b n) f) e = absurd (cc e)

  pub running_served : (y : CodeProc) → is_running y ≡ true → is_served m cs q y ≡ is_some (reply_to cs (need_of y))
  running_served y running =
      let i = in_body y running in
      alone_served (asks y) (ap is_alone (asks_running y i) ∙ running_alone y i.body (action_of i.body))

  pub stuck_served : (y : CodeProc) → look_of y ≡ look.Stuck → is_served m cs q y ≡ false
  stuck_served y told = ap (served_asked m cs q) (stuck_stops y told)

  -- who has a step of its own makes it where it runs
  pub goes_served : (y : CodeProc) → look_of y ≡ look.Goes → is_served m cs q y ≡ is_running y
  goes_served y told = go y.phase y.body told
    where
      runs_goes : (b : Body) (a : Action) → look_in a ≡ look.Goes → served_asked m cs q (running_by y b a) ≡ true
      runs_goes b code.Stuck e = absurd (cc e)
      runs_goes b (code.Own after lines drops cost) e = refl
      runs_goes b (code.Meets k) e = absurd (cc e)

      joins_goes : (b : Body) (block : ℕ) (kids : List Kid) (a : Action) → look_in a ≡ look.Goes → served_asked m cs q (joining_by y b block kids a) ≡ false
      joins_goes b block kids code.Stuck e = refl
      joins_goes b block kids (code.Own after lines drops cost) e = refl
      joins_goes b block kids (code.Meets k) e = absurd (cc e)

      go : (phase : Phase) (b : Option Body) → look_by phase b ≡ look.Goes → served_asked m cs q (asks_by y phase b) ≡ told_of.runs_by phase b
      go Running None e = refl
      go Running (Some b) e = runs_goes b (action_of b) e
      go (Joining block kids) None e = refl
      go (Joining block kids) (Some b) e = joins_goes b block kids (action_of b) e
      go Ended None e = refl
      go Ended (Some b) e = refl
      go (Faulted line fault) None e = refl
      go (Faulted line fault) (Some b) e = refl

  -- who neither runs nor joins can't go on
  pub unserved : (y : CodeProc) (k : Ask) → look_of y ≡ look.Asks k → is_running y ≡ false → (is_joining y && is_join k) ≡ false → is_served m cs q y ≡ false
  unserved y k told running joining = go y.phase y.body told running joining
    where
      stays : (b : Body) (block : ℕ) (kids : List Kid) (a : Action) → look_in a ≡ look.Asks k → is_join k ≡ false → served_asked m cs q (joining_by y b block kids a) ≡ false
      stays b block kids code.Stuck e not = refl
      stays b block kids (code.Own after lines drops cost) e not = refl
      stays b block kids (code.Meets j) e not = ap (λ (v : Ask). served_asked m cs q (joins_by y b block kids v)) (same_ask j k e) ∙ ap (served_asked m cs q) (joins_nothing y b block kids k not)

      go : (phase : Phase) (b : Option Body) → look_by phase b ≡ look.Asks k → told_of.runs_by phase b ≡ false → (told_of.joins_by phase && is_join k) ≡ false → served_asked m cs q (asks_by y phase b) ≡ false
      go Running None e r j = refl
      go Running (Some b) e r j = absurd (cc r)
      go (Joining block kids) None e r j = refl
      go (Joining block kids) (Some b) e r j = stays b block kids (action_of b) e j
      go Ended None e r j = refl
      go Ended (Some b) e r j = refl
      go (Faulted line fault) None e r j = refl
      go (Faulted line fault) (Some b) e r j = refl

  -- who waits for a message can't go on before it is there
  pub waited_served : (y : CodeProc) (c : ChanName) → channel_waited y ≡ Some c → is_served m cs q y ≡ pops_at (get cs c)
  waited_served y c waited = go (asks y) waited
    where
      named : (d : ChanName) → Some d ≡ Some c → d ≡ c
      named d e = cc e

      go : (k : net.Ask CodeProc) → channel_needed (need_in k) ≡ Some c → served_asked m cs q k ≡ pops_at (get cs c)
      go Stop e = absurd (cc e)
      go (Go Nothing f) e = absurd (cc e)
      go (Go (Event d (Push w message)) f) e = absurd (cc e)
      go (Go (Event d (Pop limits)) f) e = pops_served limits (get cs d) ∙ ap (λ (v : ChanName). pops_at (get cs v)) (named d e)
      go (Go (Event d Look) f) e = absurd (cc e)
      go (Go (New n writers) f) e = absurd (cc e)
      go (Go (Children b n) f) e = absurd (cc e)
