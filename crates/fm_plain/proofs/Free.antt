-- Which actions wait for nobody.
use Rattle.std.proofs.Common.{◌≡◌, ℕ, ℤ, pos, Bool, true, false, cond, Option, Some, None, List, [], ◌∷◌, refl, sym, subst, ap, ◌∙◌, is_some, length, IfOk, Result, Ok, Err}
use Rattle.std.specs.Ordering.{int_eq}
use Rattle.fm_base.specs.declared.fault.Fault.{Fault}
use Rattle.fm_base.specs.declared.output.Printed.{Printed}
use Rattle.fm_base.specs.declared.path.ChanName.{ChanName}
use Rattle.fm_base.specs.declared.port.PortValue.{PortValue}
use Rattle.fm_base.specs.declared.port.PortValue.TheVariants.{Writer, Reader}
use Rattle.fm_base.specs.Channels.{Item}
use Rattle.fm_tree.specs.PortFields.{PortFields}
use Rattle.fm_tree.specs.declared.form.UnitKind.{UnitKind}
use Rattle.fm_tree.specs.declared.form.UnitKind.TheVariants as unit_kind
use Rattle.fm_values.specs.declared.value.Value.{Value}
use Rattle.fm_rules.specs.declared.program.Program.{Program}
use Rattle.fm_mean.specs.declared.place.Actual.{Actual}
use Rattle.fm_mean.specs.declared.place.Span.{Span}
use Rattle.fm_base.specs.declared.memory.NoMemory.{NoMemory}
use Rattle.fm_base.specs.declared.schedule.Machine.{Machine}
use Rattle.fm_net.specs.Machine.{Need}
use Rattle.fm_tree.specs.declared.statement.Where.{Where}
use Rattle.fm_tree.specs.Tree.{Tree}
use Rattle.fm_mean.specs.Names.{ProgramUnit, Point, unit_at}
use Rattle.fm_mean.specs.Evaluate.{Scope, Reference, Element, Call, Built, Unknown}
use Rattle.fm_mean.specs.Process.{Frame, Execution, Phase, Running, Joining, Ended, Faulted, Proc}
use Rattle.fm_map.specs.Placement.{Seat}
use Rattle.fm_mean.specs.Actions.{Event, Fail, Make, Send, Receive, Probe, Begin, Join, End, Action, Rest, Own, Meets, assigns, prints, tests, loops, adds, loop_trips, calls, returns, cut_items, sends, sent, sent_items, closes, closed, moves, probes, probes_at, makes, merges, starts_one, refers, process_calls, action_in, action_of, action_at, action_by, point_action, next_reference, running, joining}
use Rattle.fm_mean.specs.Steps.{ask_event, ask_for}
use Rattle.fm_mean.specs.Outcome.{need_in, need_of}
use Rattle.fm_plain_frame.specs.declared.frame.Frame as memory
use Rattle.fm_plain_frame.specs.declared.let_go.LetGo.{LetGo}
use Rattle.fm_plain_frame.specs.declared.process.PlainProc.{PlainProc}
use Rattle.fm_plain_frame.specs.declared.process.Phase.TheVariants as phase
use Rattle.fm_plain_frame.specs.Frames.{frame_of, phase_of, execution_of, proc_of}
use Rattle.fm_plain_frame.specs.Units.{unit_of}
use Rattle.fm_plain.specs.declared.event.Event as code
use Rattle.fm_plain.specs.declared.event.Event.TheVariants as event
use Rattle.fm_plain.specs.declared.here.Here.{Here}
use Rattle.fm_plain.specs.declared.looking.Next.{Next}
use Rattle.fm_plain.specs.declared.looking.Next.TheVariants as next
use Rattle.fm_plain.specs.declared.step.Step.{Step}
use Rattle.fm_plain.specs.declared.step.Step.TheVariants as step
use Rattle.fm_plain.specs.Events.{IsEvent}
use Rattle.fm_plain.specs.Standing.{IsHere, program_in, point_in, frame_in}
use Rattle.fm_plain.specs.Steps.{IsStep, called_in}
use Rattle.fm_plain.specs.Looking.{is_free, goes_free, waits_in, IsSeen, IsNext, IsFreeOrNone, StandsOn, below_top}

pub assigns_free : (w : Execution) (e : Point) (f : Frame) (below : List Frame) (place : Result Span Fault) (value : Result Value Fault) → goes_free (assigns w e f below place value) ≡ true
assigns_free w e f below (Err fault) value = refl
assigns_free w e f below (Ok place) (Err fault) = refl
assigns_free w e f below (Ok place) (Ok v) = refl

pub prints_free : (w : Execution) (e : Point) (f : Frame) (below : List Frame) (r : Result (List Printed) Fault) → goes_free (prints w e f below r) ≡ true
prints_free w e f below (Err fault) = refl
prints_free w e f below (Ok items) = refl

pub tests_free : (w : Execution) (e : Point) (f : Frame) (below : List Frame) (r : Result Value Fault) → goes_free (tests w e f below r) ≡ true
tests_free w e f below (Err fault) = refl
tests_free w e f below (Ok v) = refl

either_free : (b : Bool) (x y : Action) → goes_free x ≡ true → goes_free y ≡ true → goes_free (cond b x y) ≡ true
either_free true x y p q = p
either_free false x y p q = q

pub loops_free : (w : Execution) (e : Point) (f : Frame) (below : List Frame) (place : Span) (r : Result (ℤ × ℤ × ℤ) Fault) → goes_free (loops w e f below place r) ≡ true
loops_free w e f below place (Err fault) = refl
loops_free w e f below place (Ok m) = either_free (int_eq m.2 (pos 0)) _ _ refl refl

adds_free : (w : Execution) (e : Point) (f : Frame) (below : List Frame) (opener body : ℕ) (place : Span) (count : ℕ) (by : ℤ) (r : Result ℤ Fault) → goes_free (adds w e f below opener body place count by r) ≡ true
adds_free w e f below opener body place count by (Err fault) = refl
adds_free w e f below opener body place count by (Ok n) = refl

pub loop_trips_free : (w : Execution) (e : Point) (f : Frame) (below : List Frame) (opener body : ℕ) (place : Span) (l : Option (ℕ × ℤ)) → goes_free (loop_trips w e f below opener body place l) ≡ true
loop_trips_free w e f below opener body place None = refl
loop_trips_free w e f below opener body place (Some l) = adds_free w e f below opener body place l.0 l.1 _

pub calls_free : (w : Execution) (e : Point) (f : Frame) (below : List Frame) (u : ℕ × ProgramUnit) (args : Result (List Actual) Fault) → goes_free (calls w e f below (Some u) args) ≡ true
calls_free w e f below u (Err fault) = refl
calls_free w e f below u (Ok args) = refl

pub returns_free : (w : Execution) (u : ProgramUnit) (f : Frame) (below : List Frame) (k : UnitKind) → goes_free (returns w u f below k) ≡ true
returns_free w u f below unit_kind.Program = refl
returns_free w u f below unit_kind.Process = refl
returns_free w u f [] unit_kind.Subroutine = refl
returns_free w u f (g ∷ below) unit_kind.Subroutine = refl
returns_free w u f [] unit_kind.Function = refl
returns_free w u f (g ∷ below) unit_kind.Function = refl

sent_items_free : (e : Point) (c : ChanName) (w : ℕ) (items : Result (List Actual) Fault) → goes_free (sent_items e c w items) ≡ true
sent_items_free e c w (Err fault) = refl
sent_items_free e c w (Ok items) = refl

sent_free : (e : Point) (fields : PortFields) (p : Option PortValue) (items : List Actual) → goes_free (sent e fields p items) ≡ true
sent_free e given None items = refl
sent_free e given (Some (Reader c)) items = refl
sent_free e given (Some (Writer c w)) items = sent_items_free e c w (cut_items [] given items)

pub sends_free : (e : Point) (fields : PortFields) (f : Frame) (q : Result Span Fault) (items : Result (List Actual) Fault) → goes_free (sends e fields f q items) ≡ true
sends_free e given f (Err fault) items = refl
sends_free e given f (Ok q) (Err fault) = refl
sends_free e given f (Ok q) (Ok items) = sent_free e given _ items

closed_free : (w : Execution) (e : Point) (f : Frame) (below : List Frame) (vs : List Item) (p : Option PortValue) → goes_free (closed w e f below vs p) ≡ true
closed_free w e f below vs None = refl
closed_free w e f below vs (Some p) = refl

pub closes_free : (w : Execution) (e : Point) (f : Frame) (below : List Frame) (q : Result Span Fault) → goes_free (closes w e f below q) ≡ true
closes_free w e f below (Err fault) = refl
closes_free w e f below (Ok q) = closed_free w e f below _ _

pub moves_free : (w : Execution) (e : Point) (f : Frame) (below : List Frame) (r : Result (Span × Span) Fault) → goes_free (moves w e f below r) ≡ true
moves_free w e f below (Err fault) = refl
moves_free w e f below (Ok r) = refl

probes_at_free : (e : Point) (empty : Span) (p : Option PortValue) → goes_free (probes_at e empty p) ≡ true
probes_at_free e empty None = refl
probes_at_free e empty (Some (Writer c w)) = refl
probes_at_free e empty (Some (Reader c)) = refl

pub probes_free : (e : Point) (f : Frame) (r : Result (Span × Span) Fault) → goes_free (probes e f r) ≡ true
probes_free e f (Err fault) = refl
probes_free e f (Ok r) = probes_at_free e r.1 _

pub makes_free : (e : Point) (r : Result (Span × Span) Fault) → goes_free (makes e r) ≡ true
makes_free e (Err fault) = refl
makes_free e (Ok r) = refl

pub merges_free : (e : Point) (r : Result (Span × List Span) Fault) → goes_free (merges e r) ≡ true
merges_free e (Err fault) = refl
merges_free e (Ok r) = refl

pub starts_one_free : (w : Execution) (e : Point) (f : Frame) (below : List Frame) (n : ℕ) (u : ProgramUnit) (r : Result (List Actual × Seat) Fault) → goes_free (starts_one w e f below n u r) ≡ true
starts_one_free w e f below n u (Err fault) = refl
starts_one_free w e f below n u (Ok r) = refl

pub refers_free : (w : Execution) (line : ℕ) (f : Frame) (below : List Frame) (r : Reference) (args : Result (List Actual) Fault) → IsFreeOrNone (is_some (called_in r)) (refers w line f below r args)
refers_free w line f below (Element i v) args = refl
refers_free w line f below (Built g) args = refl
refers_free w line f below Unknown args = refl
refers_free w line f below (Call n u) (Ok args) = refl
refers_free w line f below (Call n u) (Err fault) = refl

pub process_calls_free : (w : Execution) (s : Scope) (e : Point) (f : Frame) (below : List Frame) (u : Option (ℕ × ProgramUnit)) (args : List Tree) (at : Option Where) → IsFreeOrNone (is_some u) (process_calls w s e f below u args at)
process_calls_free w s e f below None args at = refl
process_calls_free w s e f below (Some u) args at = starts_one_free w e f below u.0 u.1 _

-- steps and events, as the code tells them

pub made_free : (s : Step) (cost : ℕ) (p : Program) (w : Execution) (a : Action) (fs gs : List Frame) → s ≡ step.Made cost → IsStep p w a fs s gs → goes_free a ≡ true
made_free s cost p w a fs gs e i = ap goes_free (subst (λ (t : Step). IsStep p w a fs t gs) e i)

pub rest_is : (s : Step) (p : Program) (w : Execution) (a : Action) (fs gs : List Frame) → s ≡ step.Rest → IsStep p w a fs s gs → a ≡ Rest
rest_is s p w a fs gs e i = (subst (λ (t : Step). IsStep p w a fs t gs) e i).1

pub event_is : (s : Step) (x : code.Event) (p : Program) (w : Execution) (a : Action) (fs gs : List Frame) → s ≡ step.Event x → IsStep p w a fs s gs → IsEvent Running a x
event_is s x p w a fs gs e i = (subst (λ (t : Step). IsStep p w a fs t gs) e i).1

pub let_go_free : (s : Step) (l : LetGo) (cost : ℕ) (p : Program) (w : Execution) (a : Action) (fs gs : List Frame) → s ≡ step.LetsGo l cost → IsStep p w a fs s gs → goes_free a ≡ true
let_go_free s l cost p w a fs gs e i = ap goes_free (subst (λ (t : Step). IsStep p w a fs t gs) e i).0

pub printed_free : (s : Step) (text : List ℕ) (cost n : ℕ) (p : Program) (w : Execution) (a : Action) (f : Frame) (below gs : List Frame) → s ≡ step.Prints text cost n → IsStep p w a (f ∷ below) s gs → goes_free a ≡ true
printed_free s text cost n p w a f below gs e i = ap goes_free (subst (λ (t : Step). IsStep p w a (f ∷ below) t gs) e i).1

pub waits_or_free : (a : Action) (x : code.Event) → waits_in x ≡ false → IsEvent Running a x → goes_free a ≡ true
waits_or_free a (event.Fail line fault) e i = ap goes_free i.0
waits_or_free a (event.Make places writers cost n) e i = ap goes_free i.0
waits_or_free a (event.Send channel writer items n) e i = ap goes_free i.0
waits_or_free a (event.Receive channel line items iostat at_end n) e i = absurd (cc)
waits_or_free a (event.Probe channel empty n) e i = ap goes_free i.0
waits_or_free a event.Begin e i = ap goes_free i.0
waits_or_free a (event.Join block count n) e i = absurd (cc)
waits_or_free a event.End e i = ap goes_free i.0

-- where a process stands

pub rests_by : (p : Program) (w : Execution) (fs : List Frame) (o : Option memory.Frame) → o ≡ None → StandsOn p fs o → running p w fs ≡ Rest
rests_by p w fs o e s = ap (running p w) (subst (λ (t : Option memory.Frame). StandsOn p fs t) e s)

pub seen_by : (p : Program) (w : Execution) (fs : List Frame) (o : Option memory.Frame) (top : memory.Frame) (r : Result Next NoMemory) → o ≡ Some top → StandsOn p fs o
    → IfOk r (λ n. (v : Execution) (below : List Frame) → IsSeen Running (action_at p v (frame_of p top) below (unit_at p top.unit)) n)
    → IfOk r (λ n. IsSeen Running (running p w fs) n)
seen_by p w fs o top (Ok n) e s h =
    let at : fs ≡ frame_of p top ∷ below_top fs = subst (λ (t : Option memory.Frame). StandsOn p fs t) e s in
    subst (λ (a : Action). IsSeen Running a n) (sym (ap (running p w) at)) (h w (below_top fs))
seen_by p w fs o top (Err x) e s h = h

action_here : (p : Program) (top : memory.Frame) (machine : Machine) (node : ℕ) (h : Here) (w : Execution) (below : List Frame) → IsHere p top machine node h
    → action_at p w (frame_of p top) below (unit_at p top.unit) ≡ action_by (program_in h) w (unit_of h.unit) (point_in h) (frame_in h top) below (next_reference h.entry.now (length (frame_in h top).results))
action_here p top machine node h w below i =
    ap (λ (q : Program). action_at q w (frame_of q top) below (unit_at q top.unit)) (sym i.program)
    ∙ (ap (λ (u : Option ProgramUnit). action_at (program_in h) w (frame_in h top) below u) i.stands
    ∙ ap (λ (e : Option Point). point_action (program_in h) w (unit_of h.unit) (frame_in h top) below e) i.point)

pub seen_here : (p : Program) (top : memory.Frame) (machine : Machine) (node : ℕ) (h : Here) (r : Result Next NoMemory) → IsHere p top machine node h
    → IfOk r (λ n. (w : Execution) (below : List Frame) → IsSeen Running (action_by (program_in h) w (unit_of h.unit) (point_in h) (frame_in h top) below (next_reference h.entry.now (length (frame_in h top).results))) n)
    → IfOk r (λ n. (w : Execution) (below : List Frame) → IsSeen Running (action_at p w (frame_of p top) below (unit_at p top.unit)) n)
seen_here p top machine node h (Ok n) i s = λ w below. subst (λ (a : Action). IsSeen Running a n) (sym (action_here p top machine node h w below i)) (s w below)
seen_here p top machine node h (Err x) i s = s

-- a process with frames, by its action

free_event : (p : Program) (x : Proc) (f : Frame) (below : List Frame) → x.execution.frames ≡ f ∷ below → (e : Event) → goes_free (Meets e) ≡ true → is_free (need_in (ask_event p x e x.execution.frames)) ≡ true
free_event p x f below frames (Fail line fault) free = ap (λ fs. is_free (need_in (ask_event p x (Fail line fault) fs))) frames
free_event p x f below frames (Make places writers cost n) free = ap (λ fs. is_free (need_in (ask_event p x (Make places writers cost n) fs))) frames
free_event p x f below frames (Send channel writer items n) free = ap (λ fs. is_free (need_in (ask_event p x (Send channel writer items n) fs))) frames
free_event p x f below frames (Receive channel line items iostat at_end n) free = absurd (cc)
free_event p x f below frames (Probe channel empty n) free = ap (λ fs. is_free (need_in (ask_event p x (Probe channel empty n) fs))) frames
free_event p x f below frames Begin free = ap (λ fs. is_free (need_in (ask_event p x Begin fs))) frames
free_event p x f below frames (Join block kids n) free = absurd (cc)
free_event p x f below frames End free = ap (λ fs. is_free (need_in (ask_event p x End fs))) frames

free_by : (p : Program) (x : Proc) (f : Frame) (below : List Frame) → x.execution.frames ≡ f ∷ below → (a : Action) → goes_free a ≡ true → is_free (need_in (ask_for p x a)) ≡ true
free_by p x f below frames Rest free = absurd (cc)
free_by p x f below frames (Own w lines drops cost) free = refl
free_by p x f below frames (Meets e) free = free_event p x f below frames e free

-- without frames there is nothing
rests : (p : Program) (w : Execution) (ph : Phase) → w.frames ≡ [] → action_in p w ph ≡ Rest
rests p w Running e = ap (running p w) e
rests p w (Joining block kids) e = ap (joining p block kids) e
rests p w Ended e = refl
rests p w (Faulted line fault) e = refl

never : (n : Option Need) → goes_free Rest ≡ true → is_free n ≡ true
never n e = absurd (cc)

free_steps : (p : Program) (x : Proc) (fs : List Frame) → x.execution.frames ≡ fs → goes_free (action_of p x) ≡ true → is_free (need_of p x) ≡ true
free_steps p x [] e free = never (need_of p x) (sym (ap goes_free (rests p x.execution x.phase e)) ∙ free)
free_steps p x (f ∷ below) e free = free_by p x f below e (action_of p x) free

next_by : (p : Program) (x : Proc) (n : Next) → IsSeen x.phase (action_of p x) n → IsNext p x n
next_by p x next.Steps s = free_steps p x x.execution.frames refl s
next_by p x next.Rests s = ap (λ (a : Action). need_in (ask_for p x a)) s
next_by p x (next.Meets e) s = s

pub next_running : (p : Program) (x : PlainProc) (r : Result Next NoMemory) → x.phase ≡ phase.Running
    → IfOk r (λ n. IsSeen Running (running p (execution_of p x) (execution_of p x).frames) n)
    → IfOk r (λ n. IsNext p (proc_of p x) n)
next_running p x (Ok n) e s = next_by p (proc_of p x) n (subst (λ (ph : Phase). IsSeen ph (action_in p (execution_of p x) ph) n) (sym (ap phase_of e)) s)
next_running p x (Err y) e s = s
