-- Steps of a process that runs, and of one that joins.
use Rattle.std.proofs.Common.{◌≡◌, ℕ, Option, Some, None, List, [], Result, Ok, Err, length, map, refl, sym, ap, subst, ◌∙◌}
use Rattle.std.specs.Prelude.{OnErr}
use Rattle.std.proofs.lemmas.List.{length-map}
use Rattle.fm_base.specs.declared.memory.NoMemory.{NoMemory}
use Rattle.fm_rules.specs.declared.program.Program.{Program}
use Rattle.fm_tree.specs.Tree.{Tree}
use Rattle.fm_mean.specs.Names.{point_at, unit_at}
use Rattle.fm_mean.specs.Process as mean
use Rattle.fm_mean.specs.Process.{Execution, Proc, framed}
use Rattle.fm_mean.specs.Actions.{Action, Join, Rest, Meets, action_at, action_in, action_of, after_at, joining, next_reference, point_action, running}
use Rattle.fm_plain_frame.specs.Frames.{execution_of, frames_of, kid_of, phase_of, proc_of}
use Rattle.fm_plain_frame.specs.Units.{unit_of}
use Rattle.fm_plain_frame.specs.declared.frame.Frame.{Frame}
use Rattle.fm_plain_frame.specs.declared.process.Kid.{Kid}
use Rattle.fm_plain_frame.specs.declared.process.Phase.{Phase}
use Rattle.fm_plain_frame.specs.declared.process.Phase.TheVariants as phase
use Rattle.fm_plain_frame.specs.declared.process.PlainProc.{PlainProc}
use Rattle.fm_plain.specs.declared.event.Event.TheVariants as event
use Rattle.fm_plain.specs.declared.here.Here.{Here}
use Rattle.fm_plain.specs.declared.local.Acted.{Acted}
use Rattle.fm_plain.specs.declared.local.Acted.TheVariants as acted
use Rattle.fm_plain.specs.declared.step.Step.{Step}
use Rattle.fm_plain.specs.Events.{IsEvent}
use Rattle.fm_plain.specs.Standing.{IsHere, IsRaised, SitsAt, StandsIn, below_in, frame_in, point_in, program_in, standing}
use Rattle.fm_plain.specs.Steps.{IsActed, IsStep, runs_with}
use Rattle.fm_plain.proofs.StandingLaws.{StepsAll, entry_in}

abbrev pub next_here : Here → Frame → Option Tree
next_here h f = next_reference h.entry.now (length (frame_in h f).results)

-- where a frame is, its action is that of its entry
at_here : (h : Here) (f : Frame) (below : List Frame) (w : Execution) → StandsIn h f → point_at (unit_of h.unit) f.entry ≡ Some (point_in h)
    → action_at (program_in h) w (frame_in h f) (below_in h below) (unit_at (program_in h) f.unit) ≡ entry_in h f (next_here h f) w (below_in h below)
at_here h f below w stands point =
    ap (action_at (program_in h) w (frame_in h f) (below_in h below)) stands ∙ ap (point_action (program_in h) w (unit_of h.unit) (frame_in h f) (below_in h below)) point

run_here : (h : Here) (x : PlainProc) (f g : Frame) (bs cs : List Frame) (s : Step) → StandsIn h f → point_at (unit_of h.unit) f.entry ≡ Some (point_in h) → SitsAt h (execution_of (program_in h) x)
    → StepsAll h (entry_in h f (next_here h f)) f bs s g cs
    → IsStep (program_in h) (execution_of (program_in h) x) (running (program_in h) (execution_of (program_in h) x) (standing (program_in h) f bs)) (standing (program_in h) f bs) s (standing (program_in h) g cs)
run_here h x f g bs cs s stands point sits acts =
    subst (λ (a : Action). IsStep (program_in h) (execution_of (program_in h) x) a (standing (program_in h) f bs) s (standing (program_in h) g cs))
    (sym (at_here h f bs (execution_of (program_in h) x) stands point)) (acts (execution_of (program_in h) x) sits)

-- the step of the entry is that of the process
pub run_step : (p : Program) (h : Here) (x : PlainProc) (f g : Frame) (bs cs : List Frame) (s : Step) → IsHere p f x.machine x.node h → StepsAll h (entry_in h f (next_here h f)) f bs s g cs
    → IsStep p (execution_of p x) (running p (execution_of p x) (standing p f bs)) (standing p f bs) s (standing p g cs)
run_step p h x f g bs cs s at acts =
    subst (λ (q : Program). IsStep q (execution_of q x) (running q (execution_of q x) (standing q f bs)) (standing q f bs) s (standing q g cs)) at.program
    (run_here h x f g bs cs s at.stands at.point (sym at.machine_is, sym at.node_is) acts)

-- a process that runs, by its frames and its lines
runs : (p : Program) (x : PlainProc) (f : Frame) → phase_of x.phase ≡ mean.Running → x.top ≡ Some f → proc_of p x ≡ runs_with (proc_of p x) (standing p f x.below.items) x.lines.items
runs p x f is top =
    ap (λ (ph : mean.Phase). record (proc_of p x) { phase = ph }) is
    ∙ ap (λ (t : Option Frame). record (proc_of p x) { phase = mean.Running; execution = framed (execution_of p x) (frames_of p t x.below.items) }) top

pub run_acts : (p : Program) (x : PlainProc) (f g : Frame) (cs : List Frame) (ms : List (List ℕ)) (a : Acted) → phase_of x.phase ≡ mean.Running → x.top ≡ Some f
    → IsActed p (running p (execution_of p x) (standing p f x.below.items)) (runs_with (proc_of p x) (standing p f x.below.items) x.lines.items) a (runs_with (proc_of p x) (standing p g cs) ms)
    → IsActed p (running p (execution_of p x) (execution_of p x).frames) (proc_of p x) a (record (runs_with (proc_of p x) (standing p g cs) ms) { phase = phase_of x.phase })
run_acts p x f g cs ms a is top acts =
    let one = subst (λ (z : Proc). IsActed p (running p (execution_of p x) (standing p f x.below.items)) z a (runs_with (proc_of p x) (standing p g cs) ms)) (sym (runs p x f is top)) acts in
    let two = subst (λ (ph : mean.Phase). IsActed p (running p (execution_of p x) (standing p f x.below.items)) (proc_of p x) a (record (runs_with (proc_of p x) (standing p g cs) ms) { phase = ph })) (sym is) one in
    subst (λ (t : Option Frame). IsActed p (running p (execution_of p x) (frames_of p t x.below.items)) (proc_of p x) a (record (runs_with (proc_of p x) (standing p g cs) ms) { phase = phase_of x.phase })) (sym top) two

-- without memory it is as it was
stood : (p : Program) (x : PlainProc) (f g : Frame) (cs : List Frame) (ms : List (List ℕ)) → x.top ≡ Some f → standing p g cs ≡ standing p f x.below.items → ms ≡ x.lines.items
    → record (proc_of p x) { execution = framed (execution_of p x) (standing p g cs); lines = ms } ≡ proc_of p x
stood p x f g cs ms top same lines =
    ap (λ (fs : List mean.Frame). record (proc_of p x) { execution = framed (execution_of p x) fs; lines = ms }) (same ∙ sym (ap (λ (t : Option Frame). frames_of p t x.below.items) top))
    ∙ ap (λ (ls : List (List ℕ)). record (proc_of p x) { lines = ls }) lines

pub run_stood : (p : Program) (x : PlainProc) (f g : Frame) (cs : List Frame) (ms : List (List ℕ)) (r : Result Acted NoMemory) → x.top ≡ Some f → OnErr r (standing p g cs ≡ standing p f x.below.items) → OnErr r (ms ≡ x.lines.items)
    → OnErr r (record (proc_of p x) { execution = framed (execution_of p x) (standing p g cs); lines = ms } ≡ proc_of p x)
run_stood p x f g cs ms (Ok a) top same lines = same
run_stood p x f g cs ms (Err e) top same lines = stood p x f g cs ms top same lines

-- a process that joins and has no frame does nothing; else it meets the join
rests : (p : Program) (block : ℕ) (kids : List mean.Kid) (bs : List Frame) → bs ≡ [] → joining p block kids (frames_of p None bs) ≡ Rest
rests p block kids bs none = ap (λ (xs : List Frame). joining p block kids (frames_of p None xs)) none

raised_none : (t : Option Frame) (bs : List Frame) → t ≡ None → IsRaised t bs → bs ≡ []
raised_none t bs none raised = subst (λ (o : Option Frame). IsRaised o bs) none raised

joins_none : (p : Program) (y : PlainProc) (block : ℕ) (kids : List Kid) → y.phase ≡ phase.Joining block kids → y.top ≡ None → IsRaised y.top y.below.items → action_of p (proc_of p y) ≡ Rest
joins_none p y block kids is none raised =
    ap (λ (ph : Phase). action_in p (execution_of p y) (phase_of ph)) is
    ∙ (ap (λ (t : Option Frame). joining p block (map kid_of kids) (frames_of p t y.below.items)) none
    ∙ rests p block (map kid_of kids) y.below.items (raised_none y.top y.below.items none raised))

joins_some : (p : Program) (y : PlainProc) (t : Frame) (block count next : ℕ) (kids : List Kid) → y.phase ≡ phase.Joining block kids → y.top ≡ Some t → count ≡ length kids → next ≡ after_at (unit_at p t.unit) t.entry
    → IsEvent (phase_of y.phase) (action_of p (proc_of p y)) (event.Join block count next)
joins_some p y t block count next kids is some counted after =
    let meets : joining p block (map kid_of kids) (frames_of p y.top y.below.items) ≡ Meets (Join block (map kid_of kids) next) =
    ap (λ (o : Option Frame). joining p block (map kid_of kids) (frames_of p o y.below.items)) some ∙ ap (λ (n : ℕ). Meets (Join block (map kid_of kids) n)) (sym after) in
    subst (λ (ph : Phase). IsEvent (phase_of ph) (action_in p (execution_of p y) (phase_of ph)) (event.Join block count next)) (sym is)
    (meets, counted ∙ sym (length-map kids kid_of))

moved_to : (p : Program) (x : Proc) (y z : PlainProc) (a b : Acted) → proc_of p y ≡ x → z ≡ y → a ≡ b → IsActed p (action_of p (proc_of p y)) (proc_of p y) b (proc_of p y) → IsActed p (action_of p x) x a (proc_of p z)
moved_to p x y z a b same as_it told acts =
    let one = subst (λ (d : Acted). IsActed p (action_of p (proc_of p y)) (proc_of p y) d (proc_of p y)) (sym told) acts in
    let two = subst (λ (v : PlainProc). IsActed p (action_of p (proc_of p y)) (proc_of p y) a (proc_of p v)) (sym as_it) one in
    subst (λ (v : Proc). IsActed p (action_of p v) v a (proc_of p z)) same two

pub joins_rest : (p : Program) (x : Proc) (y z : PlainProc) (block : ℕ) (kids : List Kid) (a : Acted) → proc_of p y ≡ x → z ≡ y → a ≡ acted.Rest → y.phase ≡ phase.Joining block kids → y.top ≡ None → IsRaised y.top y.below.items
    → IsActed p (action_of p x) x a (proc_of p z)
joins_rest p x y z block kids a same as_it told is none raised = moved_to p x y z a acted.Rest same as_it told (refl, joins_none p y block kids is none raised)

pub joins_event : (p : Program) (x : Proc) (y z : PlainProc) (t : Frame) (block count next : ℕ) (kids : List Kid) (a : Acted) → proc_of p y ≡ x → z ≡ y → a ≡ acted.Event (event.Join block count next) → y.phase ≡ phase.Joining block kids
    → y.top ≡ Some t → count ≡ length kids → next ≡ after_at (unit_at p t.unit) t.entry → IsActed p (action_of p x) x a (proc_of p z)
joins_event p x y z t block count next kids a same as_it told is some counted after =
    moved_to p x y z a (acted.Event (event.Join block count next)) same as_it told (refl, joins_some p y t block count next kids is some counted after)
