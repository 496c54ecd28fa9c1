-- Steps of the innermost frame as steps of all frames.
use Rattle.std.proofs.Common.{◌≡◌, Option, None, List, Result, Ok, Err, sym, subst}
use Rattle.std.specs.Prelude.{IfOk}
use Rattle.fm_base.specs.declared.memory.NoMemory.{NoMemory}
use Rattle.fm_mean.specs.Process as mean
use Rattle.fm_mean.specs.Process.{Execution}
use Rattle.fm_mean.specs.Actions.{Action, action_by, simple_action, statement_action}
use Rattle.fm_tree.specs.Tree.{Tree}
use Rattle.fm_tree.specs.declared.statement.Simple.{Simple}
use Rattle.fm_tree.specs.declared.statement.Stmt.{Stmt}
use Rattle.fm_plain_frame.specs.Units.{unit_of}
use Rattle.fm_plain_frame.specs.declared.frame.Frame.{Frame}
use Rattle.fm_plain.specs.declared.here.Here.{Here}
use Rattle.fm_plain.specs.declared.step.Step.{Step}
use Rattle.fm_plain.specs.Standing.{ActsAt, ActsOn, SitsAt, below_in, frame_in, point_in, program_in, scope_in, standing}
use Rattle.fm_plain.specs.Steps.{IsStep}

-- a step of all frames, the others being these
abbrev pub StepsAll : Here → (Execution → List mean.Frame → Action) → (before : Frame) → (below : List Frame) → Step → (after : Frame) → (below_then : List Frame) → Type 0
StepsAll h a f below r g below_then = (w : Execution) → SitsAt h w → IsStep (program_in h) w (a w (below_in h below)) (standing (program_in h) f below) r (standing (program_in h) g below_then)

pub on_all : (h : Here) (a : Execution → List mean.Frame → Action) (f g : Frame) (below : List Frame) (r : Result Step NoMemory) → IfOk r (λ s. ActsOn h a f s g) → IfOk r (λ s. StepsAll h a f below s g below)
on_all h a f g below (Ok s) k = λ w sits. k w (below_in h below)
on_all h a f g below (Err e) k = k

pub at_all : (h : Here) (a : Execution → List mean.Frame → Action) (f g : Frame) (below : List Frame) (r : Result Step NoMemory) → IfOk r (λ s. ActsAt h a f s g) → IfOk r (λ s. StepsAll h a f below s g below)
at_all h a f g below (Ok s) k = λ w sits. k w (below_in h below) sits
at_all h a f g below (Err e) k = k

-- a step that is the same wherever the process is
pub anywhere : (h : Here) (a : Execution → List mean.Frame → Action) (f g : Frame) (below below_then : List Frame) (r : Result Step NoMemory)
    → IfOk r (λ s. (w : Execution) → IsStep (program_in h) w (a w (below_in h below)) (standing (program_in h) f below) s (standing (program_in h) g below_then)) → IfOk r (λ s. StepsAll h a f below s g below_then)
anywhere h a f g below below_then (Ok s) k = λ w sits. k w
anywhere h a f g below below_then (Err e) k = k

-- what the forms of statements do where a frame stands
abbrev pub simple_in : Here → Frame → Simple → Execution → List mean.Frame → Action
simple_in h f k w below = simple_action (program_in h) w (unit_of h.unit) (point_in h) (frame_in h f) below (scope_in h f) k

abbrev pub statement_in : Here → Frame → Stmt → Execution → List mean.Frame → Action
statement_in h f k w below = statement_action (program_in h) w (unit_of h.unit) (point_in h) (frame_in h f) below (scope_in h f) k

abbrev pub entry_in : Here → Frame → Option Tree → Execution → List mean.Frame → Action
entry_in h f o w below = action_by (program_in h) w (unit_of h.unit) (point_in h) (frame_in h f) below o

pub simple_all : (h : Here) (form k : Simple) (f g : Frame) (below below_then : List Frame) (r : Result Step NoMemory) → form ≡ k → IfOk r (λ s. StepsAll h (simple_in h f k) f below s g below_then)
    → IfOk r (λ s. StepsAll h (simple_in h f form) f below s g below_then)
simple_all h form k f g below below_then r is acts = subst (λ (j : Simple). IfOk r (λ s. StepsAll h (simple_in h f j) f below s g below_then)) (sym is) acts

pub simple_on : (h : Here) (form k : Simple) (f g : Frame) (below : List Frame) (r : Result Step NoMemory) → form ≡ k → IfOk r (λ s. ActsOn h (simple_in h f k) f s g) → IfOk r (λ s. StepsAll h (simple_in h f form) f below s g below)
simple_on h form k f g below r is acts = simple_all h form k f g below below r is (on_all h (simple_in h f k) f g below r acts)

pub statement_all : (h : Here) (form k : Stmt) (f g : Frame) (below below_then : List Frame) (r : Result Step NoMemory) → form ≡ k → IfOk r (λ s. StepsAll h (statement_in h f k) f below s g below_then)
    → IfOk r (λ s. StepsAll h (statement_in h f form) f below s g below_then)
statement_all h form k f g below below_then r is acts = subst (λ (j : Stmt). IfOk r (λ s. StepsAll h (statement_in h f j) f below s g below_then)) (sym is) acts

pub statement_on : (h : Here) (form k : Stmt) (f g : Frame) (below : List Frame) (r : Result Step NoMemory) → form ≡ k → IfOk r (λ s. ActsOn h (statement_in h f k) f s g) → IfOk r (λ s. StepsAll h (statement_in h f form) f below s g below)
statement_on h form k f g below r is acts = statement_all h form k f g below below r is (on_all h (statement_in h f k) f g below r acts)

pub statement_at : (h : Here) (form k : Stmt) (f g : Frame) (below : List Frame) (r : Result Step NoMemory) → form ≡ k → IfOk r (λ s. ActsAt h (statement_in h f k) f s g) → IfOk r (λ s. StepsAll h (statement_in h f form) f below s g below)
statement_at h form k f g below r is acts = statement_all h form k f g below below r is (at_all h (statement_in h f k) f g below r acts)

-- all references of the entry are done
pub statement_next : (h : Here) (o : Option Tree) (f g : Frame) (below below_then : List Frame) (r : Result Step NoMemory) → o ≡ None → IfOk r (λ s. StepsAll h (statement_in h f h.entry.now.stmt) f below s g below_then)
    → IfOk r (λ s. StepsAll h (entry_in h f o) f below s g below_then)
statement_next h o f g below below_then r is acts = subst (λ (j : Option Tree). IfOk r (λ s. StepsAll h (entry_in h f j) f below s g below_then)) (sym is) acts
