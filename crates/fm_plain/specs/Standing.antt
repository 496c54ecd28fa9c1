-- Where a process is: its frames in memory, and the entry at which its innermost frame stands.
-- Source: this profile.
use Rattle.std.specs.Prelude.{◌≡◌, ℕ, Option, Some, None, List, [], ◌∷◌, map, reverse}
use Rattle.fm_base.specs.declared.schedule.Machine.{Machine}
use Rattle.fm_base.specs.declared.port.PortValue.{PortValue}
use Rattle.fm_rules.specs.declared.program.Program.{Program}
use Rattle.fm_mean.specs.Names.{Point, unit_at, point_at, line_of}
use Rattle.fm_mean.specs.Evaluate as mean
use Rattle.fm_mean.specs.Places.{Returned, all_back}
use Rattle.fm_mean.specs.Process as process
use Rattle.fm_mean.specs.Process.{Execution}
use Rattle.fm_mean.specs.Actions as actions
use Rattle.fm_mean.specs.Actions.{Action, Loop, at_entry}
use Rattle.fm_plain_frame.specs.Frames.{frame_of}
use Rattle.fm_plain_frame.specs.Units.{unit_of}
use Rattle.fm_plain_frame.specs.declared.frame.Frame.{Frame}
use Rattle.fm_plain.specs.declared.here.Here.{Here}
use Rattle.fm_plain.specs.declared.looping.Loop as code
use Rattle.fm_plain.specs.declared.looping.Loop.TheVariants as opened
use Rattle.fm_plain.specs.declared.step.Step.{Step}
use Rattle.fm_plain.specs.Steps.{IsStep}

abbrev pub program_in : Here → Program
program_in h = h.unit.program.now

abbrev pub point_in : Here → Point
point_in h = record { entry = h.entry.now; links = h.links }

abbrev pub line_in : Here → ℕ
line_in h = line_of (point_in h)

abbrev pub frame_in : Here → Frame → process.Frame
frame_in h f = frame_of (program_in h) f

abbrev pub scope_in : Here → Frame → mean.Scope
scope_in h f = actions.scope_of (program_in h) (unit_of h.unit) (frame_in h f)

-- the frames below the innermost one, which is kept apart, and all of them
abbrev pub below_of : Program → List Frame → List process.Frame
below_of p below = reverse (map (frame_of p) below)

abbrev pub standing : Program → Frame → List Frame → List process.Frame
standing p top below = frame_of p top ∷ below_of p below

abbrev pub below_in : Here → List Frame → List process.Frame
below_in h below = below_of (program_in h) below

-- the unit is that of the frame
abbrev pub StandsIn : Here → Frame → Type 0
StandsIn h f = unit_at (program_in h) f.unit ≡ Some (unit_of h.unit)

-- what is known of where a frame is
pub record IsHere (p : Program) (f : Frame) (machine : Machine) (node : ℕ) (h : Here) : Type 0 where
  pub program : program_in h ≡ p
  pub stands : StandsIn h f
  pub point : point_at (unit_of h.unit) f.entry ≡ Some (point_in h)
  pub machine_is : h.machine ≡ machine
  pub node_is : h.node ≡ node

-- where a frame is, or that its unit or its entry isn't there
abbrev pub StandsAt : Program → Frame → Machine → ℕ → Option Here → Type 0
StandsAt p f machine node None = (w : Execution) (below : List process.Frame) → actions.action_at p w (frame_of p f) below (unit_at p f.unit) ≡ actions.Rest
StandsAt p f machine node (Some h) = IsHere p f machine node h

abbrev pub SitsAt : Here → Execution → Type 0
SitsAt h w = (w.machine ≡ h.machine) × (w.node ≡ h.node)

-- some frame is innermost, unless there is none
abbrev pub IsRaised : Option Frame → List Frame → Type 0
IsRaised None below = below ≡ []
IsRaised (Some top) below = Unit {0}

-- a caller that goes on at an entry, or stays where it is
abbrev pub waiting : process.Frame → Option ℕ → process.Frame
waiting f None = f
waiting f (Some n) = at_entry f n

-- what is copied back from one frame to another
abbrev pub given_back : process.Frame → process.Frame → Returned
given_back caller callee = all_back (record { mine = caller.values; theirs = callee.values; drops = [] }) callee.backs

-- a frame gave back to its caller, and put these ports out
pub record HasGivenBack (p : Program) (caller callee caller_then callee_then : Frame) (drops : List PortValue) : Type 0 where
  pub caller_is : frame_of p caller_then ≡ record (frame_of p caller) { values = (given_back (frame_of p caller) (frame_of p callee)).mine }
  pub callee_is : frame_of p callee_then ≡ record (frame_of p callee) { values = (given_back (frame_of p caller) (frame_of p callee)).theirs }
  pub drops_are : drops ≡ (given_back (frame_of p caller) (frame_of p callee)).drops

-- a step that leaves the frames below as they are
abbrev pub ActsOn : Here → (Execution → List process.Frame → Action) → Frame → Step → Frame → Type 0
ActsOn h a f r g = (w : Execution) (below : List process.Frame) → IsStep (program_in h) w (a w below) (frame_in h f ∷ below) r (frame_in h g ∷ below)

-- the same on the machine and the node of the process
abbrev pub ActsAt : Here → (Execution → List process.Frame → Action) → Frame → Step → Frame → Type 0
ActsAt h a f r g = (w : Execution) (below : List process.Frame) → SitsAt h w → IsStep (program_in h) w (a w below) (frame_in h f ∷ below) r (frame_in h g ∷ below)

abbrev pub loop_read : code.Loop → Loop
loop_read (opened.Counted name) = actions.Counted name.now
loop_read opened.While = actions.While
loop_read opened.NoLoop = actions.NoLoop
