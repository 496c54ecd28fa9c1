-- When the frames of a body stand as the kinds of its code tell: each at a statement of its unit, with the words of its variables, and
-- what it gives back and what it starts with in words of the right kind.
-- Source: this profile.
use Rattle.std.specs.Prelude.{◌≡◌, ℕ, ◌+◌, ◌≤◌, ◌<◌, cond, Some, List, [], ◌∷◌, length, slice_get}
use Rattle.std.specs.List.{AllByRecursion}
use Rattle.fm_code.specs.declared.body.Body.{Body}
use Rattle.fm_code.specs.declared.body.Frame.{Frame}
use Rattle.fm_code.specs.declared.body.Start.{Start}
use Rattle.fm_code.specs.declared.code.Code.{Code}
use Rattle.fm_code.specs.declared.code.Unit as code_unit
use Rattle.fm_code_kinds.specs.declared.sorts.Shape.{Shape}
use Rattle.fm_code_kinds.specs.declared.sorts.Shapes.{Shapes}
use Rattle.fm_code_kinds.specs.Bodies.{coded}
use Rattle.fm_code_kinds.specs.Effects.{heading_of}
use Rattle.fm_code_kinds.specs.Kinded.{Lists, AreKinds, results}
use Rattle.fm_code_kinds.specs.Shapes.{is_function, words_of}
use Rattle.fm_code_preserves.specs.Rooms.{BacksFit, IsLaidCode, cells_at}

-- a frame at a statement of its unit, with the results that its list has; so many of them are owed by the frame above it
pub record IsStanding (ss : Shapes) (code : Code) (owed : ℕ) (m : Frame) : Type 0 where
  pub unit : Shape
  pub there : slice_get ss.units m.unit ≡ Some unit
  pub own : code_unit.Unit
  pub own_there : slice_get code.units m.unit ≡ Some own
  pub lists : Lists
  pub kinds : AreKinds ss unit (coded own) lists
  pub done : ℕ
  pub inside : m.address < length own.code
  pub list : lists m.address ≡ results done
  pub enough : done ≤ length m.results + owed
  pub counts : own.loops ≤ length m.loops

-- a start of a frame of a unit: it has the words of its own unit
pub record StartFits (ss : Shapes) (parent : ℕ) (s : Start) : Type 0 where
  pub unit : Shape
  pub there : slice_get ss.units s.unit ≡ Some unit
  pub words : length s.words ≡ words_of (cells_at ss s.unit)
  pub backs : BacksFit (cells_at ss parent) (cells_at ss s.unit) s.backs

-- the words and the starts of a frame
pub record HasWords (ss : Shapes) (m : Frame) : Type 0 where
  pub unit : Shape
  pub there : slice_get ss.units m.unit ≡ Some unit
  pub words : length m.words ≡ words_of (cells_at ss m.unit)
  pub starts : AllByRecursion (StartFits ss m.unit) m.starts

-- a function owes its result to the frame below
abbrev pub owed_by : Shapes → ℕ → ℕ
owed_by ss n = cond (heading_of (slice_get ss.units n) is_function) 1 0

-- the frames below one
abbrev pub BelowStand : Shapes → Code → Frame → List Frame → Type 0
BelowStand ss code m [] = Unit {0}
BelowStand ss code m (c ∷ below) =
    IsStanding ss code (owed_by ss m.unit) c × HasWords ss c × BacksFit (cells_at ss c.unit) (cells_at ss m.unit) m.backs × BelowStand ss code c below

pub record BodyStands (ss : Shapes) (b : Body) : Type 0 where
  pub code : IsLaidCode ss b.code
  pub frame : IsStanding ss b.code 0 b.frame
  pub words : HasWords ss b.frame
  pub below : BelowStand ss b.code b.frame b.below
