-- When a unit of code is that of a shape, and when a body fits the kinds of its code: a promise about such bodies stands in
-- src/laws.
-- Source: this profile.
use Rattle.std.specs.Prelude.{◌≡◌, ℕ, suc, ◌≤◌, ◌<◌, ◌+◌, true, not, Some, None, List, [], ◌∷◌, length, map, slice_get}
use Rattle.std.specs.List.{AllByRecursion}
use Rattle.fm_code.specs.declared.body.Body.{Body}
use Rattle.fm_code.specs.declared.body.Frame.{Frame}
use Rattle.fm_code.specs.declared.code.Code.{Code}
use Rattle.fm_code.specs.declared.code.Entry.{Entry}
use Rattle.fm_code.specs.declared.code.Formal.{Formal}
use Rattle.fm_code.specs.declared.code.Unit as code_unit
use Rattle.fm_code.specs.Passing.{backs_fit}
use Rattle.fm_code_kinds.specs.declared.sorts.Cell.{Cell}
use Rattle.fm_code_kinds.specs.declared.sorts.Shape.{Shape}
use Rattle.fm_code_kinds.specs.declared.sorts.Shapes.{Shapes}
use Rattle.fm_code_kinds.specs.Shapes.{cell_span, formal_at, is_port, words_of}
use Rattle.fm_code_kinds.specs.Kinded.{Coded, Lists, AreKinds, Kinded, results}
use Rattle.fm_code_kinds.specs.Fitting.{FrameFits}

abbrev pub formal_of : Cell → Formal
formal_of c = record { span = cell_span c; port = is_port c.sort; input = not c.back }

-- the formals of these cells are these, from this place on
abbrev pub AreFormals : List Cell → (place : ℕ) → List Formal → Type 0
AreFormals cs n [] = formal_at cs n ≡ None
AreFormals cs n (f ∷ fs) = ((c : Cell) × (formal_at cs n ≡ Some c) × (f ≡ formal_of c)) × AreFormals cs (suc n) fs

-- a unit has this shape
pub record IsUnit (u : Shape) (c : code_unit.Unit) : Type 0 where
  pub words : c.words ≡ words_of u.cells
  pub formals : AreFormals u.cells 1 c.formals

abbrev pub coded : code_unit.Unit → Coded
coded c = record { entries = map (λ (e : Entry). e.address) c.entries; loops = c.loops; code = c.code }

-- each cell has its words within the frame
abbrev pub AreWithin : Shape → Type 0
AreWithin u = AllByRecursion (λ (c : Cell). c.first + c.words ≤ words_of u.cells) u.cells

-- code whose units have their shapes, each with its kinds
pub record IsTypedCode (ss : Shapes) (code : Code) : Type 0 where
  pub same : length code.units ≡ length ss.units
  pub unit : (n : ℕ) (u : Shape) → slice_get ss.units n ≡ Some u → (c : code_unit.Unit) × (slice_get code.units n ≡ Some c) × IsUnit u c
  pub within : (n : ℕ) (u : Shape) → slice_get ss.units n ≡ Some u → AreWithin u
  pub kinds : (n : ℕ) (u : Shape) (c : code_unit.Unit) → slice_get ss.units n ≡ Some u → slice_get code.units n ≡ Some c → Kinded ss u (coded c)

-- a frame at a statement of its unit, with the results that its list has
pub record IsAtStatement (ss : Shapes) (code : Code) (m : Frame) : Type 0 where
  pub unit : Shape
  pub there : slice_get ss.units m.unit ≡ Some unit
  pub own : code_unit.Unit
  pub own_there : slice_get code.units m.unit ≡ Some own
  pub lists : Lists
  pub kinds : AreKinds ss unit (coded own) lists
  pub done : ℕ
  pub inside : m.address < length own.code
  pub list : lists m.address ≡ results done
  pub frame : FrameFits unit.cells own.loops done m

-- what the innermost frame gives back finds its words in the one below
abbrev pub GivesBack : Frame → List Frame → Type 0
GivesBack m [] = Unit {0}
GivesBack m (c ∷ below) = backs_fit (length c.words) (length m.words) m.backs ≡ true

-- a body whose innermost frame stands at a statement
pub record BodyFits (ss : Shapes) (b : Body) : Type 0 where
  pub code : IsTypedCode ss b.code
  pub frame : IsAtStatement ss b.code b.frame
  pub backs : GivesBack b.frame b.below
