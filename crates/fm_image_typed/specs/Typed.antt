-- Which images make sense: what is asked of one before it runs, of the whole and of each unit.
-- Source: this profile; MIL-STD-1753 and ANSI X3.9-1978 for the bounds of names; the Fortran M report for machines and ports.
use Rattle.std.specs.Prelude.{◌≡◌, ℕ, zero, suc, ◌+◌, ◌*◌, ◌<◌, ◌≤◌, ◌==◌, not, Bool, Some, List, [], ◌∷◌, ◌++◌, length, filter, take, slice_get}
use Rattle.std.specs.List.{AllByRecursion}
use Rattle.fm_code_kinds.specs.Kinded.{Kinded}
use Rattle.fm_code_kinds.specs.Leading.{JoinsStand}
use Rattle.fm_object.specs.Texts.{IsName}
use Rattle.fm_object.specs.declared.image.Cell as image_cell
use Rattle.fm_object.specs.declared.image.FieldImage.{FieldImage}
use Rattle.fm_object.specs.declared.image.Image.{Image}
use Rattle.fm_object.specs.declared.image.UnitImage.{UnitImage}
use Rattle.fm_image_typed.specs.Shapes.{shape_of, shapes_of, loops_of, addresses_of, coded_of}

-- ---- types

-- what is no port has type 0, a port one of so many types
abbrev pub HasType : (kind of types : ℕ) → Type 0
HasType zero of n = of ≡ 0
HasType (suc zero) of n = of ≡ 0
HasType (suc (suc zero)) of n = of < n
HasType (suc (suc (suc zero))) of n = of < n
HasType (suc (suc (suc (suc k)))) of n = ⊥

-- an integer of one word
pub record IsSize (f : FieldImage) : Type 0 where
  pub kind : f.kind ≡ 0
  pub words : f.words ≡ 1

pub record SizedBy (earlier : List FieldImage) (place : ℕ) (f : FieldImage) : Type 0 where
  pub size : FieldImage
  pub there : slice_get earlier place ≡ Some size
  pub fits : IsSize size
  pub kind : f.kind ≤ 1
  pub none : f.words ≡ 0

-- a field has words, or an earlier one tells them
abbrev pub HasWords : List FieldImage → (size : ℕ) → FieldImage → Type 0
HasWords earlier zero f = 1 ≤ f.words
HasWords earlier (suc place) f = SizedBy earlier place f

pub record FieldIsTyped (number : ℕ) (earlier : List FieldImage) (f : FieldImage) : Type 0 where
  pub type : HasType f.kind f.of number
  pub words : HasWords earlier f.size f

abbrev pub FieldsAreTyped : (number : ℕ) → (earlier : List FieldImage) → List FieldImage → Type 0
FieldsAreTyped n earlier [] = Unit {0}
FieldsAreTyped n earlier (f ∷ fs) = FieldIsTyped n earlier f × FieldsAreTyped n (earlier ++ f ∷ []) fs

-- a type names earlier ones alone
abbrev pub TypesAreTyped : (number : ℕ) → List (List FieldImage) → Type 0
TypesAreTyped n [] = Unit {0}
TypesAreTyped n (fs ∷ ts) = FieldsAreTyped n [] fs × TypesAreTyped (suc n) ts

-- how many pass a test
abbrev pub how_many : {X : Type 0} → (X → Bool) → List X → ℕ
how_many test xs = length (filter test xs)

abbrev pub is_main : UnitImage → Bool
is_main u = u.heading == 0

-- what is asked of the whole
pub record WholeIsTyped (i : Image) : Type 0 where
  pub main : how_many is_main i.units ≡ 1
  pub types : TypesAreTyped 0 i.types

-- ---- machines and frames

abbrev pub nodes : List ℕ → ℕ
nodes [] = 1
nodes (e ∷ es) = e * nodes es

pub record MachineIsTyped (extents : List ℕ) : Type 0 where
  pub few : length extents ≤ 3
  pub each : AllByRecursion (λ e. 1 ≤ e) extents
  pub all : nodes extents ≤ 65536

-- from this word on, one behind the other
pub record CellIsTyped (types word : ℕ) (c : image_cell.Cell) : Type 0 where
  pub name : IsName c.name
  pub type : HasType c.kind c.of types
  pub first : c.first ≡ word
  pub some : 1 ≤ c.words
  pub back : c.back ≤ 1
  pub formal : c.formal ≡ 0 → c.back ≡ 0

abbrev pub CellsAreTyped : (types word : ℕ) → List image_cell.Cell → Type 0
CellsAreTyped n w [] = w ≤ 65536
CellsAreTyped n w (c ∷ cs) = CellIsTyped n w c × CellsAreTyped n (w + c.words) cs

-- no name stands twice
abbrev pub AreApart : List image_cell.Cell → Type 0
AreApart cs = (a b : ℕ) (c d : image_cell.Cell) → slice_get cs a ≡ Some c → slice_get cs b ≡ Some d → c.name ≡ d.name → a ≡ b

abbrev pub is_formal : image_cell.Cell → Bool
is_formal c = not (c.formal == 0)

-- the places of the formals are the numbers from 1 to their number, each once
pub record FormalsHavePlaces (cs : List image_cell.Cell) : Type 0 where
  pub low : AllByRecursion (λ (c : image_cell.Cell). c.formal ≤ how_many is_formal cs) cs
  pub once : (n : ℕ) → n < how_many is_formal cs → how_many (λ (c : image_cell.Cell). c.formal == suc n) cs ≡ 1

-- ---- code

abbrev pub Rise : List ℕ → Type 0
Rise [] = Unit {0}
Rise (a ∷ []) = Unit {0}
Rise (a ∷ b ∷ more) = (a < b) × Rise (b ∷ more)

abbrev pub BeginAt : ℕ → List ℕ → Type 0
BeginAt n [] = ⊥
BeginAt n (a ∷ more) = a ≡ n

-- ---- a unit

pub record UnitIsTyped (i : Image) (u : UnitImage) : Type 0 where
  pub heading : u.heading ≤ 3
  pub machine : MachineIsTyped u.extents
  pub cells : CellsAreTyped (length i.types) 0 u.cells
  pub names : AreApart u.cells
  pub formals : FormalsHavePlaces u.cells
  pub begin : BeginAt 0 (addresses_of u)
  pub rise : Rise (addresses_of u)
  -- a frame has no more loops than the unit has statements
  pub loops : loops_of u.code ≤ length u.entries
  pub kinds : Kinded (shapes_of i) (shape_of u) (coded_of u)
  pub joins : JoinsStand (coded_of u)

-- an image that makes sense
pub record Typed (i : Image) : Type 0 where
  pub whole : WholeIsTyped i
  pub each : AllByRecursion (UnitIsTyped i) i.units

-- ---- what is told of one that doesn't

-- 0 where the whole makes no sense; else the least unit, from 1, that makes none
pub data IsBad (i : Image) : ℕ → Type 0 where
  Whole : ¬ WholeIsTyped i → IsBad i 0
  One : WholeIsTyped i → (n : ℕ) (u : UnitImage) → AllByRecursion (UnitIsTyped i) (take n i.units) → slice_get i.units n ≡ Some u → ¬ UnitIsTyped i u → IsBad i (suc n)
