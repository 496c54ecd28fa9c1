-- What an image is, its one text, and which line of other bytes is the first that is malformed.
--
-- The text has these lines, each with its line feed, and nothing behind them. One blank stands between two words; numbers
-- are decimal without zeros in front, and the operands of an instruction may have a sign.
--
--   fmc object 1
--   types A                                               then A times:
--     type F                                              then F times:
--       field KIND OF WORDS SIZE
--   units U                                               then U times:
--     unit HEADING EXTENTS CELLS ENTRIES INSTRUCTIONS     then so many times each:
--       extent WORDS
--       cell NAME KIND OF FIRST WORDS FORMAL BACK
--       entry LINE ADDRESS
--       instr OPERATION FIRST SECOND
--
-- Source: this profile.
use Rattle.std.specs.Prelude.{◌≡◌, ℕ, zero, suc, ◌+◌, ◌^◌, ◌<◌, ◌==◌, cond, true, ℤ, List, [], ◌∷◌, ◌++◌, length, Some, Result, Ok, Err, codes}
use Rattle.std.specs.List.{flat_map, AllByRecursion}
use Rattle.std.specs.Int.RustNames.{FitsSigned}
use Rattle.std.specs.Int.{w64}
use Rattle.std.specs.Fmt.{decimal, signed_decimal}
use Rattle.fm_base.specs.Letters.{is_name_text}
use Rattle.fm_code.specs.declared.code.Entry.{Entry}
use Rattle.fm_code.specs.declared.instr.Instr.{Instr}
use Rattle.fm_code.specs.Parts.{Parts, parts_of, instr_of}
use Rattle.fm_object.specs.declared.fail.ObjectFail.{ObjectFail}
use Rattle.fm_object.specs.declared.fail.ObjectFail.TheVariants as fails
use Rattle.fm_object.specs.declared.image.FieldImage.{FieldImage}
use Rattle.fm_object.specs.declared.image.Cell.{Cell}
use Rattle.fm_object.specs.declared.image.UnitImage.{UnitImage}
use Rattle.fm_object.specs.declared.image.Image.{Image}

-- ---- words and lines

-- a word and the byte behind it
abbrev pub word : List ℕ → (behind : ℕ) → List ℕ
word bytes behind = bytes ++ behind ∷ []

abbrev pub number : ℕ → (behind : ℕ) → List ℕ
number n behind = word (decimal n) behind

abbrev pub signed : ℤ → (behind : ℕ) → List ℕ
signed z behind = word (signed_decimal z) behind

abbrev pub field_text : FieldImage → List ℕ
field_text f = codes "field " ++ (number f.kind 32 ++ (number f.of 32 ++ (number f.words 32 ++ number f.size 10)))

abbrev pub extent_text : ℕ → List ℕ
extent_text e = codes "extent " ++ number e 10

abbrev pub cell_text : Cell → List ℕ
cell_text c =
    codes "cell "
    ++ (word c.name 32 ++ (number c.kind 32 ++ (number c.of 32 ++ (number c.first 32 ++ (number c.words 32 ++ (number c.formal 32 ++ number c.back 10))))))

abbrev pub entry_text : Entry → List ℕ
entry_text e = codes "entry " ++ (number e.line.0 32 ++ number e.address 10)

-- the number of what the instruction does, and its operands
abbrev pub parts_text : Parts → List ℕ
parts_text p = codes "instr " ++ (number p.0 32 ++ (signed p.1 32 ++ signed p.2 10))

abbrev pub instr_text : Instr → List ℕ
instr_text i = parts_text (parts_of i)

-- ---- the whole

abbrev pub type_text : List FieldImage → List ℕ
type_text fs = (codes "type " ++ number (length fs) 10) ++ flat_map field_text fs

-- its heading, and how many lines of each kind follow
abbrev pub unit_line : UnitImage → List ℕ
unit_line u =
    codes "unit "
    ++ (number u.heading 32 ++ (number (length u.extents) 32 ++ (number (length u.cells) 32 ++ (number (length u.entries) 32 ++ number (length u.code) 10))))

abbrev pub unit_text : UnitImage → List ℕ
unit_text u =
    unit_line u ++ (flat_map extent_text u.extents ++ (flat_map cell_text u.cells ++ (flat_map entry_text u.entries ++ flat_map instr_text u.code)))

abbrev pub head_text : List ℕ
head_text = codes "fmc object 1\n"

abbrev pub types_line : ℕ → List ℕ
types_line n = codes "types " ++ number n 10

abbrev pub units_line : ℕ → List ℕ
units_line n = codes "units " ++ number n 10

abbrev pub object_text : Image → List ℕ
object_text i =
    head_text ++ (types_line (length i.types) ++ (flat_map type_text i.types ++ (units_line (length i.units) ++ flat_map unit_text i.units)))

-- ---- images

-- a number of 32 bits
abbrev pub IsShort : ℕ → Type 0
IsShort n = n < 2 ^ 32

-- a name of the language, in upper case
abbrev pub IsName : List ℕ → Type 0
IsName bytes = is_name_text bytes ≡ true

pub record FieldFits (f : FieldImage) : Type 0 where
  pub kind : IsShort f.kind
  pub of : IsShort f.of
  pub words : IsShort f.words
  pub size : IsShort f.size

pub record CellFits (c : Cell) : Type 0 where
  pub name : IsName c.name
  pub kind : IsShort c.kind
  pub of : IsShort c.of
  pub first : IsShort c.first
  pub words : IsShort c.words
  pub formal : IsShort c.formal
  pub back : IsShort c.back

pub record EntryFits (e : Entry) : Type 0 where
  pub line : IsShort e.line.0
  pub address : IsShort e.address

-- its parts are within their ranges, and are those of this instruction
pub record InstrFits (i : Instr) : Type 0 where
  pub operation : IsShort (parts_of i).0
  pub first : FitsSigned w64 (parts_of i).1
  pub second : FitsSigned w64 (parts_of i).2
  pub told : instr_of (parts_of i).0 (parts_of i).1 (parts_of i).2 ≡ Some i

-- each fits, and their number is one of 32 bits
pub record ListFits {X : Type 0} (Fits : X → Type 0) (xs : List X) : Type 0 where
  pub few : IsShort (length xs)
  pub each : AllByRecursion Fits xs

pub record UnitFits (u : UnitImage) : Type 0 where
  pub heading : IsShort u.heading
  pub extents : ListFits IsShort u.extents
  pub cells : ListFits CellFits u.cells
  pub entries : ListFits EntryFits u.entries
  pub code : ListFits InstrFits u.code

-- the ranges of an image
pub record IsImage (i : Image) : Type 0 where
  pub types : ListFits (ListFits FieldFits) i.types
  pub units : ListFits UnitFits i.units

-- the names of variables are names
abbrev pub AreNamed : List Cell → Type 0
AreNamed cs = AllByRecursion (λ (c : Cell). IsName c.name) cs

abbrev pub HasNames : Image → Type 0
HasNames i = AllByRecursion (λ (u : UnitImage). AreNamed u.cells) i.units

-- the bytes are the text of this image
abbrev pub IsObjectText : List ℕ → Image → Type 0
IsObjectText bytes i = IsImage i × (bytes ≡ object_text i)

-- ---- malformed lines

-- the first lines of bytes, each with its line feed; all of the bytes where they have fewer
abbrev pub first_lines : ℕ → List ℕ → List ℕ
first_lines zero bytes = []
first_lines (suc n) [] = []
first_lines (suc n) (b ∷ bs) = b ∷ cond (b == 10) (first_lines n bs) (first_lines (suc n) bs)

-- so many first lines of the bytes are those of some image's text
pub record BeginsObject (bytes : List ℕ) (lines : ℕ) : Type 0 where
  pub image : Image
  pub is_image : IsImage image
  pub same : first_lines lines bytes ≡ first_lines lines (object_text image)

-- the lines before this one begin an image's text, and with this one they begin none
pub record IsFirstMalformed (bytes : List ℕ) (line : ℕ) : Type 0 where
  pub before : ℕ
  pub next : before + 1 ≡ line
  pub begun : BeginsObject bytes before
  pub malformed : ¬ BeginsObject bytes line

-- ---- answers

-- why bytes were not read: their first malformed line, or want of memory
abbrev pub IsCause : List ℕ → ObjectFail → Type 0
IsCause bytes (fails.Malformed line) = IsFirstMalformed bytes line.0
IsCause bytes fails.NoMemory = Unit {0}

-- this image was read, unless memory ran out
abbrev pub IsRead : Image → Result Image ObjectFail → Type 0
IsRead i (Ok j) = j ≡ i
IsRead i (Err e) = e ≡ fails.NoMemory

-- what it holds of is the same wherever it holds
abbrev pub HoldsAtMostOnce : {X : Type 0} → (X → Type 0) → Type 0
HoldsAtMostOnce {X} P = (x y : X) → P x → P y → x ≡ y
