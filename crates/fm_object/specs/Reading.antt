-- What the reader's own functions give: an image from left to right, line by line; what isn't as it should be is told by
-- the number of its line. What `read` promises of them stands in Texts.
-- Source: this profile.
use Rattle.std.specs.Prelude.{◌≡◌, ℕ, zero, suc, ◌+◌, ◌==◌, Option, Some, None, option_map, List, [], ◌∷◌, length, cond, Result, Ok, Err, codes}
use Rattle.fm_code.specs.declared.code.Entry.{Entry}
use Rattle.fm_code.specs.declared.instr.Instr.{Instr}
use Rattle.fm_code.specs.Parts.{instr_of}
use Rattle.fm_object.specs.declared.fail.ObjectFail.{ObjectFail}
use Rattle.fm_object.specs.declared.fail.ObjectFail.TheVariants as fails
use Rattle.fm_object.specs.declared.image.FieldImage.{FieldImage}
use Rattle.fm_object.specs.declared.image.Cell.{Cell}
use Rattle.fm_object.specs.declared.image.UnitImage.{UnitImage}
use Rattle.fm_object.specs.declared.image.Image.{Image}
use Rattle.fm_object.specs.Texts.{IsShort}
use Rattle.fm_object.specs.Words.{◌>>=◌, after, number_at, signed_at, name_at}

-- ---- one line, and the bytes behind it

-- what is said of a line that has counts alone
pub record UnitHead : Type 0 where
  pub heading : ℕ
  pub extents : ℕ
  pub cells : ℕ
  pub entries : ℕ
  pub code : ℕ

-- its numbers have 32 bits
pub record HeadFits (u : UnitHead) : Type 0 where
  pub heading : IsShort u.heading
  pub extents : IsShort u.extents
  pub cells : IsShort u.cells
  pub entries : IsShort u.entries
  pub code : IsShort u.code

-- what the line of this unit says
abbrev pub head_in : UnitImage → UnitHead
head_in u = record { heading = u.heading; extents = length u.extents; cells = length u.cells; entries = length u.entries; code = length u.code }

unfoldable pub count_line : List ℕ → List ℕ → Option (ℕ × List ℕ)
count_line keyword bytes = do
  a ← after keyword bytes
  number_at 10 a

unfoldable pub head_line : List ℕ → Option (Unit {0} × List ℕ)
head_line bytes = option_map (λ rest. (tt, rest)) (after (codes "fmc object 1\n") bytes)

unfoldable pub field_line : List ℕ → Option (FieldImage × List ℕ)
field_line bytes = do
  a ← after (codes "field ") bytes
  kind ← number_at 32 a
  of ← number_at 32 kind.1
  words ← number_at 32 of.1
  size ← number_at 10 words.1
  Some (record { kind = kind.0; of = of.0; words = words.0; size = size.0 }, size.1)

unfoldable pub unit_head_line : List ℕ → Option (UnitHead × List ℕ)
unit_head_line bytes = do
  a ← after (codes "unit ") bytes
  heading ← number_at 32 a
  extents ← number_at 32 heading.1
  cells ← number_at 32 extents.1
  entries ← number_at 32 cells.1
  code ← number_at 10 entries.1
  Some (record { heading = heading.0; extents = extents.0; cells = cells.0; entries = entries.0; code = code.0 }, code.1)

unfoldable pub cell_line : List ℕ → Option (Cell × List ℕ)
cell_line bytes = do
  a ← after (codes "cell ") bytes
  name ← name_at 32 a
  kind ← number_at 32 name.1
  of ← number_at 32 kind.1
  first ← number_at 32 of.1
  words ← number_at 32 first.1
  formal ← number_at 32 words.1
  back ← number_at 10 formal.1
  Some (record { name = name.0; kind = kind.0; of = of.0; first = first.0; words = words.0; formal = formal.0; back = back.0 }, back.1)

unfoldable pub entry_line : List ℕ → Option (Entry × List ℕ)
entry_line bytes = do
  a ← after (codes "entry ") bytes
  line ← number_at 32 a
  address ← number_at 10 line.1
  Some (record { line = record { 0 = line.0 }; address = address.0 }, address.1)

unfoldable pub instr_line : List ℕ → Option (Instr × List ℕ)
instr_line bytes = do
  a ← after (codes "instr ") bytes
  op ← number_at 32 a
  first ← signed_at 32 op.1
  second ← signed_at 10 first.1
  instr ← instr_of op.0 first.0 second.0
  Some (instr, second.1)

-- ---- several lines

-- the number of the next line, and the bytes from its first on
pub record Place : Type 0 where
  pub line : ℕ
  pub rest : List ℕ

infixl 10 ◌>>◌
abbrev pub ◌>>◌ : {A B : Type 0} → Result A ℕ → (A → Result B ℕ) → Result B ℕ
(Ok x) >> f = f x
(Err e) >> f = Err e

-- what a line gives, and the place behind it; or its number
abbrev pub lined : {X : Type 0} → ℕ → Option (X × List ℕ) → Result (X × Place) ℕ
lined n None = Err n
lined n (Some x) = Ok (x.0, record { line = n + 1; rest = x.1 })

abbrev pub one_line : {X : Type 0} → (List ℕ → Option (X × List ℕ)) → Place → Result (X × Place) ℕ
one_line read p = lined p.line (read p.rest)

-- so many, one behind the other
unfoldable pub many : {X : Type 0} → (Place → Result (X × Place) ℕ) → ℕ → Place → Result (List X × Place) ℕ
many read zero p = Ok ([], p)
many read (suc n) p = read p >> λ x. many read n x.1 >> λ xs. Ok (x.0 ∷ xs.0, xs.1)

unfoldable pub type_read : Place → Result (List FieldImage × Place) ℕ
type_read p = one_line (count_line (codes "type ")) p >> λ n. many (one_line field_line) n.0 n.1

unfoldable pub unit_read : Place → Result (UnitImage × Place) ℕ
unit_read p =
    one_line unit_head_line p >> λ h.
    many (one_line (count_line (codes "extent "))) h.0.extents h.1 >> λ extents.
    many (one_line cell_line) h.0.cells extents.1 >> λ cells.
    many (one_line entry_line) h.0.entries cells.1 >> λ entries.
    many (one_line instr_line) h.0.code entries.1 >> λ code.
    Ok (record { heading = h.0.heading; extents = extents.0; cells = cells.0; entries = entries.0; code = code.0 }, code.1)

-- nothing follows
abbrev pub ended : {X : Type 0} → X → Place → Result X ℕ
ended x p = cond (length p.rest == 0) (Ok x) (Err p.line)

abbrev pub from_first : List ℕ → Place
from_first bytes = record { line = 1; rest = bytes }

-- all of the bytes: an image, or the first line that isn't as it should be
unfoldable pub image_read : List ℕ → Result Image ℕ
image_read bytes =
    one_line head_line (from_first bytes) >> λ h.
    one_line (count_line (codes "types ")) h.1 >> λ a.
    many type_read a.0 a.1 >> λ types.
    one_line (count_line (codes "units ")) types.1 >> λ u.
    many unit_read u.0 u.1 >> λ units.
    ended (record { types = types.0; units = units.0 }) units.1

-- ---- what a function answers

-- What it returned, seen by `view`, is what reading gives, unless memory ran out.
abbrev pub Fails : {Y : Type 0} → ObjectFail → Result Y ℕ → Type 0
Fails fails.NoMemory read = Unit {0}
Fails (fails.Malformed line) read = read ≡ Err line.0

abbrev pub Gives : {X Y : Type 0} → (X → Y) → Result X ObjectFail → Result Y ℕ → Type 0
Gives view (Ok x) read = read ≡ Ok (view x)
Gives view (Err e) read = Fails e read
