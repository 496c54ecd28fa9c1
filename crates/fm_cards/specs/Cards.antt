-- The statements of a text in fixed form.
-- Source: ANSI X3.9-1978, sections 3.1.6 (blanks), 3.3 (statements), 3.4 (labels) and 4.8.1 (constants);
-- that lower case outside constants stands for upper case is this profile's.
use Rattle.std.specs.Prelude.{ℕ, Bool, not, ◌||◌, ◌&&◌, Option, Some, None, List, [], ◌∷◌, ◌++◌, map, take, drop, ◌==◌, if◌then◌else◌}
use Rattle.std.specs.List.{list_any, filter, flat_map}
use Rattle.std.specs.Char.{to_ascii_uppercase}
use Rattle.std.specs.Str.Parse.{digits_value}
use Rattle.fm_base.specs.Letters.{is_digit}
use Rattle.fm_base.specs.Positions.{Position, positions, is_inside}
use Rattle.fm_base.specs.declared.name.Label.{Label}
use Rattle.fm_cards.specs.declared.card.Card.{Card}
use Rattle.fm_cards.specs.Lines.{lines, rows, Row, is_blank, is_continuation}

-- an initial line with its continuation lines
pub record Group : Type 0 where
  pub first : Row
  pub more : List Row

-- continuation lines with no initial line before them, and the groups behind them
pub record Parts : Type 0 where
  pub front : List Row
  pub groups : List Group

-- from the right: a continuation line belongs to the nearest initial line before it
abbrev pub parts_of_rows : List Row → Parts
parts_of_rows [] = record { front = []; groups = [] }
parts_of_rows (row ∷ more) =
    if is_continuation row.columns
    then record { front = row ∷ (parts_of_rows more).front; groups = (parts_of_rows more).groups }
    else record { front = []; groups = record { first = row; more = (parts_of_rows more).front } ∷ (parts_of_rows more).groups }

abbrev pub parts_of : List ℕ → Parts
parts_of source = parts_of_rows (rows 1 (lines source))

-- columns 7 to 72 of rows, joined
abbrev pub texts : List Row → List ℕ
texts [] = []
texts (row ∷ more) = drop 6 row.columns ++ texts more

abbrev pub text_of : Group → List ℕ
text_of group = drop 6 group.first.columns ++ texts group.more

-- what is kept of a byte: inside a constant the byte as it is; outside no blank, and letters raised
abbrev pub squeezed_byte : Position → List ℕ
squeezed_byte position =
    if is_inside position.before then position.byte ∷ []
    else if is_blank position.byte then [] else to_ascii_uppercase position.byte ∷ []

abbrev pub squeezed_text : List ℕ → List ℕ
squeezed_text text = flat_map squeezed_byte (positions text)

-- the number that the digits make; blanks are ignored
abbrev pub number_of_digits : List ℕ → ℕ
number_of_digits field = digits_value 10 (filter is_digit field)

abbrev pub is_no_label_character : ℕ → Bool
is_no_label_character b = not (is_digit b || is_blank b)

-- columns 1 to 5 hold more than digits and blanks, or a label 0
abbrev pub is_bad_field : List ℕ → Bool
is_bad_field field = list_any is_no_label_character field || (list_any is_digit field && (number_of_digits field == 0))

-- the label in columns 1 to 5; a bad field gives none
abbrev pub label_of : List ℕ → Option Label
label_of field =
    if list_any is_digit field && not (is_bad_field field) then Some (record { 0 = number_of_digits field })
    else None

-- a statement: the number of its first line, its label, and its squeezed text
abbrev pub card_of : Group → Card
card_of group = record {
  line = record { 0 = group.first.line };
  label = label_of (take 5 group.first.columns);
  text = squeezed_text (text_of group);
}

abbrev pub cards_of : List ℕ → List Card
cards_of source = map card_of (parts_of source).groups
