-- The lines of a text, their 72 columns, and their kinds.
-- Source: ANSI X3.9-1978, sections 3.2 (lines) and 3.2.1 to 3.2.3 (comment, initial and continuation lines); that `c`
-- and `!` mark comments, the line ends, and that short lines are filled up are this profile's.
use Rattle.std.specs.Prelude.{ℕ, ◌+◌, ◌-◌, not, ◌||◌, Bool, List, [], ◌∷◌, ◌++◌, take, length, replicate, slice_index, ◌==◌, if◌then◌else◌}
use Rattle.std.specs.List.{list_all}

-- the lines of a byte, which ends no line, and what stands behind it
abbrev pub behind_byte : ℕ → List (List ℕ) → List (List ℕ)
behind_byte b [] = (b ∷ []) ∷ []
behind_byte b (line ∷ more) = (b ∷ line) ∷ more

-- the bytes up to each line feed, and what stands behind the last one where something does
abbrev pub lines : List ℕ → List (List ℕ)
lines [] = []
lines (b ∷ bs) = if b == 10 then [] ∷ lines bs else behind_byte b (lines bs)

-- without one carriage return at the end
abbrev pub without_return : List ℕ → List ℕ
without_return line = if slice_index line (length line - 1) == 13 then take (length line - 1) line else line

-- columns 1 to 72: what stands behind them is cut off, and a shorter line is filled up with blanks
abbrev pub columns_of : List ℕ → List ℕ
columns_of line = take 72 (without_return line) ++ replicate (72 - length (without_return line)) 32

abbrev pub is_blank : ℕ → Bool
is_blank b = b == 32

-- `C`, `c`, `*` or `!`
abbrev pub is_comment_mark : ℕ → Bool
is_comment_mark b = (b == 67) || (b == 99) || (b == 42) || (b == 33)

-- a mark in column 1, or blanks alone
abbrev pub is_comment : List ℕ → Bool
is_comment row = is_comment_mark (slice_index row 0) || list_all is_blank row

-- of what is no comment: column 6 is neither blank nor `0`
abbrev pub is_continuation : List ℕ → Bool
is_continuation row = not (is_blank (slice_index row 5) || (slice_index row 5 == 48))

-- the columns of a line, and its number
pub record Row : Type 0 where
  pub line : ℕ
  pub columns : List ℕ

abbrev pub row_at : ℕ → List ℕ → Row
row_at number row = record { line = number; columns = row }

-- the rows of lines that are no comments, the first line having this number
abbrev pub rows : ℕ → List (List ℕ) → List Row
rows number [] = []
rows number (line ∷ more) =
    if is_comment (columns_of line) then rows (number + 1) more
    else row_at number (columns_of line) ∷ rows (number + 1) more
