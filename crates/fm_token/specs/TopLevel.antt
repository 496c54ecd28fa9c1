-- Top level: where a sign of a statement's text counts.
-- Source: ANSI X3.9-1978, section 4.8.1 (character constants); A. H. J. Sale, "The classification of FORTRAN statements" (1971).
use Rattle.std.specs.Prelude.{ℕ, ◌+◌, Bool, not, ◌&&◌, Option, List, length, ◌==◌, find}
use Rattle.std.specs.Option.{option_map}
use Rattle.std.specs.List.{list_any, count_by}
use Rattle.fm_base.specs.Positions.{Position, positions, is_inside}

-- the sign stands here, outside of constants
abbrev pub stands_outside : ℕ → Position → Bool
stands_outside sign position = (position.byte == sign) && not (is_inside position.before)

-- how often the sign stands in the text outside of constants
abbrev pub count_outside : ℕ → List ℕ → ℕ
count_outside sign text = count_by (stands_outside sign) (positions text)

-- What stands behind these bytes is at top level: outside of constants, with as many ( as ) outside of constants before it.
abbrev pub is_top : List ℕ → Bool
is_top before = not (is_inside before) && (count_outside 40 before == count_outside 41 before)

abbrev pub stands_at_top : ℕ → Position → Bool
stands_at_top sign position = (position.byte == sign) && is_top position.before

-- the sign stands somewhere at top level
abbrev pub has_top : ℕ → List ℕ → Bool
has_top sign text = list_any (stands_at_top sign) (positions text)

-- a ) outside of constants, with one ( more than ) outside of constants before it
abbrev pub closes_last : Position → Bool
closes_last position = stands_outside 41 position && (count_outside 40 position.before == count_outside 41 position.before + 1)

-- Of a text that begins with `IF(`: how many bytes there are up to and with the parenthesis that closes that one.
abbrev pub close_of : List ℕ → Option ℕ
close_of text = option_map (λ (position : Position). length position.before + 1) (find closes_last (positions text))
