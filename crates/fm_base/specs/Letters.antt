-- Letters, digits, and how names are written.
-- Source: ANSI X3.9-1978, sections 3.1.1 (letters), 3.1.2 (digits) and 2.2 (symbolic names); underscores and names
-- longer than six characters are this profile's.
use Rattle.std.specs.Prelude.{ℕ, Bool, false, ◌&&◌, ◌||◌, ◌==◌, List, [], ◌∷◌}
use Rattle.std.specs.Char.{is_ascii_uppercase, is_ascii_digit}
use Rattle.std.specs.List.{list_all}

-- A to Z
abbrev pub is_letter : ℕ → Bool
is_letter b = is_ascii_uppercase b

-- 0 to 9
abbrev pub is_digit : ℕ → Bool
is_digit b = is_ascii_digit b

-- a letter, a digit or an underscore
abbrev pub is_name_byte : ℕ → Bool
is_name_byte b = is_letter b || (is_digit b || (b == 95))

-- a letter, and then letters, digits and underscores
abbrev pub is_name_text : List ℕ → Bool
is_name_text [] = false
is_name_text (b ∷ bs) = is_letter b && list_all is_name_byte bs
