-- Tokens: which pieces of a text are one, and the cut of a text into the longest tokens from the left.
-- Source: ANSI X3.9-1978, sections 2.2 (names), 4.3.1 (numbers), 4.7.1 and 4.8.1 (logical and character constants),
-- 6.1.1, 6.3.1 and 6.4.1 (operators); that the longest token counts is this profile's.
use Rattle.std.specs.Prelude.{◌≡◌, ℕ, ◌<◌, ◌≤◌, pos, Bool, true, false, codes, List, [], ◌∷◌, take, drop, length}
use Rattle.std.specs.List.{list_all}
use Rattle.std.specs.Str.Parse.{digits_value}
use Rattle.fm_base.specs.declared.token.Token.{Token}
use Rattle.fm_base.specs.declared.token.Token.TheVariants.{Key, Named, Number, Big, Constant, Open, Close, Comma, Equals, Colon, True, False, Sign}
use Rattle.fm_base.specs.Integers.{greatest_integer}
use Rattle.fm_base.specs.Letters.{is_digit, is_name_text}
use Rattle.fm_base.specs.Tokens.{op_text, constant_text}

-- one digit or more
abbrev pub is_number_text : List ℕ → Bool
is_number_text [] = false
is_number_text (b ∷ bs) = list_all is_digit (b ∷ bs)

-- The whole piece is the token. A name is kept whole, however long; a number has no dot, so `1.EQ.2` is three tokens.
-- The keyword of a statement is no piece of this kind.
abbrev pub IsToken : List ℕ → Token → Type 0
IsToken piece (Key class) = ⊥
IsToken piece (Named name) = (is_name_text piece ≡ true) × (piece ≡ name)
IsToken piece (Number n) = (is_number_text piece ≡ true) × (digits_value 10 piece ≤ greatest_integer) × (pos (digits_value 10 piece) ≡ n)
IsToken piece Big = (is_number_text piece ≡ true) × (greatest_integer < digits_value 10 piece)
IsToken piece (Constant bytes) = piece ≡ constant_text bytes
IsToken piece Open = piece ≡ 40 ∷ []
IsToken piece Close = piece ≡ 41 ∷ []
IsToken piece Comma = piece ≡ 44 ∷ []
IsToken piece Equals = piece ≡ 61 ∷ []
IsToken piece Colon = piece ≡ 58 ∷ []
IsToken piece True = piece ≡ codes ".TRUE."
IsToken piece False = piece ≡ codes ".FALSE."
IsToken piece (Sign op) = piece ≡ op_text op

-- the first n bytes are the token, and no longer beginning is one
pub record IsLongestToken (text : List ℕ) (n : ℕ) (token : Token) : Type 0 where
  pub within : n ≤ length text
  pub whole : IsToken (take n text) token
  pub longest : (m : ℕ) → n < m → m ≤ length text → (other : Token) → ¬ IsToken (take m text) other

-- the text is these tokens, each the longest where it stands
abbrev pub IsCut : List ℕ → List Token → Type 0
IsCut text [] = text ≡ []
IsCut text (token ∷ tokens) = (n : ℕ) × IsLongestToken text n token × IsCut (drop n text) tokens
