-- Words at the front of bytes: each ends with a certain byte.
-- Source: this profile.
use Rattle.std.specs.Prelude.{ℕ, ℤ, pos, negsuc, ◌+◌, ◌-◌, ◌*◌, ◌^◌, ◌==◌, ◌&&◌, ◌||◌, not, Bool, false, nat_lt, nat_le, cond, Option, Some, None, option_map, List, [], ◌∷◌, length}
use Rattle.std.specs.Char.{is_ascii_digit}
use Rattle.std.specs.List.{list_all}
use Rattle.fm_base.specs.Letters.{is_name_text}

infixl 10 ◌>>=◌
abbrev pub ◌>>=◌ : {A B : Type 0} → Option A → (A → Option B) → Option B
(Some x) >>= f = f x
None >>= f = None

-- behind these bytes
unfoldable pub after : List ℕ → List ℕ → Option (List ℕ)
after [] bs = Some bs
after (c ∷ cs) [] = None
after (c ∷ cs) (b ∷ bs) = cond (b == c) (after cs bs) None

-- the bytes before the first such byte, and those behind it
unfoldable pub word_at : (behind : ℕ) → List ℕ → Option (List ℕ × List ℕ)
word_at e [] = None
word_at e (b ∷ bs) = cond (b == e) (Some ([], bs)) (option_map (λ x. (b ∷ x.0, x.1)) (word_at e bs))

-- the number with these digits behind it
abbrev pub read_on : ℕ → List ℕ → ℕ
read_on n [] = n
read_on n (c ∷ cs) = read_on (10 * n + (c - 48)) cs

abbrev pub begins_with_zero : List ℕ → Bool
begins_with_zero [] = false
begins_with_zero (b ∷ bs) = b == 48

-- 1 to 19 digits without leading zeros
abbrev pub is_numeral : List ℕ → Bool
is_numeral w = nat_lt 0 (length w) && (nat_le (length w) 19 && (list_all is_ascii_digit w && (not (begins_with_zero w) || (length w == 1))))

unfoldable pub natural_of : List ℕ → Option ℕ
natural_of w = cond (is_numeral w) (Some (read_on 0 w)) None

-- a number of 32 bits
unfoldable pub number_of : List ℕ → Option ℕ
number_of w = do
  n ← natural_of w
  cond (nat_lt n (2 ^ 32)) (Some n) None

abbrev pub opposite_in : ℕ → Option ℤ
opposite_in n = cond (nat_lt 0 n && nat_le n (2 ^ 63)) (Some (negsuc (n - 1))) None

abbrev pub positive_in : ℕ → Option ℤ
positive_in n = cond (nat_lt n (2 ^ 63)) (Some (pos n)) None

-- a number of 64 bits with a sign
unfoldable pub signed_of : List ℕ → Option ℤ
signed_of [] = None
signed_of (c ∷ cs) = cond (c == 45) (natural_of cs >>= opposite_in) (natural_of (c ∷ cs) >>= positive_in)

-- a name
unfoldable pub name_of : List ℕ → Option (List ℕ)
name_of w = cond (is_name_text w) (Some w) None

-- the value of a word and the bytes behind it
unfoldable pub number_at : (behind : ℕ) → List ℕ → Option (ℕ × List ℕ)
number_at e bs = do
  w ← word_at e bs
  n ← number_of w.0
  Some (n, w.1)

unfoldable pub signed_at : (behind : ℕ) → List ℕ → Option (ℤ × List ℕ)
signed_at e bs = do
  w ← word_at e bs
  n ← signed_of w.0
  Some (n, w.1)

unfoldable pub name_at : (behind : ℕ) → List ℕ → Option (List ℕ × List ℕ)
name_at e bs = do
  w ← word_at e bs
  n ← name_of w.0
  Some (n, w.1)
