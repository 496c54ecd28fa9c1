-- What the code's passes do, byte by byte. No contract of a public function names this file: proofs/Passes and
-- proofs/TokenAt lead from here to the definitions.
-- Source: this profile, after ANSI X3.9-1978, section 3 (blanks have no meaning).
use Rattle.std.specs.Prelude.{ℕ, ◌+◌, ◌-◌, ◌*◌, ◌^◌, pos, Bool, false, not, ◌&&◌, ◌||◌, Option, Some, None, List, [], ◌∷◌, ◌++◌, ◌==◌, if◌then◌else◌, nat_lt, map, find}
use Rattle.std.specs.List.{list_all, prefix_len}
use Rattle.std.specs.Option.{option_map}
use Rattle.fm_base.specs.declared.token.Op.{Op}
use Rattle.fm_base.specs.declared.token.Op.TheVariants as op
use Rattle.fm_base.specs.declared.token.Token.{Token}
use Rattle.fm_base.specs.declared.token.Token.TheVariants.{Named, Number, Big, Constant, Open, Close, Comma, Equals, Colon, True, False, Sign}
use Rattle.fm_base.specs.Letters.{is_letter, is_digit, is_name_byte}
use Rattle.fm_base.specs.Tokens.{token_text}
use Rattle.fm_token.specs.declared.top_level.Before.{Before}
use Rattle.fm_token.specs.Classes.{is_same_text}

-- Top level, by what has been counted.

abbrev pub one_if : Bool → ℕ
one_if b = if b then 1 else 0

abbrev pub start : Before
start = record { inside = false; opening = 0; closing = 0 }

-- one byte on
abbrev pub after_byte : Before → ℕ → Before
after_byte before b = record {
  inside = if b == 39 then not before.inside else before.inside;
  opening = before.opening + one_if ((b == 40) && not before.inside);
  closing = before.closing + one_if ((b == 41) && not before.inside);
}

abbrev pub is_at_top : Before → Bool
is_at_top before = not before.inside && (before.opening == before.closing)

abbrev pub has_top_behind : ℕ → Before → List ℕ → Bool
has_top_behind sign before [] = false
has_top_behind sign before (b ∷ bs) = ((b == sign) && is_at_top before) || has_top_behind sign (after_byte before b) bs

abbrev pub is_last_close : Before → ℕ → Bool
is_last_close before b = ((b == 41) && not before.inside) && (before.opening == before.closing + 1)

abbrev pub close_behind : ℕ → Before → List ℕ → Option ℕ
close_behind n before [] = None
close_behind n before (b ∷ bs) = if is_last_close before b then Some (n + 1) else close_behind (n + 1) (after_byte before b) bs

-- The token that a piece is.

-- the number that the digits make behind those of n
abbrev pub digits_number : ℕ → List ℕ → ℕ
digits_number n [] = n
digits_number n (b ∷ bs) = digits_number (10 * n + (b - 48)) bs

-- from 2^63 on a number is too large
abbrev pub number_token : ℕ → Token
number_token n = if nat_lt n (2 ^ 63) then Number (pos n) else Big

-- the items, if there are any, with these before them
abbrev pub behind_items : {X : Type 0} → List X → Option (List X) → Option (List X)
behind_items front None = None
behind_items front (Some items) = Some (front ++ items)

-- Inside a constant, `waiting`: an apostrophe was read that closes it or is the first of two that stand for one.
-- The byte that stands next counts unless it is the first of two.
abbrev pub counted : Bool → ℕ → List ℕ
counted waiting b = if waiting || not (b == 39) then b ∷ [] else []

abbrev pub is_waiting : Bool → ℕ → Bool
is_waiting waiting b = (b == 39) && not waiting

-- the bytes of a constant, from what stands behind its first apostrophe to its end
abbrev pub constant_bytes : Bool → List ℕ → Option (List ℕ)
constant_bytes waiting [] = if waiting then Some [] else None
constant_bytes waiting (b ∷ bs) =
    if waiting && not (b == 39) then None else behind_items (counted waiting b) (constant_bytes (is_waiting waiting b) bs)

unfoldable pub operators : List Op
operators = op.Eqv ∷ op.Neqv ∷ op.Or ∷ op.And ∷ op.Not ∷ op.Eq ∷ op.Ne ∷ op.Lt ∷ op.Le ∷ op.Gt ∷ op.Ge ∷ op.Add ∷ op.Sub ∷ op.Mul ∷ op.Div ∷ op.Pow ∷ []

-- the tokens without operators that are always written alike
unfoldable pub bare_tokens : List Token
bare_tokens = Open ∷ Close ∷ Comma ∷ Equals ∷ Colon ∷ True ∷ False ∷ []

-- all tokens that are always written alike
unfoldable pub fixed_tokens : List Token
fixed_tokens = bare_tokens ++ map Sign operators

abbrev pub is_spelled : List ℕ → Token → Bool
is_spelled piece token = is_same_text piece (token_text token)

unfoldable pub fixed_token : List ℕ → Option Token
fixed_token piece = find (is_spelled piece) fixed_tokens

-- the token that the whole piece is, if it is one
unfoldable pub token_at : List ℕ → Option Token
token_at [] = None
token_at (b ∷ bs) =
    if is_letter b then if list_all is_name_byte bs then Some (Named (b ∷ bs)) else None
    else if is_digit b then if list_all is_digit bs then Some (number_token (digits_number 0 (b ∷ bs))) else None
    else if b == 39 then option_map Constant (constant_bytes false bs) else fixed_token (b ∷ bs)

-- How the longest token at the front of a text is found: its first byte says how far it may go.

-- where a constant ends at the latest, n bytes on and with the end that was found so far
abbrev pub constant_end : Bool → ℕ → Option ℕ → List ℕ → Option ℕ
constant_end waiting n end [] = end
constant_end waiting n end (b ∷ bs) =
    if waiting && not (b == 39) then end
    else constant_end (is_waiting waiting b) (n + 1) (if is_waiting waiting b then Some (n + 1) else end) bs

-- up to and with the first dot, n bytes on
abbrev pub dot_end : ℕ → List ℕ → Option ℕ
dot_end n [] = None
dot_end n (b ∷ bs) = if b == 46 then Some (n + 1) else dot_end (n + 1) bs

-- two stars are one sign
abbrev pub sign_length : ℕ → List ℕ → ℕ
sign_length b [] = 1
sign_length b (c ∷ cs) = if (b == 42) && (c == 42) then 2 else 1

-- the length of the one beginning that may be the longest token
unfoldable pub candidate : List ℕ → Option ℕ
candidate [] = None
candidate (b ∷ bs) =
    if is_letter b then Some (prefix_len is_name_byte bs + 1)
    else if is_digit b then Some (prefix_len is_digit bs + 1)
    else if b == 39 then constant_end false 1 None bs else if b == 46 then dot_end 1 bs else Some (sign_length b bs)
