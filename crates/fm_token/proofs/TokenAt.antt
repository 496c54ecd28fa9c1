-- The token that a piece is, by its first byte and as the definition says.
use Rattle.std.proofs.Common.{◌≡◌, ℕ, ◌+◌, ◌*◌, ◌-◌, ◌^◌, ◌≤◌, ◌<◌, Bool, true, false, ◌&&◌, Option, Some, None, List, [], ◌∷◌, cond, nat_lt, pos, arith, refl, sym, ap, subst, ◌∙◌}
use Rattle.std.specs.Prelude.{find, codes}
use Rattle.std.proofs.Math.Dec.{eqb}
use Rattle.std.proofs.lemmas.Bool.{eqb-true, le-ltb, lt-ltb, ltb-true, ltb-false}
use Rattle.std.proofs.lemmas.Bool.Decides.{nat_tests}
use Rattle.std.specs.List.{list_all}
use Rattle.std.specs.Option.{option_map}
use Rattle.std.specs.Cmp.Lexicographic.{same_text}
use Rattle.std.specs.Char.{digit_value}
use Rattle.std.specs.Str.Parse.{digits_value, digits_value_after}
use Rattle.fm_base.specs.declared.token.Op.{Op}
use Rattle.fm_base.specs.declared.token.Op.TheVariants as op
use Rattle.fm_base.specs.declared.token.Token.{Token}
use Rattle.fm_base.specs.declared.token.Token.TheVariants.{Key, Named, Number, Big, Constant, Open, Close, Comma, Equals, Colon, True, False, Sign}
use Rattle.fm_base.specs.Integers.{greatest_integer}
use Rattle.fm_base.specs.Letters.{is_letter, is_digit, is_name_byte}
use Rattle.fm_base.specs.Tokens.{token_text, op_text, constant_text}
use Rattle.fm_token.specs.Pieces.{IsToken, is_number_text}
use Rattle.fm_token.specs.Steps.{constant_bytes, digits_number, number_token, operators, bare_tokens, fixed_tokens, fixed_token, is_spelled, token_at}
use Rattle.fm_token.proofs.Constants.{as_written}
use Rattle.fm_token.proofs.Fixed.{and_left, and_right}

-- the test of a piece by its first byte
abbrev pub found_if : Bool → Token → Option Token
found_if test t = cond test (Some t) None

pub at_letter : (b : ℕ) (xs : List ℕ) → is_letter b ≡ true → token_at (b ∷ xs) ≡ found_if (list_all is_name_byte xs) (Named (b ∷ xs))
unfolding token_at
at_letter b xs u = rw u refl

pub at_digit : (b : ℕ) (xs : List ℕ) → is_letter b ≡ false → is_digit b ≡ true
    → token_at (b ∷ xs) ≡ found_if (list_all is_digit xs) (number_token (digits_number 0 (b ∷ xs)))
unfolding token_at
at_digit b xs u d = rw (u, d) refl

pub at_mark : (b : ℕ) (xs : List ℕ) → is_letter b ≡ false → is_digit b ≡ false → eqb b 39 ≡ true
    → token_at (b ∷ xs) ≡ option_map Constant (constant_bytes false xs)
unfolding token_at
at_mark b xs u d a = rw (u, d, a) refl

pub at_sign : (b : ℕ) (xs : List ℕ) → is_letter b ≡ false → is_digit b ≡ false → eqb b 39 ≡ false → token_at (b ∷ xs) ≡ fixed_token (b ∷ xs)
unfolding token_at
at_sign b xs u d a = rw (u, d, a) refl

-- Numbers.

digit_no_letter : (b : ℕ) → is_digit b ≡ true → is_letter b ≡ false
digit_no_letter b d = grind (arith, nat_tests)

digit_is : (b : ℕ) → is_digit b ≡ true → digit_value b ≡ b - 48
digit_is b d = grind (arith, nat_tests)

value_behind : (bs : List ℕ) (n : ℕ) → list_all is_digit bs ≡ true → digits_value_after 10 n bs ≡ digits_number n bs
value_behind [] n a = refl
value_behind (b ∷ bs) n a =
    let e : n * 10 + digit_value b ≡ 10 * n + (b - 48) = omega (arith, digit_is b (and_left _ _ a)) in
    ap (λ (m : ℕ). digits_value_after 10 m bs) e ∙ value_behind bs (10 * n + (b - 48)) (and_right _ _ a)

number_is : (bs : List ℕ) → list_all is_digit bs ≡ true → number_token (digits_number 0 bs) ≡ number_token (digits_value 10 bs)
number_is bs a = ap number_token (sym (value_behind bs 0 a))

number_small : (n : ℕ) → n ≤ greatest_integer → number_token n ≡ Number (pos n)
number_small n h = ap (λ t. cond t (Number (pos n)) Big) (lt-ltb n (2 ^ 63) (omega arith))

number_big : (n : ℕ) → greatest_integer < n → number_token n ≡ Big
number_big n h = ap (λ t. cond t (Number (pos n)) Big) (le-ltb n (2 ^ 63) (omega arith))

-- Tokens that are always written alike.

abbrev is_fixed : Token → Bool
is_fixed (Key c) = false
is_fixed (Named name) = false
is_fixed (Number n) = false
is_fixed Big = false
is_fixed (Constant bytes) = false
is_fixed Open = true
is_fixed Close = true
is_fixed Comma = true
is_fixed Equals = true
is_fixed Colon = true
is_fixed True = true
is_fixed False = true
is_fixed (Sign o) = true

all_fixed : list_all is_fixed fixed_tokens ≡ true
unfolding fixed_tokens bare_tokens operators
all_fixed = refl

found_spelled : (piece : List ℕ) (ts : List Token) (t : Token) → list_all is_fixed ts ≡ true → find (is_spelled piece) ts ≡ Some t
    → (piece ≡ token_text t) × (is_fixed t ≡ true)
found_spelled piece [] t a e = cc
found_spelled piece (u ∷ us) t a e =
    elim (is_spelled piece u) as (λ b. is_spelled piece u ≡ b → cond b (Some u) (find (is_spelled piece) us) ≡ Some t → (piece ≡ token_text t) × (is_fixed t ≡ true)) [
      | true ↦ λ s f. let is : u ≡ t = cc in (same_text piece (token_text u) (sym s) ∙ ap token_text is, sym (ap is_fixed is) ∙ and_left _ _ a)
      | false ↦ λ s f. found_spelled piece us t (and_right (is_fixed u) _ a) f
    ] refl e

fixed_is_token : (piece : List ℕ) (t : Token) → is_fixed t ≡ true → piece ≡ token_text t → IsToken piece t
fixed_is_token piece (Key c) f e = cc
fixed_is_token piece (Named name) f e = cc
fixed_is_token piece (Number n) f e = cc
fixed_is_token piece Big f e = cc
fixed_is_token piece (Constant bytes) f e = cc
fixed_is_token piece Open f e = e
fixed_is_token piece Close f e = e
fixed_is_token piece Comma f e = e
fixed_is_token piece Equals f e = e
fixed_is_token piece Colon f e = e
fixed_is_token piece True f e = e
fixed_is_token piece False f e = e
fixed_is_token piece (Sign o) f e = e

operator_at : (o : Op) → token_at (op_text o) ≡ Some (Sign o)
unfolding token_at fixed_token fixed_tokens bare_tokens operators
operator_at op.Eqv = refl
operator_at op.Neqv = refl
operator_at op.Or = refl
operator_at op.And = refl
operator_at op.Not = refl
operator_at op.Eq = refl
operator_at op.Ne = refl
operator_at op.Lt = refl
operator_at op.Le = refl
operator_at op.Gt = refl
operator_at op.Ge = refl
operator_at op.Add = refl
operator_at op.Sub = refl
operator_at op.Mul = refl
operator_at op.Div = refl
operator_at op.Pow = refl

open_at : token_at (40 ∷ []) ≡ Some Open
unfolding token_at fixed_token fixed_tokens bare_tokens operators
open_at = refl

close_at : token_at (41 ∷ []) ≡ Some Close
unfolding token_at fixed_token fixed_tokens bare_tokens operators
close_at = refl

comma_at : token_at (44 ∷ []) ≡ Some Comma
unfolding token_at fixed_token fixed_tokens bare_tokens operators
comma_at = refl

equals_at : token_at (61 ∷ []) ≡ Some Equals
unfolding token_at fixed_token fixed_tokens bare_tokens operators
equals_at = refl

colon_at : token_at (58 ∷ []) ≡ Some Colon
unfolding token_at fixed_token fixed_tokens bare_tokens operators
colon_at = refl

true_at : token_at (codes ".TRUE.") ≡ Some True
unfolding token_at fixed_token fixed_tokens bare_tokens operators
true_at = refl

false_at : token_at (codes ".FALSE.") ≡ Some False
unfolding token_at fixed_token fixed_tokens bare_tokens operators
false_at = refl

-- What the code finds is the token.

name_of_piece : (b : ℕ) (bs : List ℕ) (t : Token) → is_letter b ≡ true → found_if (list_all is_name_byte bs) (Named (b ∷ bs)) ≡ Some t → IsToken (b ∷ bs) t
name_of_piece b bs t u e =
    elim (list_all is_name_byte bs) as (λ a. list_all is_name_byte bs ≡ a → found_if a (Named (b ∷ bs)) ≡ Some t → IsToken (b ∷ bs) t) [
      | true ↦ λ a f. let is : Named (b ∷ bs) ≡ t = cc in subst (IsToken (b ∷ bs)) is (ap (λ x. x && list_all is_name_byte bs) u ∙ a, refl)
      | false ↦ λ a f. cc
    ] refl e

number_of_piece : (b : ℕ) (bs : List ℕ) (t : Token) → is_digit b ≡ true → found_if (list_all is_digit bs) (number_token (digits_number 0 (b ∷ bs))) ≡ Some t
    → IsToken (b ∷ bs) t
number_of_piece b bs t d e =
    elim (list_all is_digit bs) as (λ a. list_all is_digit bs ≡ a → found_if a (number_token (digits_number 0 (b ∷ bs))) ≡ Some t → IsToken (b ∷ bs) t) [
      | true ↦ λ a f.
          let all : list_all is_digit (b ∷ bs) ≡ true = ap (λ x. x && list_all is_digit bs) d ∙ a in
          let is : number_token (digits_value 10 (b ∷ bs)) ≡ t = sym (number_is (b ∷ bs) all) ∙ same_some _ _ f in
          subst (IsToken (b ∷ bs)) is (sized all)
      | false ↦ λ a f. cc
    ] refl e
  where
    same_some : (x y : Token) → Some x ≡ Some y → x ≡ y
    same_some x y e = cc

    sized : list_all is_digit (b ∷ bs) ≡ true → IsToken (b ∷ bs) (number_token (digits_value 10 (b ∷ bs)))
    sized all =
        elim (nat_lt (digits_value 10 (b ∷ bs)) (2 ^ 63)) as (λ x. nat_lt (digits_value 10 (b ∷ bs)) (2 ^ 63) ≡ x → IsToken (b ∷ bs) (cond x (Number (pos (digits_value 10 (b ∷ bs)))) Big)) [
          | true ↦ λ h. (all, omega (arith, ltb-true _ _ h), refl)
          | false ↦ λ h. (all, omega (arith, ltb-false _ _ h))
        ] refl

constant_of_piece : (b : ℕ) (bs : List ℕ) (t : Token) → eqb b 39 ≡ true → (o : Option (List ℕ)) → constant_bytes false bs ≡ o → option_map Constant o ≡ Some t
    → IsToken (b ∷ bs) t
constant_of_piece b bs t m None c e = cc
constant_of_piece b bs t m (Some bytes) c e =
    let is : Constant bytes ≡ t = cc in
    subst (IsToken (b ∷ bs)) is (ap (λ (x : ℕ). x ∷ bs) (eqb-true b 39 m) ∙ (as_written bs bytes).0 c)

fixed_of_piece : (piece : List ℕ) (t : Token) → fixed_token piece ≡ Some t → IsToken piece t
unfolding fixed_token
fixed_of_piece piece t e = let f = found_spelled piece fixed_tokens t all_fixed e in fixed_is_token piece t f.1 f.0

pub token_nil : token_at [] ≡ None
unfolding token_at
token_nil = refl

pub token_is : (piece : List ℕ) (t : Token) → token_at piece ≡ Some t → IsToken piece t
token_is [] t e = let clash : None ≡ Some t = sym token_nil ∙ e in cc
token_is (b ∷ bs) t e =
    elim (is_letter b) as (λ x. is_letter b ≡ x → IsToken (b ∷ bs) t) [
      | true ↦ λ u. name_of_piece b bs t u (sym (at_letter b bs u) ∙ e)
      | false ↦ λ u. elim (is_digit b) as (λ x. is_digit b ≡ x → IsToken (b ∷ bs) t) [
        | true ↦ λ d. number_of_piece b bs t d (sym (at_digit b bs u d) ∙ e)
        | false ↦ λ d. elim (eqb b 39) as (λ x. eqb b 39 ≡ x → IsToken (b ∷ bs) t) [
          | true ↦ λ m. constant_of_piece b bs t m (constant_bytes false bs) refl (sym (at_mark b bs u d m) ∙ e)
          | false ↦ λ m. fixed_of_piece (b ∷ bs) t (sym (at_sign b bs u d m) ∙ e)
        ] refl
      ] refl
    ] refl

-- The token is what the code finds.

piece_of_digits : (piece : List ℕ) → is_number_text piece ≡ true → token_at piece ≡ Some (number_token (digits_value 10 piece))
piece_of_digits [] a = cc
piece_of_digits (b ∷ bs) a =
    let d : is_digit b ≡ true = and_left _ _ a in
    at_digit b bs (digit_no_letter b d) d ∙ ap (λ x. found_if x (number_token (digits_number 0 (b ∷ bs)))) (and_right (is_digit b) _ a) ∙ ap Some (number_is (b ∷ bs) a)

pub is_token : (piece : List ℕ) (t : Token) → IsToken piece t → token_at piece ≡ Some t
is_token piece (Key c) i = absurd i
is_token [] (Named name) i = cc
is_token (b ∷ bs) (Named name) (a, e) =
    at_letter b bs (and_left _ _ a) ∙ ap (λ x. found_if x (Named (b ∷ bs))) (and_right (is_letter b) _ a) ∙ ap (λ (x : List ℕ). Some (Named x)) e
is_token piece (Number n) (a, s, e) = piece_of_digits piece a ∙ ap Some (number_small _ s) ∙ ap (λ x. Some (Number x)) e
is_token piece Big (a, s) = piece_of_digits piece a ∙ ap Some (number_big _ s)
is_token piece (Constant bytes) e = ap token_at e ∙ constant_at bytes
  where
    constant_at : (bytes : List ℕ) → token_at (constant_text bytes) ≡ Some (Constant bytes)
    constant_at bytes = at_mark 39 _ refl refl refl ∙ ap (option_map Constant) ((as_written _ bytes).1 refl)
is_token piece Open e = ap token_at e ∙ open_at
is_token piece Close e = ap token_at e ∙ close_at
is_token piece Comma e = ap token_at e ∙ comma_at
is_token piece Equals e = ap token_at e ∙ equals_at
is_token piece Colon e = ap token_at e ∙ colon_at
is_token piece True e = ap token_at e ∙ true_at
is_token piece False e = ap token_at e ∙ false_at
is_token piece (Sign o) e = ap token_at e ∙ operator_at o

pub no_token : (piece : List ℕ) → token_at piece ≡ None → (t : Token) → ¬ IsToken piece t
no_token piece e t i = let clash : None ≡ Some t = sym e ∙ is_token piece t i in cc

pub not_token : (piece : List ℕ) → ((t : Token) → ¬ IsToken piece t) → token_at piece ≡ None
not_token piece n = elim (token_at piece) as (λ o. token_at piece ≡ o → o ≡ None) [ None ↦ λ e. refl | Some t ↦ λ e. absurd (n t (token_is piece t e)) ] refl
