-- What is found among the fixed tokens.
use Rattle.std.proofs.Common.{◌≡◌, ℕ, Bool, true, false, ◌&&◌, Option, Some, None, List, [], ◌∷◌, map, cond, refl, sym, ap, ◌∙◌}
use Rattle.std.specs.Prelude.{find}
use Rattle.std.proofs.Math.Dec.{eqb}
use Rattle.std.specs.List.{list_all}
use Rattle.std.specs.Cmp.Lexicographic.{same_text}
use Rattle.std.specs.Option.{option_map, option_or}
use Rattle.std.proofs.lemmas.List.Folds.{find-append}
use Rattle.fm_base.specs.declared.token.Op.{Op}
use Rattle.fm_base.specs.declared.token.Token.{Token}
use Rattle.fm_base.specs.declared.token.Token.TheVariants.{Sign}
use Rattle.fm_base.specs.Tokens.{op_text, token_text}
use Rattle.fm_token.specs.Classes.{is_same_text}
use Rattle.fm_token.specs.Steps.{bare_tokens, fixed_tokens, fixed_token, is_spelled, operators}

find-map : {X Y : Type 0} (f : X → Y) (p : Y → Bool) (xs : List X) → find p (map f xs) ≡ option_map f (find (λ x. p (f x)) xs)
find-map f p [] = refl
find-map f p (x ∷ xs) =
    elim (p (f x)) as (λ b. cond b (Some (f x)) (find p (map f xs)) ≡ option_map f (cond b (Some x) (find (λ y. p (f y)) xs))) [ true ↦ refl | false ↦ find-map f p xs ]

abbrev sign_found : List ℕ → Option Token
sign_found piece = option_map Sign (find (λ (o : Op). is_same_text piece (op_text o)) operators)

-- a bare token, or else an operator
pub fixed_bare : (piece : List ℕ) (t : Token) → find (is_spelled piece) bare_tokens ≡ Some t → Some t ≡ fixed_token piece
unfolding fixed_token fixed_tokens
fixed_bare piece t e = sym (find-append (is_spelled piece) bare_tokens (map Sign operators) ∙ ap (λ (o : Option Token). option_or o (find (is_spelled piece) (map Sign operators))) e)

pub fixed_operator : (piece : List ℕ) → find (is_spelled piece) bare_tokens ≡ None → sign_found piece ≡ fixed_token piece
unfolding fixed_token fixed_tokens
fixed_operator piece e = sym (
    find-append (is_spelled piece) bare_tokens (map Sign operators)
    ∙ ap (λ (o : Option Token). option_or o (find (is_spelled piece) (map Sign operators))) e
    ∙ find-map Sign (is_spelled piece) operators
    )

-- what the code finds among its own list of operators
pub fixed_sign : (piece : List ℕ) (o : Option Op) → o ≡ find (λ (x : Op). is_same_text piece (op_text x)) operators → find (is_spelled piece) bare_tokens ≡ None
    → option_map Sign o ≡ fixed_token piece
fixed_sign piece o e b = ap (option_map Sign) e ∙ fixed_operator piece b

abbrev pub is_nil : List ℕ → Bool
is_nil [] = true
is_nil (b ∷ bs) = false

-- the bytes end with their first dot
abbrev pub ends_at_dot : List ℕ → Bool
ends_at_dot [] = false
ends_at_dot (b ∷ bs) = cond (eqb b 46) (is_nil bs) (ends_at_dot bs)

-- at most a second star
abbrev pub may_follow_star : List ℕ → Bool
may_follow_star [] = true
may_follow_star (b ∷ bs) = eqb b 42 && is_nil bs

abbrev pub may_be_fixed : List ℕ → Bool
may_be_fixed [] = false
may_be_fixed (b ∷ bs) = cond (eqb b 46) (ends_at_dot bs) (cond (eqb b 42) (may_follow_star bs) (is_nil bs))

all_may : list_all (λ (t : Token). may_be_fixed (token_text t)) fixed_tokens ≡ true
unfolding fixed_tokens bare_tokens operators
all_may = refl

same : (piece text : List ℕ) → is_same_text piece text ≡ true → may_be_fixed piece ≡ false → may_be_fixed text ≡ false
same piece text e h = ap may_be_fixed (sym (same_text piece text (sym e))) ∙ h

pub and_left : (a b : Bool) → (a && b) ≡ true → a ≡ true
and_left true b e = refl
and_left false b e = cc

pub and_right : (a b : Bool) → (a && b) ≡ true → b ≡ true
and_right true b e = e
and_right false b e = cc

none_found : (piece : List ℕ) → may_be_fixed piece ≡ false → (ts : List Token) → list_all (λ (t : Token). may_be_fixed (token_text t)) ts ≡ true
    → find (is_spelled piece) ts ≡ None
none_found piece h [] a = refl
none_found piece h (t ∷ ts) a =
    elim (is_spelled piece t) as (λ b. is_spelled piece t ≡ b → cond b (Some t) (find (is_spelled piece) ts) ≡ None) [
      | true ↦ λ e. let no : may_be_fixed (token_text t) ≡ false = same piece (token_text t) e h in
          let clash : false ≡ true = ap (λ b. b && list_all (λ (t : Token). may_be_fixed (token_text t)) ts) (sym no) ∙ a in cc
      | false ↦ λ e. none_found piece h ts (and_right (may_be_fixed (token_text t)) _ a)
    ] refl

pub not_fixed : (piece : List ℕ) → may_be_fixed piece ≡ false → fixed_token piece ≡ None
unfolding fixed_token
not_fixed piece h = none_found piece h fixed_tokens all_may
