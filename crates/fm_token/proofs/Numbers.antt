-- A number with more digits is no less.
use Rattle.std.proofs.Common.{◌≡◌, ℕ, ◌+◌, ◌-◌, ◌*◌, ◌^◌, ◌≤◌, ◌<◌, length, drop, get_or, List, [], ◌∷◌, cond, arith, sym, ap, ◌∙◌, pos}
use Rattle.std.proofs.lemmas.Bool.{le-ltb}
use Rattle.std.proofs.lemmas.List.{at_drop_more}
use Rattle.fm_base.specs.declared.token.Token.TheVariants.{Big, Number}
use Rattle.fm_token.specs.Steps.{digits_number, number_token}

grows : (n : ℕ) (bs : List ℕ) → n ≤ digits_number n bs
grows n [] = omega arith
grows n (b ∷ bs) = let h : 10 * n + (b - 48) ≤ digits_number n (b ∷ bs) = grows (10 * n + (b - 48)) bs in omega arith

-- at the digit b in the place i
pub stays_big : (n b i m : ℕ) (digits : List ℕ) → i < length digits → b ≡ get_or digits i 0 → 2 ^ 63 ≤ 10 * n + (b - 48) → digits_number n (drop i digits) ≡ m
    → Big ≡ number_token m
stays_big n b i m digits l d h e =
    let s : digits_number n (b ∷ drop (i + 1) digits) ≡ m =
    ap (λ (x : ℕ). digits_number n (x ∷ drop (i + 1) digits)) d ∙ sym (at_drop_more (digits_number n) digits i 0 l) ∙ e in
    let g : 10 * n + (b - 48) ≤ digits_number (10 * n + (b - 48)) (drop (i + 1) digits) = grows (10 * n + (b - 48)) (drop (i + 1) digits) in
    let k : 2 ^ 63 ≤ m = omega arith in
    sym (ap (λ t. cond t (Number (pos m)) Big) (le-ltb m (2 ^ 63) k))
