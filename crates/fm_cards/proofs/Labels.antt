-- The number in a label field.
use Rattle.std.proofs.Common.{◌≡◌, ℕ, ◌+◌, ◌-◌, ◌*◌, true, false, List, [], ◌∷◌, cond, arith, refl, ap, ◌∙◌}
use Rattle.std.proofs.lemmas.Bool.Decides.{nat_tests}
use Rattle.std.specs.List.{filter}
use Rattle.std.specs.Char.{digit_value}
use Rattle.std.specs.Str.Parse.{digits_value_after}
use Rattle.fm_base.specs.Letters.{is_digit}
use Rattle.fm_cards.specs.Cards.{number_of_digits}
use Rattle.fm_cards.specs.Scan.{number_behind}

digit_is : (b : ℕ) → is_digit b ≡ true → digit_value b ≡ b - 48
digit_is b d = grind (arith, nat_tests)

behind : (field : List ℕ) (n : ℕ) → number_behind n field ≡ digits_value_after 10 n (filter is_digit field)
behind [] n = refl
behind (b ∷ bs) n =
    elim (is_digit b) as (λ t. is_digit b ≡ t → cond t (number_behind (10 * n + (b - 48)) bs) (number_behind n bs) ≡ digits_value_after 10 n (cond t (b ∷ filter is_digit bs) (filter is_digit bs))) [
      | true ↦ λ d. let e : 10 * n + (b - 48) ≡ n * 10 + digit_value b = omega (arith, digit_is b d) in
          behind bs (10 * n + (b - 48)) ∙ ap (λ (m : ℕ). digits_value_after 10 m (filter is_digit bs)) e
      | false ↦ λ d. behind bs n
    ] refl

pub number_by_steps : (field : List ℕ) → number_behind 0 field ≡ number_of_digits field
number_by_steps field = behind field 0
