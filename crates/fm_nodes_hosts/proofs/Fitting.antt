-- Limits of a message of words, taken one after the other.
use Rattle.std.proofs.Common.{◌≡◌, ◌<◌, ◌+◌, ℕ, ℤ, Bool, true, false, ◌&&◌, List, [], ◌∷◌, Option, length, map, refl, sym, ap, arith, ◌∙◌}
use Rattle.fm_base.specs.Channels.{Limits, Words, is_within, fits_limits}

pub no_limits : (ls : Limits) (is : List (List ℤ)) → length ls ≡ 0 → true ≡ fits_limits ls (map Words is)
no_limits [] is none = refl
no_limits (l ∷ ls) is none = absurd (omega (arith, none))

pub no_items : (ls : Limits) (is : List (List ℤ)) → length is ≡ 0 → true ≡ fits_limits ls (map Words is)
no_items [] is none = refl
no_items (l ∷ ls) [] none = refl
no_items (l ∷ ls) (i ∷ is) none = absurd (omega (arith, none))

module _ (ls : Limits) (is : List (List ℤ)) (l : Option ℕ) (later : Limits) (i : List ℤ) (behind : List (List ℤ)) (limits : ls ≡ l ∷ later) (items : is ≡ i ∷ behind) (b : Bool) (within : b ≡ is_within l (Words i)) where
  split : fits_limits ls (map Words is) ≡ (b && fits_limits later (map Words behind))
  split =
      ap (λ xs. fits_limits xs (map Words is)) limits ∙ ap (λ xs. fits_limits (l ∷ later) (map Words xs)) items
      ∙ ap (λ z. z && fits_limits later (map Words behind)) (sym within)

  pub one_exceeds : b ≡ false → false ≡ fits_limits ls (map Words is)
  one_exceeds over = sym (split ∙ ap (λ z. z && fits_limits later (map Words behind)) over)

  pub one_fits : b ≡ true → fits_limits ls (map Words is) ≡ fits_limits later (map Words behind)
  one_fits fits = split ∙ ap (λ z. z && fits_limits later (map Words behind)) fits

pub one_less : {X : Type 0} (xs ys : List X) → length ys + 1 ≡ length xs → length ys < length xs
one_less xs ys e = omega (arith, e)
