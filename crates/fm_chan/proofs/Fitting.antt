-- Limits taken one after the other.
use Rattle.std.proofs.Common.{◌≡◌, ◌<◌, ◌+◌, ℕ, ℤ, Bool, true, false, ◌&&◌, List, [], ◌∷◌, Option, length, map, refl, sym, ap, arith, ◌∙◌}
use Rattle.fm_base.specs.Channels.{Limits, Words, is_within, fits_limits}
use Rattle.fm_chan.specs.declared.message.Item.{Item}
use Rattle.fm_chan.specs.Items.{plain_item}

pub no_limits : (ls : Limits) (is : List Item) → length ls ≡ 0 → true ≡ fits_limits ls (map plain_item is)
no_limits [] is none = refl
no_limits (l ∷ ls) is none = absurd (omega (arith, none))

pub no_items : (ls : Limits) (is : List Item) → length is ≡ 0 → true ≡ fits_limits ls (map plain_item is)
no_items [] is none = refl
no_items (l ∷ ls) [] none = refl
no_items (l ∷ ls) (i ∷ is) none = absurd (omega (arith, none))

module _ (ls : Limits) (is : List Item) (l : Option ℕ) (later : Limits) (i : Item) (behind : List Item) (limits : ls ≡ l ∷ later) (items : is ≡ i ∷ behind) (b : Bool) (within : b ≡ is_within l (plain_item i)) where
  split : fits_limits ls (map plain_item is) ≡ (b && fits_limits later (map plain_item behind))
  split =
      ap (λ xs. fits_limits xs (map plain_item is)) limits ∙ ap (λ xs. fits_limits (l ∷ later) (map plain_item xs)) items
      ∙ ap (λ z. z && fits_limits later (map plain_item behind)) (sym within)

  pub one_exceeds : b ≡ false → false ≡ fits_limits ls (map plain_item is)
  one_exceeds over = sym (split ∙ ap (λ z. z && fits_limits later (map plain_item behind)) over)

  pub one_fits : b ≡ true → fits_limits ls (map plain_item is) ≡ fits_limits later (map plain_item behind)
  one_fits fits = split ∙ ap (λ z. z && fits_limits later (map plain_item behind)) fits

pub one_less : {X : Type 0} (xs ys : List X) → length ys + 1 ≡ length xs → length ys < length xs
one_less xs ys e = omega (arith, e)

no_more : (b : Bool) (ls : Limits) → b ≡ (b && fits_limits ls [])
no_more true [] = refl
no_more true (l ∷ ls) = refl
no_more false ls = refl

-- a word is within the first limit
pub word_within : (ls : Limits) (l : Option ℕ) (later : Limits) (w : ℤ) (b : Bool) → ls ≡ l ∷ later → b ≡ is_within l (Words (w ∷ [])) → b ≡ fits_limits ls (Words (w ∷ []) ∷ [])
word_within ls l later w b there within =
    within ∙ no_more (is_within l (Words (w ∷ []))) later ∙ ap (λ xs. fits_limits xs (Words (w ∷ []) ∷ [])) (sym there)

-- where there is none, any is
pub word_unlimited : (ls : Limits) (w : ℤ) → length ls ≡ 0 → true ≡ fits_limits ls (Words (w ∷ []) ∷ [])
word_unlimited [] w none = refl
word_unlimited (l ∷ ls) w none = absurd (omega (arith, none))
