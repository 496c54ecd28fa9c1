-- An image that makes sense isn't refused.
use Rattle.std.proofs.Common.{◌≡◌, ℕ, zero, suc, List, refl, subst}
use Rattle.fm_object.specs.declared.image.Image.{Image}
use Rattle.fm_object.specs.Texts.{IsObjectText}
use Rattle.fm_object.proofs.MalformedLaws.{one_object_text}
use Rattle.fm_image_typed.specs.Typed.{IsBad, One, Typed, UnitIsTyped, Whole}
use Rattle.fm_image_law.proofs.Laid.{one_of}
use Rattle.fm_execute.specs.declared.fail.ExecuteFail.{ExecuteFail}
use Rattle.fm_execute.specs.declared.fail.ExecuteFail.TheVariants as fails
use Rattle.fm_execute.specs.Causes.{IsRefused}

never_bad : (i : Image) → Typed i → (n : ℕ) → IsBad i n → ⊥
never_bad i t zero (Whole none) = none t.whole
never_bad i t (suc n) (One whole m u before there none) = none (one_of (UnitIsTyped i) i.units t.each m u there)

module _ (bytes : List ℕ) (i : Image) (object : IsObjectText bytes i) where
  -- where the bytes are the text of an image that makes sense
  pub refused_never : (j : Image) → IsObjectText bytes j → Typed j → (e : ExecuteFail) → IsRefused i e → e ≡ fails.NoMemory
  refused_never j other typed (fails.Malformed line) h = absurd h
  refused_never j other typed (fails.Unverified unit) h = absurd (never_bad i (subst Typed (one_object_text bytes j i other object) typed) unit h)
  refused_never j other typed fails.NoMemory h = refl
