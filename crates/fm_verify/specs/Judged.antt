-- What is answered where an image is judged.
-- Source: this profile.
use Rattle.std.specs.Prelude.{◌≡◌, ℕ, Some, Option, None, slice_get, take}
use Rattle.std.specs.List.{AllByRecursion}
use Rattle.fm_object.specs.declared.image.Image.{Image}
use Rattle.fm_object.specs.declared.image.UnitImage.{UnitImage}
use Rattle.fm_image_typed.specs.Typed.{IsBad, UnitIsTyped}
use Rattle.fm_verify.specs.declared.fail.VerifyFail.{VerifyFail}
use Rattle.fm_verify.specs.declared.fail.VerifyFail.TheVariants as fails

-- the least unit that makes no sense, from 0, or that all make sense
pub record IsFirstBad (i : Image) (n : ℕ) : Type 0 where
  pub unit : UnitImage
  pub there : slice_get i.units n ≡ Some unit
  pub before : AllByRecursion (UnitIsTyped i) (take n i.units)
  pub bad : ¬ UnitIsTyped i unit

abbrev pub UnitsJudged : Image → Option ℕ → Type 0
UnitsJudged i None = AllByRecursion (UnitIsTyped i) i.units
UnitsJudged i (Some n) = IsFirstBad i n

-- why an image is refused
abbrev pub Refused : Image → VerifyFail → Type 0
Refused i (fails.Bad n) = IsBad i n
Refused i fails.NoMemory = Unit {0}
