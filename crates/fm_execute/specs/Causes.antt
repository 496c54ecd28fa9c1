-- Why bytes, or an image, are not executed.
-- Source: this profile.
use Rattle.std.specs.Prelude.{◌≡◌, ℕ, List, Result, Ok, Err}
use Rattle.fm_object.specs.declared.image.Image.{Image}
use Rattle.fm_object.specs.Texts.{IsFirstMalformed}
use Rattle.fm_image_typed.specs.Typed.{IsBad}
use Rattle.fm_run.specs.declared.run.Run.{Run}
use Rattle.fm_execute_image.specs.Executed.{IsRunOf, IsUnverified}
use Rattle.fm_execute.specs.declared.fail.ExecuteFail.{ExecuteFail}
use Rattle.fm_execute.specs.declared.fail.ExecuteFail.TheVariants as fails

-- why they were not executed
abbrev pub IsCause : List ℕ → ExecuteFail → Type 0
IsCause bytes (fails.Malformed line) = IsFirstMalformed bytes line.0
IsCause bytes (fails.Unverified unit) = IsUnverified bytes unit
IsCause bytes fails.NoMemory = Unit {0}

-- why an image was refused
abbrev pub IsRefused : Image → ExecuteFail → Type 0
IsRefused i (fails.Malformed line) = ⊥
IsRefused i (fails.Unverified unit) = IsBad i unit
IsRefused i fails.NoMemory = Unit {0}

-- this image was executed, unless memory ran out
abbrev pub RunsIt : Image → (turns : ℕ) → Result Run ExecuteFail → Type 0
RunsIt i turns (Ok run) = IsRunOf i turns run
RunsIt i turns (Err e) = e ≡ fails.NoMemory
