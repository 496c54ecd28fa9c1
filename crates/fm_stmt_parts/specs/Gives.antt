-- What a reader returned is what its part reads, unless memory ran out.
-- Source: this profile.
use Rattle.std.specs.Prelude.{◌≡◌, Option, Some, None, Result, Ok, Err}
use Rattle.fm_base.specs.declared.parse_fail.ParseFail.{ParseFail}
use Rattle.fm_base.specs.declared.parse_fail.ParseFail.TheVariants.{Bad}

abbrev pub Fails : {Y : Type 0} → ParseFail → Option Y → Type 0
Fails e read = e ≡ Bad → read ≡ None

abbrev pub Gives : {X Y : Type 0} → (X → Y) → Result X ParseFail → Option Y → Type 0
Gives view (Ok x) read = read ≡ Some (view x)
Gives view (Err e) read = Fails e read
