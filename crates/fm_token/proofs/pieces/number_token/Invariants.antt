use Rattle.std.proofs.Common.{◌≡◌, ◌<◌, ◌^◌, drop}
use Rattle.fm_token.specs.Steps.{digits_number}
use Rattle.fm_token.proofs.pieces.number_token.Given as goal

abbrev pub invariant-digits : goal.invariant-digits
invariant-digits l = (digits_number l.value (drop l.digit-index l.digits) ≡ digits_number 0 l.digits) × (l.value < 2 ^ 63)
