use Rattle.std.proofs.Common.{◌≡◌, ◌<◌, ◌^◌, drop}
use Rattle.fm_cards.specs.Cards.{number_of_digits}
use Rattle.fm_cards.specs.Scan.{number_behind}
use Rattle.fm_cards.proofs.label.number.Given as goal

abbrev pub invariant-bytes : goal.invariant-bytes
invariant-bytes l = (number_behind l.number (drop l.byte-index l.field) ≡ number_of_digits l.field) × (l.number < 10 ^ l.byte-index)
