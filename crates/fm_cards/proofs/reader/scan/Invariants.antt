use Rattle.std.proofs.Common.{◌≡◌, ◌+◌, ◌<◌, ◌≤◌, length, IfSome}
use Rattle.fm_base.specs.Verdict.{least}
use Rattle.fm_cards.specs.Lines.{lines, rows}
use Rattle.fm_cards.specs.Cards.{parts_of_rows, cards_of}
use Rattle.fm_cards.specs.Broken.{places_of}
use Rattle.fm_cards.specs.Scan.{all_cards, all_places}
use Rattle.fm_cards.proofs.reader.scan.Given as goal

-- what the rest gives is what the whole gives
abbrev pub invariant-lines : goal.invariant-lines
invariant-lines l = record {
  cards : all_cards l.reader (parts_of_rows (rows l.line (lines l.rest))) ≡ cards_of l.source;
  places : all_places l.reader (parts_of_rows (rows l.line (lines l.rest))) ≡ least (places_of l.source);
  few : IfSome l.reader.started (λ s. s.continuations < l.line);
  room : l.line + length l.rest ≤ 1 + length l.source;
}

abbrev pub decreases-lines : goal.decreases-lines
decreases-lines l = length l.rest
