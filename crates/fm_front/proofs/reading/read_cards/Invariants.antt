use Rattle.std.proofs.Common.{take}
use Rattle.fm_front.specs.Reading.{HasRead}
use Rattle.fm_front.proofs.reading.read_cards.Given as goal

abbrev pub invariant-loop-card : goal.invariant-loop-card
invariant-loop-card l = HasRead (take l.card-index l.cards) l.statements.items l.best
