use Rattle.std.proofs.Common.{take}
use Rattle.fm_mean.specs.Places.{items_at, words_in, written}
use Rattle.fm_plain_frame.specs.Memory.{values_of}
use Rattle.fm_plain_passing.proofs.BackLaws.{CopiesRest}
use Rattle.fm_plain_passing.proofs.giving.words_back.Given as goal

abbrev pub invariant-words : goal.invariant-words
invariant-words l =
    CopiesRest (values_of l.caller l.mine) l.back.place.variable l.back.place.first l.index (take l.back.place.count (words_in (items_at (values_of l.callee l.theirs) l.back.formal)))
    (written (values_of l.caller l.initial.mine) l.back.place (take l.back.place.count (words_in (items_at (values_of l.callee l.theirs) l.back.formal))))
