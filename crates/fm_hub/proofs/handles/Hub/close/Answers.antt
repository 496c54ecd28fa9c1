use Rattle.std.specs.Slots.{slots_items}
use Rattle.fm_hub.proofs.Turns.{closes, closes_odd}
use Rattle.fm_hub.proofs.handles.Hub.close.Goals as goal

pub unreachable-requires : goal.unreachable-requires
unreachable-requires g c =
    let r = closes g.T.KeepsHistory.history_of c.args.seat.place.id c.args.seat.place.me.0 (slots_items c.close_with-closed.result.words) (slots_items c.close_with-closed.result.slots)
    c.word-word.result c.take-slot.result c.close_with-closed.ensures.values.2 c.word-word.ensures c.take-slot.ensures.value c.if-word-eq1.false in
    r.0 c.in-None.is

pub returns-clause-table : goal.returns-clause-table
returns-clause-table g c =
    let r = closes g.T.KeepsHistory.history_of c.args.seat.place.id c.args.seat.place.me.0 (slots_items c.close_with-closed.result.words) (slots_items c.close_with-closed.result.slots)
    c.word-word.result c.take-slot.result c.close_with-closed.ensures.values.2 c.word-word.ensures c.take-slot.ensures.value c.if-word-eq1.false in
    r.1 c.in-Some.table c.in-Some.is

pub returns-then-word-eq1-clause-odd : goal.returns-then-word-eq1-clause-odd
returns-then-word-eq1-clause-odd g c =
    closes_odd g.T.KeepsHistory.history_of c.args.seat.place.id c.args.seat.place.me.0 (slots_items c.close_with-closed.result.words) (slots_items c.close_with-closed.result.slots)
    c.word-word.result c.close_with-closed.ensures.values.2 c.word-word.ensures c.if-word-eq1.true
