use Rattle.std.proofs.Common.{◌∙◌, arith}
use Rattle.fm_hub.proofs.Turns.{tries_at, tried_even}
use Rattle.fm_hub.proofs.handles.Hub.hold.Goals as goal

pub fetch_or-found-requires : goal.fetch_or-found-requires
fetch_or-found-requires g c =
    let w = c.args.self.now.one_word in (c.requires, omega arith, tries_at g.T.KeepsHistory.history_of _ _ c.args.seat.place.me c.args.seat.bare)

pub exchange-requires : goal.exchange-requires
exchange-requires g c =
    let e = c.fetch_or-found.ensures in
    (e.0 ∙ c.requires, tried_even g.T.KeepsHistory.history_of c.args.seat.place.me c.fetch_or-found.result c.fetch_or-found.new.seat.me e.2 c.if-found-eq1.false)
