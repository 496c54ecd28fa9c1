use Rattle.std.proofs.Common.{◌∙◌, ap, arith}
use Rattle.fm_hub.specs.Rules.{Seated}
use Rattle.fm_hub.proofs.Turns.{joins, compares_at}
use Rattle.fm_hub.proofs.handles.Hub.join.Goals as goal

pub join_seat-requires : goal.join_seat-requires
join_seat-requires g c =
    let w = c.args.self.now.one_word in
    (c.requires.0, c.requires.1, c.args.other.bare, omega arith, joins g.T.KeepsHistory.history_of _ _ _ _ c.args.seat.now.waits c.args.other.waits)

pub load-requires : goal.load-requires
load-requires g c =
    let w = c.args.self.now.one_word in
    let e = c.join_seat.ensures in
    (e.0 ∙ c.requires.0, omega arith, compares_at g.T.KeepsHistory.history_of _ _ c.join_seat.new.seat.me (ap (λ (m : Seated g.row.T.Denot). m.1) e.2 ∙ c.args.seat.now.bare))
