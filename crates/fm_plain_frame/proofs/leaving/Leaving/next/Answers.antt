use Rattle.std.proofs.Common.{sym, ap, ◌∙◌}
use Rattle.fm_mean.specs.Places.{live}
use Rattle.fm_plain_frame.specs.Leaving.{row_ports, later_ports, left_ports}
use Rattle.fm_plain_frame.proofs.LeavingLaws.{from_taken, yields_none}
use Rattle.fm_plain_frame.proofs.leaving.Leaving.next.Goals as goal

pub returns-then-not-open : goal.returns-then-not-open
returns-then-not-open c =
    let p = c.args.program.now in
    let old = c.memories.self in
    let new = c.open.new.self in
    let row = c.next-port.new.self in
    let none = yields_none (row_ports p old.row) (row_ports p row) c.next-port.result (sym c.is_some-in-memories.ensures ∙ c.if-is_some-2.false) c.next-port.ensures in
    let closed = c.if-not-open.ensures.opens p in
    from_taken (live old.replaced.items) (live new.replaced.items) (row_ports p old.row) (row_ports p new.row) (later_ports p old) (later_ports p new) (live old.taken.items) (live new.taken.items)
    (live c.next_place.new.places.items) (left_ports p c.args.self.now) c.next_place.result c.memories.invariant.0 c.memories.invariant.1 (ap (λ q. live q.items) c.open.ensures.replaced ∙ c.memories.invariant.1) none.0
    (closed.2 ∙ none.1) closed.0 closed.1 (ap (λ q. live q.items) c.open.ensures.taken) c.next_place.ensures
