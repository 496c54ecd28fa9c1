use Rattle.std.proofs.Common.{sym, ap, ◌++◌, ◌∙◌}
use Rattle.fm_mean.specs.Places.{exchange_all, live, stored}
use Rattle.fm_plain_frame.specs.Memory.{values_of}
use Rattle.fm_plain_passing.specs.Items.{item_of}
use Rattle.fm_plain_passing.proofs.PassLaws.{live-append}
use Rattle.fm_plain_passing.proofs.messages.store.Goals as goal

pub returns-in-Ports-clause-drops : goal.returns-in-Ports-clause-drops
returns-in-Ports-clause-drops c =
    let vs = values_of c.args.variables.now c.args.memory.now in
    let before = live c.args.room.now.items in
    ap live c.put_from.ensures.ports
    ∙ live-append c.args.room.now.items (exchange_all vs c.args.span.variable c.args.span.first c.into_vec.result.items).1
    ∙ ap (λ ps. before ++ live (exchange_all vs c.args.span.variable c.args.span.first ps).1) c.into_vec.ensures
    ∙ ap (λ x. before ++ (stored vs c.args.span (item_of x)).1) (sym c.in-Ports.is)
