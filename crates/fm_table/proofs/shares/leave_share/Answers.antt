use Rattle.std.proofs.Common.{List, ℕ, ap, set, sym, ◌∙◌}
use Rattle.fm_run.specs.Orders.{others_in}
use Rattle.fm_table.specs.Inside.{shares_of}
use Rattle.fm_table.proofs.Sharing.{shares_get, shares_set}
use Rattle.fm_table.proofs.shares.leave_share.Goals as goal

pub returns : goal.returns
returns c =
    let qs = c.args.lists.now.items in
    let k = c.args.worker in
    let was = ap (λ q. q.numbers.items) c.index_mut.ensures.value ∙ sym (shares_get qs k c.index_mut.result.now c.requires.there) in
    shares_set qs k c.leave.new.self ∙ ap (λ (ns : List ℕ). set (shares_of qs) k ns) (c.leave.ensures.numbers ∙ ap (others_in c.args.number) was)
