use Rattle.std.proofs.Common.{false, length, ap, arith}
use Rattle.fm_tree_blocks.proofs.Lookups.{length-end_list}
use Rattle.fm_unit.proofs.linking.Body.after.Goals as goal

pub overflow_add-next : goal.overflow_add-next
overflow_add-next c =
    let e = ap length c.args.self.now.mates_is in
    let n = length-end_list false c.args.self.now.marks.now in
    let o = c.args.self.now.mates.ok.0 in
    let s = c.args.self.now.mates.small in omega (arith, e, n, o, s)
