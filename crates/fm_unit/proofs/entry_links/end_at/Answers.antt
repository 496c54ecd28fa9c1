use Rattle.std.proofs.Common.{true, length, get_or, ap, ◌∙◌, arith, None}
use Rattle.fm_tree_blocks.proofs.Lookups.{length-end_list, end_at}
use Rattle.fm_unit.proofs.entry_links.end_at.Goals as goal

pub bounds-ends-k : goal.bounds-ends-k
bounds-ends-k c =
    let e = ap length c.requires.ends in
    let n = length-end_list true c.args.marks.now in
    omega (arith, e, n, c.requires.within)

pub returns : goal.returns
returns c = ap (λ xs. get_or xs c.args.k None) c.requires.ends ∙ end_at true c.args.marks.now c.args.k None c.requires.within
