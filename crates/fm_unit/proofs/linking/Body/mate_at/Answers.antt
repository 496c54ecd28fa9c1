use Rattle.std.proofs.Common.{false, length, get_or, ap, ◌∙◌, arith}
use Rattle.fm_tree_blocks.proofs.Lookups.{length-end_list, end_at}
use Rattle.fm_unit.proofs.linking.Body.mate_at.Goals as goal

pub index-requires : goal.index-requires
index-requires c =
    let e = ap length c.args.self.now.mates_is in
    let n = length-end_list false c.args.self.now.marks.now in
    let o = c.args.self.now.mates.ok.0 in omega (arith, e, n, o)

pub returns : goal.returns
returns c =
    c.index.ensures ∙ ap (λ xs. get_or xs c.args.place c.index.result.now) c.args.self.now.mates_is
    ∙ end_at false c.args.self.now.marks.now c.args.place c.index.result.now c.requires
