use Rattle.std.proofs.Common.{true, length, get_or, ap, ◌∙◌, arith}
use Rattle.fm_tree_blocks.proofs.Lookups.{length-end_list, end_at}
use Rattle.fm_unit_structure.proofs.sheet.Sheet.end_at.Goals as goal

pub index-requires : goal.index-requires
index-requires c =
    let e = ap length c.args.self.now.ends_is in
    let n = length-end_list true c.args.self.now.entries.now in
    let o = c.args.self.now.ends.ok.0 in omega (arith, e, n, o)

pub returns : goal.returns
returns c =
    c.index.ensures ∙ ap (λ xs. get_or xs c.args.k c.index.result.now) c.args.self.now.ends_is
    ∙ end_at true c.args.self.now.entries.now c.args.k c.index.result.now c.requires
