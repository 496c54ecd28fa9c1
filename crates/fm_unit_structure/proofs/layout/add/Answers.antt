use Rattle.std.proofs.Common.{◌≡◌, ◌∙◌, length, ap, sym, arith}
use Rattle.fm_tree.specs.Structure.{bracket_of}
use Rattle.fm_tree.specs.Blocks.{behind, turned}
use Rattle.fm_tree_blocks.proofs.Counts.{behind_push}
use Rattle.fm_unit_structure.proofs.layout.add.Goals as goal

pub returns-clause-stack : goal.returns-clause-stack
returns-clause-stack c =
    let f = c.args.entry.form in
    let n : c.len-at.result ≡ length c.args.entries.now.items = omega (arith, c.len-at.ensures, c.args.entries.now.ok.0) in
    c.in_ok-follow.ensures
    ∙ ap (λ os. turned (bracket_of f) c.len-at.result f os) c.requires
    ∙ ap (λ m. turned (bracket_of f) m f (behind c.args.entries.now.items)) n
    ∙ sym (behind_push c.args.entries.now.items c.args.entry)
    ∙ ap behind (sym c.in_ok-push.ensures.items)
