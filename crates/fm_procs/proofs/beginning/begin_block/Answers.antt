use Rattle.std.proofs.Common.{ap, ◌∙◌}
use Rattle.fm_procs.specs.Drafts.{all_begun}
use Rattle.fm_procs.proofs.Beginnings.{all_children, as_many}
use Rattle.fm_procs.proofs.beginning.begin_block.Goals as goal

pub children-requires-clause-paired : goal.children-requires-clause-paired
children-requires-clause-paired c = as_many c.args.body.now c.in_ok-drafts.drafts.items c.args.body.now.frame.starts c.in_ok-drafts.ensures.children

pub returns-clause-children : goal.returns-clause-children
returns-clause-children c =
    let starts = c.args.body.now.frame.starts in
    c.in_ok-children.ensures.children
    ∙ (ap (λ blanks. all_begun c.args.slots.now blanks starts) c.in_ok-drafts.ensures.children ∙ all_children c.args.body.now c.args.slots.now starts)
