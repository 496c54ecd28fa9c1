use Rattle.std.proofs.Common.{ap, subst, sym, ◌∙◌}
use Rattle.fm_mean.specs.Actions as action
use Rattle.fm_plain_frame.specs.Frames.{proc_of}
use Rattle.fm_plain.specs.Looking.{IsNext}
use Rattle.fm_plain.specs.declared.looking.Next.{Next}
use Rattle.fm_plain_replies.specs.Joins.{kids_in}
use Rattle.fm_nodes_trees.proofs.JoinLaws.{behind, free_not, rests_not}
use Rattle.fm_nodes_trees.proofs.joining.entry_behind.Goals as goal

pub returns-in-Steps : goal.returns-in-Steps
returns-in-Steps c = λ b n f asks.
    let p = c.args.program.now in
    let x = proc_of p c.args.process.now in
    absurd (free_not p x b n f asks (subst (λ (k : Next). IsNext p x k) c.in-Steps.is c.in_ok-next_of.ensures))

pub returns-in-Rests : goal.returns-in-Rests
returns-in-Rests c = λ b n f asks.
    let p = c.args.program.now in
    let x = proc_of p c.args.process.now in
    absurd (rests_not p x b n f asks (subst (λ (k : Next). IsNext p x k) c.in-Rests.is c.in_ok-next_of.ensures))

pub returns-in-Meets : goal.returns-in-Meets
returns-in-Meets c = λ b n f asks.
    let p = c.args.program.now in
    let x = proc_of p c.args.process.now in
    let told = subst (λ (k : Next). IsNext p x k) c.in-Meets.is c.in_ok-next_of.ensures in
    let so = behind p x b n f asks c.in-Meets.event told.0 in
    (so.block, so.joins ∙ ap (λ n. action.Meets (action.Join so.block (kids_in x.phase) n)) (sym c.next_behind.ensures))
