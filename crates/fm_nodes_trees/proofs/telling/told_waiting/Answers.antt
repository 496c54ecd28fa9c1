use Rattle.std.proofs.Common.{subst}
use Rattle.fm_plain_frame.specs.Frames.{proc_of}
use Rattle.fm_plain.specs.Looking.{IsNext}
use Rattle.fm_plain.specs.declared.looking.Next.{Next}
use Rattle.fm_nodes_trees.proofs.TellLaws.{waits}
use Rattle.fm_nodes_trees.proofs.telling.told_waiting.Goals as goal

pub unreachable-requires : goal.unreachable-requires
unreachable-requires c =
    let p = c.args.program.now in
    let x = proc_of p c.args.process.now in
    waits p x c.requires (subst (λ (n : Next). IsNext p x n) c.in-Steps.is c.in_ok-next_of.ensures)

pub returns-in-Rests : goal.returns-in-Rests
returns-in-Rests c =
    let p = c.args.program.now in
    let x = proc_of p c.args.process.now in
    subst (λ (n : Next). IsNext p x n) c.in-Rests.is c.in_ok-next_of.ensures

pub returns-in-Meets : goal.returns-in-Meets
returns-in-Meets c =
    let p = c.args.program.now in
    let x = proc_of p c.args.process.now in
    let told = subst (λ (n : Next). IsNext p x n) c.in-Meets.is c.in_ok-next_of.ensures in
    told.0
