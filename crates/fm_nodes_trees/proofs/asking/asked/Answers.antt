use Rattle.std.proofs.Common.{refl, subst}
use Rattle.fm_plain_frame.specs.Frames.{proc_of}
use Rattle.fm_nodes_trees.specs.Told.{IsTold}
use Rattle.fm_nodes_trees.specs.declared.telling.Ahead.{Ahead}
use Rattle.fm_nodes_trees.proofs.AskLaws.{own_need, own_starts, rests_need, rests_starts}
use Rattle.fm_nodes_trees.proofs.asking.asked.Goals as goal

pub returns-in-Rests-clause-need : goal.returns-in-Rests-clause-need
returns-in-Rests-clause-need c =
    let p = c.args.program.now in
    let x = proc_of p c.args.process.now in
    rests_need p x (subst (λ (a : Ahead). IsTold p x a) c.in-Rests.is c.in_ok-told.ensures)

pub returns-in-Rests-clause-starts : goal.returns-in-Rests-clause-starts
returns-in-Rests-clause-starts c =
    let p = c.args.program.now in
    let x = proc_of p c.args.process.now in
    rests_starts p x _ _ (subst (λ (a : Ahead). IsTold p x a) c.in-Rests.is c.in_ok-told.ensures)

pub returns-in-Goes-clause-need : goal.returns-in-Goes-clause-need
returns-in-Goes-clause-need c =
    let p = c.args.program.now in
    let x = proc_of p c.args.process.now in
    own_need p x (subst (λ (a : Ahead). IsTold p x a) c.in-Goes.is c.in_ok-told.ensures)

pub returns-in-Goes-clause-starts : goal.returns-in-Goes-clause-starts
returns-in-Goes-clause-starts c =
    let p = c.args.program.now in
    let x = proc_of p c.args.process.now in
    own_starts p x _ (subst (λ (a : Ahead). IsTold p x a) c.in-Goes.is c.in_ok-told.ensures) refl
