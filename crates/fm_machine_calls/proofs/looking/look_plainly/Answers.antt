use Rattle.std.proofs.Common.{rules}
use Rattle.fm_machine_calls.proofs.Plain.{returns_plainly}
use Rattle.fm_machine_calls.proofs.looking.look_plainly.Goals as goal

pub returns-clause-goes : goal.returns-clause-goes
returns-clause-goes c =
    returns_plainly c.args.body.now c.in_ok-caller.caller.now c.args.body.now.below _ c.in_ok-caller.ensures
    (c.leaves_no_port.ensures (search rules)) (search rules) (search rules)
