use Rattle.std.proofs.Common.{[]}
use Rattle.std.proofs.lemmas.Result.{IfOk-weaker}
use Rattle.fm_image_law.proofs.Reached.{reached_moves}
use Rattle.fm_run.proofs.Results.{if_ok_all}
use Rattle.fm_execute_image.proofs.Played.{follows_of_image, run_of_image, turns_are_fair}
use Rattle.fm_execute.proofs.executing.execute.Goals as goal

pub returns-clause-run : goal.returns-clause-run
returns-clause-run c = IfOk-weaker c.run_program.result _ _ (λ r is. run_of_image c.args.image.now c.args.turns r is) c.run_program.ensures.run

pub returns-clause-never_stuck : goal.returns-clause-never_stuck
returns-clause-never_stuck c = reached_moves c.args.image.now c.image-image.ensures.typed

pub returns-clause-in_turn : goal.returns-clause-in_turn
returns-clause-in_turn c = IfOk-weaker c.run_program.result _ _ (λ r follows. follows_of_image c.args.image.now 1000 [] r.history.items follows) c.run_program.ensures.follows

pub returns-clause-fair : goal.returns-clause-fair
returns-clause-fair c =
    if_ok_all c.run_program.result c.run_program.ensures.run c.run_program.ensures.run c.run_program.ensures.follows
    (λ r is _ follows. turns_are_fair c.args.image.now c.image-image.ensures.typed 1000 c.args.turns r is follows)
