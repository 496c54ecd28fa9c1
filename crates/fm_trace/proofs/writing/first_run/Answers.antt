use Rattle.std.proofs.Common.{arith}
use Rattle.std.proofs.lemmas.Bool.Decides.{nat_tests}
use Rattle.fm_trace.proofs.RunLaws.{run_in_front}
use Rattle.fm_trace.proofs.writing.first_run.Goals as goal

pub returns-clause-run : goal.returns-clause-run
returns-clause-run c = run_in_front c.args.history.now c.split_at.result.1.now (record { number = 0; steps = 0 }) c.front_of-times.result (grind (arith, nat_tests)) c.front_of-times.ensures c.split_at.ensures.back
