use Rattle.std.proofs.Common.{◌≡◌}
use Rattle.std.proofs.lemmas.Result.{IfOk-weaker}
use Rattle.fm_net.specs.Owned.{main_alone}
use Rattle.fm_procs.specs.Readings.{state_of}
use Rattle.fm_proc_simulation.specs.Shown.{first_process}
use Rattle.fm_proc_simulation.proofs.FirstProcess.{stacks_made}
use Rattle.fm_proc_simulation.proofs.first.program_stacks.Goals as goal

pub returns-clause-state : goal.returns-clause-state
returns-clause-state c =
    IfOk-weaker c.first_stacks.result _ (λ s. state_of s ≡ main_alone (first_process c.args.program.now))
    (λ s is. stacks_made c.args.program.now c.main.result c.main.ensures c.in_ok-code.code c.in_ok-code.ensures.code c.in_ok-code.ensures.units (state_of s) is) c.first_stacks.ensures.state
