use Rattle.std.proofs.Common.{◌∙◌}
use Rattle.std.proofs.lemmas.Result.{IfOk-weaker}
use Rattle.fm_procs.specs.Readings.{state_of}
use Rattle.fm_proc_simulation.proofs.Shows.{shows_alike}
use Rattle.fm_table.proofs.programs.ProgramsCoded.outcome.Goals as goal

pub returns : goal.returns
returns c =
    let p = c.args.source.now in
    let t = state_of c.args.stacks.now in
    IfOk-weaker c.outcome.result _ _ (λ o is s stands. is ∙ shows_alike p s t stands c.args.used) c.outcome.ensures
