use Rattle.std.proofs.Common.{sym, subst}
use Rattle.std.proofs.lemmas.Result.{IfOk-weaker}
use Rattle.fm_net.specs.Correspondence.{StandsFor}
use Rattle.fm_net.specs.Machine.{State}
use Rattle.fm_proc_language.specs.Processes.{CodeProc}
use Rattle.fm_proc_simulation.specs.Corresponds.{Corresponds, IsLive}
use Rattle.fm_proc_simulation.proofs.FirstState.{first_stands}
use Rattle.fm_run.specs.Plays.{first}
use Rattle.fm_run.specs.Programs.{play_of}
use Rattle.fm_table.proofs.programs.ProgramsCoded.first_stacks.Goals as goal

pub returns-clause-stands : goal.returns-clause-stands
returns-clause-stands c =
    let p = c.args.source.now in
    IfOk-weaker c.program_stacks.result _ _
    (λ s is. subst (λ (t : State CodeProc). StandsFor (Corresponds p) (IsLive p) t (first (play_of p))) (sym is) (first_stands p)) c.program_stacks.ensures.state
