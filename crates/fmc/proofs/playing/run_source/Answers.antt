use Rattle.std.proofs.Common.{subst}
use Rattle.fm_rules.specs.declared.program.Program.{Program}
use Rattle.fm_run.specs.Programs.{IsRun}
use Rattle.fmc.specs.Reply.{IsFairlySpent}
use Rattle.fmc.proofs.playing.run_source.Goals as goal

pub returns-clause-run : goal.returns-clause-run
returns-clause-run g c =
    let r = c.in_ok-run_by_workers.field-0 in
    record {
      program = c.in_ok-program.program;
      lawful = c.in_ok-program.ensures.program;
      runs = subst (λ (p : Program). IsRun p c.args.setup.turns r) c.in_ok-shared.ensures.ok c.in_ok-run_by_workers.ensures.runs;
      fair = λ none. subst (λ (p : Program). IsFairlySpent p r) c.in_ok-shared.ensures.ok c.in_ok-run_by_workers.ensures.fair;
    }
