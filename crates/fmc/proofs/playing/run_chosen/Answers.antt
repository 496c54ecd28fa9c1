use Rattle.std.proofs.Common.{subst}
use Rattle.fm_rules.specs.declared.program.Program.{Program}
use Rattle.fm_run.specs.Programs.{Follows, IsRun}
use Rattle.fmc.proofs.playing.run_chosen.Goals as goal

pub returns-clause-run : goal.returns-clause-run
returns-clause-run c =
    let r = c.in_ok-run_table.field-0 in
    record {
      program = c.in_ok-program.program;
      lawful = c.in_ok-program.ensures.program;
      runs = subst (λ (p : Program). IsRun p c.args.setup.turns r) c.in_ok-shared.ensures.ok c.in_ok-run_table.ensures.run;
      follows = subst (λ (p : Program). Follows p c.args.setup.slice c.args.choices.now r.history.items) c.in_ok-shared.ensures.ok c.in_ok-run_table.ensures.follows;
    }
