use Rattle.std.proofs.Common.{subst}
use Rattle.fm_base.specs.declared.schedule.Setup.{Setup}
use Rattle.fm_rules.specs.declared.program.Program.{Program}
use Rattle.fm_run.specs.Programs.{IsRun}
use Rattle.fmc.specs.Reply.{IsFairlySpent}
use Rattle.fmc.proofs.AnswerLaws.{both_ok, turned_fair}
use Rattle.fmc.proofs.playing.run_by_workers.Goals as goal

pub run_on-requires : goal.run_on-requires
run_on-requires g c = c.in_ok-table.ensures.2

pub returns-then-may_be_told-clause-runs : goal.returns-then-may_be_told-clause-runs
returns-then-may_be_told-clause-runs g c =
    let is = c.in_ok-table.ensures in
    let r = c.in_ok-played.played in
    subst (λ (s : Setup). IsRun c.args.program.value s.turns r) is.1 (subst (λ (p : Program). IsRun p c.in_ok-table.table.setup.turns r) is.0 c.in_ok-played.ensures)

pub returns-then-may_be_told-clause-fair : goal.returns-then-may_be_told-clause-fair
returns-then-may_be_told-clause-fair g c =
    subst (λ (p : Program). IsFairlySpent p c.in_ok-played.played) c.deref.ensures (c.may_be_told.ensures c.if-may_be_told.true)

pub returns-clause-fair : goal.returns-clause-fair
returns-clause-fair g c =
    both_ok c.run_table.result _ _ _ (λ r runs follows. turned_fair c.args.program.value c.args.setup.turns c.args.setup.slice r runs follows) c.run_table.ensures.run c.run_table.ensures.follows
