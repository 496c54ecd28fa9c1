use Rattle.std.proofs.Common.{take, arith, refl}
use Rattle.std.specs.Prelude.{◌<◌, ℕ}
use Rattle.fm_table.specs.Told.{cost_of as told_cost}
use Rattle.fm_table.proofs.Tables.{of_some, over_turns, within_turns}
use Rattle.fm_trace.specs.Texts.{entries_of}
use Rattle.fmc.proofs.ReplayLaws.{run_all, run_counted, run_is_entry, run_lacking, run_spent, run_within, runs_all, told_by}
use Rattle.fmc.proofs.replaying.play_entries.Goals as goal

pub runs-init : goal.runs-init
runs-init c = record { told = c.requires.fresh; counted = refl }

pub play_run-requires-clause-told : goal.play_run-requires-clause-told
play_run-requires-clause-told c = let a = c.args.table.now in told_by a.program a.setup (entries_of (take c.runs.place c.args.runs.now)) c.runs.table c.runs.invariant.told

pub play_run-requires-clause-steps : goal.play_run-requires-clause-steps
play_run-requires-clause-steps c = (run_is_entry c.args.runs.now c.runs.place c.run_at-run.result c.requires.runs c.run_at-run.ensures).some_steps

pub overflow_add-result : goal.overflow_add-result
overflow_add-result c =
    let a = c.args.table.now in
    let most = run_within a.program a.setup c.args.runs.now c.runs.place c.run_at-run.result c.run_at-run.ensures in
    let fewer = of_some (λ (n : ℕ). n < c.run_at-run.result.times) c.in_ok-lacking.lacking c.in-Some.made c.in-Some.is c.in_ok-lacking.ensures.fewer in
    omega (arith, most, fewer, c.requires.few, c.runs.invariant.counted, c.from.ensures)

pub returns-in-Some-clause-come : goal.returns-in-Some-clause-come
returns-in-Some-clause-come c =
    let a = c.args.table.now in
    run_lacking a.program a.setup c.args.runs.now c.runs.place c.run_at-run.result c.run_at-run.ensures c.runs.table c.play_run.new.table c.in_ok-lacking.lacking c.runs.invariant.told c.in_ok-lacking.ensures.come c.in-Some.made _ c.in-Some.is
    (omega (arith, c.runs.invariant.counted, c.from.ensures))

pub returns-in-Some-clause-fewer : goal.returns-in-Some-clause-fewer
returns-in-Some-clause-fewer c =
    let a = c.args.table.now in
    let most = run_within a.program a.setup c.args.runs.now c.runs.place c.run_at-run.result c.run_at-run.ensures in
    let fewer = of_some (λ (n : ℕ). n < c.run_at-run.result.times) c.in_ok-lacking.lacking c.in-Some.made c.in-Some.is c.in_ok-lacking.ensures.fewer in
    omega (arith, most, fewer, c.runs.invariant.counted, c.from.ensures)

pub returns-then-is_spent-clause-come : goal.returns-then-is_spent-clause-come
returns-then-is_spent-clause-come c =
    let a = c.args.table.now in
    let now = c.play_run.new.table in
    run_spent a.program a.setup c.args.runs.now c.runs.place c.run_at-run.result c.run_at-run.ensures c.runs.table now c.in_ok-lacking.lacking c.runs.invariant.told c.in_ok-lacking.ensures.come c.in_default.is
    (over_turns now.setup.turns (told_cost now) c.is_spent.result c.is_spent.ensures c.if-is_spent.true)

pub overflow_add-played : goal.overflow_add-played
overflow_add-played c =
    let a = c.args.table.now in
    let most = run_within a.program a.setup c.args.runs.now c.runs.place c.run_at-run.result c.run_at-run.ensures in
    omega (arith, most, c.requires.few, c.runs.invariant.counted, c.from-played.ensures)

pub runs-preserved : goal.runs-preserved
runs-preserved c =
    let a = c.args.table.now in
    let now = c.play_run.new.table in
    let counted = run_counted a.program a.setup c.args.runs.now c.runs.place c.run_at-run.result c.run_at-run.ensures in record {
      told = run_all a.program a.setup c.args.runs.now c.runs.place c.run_at-run.result c.run_at-run.ensures c.runs.table now c.in_ok-lacking.lacking c.runs.invariant.told c.in_ok-lacking.ensures.come c.in_default.is
          (within_turns now.setup.turns (told_cost now) c.is_spent.result c.is_spent.ensures c.if-is_spent.false);
      counted = omega (arith, counted, c.runs.invariant.counted, c.from-played.ensures);
    }

pub returns-clause-come : goal.returns-clause-come
returns-clause-come c =
    let a = c.args.table.now in
    runs_all a.program a.setup c.args.runs.now c.runs.place c.runs.table c.runs-test.false c.runs.invariant.told
