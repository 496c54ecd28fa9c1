use Rattle.std.proofs.Common.{rules, refl, ◌+◌, option_to_list}
use Rattle.fm_machine.proofs.Slices.{one_step}
use Rattle.fm_machine.proofs.Going.{many_steps, many_kept}
use Rattle.fm_machine.proofs.advancing.proceed.Goals as goal
use Rattle.fm_machine.proofs.advancing.proceed.Goals.{else-steps-test, then-steps-test+in_ok-cost+then-steps-slice}

pub steps-preserved : goal.steps-preserved
steps-preserved c = record {
  ran =
      one_step (c.steps.steps + c.run_body_in_place-alone.result) c.args.body.now c.run_body_in_place-alone.new.body c.step.new.body c.steps.lines c.add_line.new.lines (option_to_list c.in-Went.line) c.in_ok-cost.cost c.in_ok-cost-in-Went.cost c.in-Went.more
      (many_steps c.steps.steps c.run_body_in_place-alone.result c.args.body.now c.steps.body c.run_body_in_place-alone.new.body c.steps.lines c.steps.cost c.in_ok-cost.cost c.steps.invariant.ran c.run_body_in_place-alone.ensures.ran (search rules))
      (search rules) c.in_ok-add_line-in-Went.ensures c.in_ok-cost-in-Went.ensures;
  within = search rules;
}

pub returns-in-Asks-clause-ran : goal.returns-in-Asks-clause-ran
returns-in-Asks-clause-ran c = rw c.new.ensures (
    many_kept c.steps.steps c.run_body_in_place-alone.result _ c.args.body.now c.steps.body c.run_body_in_place-alone.new.body c.step.new.body c.steps.lines c.steps.cost c.in_ok-cost.cost _ c.steps.invariant.ran c.run_body_in_place-alone.ensures.ran (search rules) refl (search rules) refl)

pub returns-in-Stuck-clause-ran : goal.returns-in-Stuck-clause-ran
returns-in-Stuck-clause-ran c = rw c.new-in-Stuck.ensures (
    many_kept c.steps.steps c.run_body_in_place-alone.result _ c.args.body.now c.steps.body c.run_body_in_place-alone.new.body c.step.new.body c.steps.lines c.steps.cost c.in_ok-cost.cost _ c.steps.invariant.ran c.run_body_in_place-alone.ensures.ran (search rules) refl (search rules) refl)

pub returns-clause-ran : goal.returns-clause-ran
returns-clause-ran c = elim c.steps-test.branch [
  | else-steps-test w ↦ search rules
  | then-steps-test+in_ok-cost+then-steps-slice w ↦
      rw c.new-2.ensures (many_kept c.steps.steps w.run_body_in_place-alone.result c.args.slice c.args.body.now c.steps.body w.run_body_in_place-alone.new.body c.steps-test.body c.steps.lines c.steps.cost w.in_ok-cost.cost c.steps-test.cost c.steps.invariant.ran w.run_body_in_place-alone.ensures.ran (search rules) (search rules) (search rules) (search rules))
]
