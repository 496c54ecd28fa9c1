use Rattle.std.proofs.Common.{◌++◌, ap, arith, ◌∙◌}
use Rattle.std.specs.String.{string_bytes}
use Rattle.fm_make.specs.Made.{step_of, stage_text}
use Rattle.fm_make.proofs.Texts.{for_stages_all, for_stages_more}
use Rattle.fm_make.proofs.made.push_stages.Goals as goal

pub loop-stage-preserved : goal.loop-stage-preserved
loop-stage-preserved c = (
  omega arith,
  for_stages_more (λ stage. stage_text stage (step_of c.args.number stage)) c.loop-stage.stage _ _ _ _ (omega arith) (omega arith) c.loop-stage.invariant.1
      (c.in_ok-push_stage.ensures ∙ ap (λ n. string_bytes c.loop-stage.out ++ stage_text c.loop-stage.stage n) c.step_of.ensures),
)

pub returns : goal.returns
returns c = for_stages_all (λ stage. stage_text stage (step_of c.args.number stage)) c.loop-stage.stage _ _ _ (omega arith) c.loop-stage.invariant.1

pub returns-in_ok-push_stage : goal.returns-in_ok-push_stage
returns-in_ok-push_stage c =
    for_stages_more (λ stage. stage_text stage (step_of c.args.number stage)) c.loop-stage.stage _ _ _ _ (omega arith) (omega arith) c.loop-stage.invariant.1
    (c.in_ok-push_stage.ensures ∙ ap (λ n. string_bytes c.loop-stage.out ++ stage_text c.loop-stage.stage n) c.step_of.ensures)
