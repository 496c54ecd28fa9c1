use Rattle.std.proofs.Common.{arith}
use Rattle.fm_make.specs.Made.{call_text}
use Rattle.fm_make.proofs.Texts.{for_stages_all, for_stages_more}
use Rattle.fm_make.proofs.units.push_calls.Goals as goal

pub loop-stage-preserved : goal.loop-stage-preserved
loop-stage-preserved c = (omega arith, for_stages_more call_text c.loop-stage.stage _ _ _ _ (omega arith) (omega arith) c.loop-stage.invariant.1 c.in_ok-push_call.ensures)

pub returns : goal.returns
returns c = for_stages_all call_text c.loop-stage.stage _ _ _ (omega arith) c.loop-stage.invariant.1

pub returns-in_ok-push_call : goal.returns-in_ok-push_call
returns-in_ok-push_call c = for_stages_more call_text c.loop-stage.stage _ _ _ _ (omega arith) (omega arith) c.loop-stage.invariant.1 c.in_ok-push_call.ensures
