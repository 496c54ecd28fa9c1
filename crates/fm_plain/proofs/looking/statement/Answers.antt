use Rattle.fm_mean.specs.Actions.{arguments_in, where_in}
use Rattle.fm_plain.specs.Standing.{frame_in, scope_in}
use Rattle.fm_plain.proofs.looking.statement.Goals as goal

pub returns-in-Simple : goal.returns-in-Simple
returns-in-Simple c = rw c.in-Simple.is c.simple.ensures

pub returns-in-EndDo : goal.returns-in-EndDo
returns-in-EndDo c = λ w below. rw c.in-EndDo.is (c.loop_ends.ensures w (frame_in c.args.here.now c.args.top.now) below)

pub returns-in-EndProcessDo : goal.returns-in-EndProcessDo
returns-in-EndProcessDo c = λ w below. rw c.in-EndProcessDo.is (c.loop_ends-in-EndProcessDo.ensures w (frame_in c.args.here.now c.args.top.now) below)

pub returns-in-LoopEnd : goal.returns-in-LoopEnd
returns-in-LoopEnd c = λ w below. rw c.in-LoopEnd.is (c.loop_ends-in-LoopEnd.ensures w (frame_in c.args.here.now c.args.top.now) below)

pub returns-in-ProcessCall : goal.returns-in-ProcessCall
returns-in-ProcessCall c = λ w below. rw c.in-ProcessCall.is (c.process_call.ensures w (scope_in c.args.here.now c.args.top.now) (frame_in c.args.here.now c.args.top.now) below (arguments_in c.in-ProcessCall.field-1) (where_in c.in-ProcessCall.field-1))
