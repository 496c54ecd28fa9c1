use Rattle.std.proofs.Common.{map}
use Rattle.fm_plain_replies.specs.Joins.{left_frames}
use Rattle.fm_plain_replies.proofs.JoinLaws.{joined_process, joined_drops}
use Rattle.fm_plain_replies.proofs.joining.join.Goals as goal

pub returns-in_ok-answer-in-Some-clause-process : goal.returns-in_ok-answer-in-Some-clause-process
returns-in_ok-answer-in-Some-clause-process c = λ ys same.
    let p = c.args.program.now in
    joined_process p c.args.process.now c.raise.new.top c.raise.new.below.items c.in-Some.frame c.kids_in-kids.result.now ys (map (left_frames p) c.args.children.items) c.args.next
    (c.raise.ensures.same p) c.in-Some.is c.kids_in-kids.ensures same c.join_frame.new.frame c.in_ok-answer-in-Some.ensures.frame

pub returns-in_ok-answer-in-Some-clause-drops : goal.returns-in_ok-answer-in-Some-clause-drops
returns-in_ok-answer-in-Some-clause-drops c = λ ys same.
    let p = c.args.program.now in
    joined_drops p c.args.process.now c.raise.new.top c.raise.new.below.items c.in-Some.frame c.kids_in-kids.result.now ys (map (left_frames p) c.args.children.items) c.args.next
    (c.raise.ensures.same p) c.in-Some.is c.kids_in-kids.ensures same _ c.in_ok-answer-in-Some.ensures.drops
