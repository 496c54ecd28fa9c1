use Rattle.std.proofs.Common.{map}
use Rattle.fm_plain_frame.specs.Frames.{kid_of}
use Rattle.fm_plain_frame.specs.Memory.{values_of}
use Rattle.fm_plain_replies.specs.Joins.{first_kid, leaving}
use Rattle.fm_plain_replies.proofs.JoinLaws.{nobody_gives}
use Rattle.fm_plain_replies.proofs.joining.child_back.Goals as goal

pub returns-in_default-clause-drops : goal.returns-in_default-clause-drops
returns-in_default-clause-drops c =
    let p = c.args.program.now in
    nobody_gives p (first_kid (map kid_of c.args.kids.now)) c.args.child.now.replaced.items c.args.child.now.taken.items c.raise.new.top c.raise.new.below.items (leaving p c.args.child.now) (values_of c.args.variables.now c.args.memory.now)
    c.requires.ready.0 c.requires.ready.1 c.in_default.is (c.raise.ensures.none c.in_default.is) (c.raise.ensures.same p)
