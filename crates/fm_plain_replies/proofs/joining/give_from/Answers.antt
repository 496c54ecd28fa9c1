use Rattle.std.proofs.Common.{Some, rules, ◌∙◌}
use Rattle.fm_plain_frame.specs.Frames.{kid_of}
use Rattle.fm_plain_replies.proofs.JoinLaws.{room_is_free}
use Rattle.fm_plain_replies.proofs.joining.give_from.Goals as goal

pub returns-else-frame-kid-clause-drops : goal.returns-else-frame-kid-clause-drops
returns-else-frame-kid-clause-drops c = room_is_free c.args.program.now (Some (kid_of c.args.kid.now)) c.args.room.now.items c.requires.room ∙ search rules
