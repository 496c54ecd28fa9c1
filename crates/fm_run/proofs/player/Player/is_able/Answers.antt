use Rattle.std.proofs.Common.{◌∙◌}
use Rattle.fm_run.proofs.EntryLaws.{marked_among}
use Rattle.fm_run.proofs.player.Player.is_able.Goals as goal

pub returns : goal.returns
returns g c =
    let queue = c.args.self.now.able in
    c.contains.ensures ∙ marked_among c.requires.0 queue.marks.items queue.numbers.items c.args.number c.requires.1 c.requires.2
