use Rattle.std.proofs.Common.{◌∙◌}
use Rattle.fm_chan.proofs.Writers.{remove-without}
use Rattle.fm_chan.proofs.body.close_writer.Goals as goal

pub returns : goal.returns
returns c = c.remove.ensures.keys ∙ remove-without c.args.number c.args.writers.now.keys c.len-count.ensures.ordered
