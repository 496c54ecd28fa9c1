use Rattle.std.proofs.Common.{sym, ◌∙◌}
use Rattle.fm_plain_net.proofs.Kept.{kept_reader}
use Rattle.fm_plain_net.proofs.ports.Ports.inport.Goals as goal

pub returns : goal.returns
returns c = c.get.ensures ∙ sym (kept_reader c.args.self.now c.args.channel.now)
