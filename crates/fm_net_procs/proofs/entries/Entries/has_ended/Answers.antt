use Rattle.std.proofs.Common.{◌∙◌}
use Rattle.fm_net_procs.proofs.Maps.{over_there}
use Rattle.fm_net_procs.proofs.entries.Entries.has_ended.Goals as goal

pub returns : goal.returns
returns g c = λ p q at. c.is_over.ensures ∙ over_there (g.P.Proc.seen p) g.P.Proc.over (g.P.Proc.language p).has_ended (g.met.P.Proc.ends p) c.args.self.now c.args.number q at
