use Rattle.std.proofs.Common.{ap, ◌∙◌}
use Rattle.fm_net_procs.specs.Readings.{over_at}
use Rattle.fm_net_procs.proofs.children.EntriesEndings.is_over.Goals as goal

pub returns-in-Some : goal.returns-in-Some
returns-in-Some g c = c.has_ended.ensures ∙ ap (over_at g.P.Proc.over) c.in-Some.ensures

pub returns-in-None : goal.returns-in-None
returns-in-None g c = ap (over_at g.P.Proc.over) c.in-None.ensures
