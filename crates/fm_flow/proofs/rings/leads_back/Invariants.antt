use Rattle.std.proofs.Common.{◌≡◌, drop}
use Rattle.fm_flow.specs.Walks.{leads_back}
use Rattle.fm_flow.proofs.rings.leads_back.Given as goal

abbrev pub invariant-ports : goal.invariant-ports
invariant-ports l = leads_back l.names l.outs l.place (drop l.port-index l.ports) ≡ leads_back l.names l.outs l.place l.ports
