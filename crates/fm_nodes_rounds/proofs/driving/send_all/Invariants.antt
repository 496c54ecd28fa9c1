use Rattle.std.proofs.Common.{◌≡◌}
use Rattle.fm_nodes_rounds.proofs.driving.send_all.Given as goal

-- no process has made a step
abbrev pub invariant-channels : goal.invariant-channels
invariant-channels g l = record {
  setting : g.H.Hosts.setting l.hosts ≡ g.H.Hosts.setting l.fn.hosts;
  used : g.H.Hosts.used l.hosts ≡ g.H.Hosts.used l.fn.hosts;
  count : g.H.Hosts.count l.hosts ≡ g.H.Hosts.count l.fn.hosts;
}
