use Rattle.std.proofs.Common.{◌≡◌, ◌+◌, ◌-◌, ◌*◌, ◌≤◌}
use Rattle.fm_nodes_rounds.proofs.driving.drive.Given as goal

-- the turns aren't spent, and three rounds at most were without a step
abbrev pub invariant-rounds : goal.invariant-rounds
invariant-rounds g l = record {
  setting : g.H.Hosts.setting l.hosts ≡ g.H.Hosts.setting l.fn.hosts;
  within : g.H.Hosts.used l.hosts ≤ l.fn.turns;
  few : l.idle ≤ 3;
}

-- a round with steps takes a turn at least; one without takes one of the three
abbrev pub decreases-rounds : goal.decreases-rounds
decreases-rounds g l = (l.fn.turns + 1 - g.H.Hosts.used l.hosts) * 4 + (3 - l.idle)
