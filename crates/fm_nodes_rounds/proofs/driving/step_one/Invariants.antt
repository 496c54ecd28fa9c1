use Rattle.std.proofs.Common.{◌≡◌, ◌⊎◌, ◌+◌, ◌-◌, ◌^◌, ◌<◌, ◌≤◌}
use Rattle.fm_nodes_rounds.specs.declared.driving.Stepped.TheVariants.{Nothing, Steps}
use Rattle.fm_nodes_rounds.proofs.driving.step_one.Given as goal

-- nothing was done so far, or steps were made
abbrev pub invariant-steps : goal.invariant-steps
invariant-steps g l =
    let used = g.H.Hosts.used in
    let count = g.H.Hosts.count in
    record {
      setting : g.H.Hosts.setting l.hosts ≡ g.H.Hosts.setting l.fn.hosts;
      within : used l.hosts ≤ l.fn.turns;
      few : count l.fn.hosts < 2 ^ 32 → count l.hosts < 2 ^ 32;
      so_far : ((l.stepped ≡ Nothing) × (used l.hosts ≡ used l.fn.hosts) × (count l.hosts ≡ count l.fn.hosts)) ⊎ ((l.stepped ≡ Steps) × (used l.fn.hosts < used l.hosts));
    }

abbrev pub decreases-steps : goal.decreases-steps
decreases-steps g l = l.fn.turns + 1 - g.H.Hosts.used l.hosts
