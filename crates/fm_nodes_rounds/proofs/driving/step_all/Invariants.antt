use Rattle.std.proofs.Common.{◌≡◌, ◌⊎◌, ◌+◌, ◌-◌, ◌*◌, ◌<◌, ◌≤◌}
use Rattle.fm_nodes_rounds.specs.declared.driving.Stepped.TheVariants.{Nothing, Steps}
use Rattle.fm_nodes_rounds.proofs.driving.step_all.Given as goal

-- nothing was done so far, or steps were made
abbrev pub invariant-processes : goal.invariant-processes
invariant-processes g l =
    let used = g.H.Hosts.used in
    record {
      setting : g.H.Hosts.setting l.hosts ≡ g.H.Hosts.setting l.fn.hosts;
      within : used l.hosts ≤ l.fn.turns;
      so_far : ((l.stepped ≡ Nothing) × (used l.hosts ≡ used l.fn.hosts)) ⊎ ((l.stepped ≡ Steps) × (used l.fn.hosts < used l.hosts));
    }

abbrev pub decreases-processes : goal.decreases-processes
decreases-processes g l = (l.fn.turns + 1 - g.H.Hosts.used l.hosts) * 4294967296 + (g.H.Hosts.count l.hosts - l.place)
