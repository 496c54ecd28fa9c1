use Rattle.std.proofs.Common.{◌≡◌, ◌+◌, ◌-◌, ℕ}
use Rattle.fm_net.specs.Machine.{Place}
use Rattle.fm_mean.specs.Outcome.{awaited}
use Rattle.fm_rules.specs.declared.program.Program.{Program}
use Rattle.fm_plain_net.specs.Readings.{order_of, procs_of}
use Rattle.fm_net_procs.specs.Kept.{AreChildren}
use Rattle.fm_plain_net.proofs.outcome.awaited.Given as goal

abbrev pub invariant-children : goal.invariant-children
invariant-children l = (p : Program) (q : Place) (b : ℕ) → AreChildren (order_of l.processes) l.family.first q b l.family.count →
    awaited (procs_of p l.processes) q b 1 l.family.count ≡ awaited (procs_of p l.processes) q b (l.place + 1) (l.family.count - l.place)
