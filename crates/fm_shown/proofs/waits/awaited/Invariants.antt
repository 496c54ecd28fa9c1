use Rattle.std.proofs.Common.{◌≡◌, ◌+◌, ◌-◌, ℕ}
use Rattle.fm_net.specs.Machine.{Place}
use Rattle.fm_procs.specs.Kept.{AreChildren}
use Rattle.fm_procs.specs.Readings.{order_of, procs_of}
use Rattle.fm_shown.specs.Outcome.{awaited}
use Rattle.fm_shown.proofs.waits.awaited.Given as goal

abbrev pub invariant-children : goal.invariant-children
invariant-children l = (q : Place) (b : ℕ) → AreChildren (order_of l.processes) l.first q b l.count →
    awaited (procs_of l.processes) q b 1 l.count ≡ awaited (procs_of l.processes) q b (l.place + 1) (l.count - l.place)
