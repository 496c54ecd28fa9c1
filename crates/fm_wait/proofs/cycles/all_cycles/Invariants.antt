use Rattle.std.proofs.Common.{◌≡◌, ℕ, map, take}
use Rattle.std.specs.BTreeSet.{contains}
use Rattle.std.specs.List.{filter_map}
use Rattle.std.specs.Ordering.{nat_cmp}
use Rattle.fm_wait.proofs.Rings.{is_met}
use Rattle.fm_wait.specs.Cycles.{cycle_from}
use Rattle.fm_wait.specs.Waits.{Pairs}
use Rattle.fm_wait.proofs.cycles.all_cycles.Given as goal

abbrev pub invariant-paths : goal.invariant-paths
invariant-paths l = record {
  seen : (c : ℕ) → contains nat_cmp l.seen c ≡ is_met l.names (take l.place-index l.order) c;
  cycles : l.cycles ≡ filter_map (cycle_from l.outcome) (map (λ (e : Pairs × ℕ). e.0) (take l.place-index l.order));
}
