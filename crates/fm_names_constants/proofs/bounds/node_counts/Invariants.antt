use Rattle.std.proofs.Common.{◌≡◌, ◌++◌, map, drop}
use Rattle.fm_rules.specs.Bounds.{node_count, machine_dimension}
use Rattle.fm_names_constants.proofs.bounds.node_counts.Given as goal

abbrev pub invariant-extents : goal.invariant-extents
invariant-extents l = l.counts ++ map (λ e. node_count (machine_dimension l.known l.place e)) (drop l.extent-index l.extents) ≡ map (λ e. node_count (machine_dimension l.known l.place e)) l.extents
