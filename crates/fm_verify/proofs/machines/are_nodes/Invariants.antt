use Rattle.std.proofs.Common.{◌≡◌, ◌≤◌, drop}
use Rattle.fm_verify.specs.Tests.{are_nodes}
use Rattle.fm_verify.proofs.machines.are_nodes.Given as goal

-- all are so many where the rest is
abbrev pub invariant-extents : goal.invariant-extents
invariant-extents l = record {
  same : are_nodes 1 l.extents ≡ are_nodes l.nodes (drop l.extent-index l.extents);
  few : l.nodes ≤ 65536;
}
