use Rattle.std.proofs.Common.{◌≡◌, ◌*◌, drop}
use Rattle.fm_map.specs.Placement.{product}
use Rattle.fm_plain_frame.proofs.process.nodes_of.Given as goal

abbrev pub invariant-extents : goal.invariant-extents
invariant-extents l = l.nodes * product (drop l.extent-index l.extents) ≡ product l.extents
