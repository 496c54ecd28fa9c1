use Rattle.std.proofs.Common.{◌≡◌, ◌++◌, ◌≤◌, length, drop}
use Rattle.fm_gen_operands.specs.Code.{dimensions_code}
use Rattle.fm_gen_operands.proofs.elements.dimensions.Given as goal

abbrev pub invariant-dimensions : goal.invariant-dimensions
invariant-dimensions l = record {
  inside : l.place ≤ length l.bounds;
  code : l.out ≡ l.fn.out ++ dimensions_code (drop l.place l.bounds);
}

abbrev pub decreases-dimensions : goal.decreases-dimensions
decreases-dimensions l = l.place
