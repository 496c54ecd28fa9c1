use Rattle.std.proofs.Common.{◌≡◌, drop}
use Rattle.fm_tree.specs.Units.{body_of}
use Rattle.fm_unit.proofs.entries.body_of.Given as goal

abbrev pub invariant-marks : goal.invariant-marks
invariant-marks l = body_of (drop l.place l.marks) ≡ body_of l.marks
