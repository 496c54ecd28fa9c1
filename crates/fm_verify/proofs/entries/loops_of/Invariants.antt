use Rattle.std.proofs.Common.{◌≡◌, drop}
use Rattle.fm_image_typed.specs.Shapes.{loops_of}
use Rattle.fm_verify.proofs.entries.loops_of.Given as goal

abbrev pub invariant-places : goal.invariant-places
invariant-places l = l.most ≡ loops_of (drop l.place l.code)
