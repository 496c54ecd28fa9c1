use Rattle.std.proofs.Common.{◌≡◌, drop}
use Rattle.fm_rules.specs.Bounds.{extents_from}
use Rattle.fm_names_constants.proofs.bounds.extents.Given as goal

abbrev pub invariant-specs : goal.invariant-specs
invariant-specs l = extents_from l.known l.place (drop l.place l.specs) ≡ extents_from l.known 0 l.specs
