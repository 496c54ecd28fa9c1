use Rattle.std.proofs.Common.{◌≡◌, drop}
use Rattle.fm_rules.specs.Constants.{known_from, constants_of}
use Rattle.fm_names_constants.proofs.known.constants.Given as goal

abbrev pub invariant-specs : goal.invariant-specs
invariant-specs l = known_from l.known l.place (drop l.place l.specs) ≡ constants_of l.specs
