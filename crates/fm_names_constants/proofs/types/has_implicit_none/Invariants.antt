use Rattle.std.proofs.Common.{◌≡◌, drop}
use Rattle.fm_rules.specs.NameTypes.{has_implicit_none}
use Rattle.fm_names_constants.proofs.types.has_implicit_none.Given as goal

abbrev pub invariant-loop-placed : goal.invariant-loop-placed
invariant-loop-placed l = has_implicit_none (drop l.placed-index l.specs) ≡ has_implicit_none l.specs
