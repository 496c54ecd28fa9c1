use Rattle.std.proofs.Common.{◌≡◌, ◌++◌, drop}
use Rattle.fm_rules.specs.Constants.{entries_from}
use Rattle.fm_names_constants.proofs.known.constant_list.Given as goal

abbrev pub invariant-specs : goal.invariant-specs
invariant-specs l = l.entries ++ entries_from l.known l.place (drop l.place l.specs) ≡ entries_from l.known 0 l.specs
