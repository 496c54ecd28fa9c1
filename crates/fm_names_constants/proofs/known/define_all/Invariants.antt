use Rattle.std.proofs.Common.{◌≡◌, drop}
use Rattle.fm_rules.specs.Constants.{with_definitions}
use Rattle.fm_names_constants.proofs.known.define_all.Given as goal

abbrev pub invariant-definitions : goal.invariant-definitions
invariant-definitions l = with_definitions l.known l.place l.item (drop l.item l.definitions) ≡ with_definitions l.fn.known l.place 0 l.definitions
