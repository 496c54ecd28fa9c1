use Rattle.std.proofs.Common.{◌≡◌, ◌++◌, drop}
use Rattle.fm_rules.specs.Constants.{entries_in}
use Rattle.fm_names_constants.proofs.known.push_entries.Given as goal

abbrev pub invariant-definitions : goal.invariant-definitions
invariant-definitions l = l.entries ++ entries_in l.known l.place l.item (drop l.item l.definitions) ≡ l.fn.entries ++ entries_in l.known l.place 0 l.definitions
