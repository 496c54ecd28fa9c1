use Rattle.std.proofs.Common.{◌≡◌, ◌++◌}
use Rattle.std.specs.FinMap.{entries}
use Rattle.fm_finmap.proofs.name_map.NameMap.into_entries.Given as goal

abbrev pub invariant-entries : goal.invariant-entries
invariant-entries g l = l.all.items ++ l.entry-iterator ≡ entries l.fn.self
