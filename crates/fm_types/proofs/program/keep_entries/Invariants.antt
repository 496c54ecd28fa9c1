use Rattle.std.proofs.Common.{◌≡◌, drop}
use Rattle.std.specs.List.{flat_map}
use Rattle.fm_base.specs.Verdict.{least_from}
use Rattle.fm_rules.specs.BrokenTypes.{broken_in_entry}
use Rattle.fm_types.proofs.program.keep_entries.Given as goal

abbrev pub invariant-entries : goal.invariant-entries
invariant-entries l = least_from l.best (flat_map (broken_in_entry l.context l.scope l.variables) (drop l.index l.body)) ≡ least_from l.fn.best (flat_map (broken_in_entry l.context l.scope l.variables) l.body)
