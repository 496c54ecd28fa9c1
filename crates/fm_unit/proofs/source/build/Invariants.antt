use Rattle.std.proofs.Common.{◌≡◌, ◌++◌}
use Rattle.std.specs.List.{flat_map}
use Rattle.std.specs.Vec.Iter.{into_iter_items}
use Rattle.fm_base.specs.Verdict.{least_from}
use Rattle.fm_rules.specs.BrokenStructure.{broken_in_units}
use Rattle.fm_unit.specs.Entries.{built}
use Rattle.fm_rules.specs.UnitTitles.{is_function_named}
use Rattle.fm_unit.proofs.source.build.Given as goal

abbrev pub invariant-units : goal.invariant-units
invariant-units l = record {
  units : l.all.items ++ flat_map (built (is_function_named l.titles)) (into_iter_items l.statements-iterator) ≡ flat_map (built (is_function_named l.titles)) l.fn.units.items;
  best : least_from l.best (broken_in_units (into_iter_items l.statements-iterator)) ≡ least_from l.fn.best (broken_in_units l.fn.units.items);
}
