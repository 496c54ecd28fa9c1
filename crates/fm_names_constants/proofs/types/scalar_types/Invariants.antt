use Rattle.std.proofs.Common.{◌≡◌, drop}
use Rattle.std.specs.List.{flat_map}
use Rattle.fm_symbols.specs.ByName.{with_all}
use Rattle.fm_rules.specs.NameTypes.{entries_at, scalar_types}
use Rattle.fm_names_constants.proofs.types.scalar_types.Given as goal

abbrev pub invariant-specs : goal.invariant-specs
invariant-specs l = with_all l.declared (flat_map entries_at (drop l.placed-index l.specs)) ≡ scalar_types l.specs
