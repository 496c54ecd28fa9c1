use Rattle.std.proofs.Common.{◌≡◌, drop}
use Rattle.fm_rules.specs.StructureLookups.{has_end}
use Rattle.fm_unit_structure.proofs.lookups.has_end.Given as goal

abbrev pub invariant-entries : goal.invariant-entries
invariant-entries l = has_end (drop l.entry-index l.entries) ≡ has_end l.entries
