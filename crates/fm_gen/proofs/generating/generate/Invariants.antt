use Rattle.std.proofs.Common.{◌≡◌}
use Rattle.fm_gen.specs.Programs.{units_of_code}
use Rattle.fm_gen.proofs.generating.generate.Given as goal

abbrev pub invariant-units : goal.invariant-units
invariant-units l = l.units ≡ units_of_code l.program l.number
