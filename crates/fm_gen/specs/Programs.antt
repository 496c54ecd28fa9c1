-- The code of a program: that of each unit, in the order of the source.
-- Source: this profile.
use Rattle.std.specs.Prelude.{ℕ, zero, suc, Option, Some, None, List, [], ◌∷◌, ◌++◌, length}
use Rattle.fm_rules.specs.declared.program.Program.{Program}
use Rattle.fm_mean.specs.Names.{ProgramUnit, unit_at}
use Rattle.fm_code.specs.declared.code.Code.{Code}
use Rattle.fm_code.specs.declared.code.Unit as code
use Rattle.fm_gen.specs.Units.{unit_of_code}

abbrev pub unit_if : Program → Option ProgramUnit → List code.Unit
unit_if p None = []
unit_if p (Some u) = unit_of_code p u ∷ []

-- of so many units
abbrev pub units_of_code : Program → ℕ → List code.Unit
units_of_code p zero = []
units_of_code p (suc k) = units_of_code p k ++ unit_if p (unit_at p k)

abbrev pub code_of : Program → Code
code_of p = record { units = units_of_code p (length p.units.units) }
