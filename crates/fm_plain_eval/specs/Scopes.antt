-- A scope in memory as the meaning's scope.
-- Source: this profile.
use Rattle.fm_mean.specs.Evaluate as mean
use Rattle.fm_plain_frame.specs.Memory.{values_of}
use Rattle.fm_plain_frame.specs.Units.{unit_of}
use Rattle.fm_plain_eval.specs.declared.scopes.Scope.{Scope}

abbrev pub scope_of : Scope → mean.Scope
scope_of s = record {
  program = s.unit.program.now;
  unit = unit_of s.unit;
  values = values_of (unit_of s.unit).names.variables s.memory.now;
  results = s.results.now;
}
