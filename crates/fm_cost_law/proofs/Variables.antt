-- A variable has 65,536 words at most.
use Rattle.std.proofs.Common.{◌≡◌, ℕ, ◌≤◌, Some, List}
use Rattle.fm_symbols.specs.declared.names.Variable.{Variable}
use Rattle.fm_rules.specs.declared.program.Program.{Program}
use Rattle.fm_mean.specs.Names.{ProgramUnit, unit_at, variable_of}
use Rattle.fm_mean.proofs.Arguments.{variable_there}
use Rattle.fm_mean.proofs.Sizes.{variable_small}

pub words_few : (p : Program) (n : ℕ) (u : ProgramUnit) → unit_at p n ≡ Some u → (name : List ℕ) (v : ℕ × Variable) → variable_of u name ≡ Some v → v.1.words ≤ 65536
words_few p n u is name v e = variable_small p n u v.0 v.1 is (variable_there u name v.0 v.1 e)
