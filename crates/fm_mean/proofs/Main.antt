-- The PROGRAM is the unit that the checked program names as its main one.
use Rattle.std.proofs.Common.{◌≡◌, ℕ, Option, Some, unwrap_or, ap}
use Rattle.fm_rules.specs.Main.{main_of}
use Rattle.fm_rules.specs.declared.program.Program.{Program}
use Rattle.fm_mean.specs.Names.{main_number}

pub main_is : (p : Program) (m : ℕ) → main_number p ≡ Some m → unwrap_or (main_of p.units.units) 0 ≡ m
main_is p m e = ap (λ (o : Option ℕ). unwrap_or o 0) e
