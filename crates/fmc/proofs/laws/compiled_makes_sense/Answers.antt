use Rattle.fmc.proofs.Compiled.{compiled}
use Rattle.fmc.proofs.laws.compiled_makes_sense.Goals as goal

pub returns : goal.returns
returns c = compiled
