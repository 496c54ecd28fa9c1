use Rattle.fm_mean.proofs.Main.{main_is}
use Rattle.fm_mean.proofs.MainUnit.{main_there}
use Rattle.fm_mean.proofs.main_is_the_program.Goals as goal

pub returns : goal.returns
returns c = record { number = main_is; there = λ p. let h = main_there p in (h.number, h.unit, h.is, h.here, h.heads) }
