use Rattle.fm_gen_relation.proofs.Units.{sound_unit}
use Rattle.fm_gen_relation.proofs.units_are_sound.Goals as goal

pub returns : goal.returns
returns c = sound_unit
