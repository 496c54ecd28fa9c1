use Rattle.fm_unit_structure.proofs.Jumps.{jumps_agree as law}
use Rattle.fm_unit_structure.proofs.laws.jumps_agree.Goals as goal

pub returns : goal.returns
returns c = law
