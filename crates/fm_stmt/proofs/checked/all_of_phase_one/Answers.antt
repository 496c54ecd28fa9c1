use Rattle.fm_stmt.proofs.CardLaws.{all_of_phase_one_law}
use Rattle.fm_stmt.proofs.checked.all_of_phase_one.Goals as goal

pub returns : goal.returns
returns c = all_of_phase_one_law
