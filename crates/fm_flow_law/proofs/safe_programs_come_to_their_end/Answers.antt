use Rattle.fm_flow_law.proofs.Promise.{safe_comes_to_its_end, told_comes_to_its_end}
use Rattle.fm_flow_law.proofs.safe_programs_come_to_their_end.Goals as goal

pub returns : goal.returns
returns c = record { safe = safe_comes_to_its_end; told = told_comes_to_its_end }
