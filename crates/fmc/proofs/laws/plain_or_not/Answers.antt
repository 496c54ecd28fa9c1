use Rattle.fmc.proofs.NodesLaws as laws
use Rattle.fmc.proofs.laws.plain_or_not.Goals as goal

pub returns : goal.returns
returns c = laws.plain_or_not c.one_program.ensures.program c.one_line.ensures
