use Rattle.fm_front.proofs.Uniques as laws
use Rattle.fm_front.proofs.source.one_program.Goals as goal

pub returns-clause-program : goal.returns-clause-program
returns-clause-program c = laws.one_program c.one_statement.ensures

pub returns-clause-clean : goal.returns-clause-clean
returns-clause-clean c = laws.program_is_clean

pub returns-clause-either : goal.returns-clause-either
returns-clause-either c = laws.program_or_refusal
