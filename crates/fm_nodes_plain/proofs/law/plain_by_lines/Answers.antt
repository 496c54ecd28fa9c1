use Rattle.fm_nodes_plain.proofs.Declared.{plain_program, told_program}
use Rattle.fm_nodes_plain.proofs.law.plain_by_lines.Goals as goal

pub returns : goal.returns
returns c = record { plain = plain_program; told = told_program }
