use Rattle.fm_front.proofs.Uniques.{checked, check_refused}
use Rattle.fm_front.proofs.source.check_statements.Goals as goal

pub returns-clause-program : goal.returns-clause-program
returns-clause-program c = checked c.one_statement.ensures c.args.statements.items c.check.result c.check.ensures.program

pub returns-clause-refused : goal.returns-clause-refused
returns-clause-refused c = check_refused c.one_statement.ensures c.args.statements.items c.check.result c.check.ensures.refused
