use Rattle.fm_front.proofs.Phases.{all_checked, all_refused, structure_refused}
use Rattle.fm_front.proofs.checking.check.Goals as goal

pub returns-in-Err-clause-refused : goal.returns-in-Err-clause-refused
returns-in-Err-clause-refused c = structure_refused c.args.statements.items c.in-Err.fail c.in-Err.ensures.refused

pub returns-clause-program : goal.returns-clause-program
returns-clause-program c =
    all_checked c.args.statements.items c.in-Ok.units c.requires c.in-Ok.ensures.units c.in-Ok.ensures.clean c.check_names.result c.check_names.ensures.units c.check_names.ensures.names c.check_names.ensures.clean

pub returns-clause-refused : goal.returns-clause-refused
returns-clause-refused c = all_refused c.args.statements.items c.in-Ok.units c.requires c.in-Ok.ensures.units c.in-Ok.ensures.clean c.check_names.result c.check_names.ensures.refused
