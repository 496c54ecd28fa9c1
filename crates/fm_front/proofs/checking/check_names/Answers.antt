use Rattle.fm_front.proofs.Phases.{names_kept, names_refused, units_clean, units_refused}
use Rattle.fm_front.proofs.checking.check_names.Goals as goal

pub returns-in-Err-clause-refused : goal.returns-in-Err-clause-refused
returns-in-Err-clause-refused c = names_refused c.args.units.units c.in-Err.fail c.in-Err.ensures.refused

pub returns-clause-names : goal.returns-clause-names
returns-clause-names c = names_kept c.args.units.units c.in-Ok.names c.in-Ok.ensures.names c.in-Ok.ensures.clean c.check_use.result c.check_use.ensures.names

pub returns-clause-clean : goal.returns-clause-clean
returns-clause-clean c = units_clean c.args.units.units c.in-Ok.names c.in-Ok.ensures.names c.in-Ok.ensures.clean c.check_use.result c.check_use.ensures.clean

pub returns-clause-refused : goal.returns-clause-refused
returns-clause-refused c = units_refused c.args.units.units c.in-Ok.names c.in-Ok.ensures.names c.in-Ok.ensures.clean c.check_use.result c.check_use.ensures.refused
