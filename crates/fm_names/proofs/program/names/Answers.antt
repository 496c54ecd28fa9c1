use Rattle.fm_rules.specs.BrokenNames.{broken_names}
use Rattle.fm_names.proofs.Broken.{all_clean, least_of, not_some, refused_is}
use Rattle.fm_names.proofs.program.names.Goals as goal

pub returns-in-Some-clause-refused : goal.returns-in-Some-clause-refused
returns-in-Some-clause-refused c =
    refused_is c.least_law.ensures (broken_names c.args.units.now.units) c.in_ok-names.best c.in-Some.refusal
    (least_of c.in_ok-titles.titles c.as_slice-units.result.now c.args.units.now.units c.in_ok-names.best c.as_slice-units.ensures c.in_ok-titles.ensures c.in_ok-names.ensures.best) c.in-Some.is

pub returns-clause-clean : goal.returns-clause-clean
returns-clause-clean c =
    all_clean c.least_law.ensures (broken_names c.args.units.now.units) c.in_ok-names.best
    (least_of c.in_ok-titles.titles c.as_slice-units.result.now c.args.units.now.units c.in_ok-names.best c.as_slice-units.ensures c.in_ok-titles.ensures c.in_ok-names.ensures.best)
    (not_some c.in_ok-names.best c.in_default.not-Some)
