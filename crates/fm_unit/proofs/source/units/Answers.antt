use Rattle.std.proofs.Common.{◌∙◌, ◌++◌}
use Rattle.std.specs.Prelude.{Contains}
use Rattle.fm_base.specs.Verdict.{IsClean}
use Rattle.fm_tree.specs.Units.{cut_of}
use Rattle.fm_rules.specs.BrokenStructure.{broken_in_units, broken_structure, missing_end, program_lines, wrong_programs, wrong_titles}
use Rattle.fm_rules.specs.UnitTitles.{is_function_named, titles_of}
use Rattle.fm_unit.proofs.Clean.{all_built, clean_last, cut_whole, none_broken, not_some}
use Rattle.fm_unit.proofs.source.units.Goals as goal

pub returns-clause-clean : goal.returns-clause-clean
returns-clause-clean c =
    none_broken c.least_law.ensures (broken_structure c.args.statements.items) c.in_ok-all.best c.in_ok-all.ensures.best (not_some c.in_ok-all.best c.in_default.not-Some)

pub returns-clause-units : goal.returns-clause-units
returns-clause-units c =
    let source = c.args.statements.items in
    let clean : IsClean (Contains (broken_structure source))
    = none_broken c.least_law.ensures (broken_structure source) c.in_ok-all.best c.in_ok-all.ensures.best (not_some c.in_ok-all.best c.in_default.not-Some) in
    c.from_vec-units.ensures ∙ c.in_ok-all.ensures.units
    ∙ all_built (is_function_named (titles_of (cut_of source))) (cut_of source) (cut_whole source)
    (clean_last (wrong_programs (program_lines source) ++ missing_end source ++ wrong_titles (titles_of (cut_of source)) 0 (cut_of source)) (broken_in_units (cut_of source)) clean)
