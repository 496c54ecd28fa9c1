use Rattle.std.proofs.Common.{◌++◌, ap, ◌∙◌}
use Rattle.std.specs.Prelude.{List}
use Rattle.fm_base.specs.Verdict.{least_from}
use Rattle.fm_symbols.specs.declared.names.UnitNames.{UnitNames}
use Rattle.fm_rules.specs.BrokenNames.{broken_with}
use Rattle.fm_rules.specs.Names.{unit_names_with}
use Rattle.fm_rules.specs.declared.sheet.Sheet.{Sheet}
use Rattle.fm_names.specs.Layouts.{names_unless}
use Rattle.fm_names.proofs.KeptSheets.{same_broken, same_named}
use Rattle.fm_names.proofs.program.add_unit.Goals as goal

pub returns-clause-best : goal.returns-clause-best
returns-clause-best c =
    c.in_ok-best.ensures
    ∙ ap (λ (s : Sheet). least_from c.args.best (broken_with c.args.titles.now c.args.unit.now s)) c.in_ok-sheet.ensures
    ∙ ap (least_from c.args.best) (same_broken c.args.unit.now c.args.titles.now)

pub returns-clause-names : goal.returns-clause-names
returns-clause-names c =
    c.in_ok-push_names.ensures
    ∙ ap (λ (s : Sheet). c.args.names.now ++ names_unless c.in_ok-best.best (unit_names_with c.args.titles.now c.args.unit.now s)) c.in_ok-sheet.ensures
    ∙ ap (λ (l : List UnitNames). c.args.names.now ++ l) (same_named c.args.titles.now c.args.unit.now c.args.best c.in_ok-best.best (returns-clause-best c))
