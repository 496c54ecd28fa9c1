use Rattle.std.proofs.Common.{◌∙◌, ap}
use Rattle.fm_tree.specs.declared.program_unit.Units.{Units}
use Rattle.fm_nodes_plain.proofs.Verdicts.{told_verdict}
use Rattle.fm_nodes_plain.proofs.plain.first_unplain.Goals as goal

pub returns : goal.returns
returns c =
    told_verdict c.args.program.now _ _ _ _ _ (c.as_slice-units.ensures ∙ ap (λ (u : Units). u.units) c.units.ensures) c.context.ensures c.first_race.ensures c.in_ok-carrier.ensures c.earlier.ensures
