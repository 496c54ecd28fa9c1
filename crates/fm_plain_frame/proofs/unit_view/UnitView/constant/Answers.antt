use Rattle.std.proofs.Common.{sym, ap, ◌∙◌}
use Rattle.fm_plain_frame.specs.Lookup.{is_constant}
use Rattle.fm_plain_frame.proofs.ConstantLaws.{no_constant}
use Rattle.fm_plain_frame.proofs.unit_view.UnitView.constant.Goals as goal

pub returns-else-is_constant : goal.returns-else-is_constant
returns-else-is_constant c = no_constant c.args.self.now.names.now c.args.name.now (ap is_constant (sym c.symbol.ensures) ∙ sym c.is_constant.ensures ∙ c.if-is_constant.false)
