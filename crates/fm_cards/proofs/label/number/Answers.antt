use Rattle.std.proofs.Common.{arith}
use Rattle.fm_cards.proofs.Labels.{number_by_steps}
use Rattle.fm_cards.proofs.label.number.Goals as goal

pub bytes-init : goal.bytes-init
bytes-init c = (number_by_steps c.args.field.now, omega arith)
