use Rattle.std.proofs.Common.{arith}
use Rattle.fm_token.proofs.Passes.{top_by_steps}
use Rattle.fm_token.proofs.top_level.has_top.Goals as goal

pub bytes-init : goal.bytes-init
bytes-init c = record { same = top_by_steps c.args.sign c.args.text.now; opening = omega arith; closing = omega arith }
