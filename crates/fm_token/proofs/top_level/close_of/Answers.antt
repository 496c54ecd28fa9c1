use Rattle.std.proofs.Common.{arith}
use Rattle.fm_token.proofs.Passes.{close_by_steps}
use Rattle.fm_token.proofs.top_level.close_of.Goals as goal

pub bytes-init : goal.bytes-init
bytes-init c = record { same = close_by_steps c.args.text.now; opening = omega arith; closing = omega arith }
