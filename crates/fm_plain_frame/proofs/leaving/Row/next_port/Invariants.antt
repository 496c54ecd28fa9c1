use Rattle.std.proofs.Common.{◌≡◌}
use Rattle.fm_plain_frame.specs.Leaving.{row_by, row_left}
use Rattle.fm_plain_frame.proofs.leaving.Row.next_port.Given as goal

abbrev pub invariant-words : goal.invariant-words
invariant-words l = (row_by l.variables l.fn.self ≡ row_by l.variables l.self) × (l.self.unit ≡ l.fn.self.unit)

abbrev pub decreases-words : goal.decreases-words
decreases-words l = row_left l.variables l.self
