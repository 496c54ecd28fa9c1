use Rattle.std.proofs.Common.{◌≡◌, length}
use Rattle.fm_code.specs.Statements.{line_at}
use Rattle.fm_machine_calls.proofs.looking.line_at.Given as goal

abbrev pub invariant-entries : goal.invariant-entries
invariant-entries l = line_at l.entries l.address ≡ line_at l.fn.entries l.address

abbrev pub decreases-entries : goal.decreases-entries
decreases-entries l = length l.entries
