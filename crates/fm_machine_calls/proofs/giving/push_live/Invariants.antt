use Rattle.std.proofs.Common.{◌≡◌, ◌++◌, drop}
use Rattle.fm_code.specs.Passing.{live}
use Rattle.fm_machine_calls.proofs.giving.push_live.Given as goal

abbrev pub invariant-words : goal.invariant-words
invariant-words l = l.ports ++ live (drop l.word-index l.words) ≡ l.fn.ports ++ live l.words
