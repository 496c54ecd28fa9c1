use Rattle.std.proofs.Common.{◌≡◌, ◌++◌, drop}
use Rattle.fm_code.specs.Passing.{ports_in}
use Rattle.fm_machine_calls.proofs.giving.push_ports.Given as goal

abbrev pub invariant-spans : goal.invariant-spans
invariant-spans l = l.ports ++ ports_in (drop l.span-index l.spans) l.words ≡ l.fn.ports ++ ports_in l.spans l.words
