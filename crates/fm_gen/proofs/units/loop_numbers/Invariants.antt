use Rattle.std.proofs.Common.{◌≡◌, ◌++◌, drop}
use Rattle.fm_gen.specs.Statements.{loop_numbers}
use Rattle.fm_gen.proofs.units.loop_numbers.Given as goal

abbrev pub invariant-entries : goal.invariant-entries
invariant-entries l = l.numbers ++ loop_numbers l.number (drop l.entry-index l.body) ≡ loop_numbers 0 l.body
