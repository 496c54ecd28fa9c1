use Rattle.std.proofs.Common.{◌≡◌, ◌++◌, drop}
use Rattle.fm_rules.specs.BrokenStructure.{program_lines}
use Rattle.fm_unit.proofs.headings.program_lines.Given as goal

abbrev pub invariant-statements : goal.invariant-statements
invariant-statements l = l.lines.items ++ program_lines (drop l.placed-index l.statements) ≡ program_lines l.statements
