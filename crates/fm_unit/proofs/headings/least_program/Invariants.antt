use Rattle.std.proofs.Common.{◌≡◌, map, drop}
use Rattle.fm_base.specs.declared.rule.Rule.TheVariants.{E26}
use Rattle.fm_base.specs.Verdict.{least_from, least, place}
use Rattle.fm_unit.proofs.headings.least_program.Given as goal

abbrev pub invariant-lines : goal.invariant-lines
invariant-lines l = least_from l.best (map (λ line. place line E26) (drop l.line-index l.lines)) ≡ least (map (λ line. place line E26) l.lines)
