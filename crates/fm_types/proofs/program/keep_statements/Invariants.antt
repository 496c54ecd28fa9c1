use Rattle.std.proofs.Common.{◌≡◌, drop}
use Rattle.std.specs.List.{flat_map}
use Rattle.fm_base.specs.Verdict.{least_from}
use Rattle.fm_rules.specs.BrokenTypes.{broken_in_statement}
use Rattle.fm_types.proofs.program.keep_statements.Given as goal

abbrev pub invariant-statements : goal.invariant-statements
invariant-statements l = least_from l.best (flat_map (broken_in_statement l.context l.scope l.variables) (drop l.index l.placed)) ≡ least_from l.fn.best (flat_map (broken_in_statement l.context l.scope l.variables) l.placed)
