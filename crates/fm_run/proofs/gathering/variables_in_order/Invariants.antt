use Rattle.std.proofs.Common.{◌≡◌, map}
use Rattle.fm_run.specs.Gathered.{shown_entry}
use Rattle.fm_run.proofs.gathering.variables_in_order.Given as goal

abbrev pub invariant-variables : goal.invariant-variables
invariant-variables l = l.variables.items ≡ map shown_entry l.yielded
