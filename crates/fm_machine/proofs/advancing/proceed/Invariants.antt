use Rattle.std.proofs.Common.{◌≡◌, ◌≤◌, ◌-◌, Some}
use Rattle.fm_code.specs.Statements.{run}
use Rattle.fm_machine.proofs.advancing.proceed.Given as goal

abbrev pub invariant-steps : goal.invariant-steps
invariant-steps l = record {
  ran : run l.steps l.fn.body ≡ Some (record { body = l.body; lines = l.lines; cost = l.cost });
  within : l.steps ≤ l.slice;
}

abbrev pub decreases-steps : goal.decreases-steps
decreases-steps l = l.slice - l.steps
