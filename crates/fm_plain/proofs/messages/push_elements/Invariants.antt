use Rattle.std.proofs.Common.{◌≡◌, ◌+◌, ◌-◌, ◌++◌}
use Rattle.fm_mean.specs.Actions.{elements_from}
use Rattle.fm_plain.proofs.messages.push_elements.Given as goal

abbrev pub invariant-elements : goal.invariant-elements
invariant-elements l = l.places ++ elements_from l.span.variable (l.span.first + l.element) (l.span.count - l.element) ≡ l.fn.places ++ elements_from l.span.variable l.span.first l.span.count
