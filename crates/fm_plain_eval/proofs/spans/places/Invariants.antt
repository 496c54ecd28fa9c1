use Rattle.fm_mean.specs.Evaluate.{places_of, refs_in_vars}
use Rattle.fm_plain_eval.specs.Scopes.{scope_of}
use Rattle.fm_plain_eval.proofs.Walks.{IsOn}
use Rattle.fm_plain_eval.proofs.spans.places.Given as goal

abbrev pub invariant-variables : goal.invariant-variables
invariant-variables l = IsOn (places_of (scope_of l.scope)) (refs_in_vars (scope_of l.scope)) l.variables l.fn.next l.variable-index l.places l.next
