use Rattle.fm_plain_eval.specs.Scopes.{scope_of}
use Rattle.fm_plain_eval.proofs.Walks.{IsOn, all_actuals, all_refs}
use Rattle.fm_plain_eval.proofs.arguments.actuals.Given as goal

abbrev pub invariant-trees : goal.invariant-trees
invariant-trees l = IsOn (all_actuals (scope_of l.scope)) (all_refs (scope_of l.scope)) l.trees l.fn.next l.tree-index l.actuals l.next
