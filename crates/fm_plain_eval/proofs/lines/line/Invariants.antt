use Rattle.fm_mean.specs.Evaluate.{printed_all}
use Rattle.fm_plain_eval.specs.Scopes.{scope_of}
use Rattle.fm_plain_eval.proofs.Walks.{IsOn, refs_in_items}
use Rattle.fm_plain_eval.proofs.lines.line.Given as goal

abbrev pub invariant-items : goal.invariant-items
invariant-items l = IsOn (printed_all (scope_of l.scope)) (refs_in_items (scope_of l.scope)) l.items 0 l.item-index l.printed l.next
