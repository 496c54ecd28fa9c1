use Rattle.std.proofs.Common.{rules, arith}
use Rattle.fm_plain.proofs.ElementLaws.{one_element}
use Rattle.fm_plain.proofs.messages.push_elements.Goals as goal

pub elements-preserved : goal.elements-preserved
elements-preserved c =
    one_element c.push.new.self c.elements.places _ c.args.span.variable c.args.span.first c.elements.element c.args.span.count (record { variable = c.args.span.variable; first = c.in_ok-first.first; count = 1 })
    (omega arith) c.in_ok-push.ensures.ok (search rules) c.elements.invariant
