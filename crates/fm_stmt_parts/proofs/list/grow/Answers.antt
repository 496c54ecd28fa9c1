use Rattle.std.proofs.Common.{List, Some, ◌-◌, ◌+◌, ◌≡◌, ◌∙◌, sym, ap, length, arith, refl}
use Rattle.fm_base.specs.declared.token.Token.{Token}
use Rattle.fm_stmt_parts.specs.Reading.{items_read, after_items}
use Rattle.fm_stmt_parts.proofs.MoreLaws.{at_nothing, at_other, at_bad, grown, carries}
use Rattle.fm_stmt_parts.proofs.list.grow.Goals as goal

pub returns-in_default : goal.returns-in_default
returns-in_default g c =
    let xs = c.items.items.items in
    let n = length c.args.tokens.now - c.items.counter in
    sym c.items.invariant.0
    ∙ ap (λ (r : List Token). after_items xs (items_read g.F.Form.reads n r)) c.in_default.ensures
    ∙ at_nothing g.F.Form.reads xs n
    ∙ ap (λ (r : List Token). Some (xs, r)) (sym c.in_default.ensures)

pub returns-then-not-is_comma : goal.returns-then-not-is_comma
returns-then-not-is_comma g c =
    let xs = c.items.items.items in
    let n = length c.args.tokens.now - c.items.counter in
    sym c.items.invariant.0
    ∙ ap (λ (r : List Token). after_items xs (items_read g.F.Form.reads n r)) c.in-Some.ensures
    ∙ at_other g.F.Form.reads xs n c.in-Some.token.now c.in-Some.behind.now (sym c.is_comma.ensures ∙ c.if-not-is_comma.true)
    ∙ ap (λ (r : List Token). Some (xs, r)) (sym c.in-Some.ensures)

pub returns-in-Err : goal.returns-in-Err
returns-in-Err g c =
    let xs = c.items.items.items in
    let n = length c.args.tokens.now - c.items.counter in
    carries c.in-Err.e (g.F.Form.reads c.in-Some.behind.now) _
    (λ bad. sym c.items.invariant.0
    ∙ ap (λ (r : List Token). after_items xs (items_read g.F.Form.reads n r)) c.in-Some.ensures
    ∙ at_bad g.F.Form.reads xs n c.in-Some.token.now c.in-Some.behind.now (omega arith) (sym c.is_comma.ensures ∙ c.if-not-is_comma.false) bad)
    c.in-Err.ensures

pub items-preserved : goal.items-preserved
items-preserved g c =
    let xs = c.items.items.items in
    let n = length c.args.tokens.now - c.items.counter in
    let k = length c.args.tokens.now - (c.items.counter + 1) in
    let less : n ≡ k + 1 = omega arith in (
      grown g.F.Form.reads xs _ n k c.in-Some.token.now c.in-Some.behind.now c.in-Ok.found.1.now c.in-Ok.found.0 c.in_ok-push.ensures.items less (sym c.is_comma.ensures ∙ c.if-not-is_comma.false) c.in-Ok.ensures
          ∙ ap (λ (r : List Token). after_items xs (items_read g.F.Form.reads n r)) (sym c.in-Some.ensures)
          ∙ c.items.invariant.0,
      refl,
    )
