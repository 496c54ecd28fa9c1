use Rattle.std.proofs.Common.{List, Some, ◌-◌, ◌+◌, ◌<◌, ◌≡◌, ◌∙◌, sym, ap, length, arith, refl}
use Rattle.fm_base.specs.declared.token.Token.{Token}
use Rattle.fm_stmt_parts.specs.Reading.{Read, items_read, after_items}
use Rattle.fm_stmt_parts.specs.Fields.{field_read, fields_read}
use Rattle.fm_tree.specs.declared.port_type.Field.{Field}
use Rattle.fm_stmt_parts.proofs.Deeper.{deeper}
use Rattle.fm_stmt_parts.proofs.MoreLaws.{at_nothing, at_other, at_bad, grown, carries}
use Rattle.fm_stmt_parts.proofs.fields.+fields.Goals as goal

pub fields-returns : goal.fields-returns
fields-returns t c = let h : 0 < c.args.depth = omega arith in rw (deeper c.args.depth c.args.tokens.now h) c.listed_fields.ensures

pub grow-returns-in_default : goal.grow-returns-in_default
grow-returns-in_default t c =
    let f : List Token → Read Field = field_read (fields_read c.args.depth) in
    let xs = c.fields.fields.items in
    let n = length c.args.tokens.now - c.fields.counter in
    sym c.fields.invariant.0
    ∙ ap (λ (r : List Token). after_items xs (items_read f n r)) c.in_default.ensures
    ∙ at_nothing f xs n
    ∙ ap (λ (r : List Token). Some (xs, r)) (sym c.in_default.ensures)

pub grow-returns-then-not-is_comma : goal.grow-returns-then-not-is_comma
grow-returns-then-not-is_comma t c =
    let f : List Token → Read Field = field_read (fields_read c.args.depth) in
    let xs = c.fields.fields.items in
    let n = length c.args.tokens.now - c.fields.counter in
    sym c.fields.invariant.0
    ∙ ap (λ (r : List Token). after_items xs (items_read f n r)) c.in-Some.ensures
    ∙ at_other f xs n c.in-Some.token.now c.in-Some.behind.now (sym c.is_comma.ensures ∙ c.if-not-is_comma.true)
    ∙ ap (λ (r : List Token). Some (xs, r)) (sym c.in-Some.ensures)

pub grow-returns-in-Err : goal.grow-returns-in-Err
grow-returns-in-Err t c =
    let f : List Token → Read Field = field_read (fields_read c.args.depth) in
    let xs = c.fields.fields.items in
    let n = length c.args.tokens.now - c.fields.counter in
    carries c.in-Err.e (f c.in-Some.behind.now) _
    (λ bad. sym c.fields.invariant.0
    ∙ ap (λ (r : List Token). after_items xs (items_read f n r)) c.in-Some.ensures
    ∙ at_bad f xs n c.in-Some.token.now c.in-Some.behind.now (omega arith) (sym c.is_comma.ensures ∙ c.if-not-is_comma.false) bad)
    c.in-Err.ensures

pub grow-fields-preserved : goal.grow-fields-preserved
grow-fields-preserved t c =
    let f : List Token → Read Field = field_read (fields_read c.args.depth) in
    let xs = c.fields.fields.items in
    let n = length c.args.tokens.now - c.fields.counter in
    let k = length c.args.tokens.now - (c.fields.counter + 1) in
    let less : n ≡ k + 1 = omega arith in (
      grown f xs _ n k c.in-Some.token.now c.in-Some.behind.now c.in-Ok.found.1.now c.in-Ok.found.0 c.in_ok-push.ensures.items less (sym c.is_comma.ensures ∙ c.if-not-is_comma.false) c.in-Ok.ensures
          ∙ ap (λ (r : List Token). after_items xs (items_read f n r)) (sym c.in-Some.ensures)
          ∙ c.fields.invariant.0,
      refl,
    )
