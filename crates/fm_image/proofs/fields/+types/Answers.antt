use Rattle.std.proofs.Common.{◌≡◌, ◌+◌, ℕ, drop, arith, ap, sym, subst, ◌∙◌}
use Rattle.std.specs.Prelude.{IfOk}
use Rattle.fm_tree.specs.PortFields.{FieldKind, fields_count, kind_count}
use Rattle.fm_tree.specs.PortReading.{fields_of, kind_of}
use Rattle.fm_tree.specs.declared.port_type.Field.{Field}
use Rattle.fm_tree.proofs.Nodes.{in_fields}
use Rattle.fm_rules.specs.PortTypes.{sizing_place}
use Rattle.fm_image.specs.Types.{field_with, fields_image, needed_in, type_number}
use Rattle.fm_image.proofs.Steps.{at_place, fields_at, port_named}
use Rattle.fm_image.proofs.fields.+types.Goals as goal

pub field_images-type_number-requires : goal.field_images-type_number-requires
field_images-type_number-requires t c =
    let below = in_fields c.args.fields.now c.each.one-index c.one-item.result c.each-test.true in
    let item = ap (λ (f : Field). kind_count (kind_of f.kind)) c.one-item.is in
    (omega (arith, below, item, c.decreases), tt)

pub field_images-each-preserved : goal.field_images-each-preserved
field_images-each-preserved t c =
    let f = c.one-item.result in
    let i = c.each.one-index in
    let fs = c.args.fields.now in
    rw c.in_ok-push.ensures.ok
    (fields_at c.args.types.now c.each.types c.type_number.new.types c.each.images f (drop i fs) (drop (i + 1) fs) fs c.in_ok-field.field-0 (at_place fs i f c.each-test.true c.one-item.is) c.each.invariant c.in_ok-of.ensures.types
    (c.in_ok-field.ensures ∙ ap (λ (n : ℕ). field_with (kind_of f.kind) n f.bounds (sizing_place f.bounds)) c.in_ok-of.ensures.number))

pub type_number-returns-in_ok-images-in-In-clause-number : goal.type_number-returns-in_ok-images-in-In-clause-number
type_number-returns-in_ok-images-in-In-clause-number t c =
    let was = c.args.types.now in
    let now = c.field_images.new.types in
    let last = c.number.new.self in
    let p = c.in-In.port_type in
    subst (λ (k : FieldKind). IfOk c.number.result (λ (n : ℕ). n ≡ type_number last k)) (sym (ap kind_of c.in-In.is))
    (port_named was now last p c.in_ok-images-in-In.images c.number.result (c.in_ok-images-in-In.ensures.types ∙ ap (needed_in was) c.as_slice.ensures) (c.in_ok-images-in-In.ensures.fields ∙ ap (fields_image now) c.as_slice.ensures)
    c.number.ensures.types c.number.ensures.number)

pub type_number-returns-in_ok-images-in-Out-clause-number : goal.type_number-returns-in_ok-images-in-Out-clause-number
type_number-returns-in_ok-images-in-Out-clause-number t c =
    let was = c.args.types.now in
    let now = c.field_images-in-Out.new.types in
    let last = c.number-in-Out.new.self in
    let p = c.in-Out.port_type in
    subst (λ (k : FieldKind). IfOk c.number-in-Out.result (λ (n : ℕ). n ≡ type_number last k)) (sym (ap kind_of c.in-Out.is))
    (port_named was now last p c.in_ok-images-in-Out.images c.number-in-Out.result (c.in_ok-images-in-Out.ensures.types ∙ ap (needed_in was) c.as_slice-in-Out.ensures)
    (c.in_ok-images-in-Out.ensures.fields ∙ ap (fields_image now) c.as_slice-in-Out.ensures) c.number-in-Out.ensures.types c.number-in-Out.ensures.number)
