use Rattle.std.proofs.Common.{◌≡◌, List, [], ◌∷◌, ◌++◌, length, ap, ◌∙◌, sym, arith}
use Rattle.std.proofs.lemmas.List.{append-nil, nil_from_length}
use Rattle.std.proofs.lemmas.Bool.{eqb-true, eqb-false}
use Rattle.std.specs.Vec.Iter.{into_iter_items}
use Rattle.fm_tree.specs.declared.program_unit.Placed.{Placed}
use Rattle.fm_tree.specs.Units.{cut_of}
use Rattle.fm_unit.proofs.Joins.{join, join_stays, join_ends, join_last}
use Rattle.fm_unit.proofs.cutting.cut.Goals as goal
use Rattle.fm_unit.proofs.cutting.cut.Goals.{then-not-is_empty+in_ok-push-3, else-not-is_empty}

pub statements-preserved-then-ends : goal.statements-preserved-then-ends
statements-preserved-then-ends c =
    let rest : List Placed = into_iter_items c.next.new.self in
    let us = c.statements.units.items in
    ap (λ (xs : List (List Placed)). xs ++ join c.new-unit-then-ends.result (cut_of rest)) c.in_ok-push-2.ensures.items
    ∙ ap (λ (d : List Placed). (us ++ c.push.new.self ∷ []) ++ join d (cut_of rest)) c.new-unit-then-ends.ensures
    ∙ ap (λ (x : List Placed). (us ++ x ∷ []) ++ cut_of rest) c.in_ok-push.ensures.ok
    ∙ join_ends us c.statements.unit c.in-Some.placed rest (sym c.if-ends.ensures)
    ∙ ap (λ (xs : List Placed). us ++ join c.statements.unit (cut_of xs)) (sym c.in-Some.ensures.steps.0) ∙ c.statements.invariant

pub statements-preserved : goal.statements-preserved
statements-preserved c =
    let rest : List Placed = into_iter_items c.next.new.self in
    let us = c.statements.units.items in
    ap (λ (x : List Placed). us ++ join x (cut_of rest)) c.in_ok-push.ensures.ok
    ∙ join_stays us c.statements.unit c.in-Some.placed rest (sym c.if-ends.ensures)
    ∙ ap (λ (xs : List Placed). us ++ join c.statements.unit (cut_of xs)) (sym c.in-Some.ensures.steps.0) ∙ c.statements.invariant

pub returns : goal.returns
returns c =
    let us = c.statements.units.items in
    let u = c.statements.unit in
    let n = c.statements.placed-iterator.rest.ok.0 in let z = c.in-None.ensures.steps.0 in
    let e : into_iter_items c.statements.placed-iterator ≡ [] = nil_from_length _ (omega arith) in
    let at_end : us ++ join u [] ≡ cut_of c.args.statements.items = ap (λ (xs : List Placed). us ++ join u (cut_of xs)) (sym e) ∙ c.statements.invariant in
    elim c.if-not-is_empty.branch [
      | then-not-is_empty+in_ok-push-3 w ↦
          ap (λ v. v.items) w.units-is ∙ w.in_ok-push-3.ensures.items
          ∙ ap (λ (xs : List (List Placed)). us ++ xs) (sym (join_last u (λ k. eqb-false _ 0 (sym w.if-not-is_empty.ensures) (ap length k)))) ∙ at_end
      | else-not-is_empty w ↦
          ap (λ v. v.items) w.units-is ∙ sym (append-nil us)
          ∙ ap (λ (xs : List Placed). us ++ join xs []) (sym (nil_from_length u (eqb-true _ 0 (sym w.if-not-is_empty.ensures)))) ∙ at_end
    ]
