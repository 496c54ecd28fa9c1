use Rattle.std.proofs.Common.{◌≡◌, Bool, List, [], ◌∷◌, ◌++◌, ap, ◌∙◌, sym, refl, arith}
use Rattle.std.specs.Prelude.{if◌then◌else◌}
use Rattle.std.proofs.lemmas.List.{append-nil, nil_from_length}
use Rattle.std.specs.Vec.Iter.{into_iter_items}
use Rattle.fm_tree.specs.declared.program_unit.Placed.{Placed}
use Rattle.fm_tree.specs.declared.statement.Stmt.{Stmt}
use Rattle.fm_tree.specs.Structure.{form_of, is_executable}
use Rattle.fm_unit.specs.Pieces.{before_left, body_left, pieces_in, pieces_of}
use Rattle.fm_unit.proofs.Fronts.{before_left_nil, body_left_nil, front_more, pieces_more}
use Rattle.fm_unit.proofs.pieces.parts.Goals as goal

pub statements-preserved : goal.statements-preserved
statements-preserved c =
    let rest : List Placed = into_iter_items c.next.new.self in
    let p = c.in-Some.placed in
    let b = c.statements.in_body in
    let front = c.statements.front.items in
    let pieces = c.statements.pieces.items in
    record {
      front = ap (λ (xs : List Placed). xs ++ before_left c.is_begun-in_body.result rest) c.in_ok-add_part.ensures.front
          ∙ ap (λ (t : Bool). (if t then front else front ++ p ∷ []) ++ before_left t rest) c.is_begun-in_body.ensures
          ∙ front_more b (is_executable (form_of p.stmt)) p rest front refl
          ∙ ap (λ (xs : List Placed). front ++ before_left b xs) (sym c.in-Some.ensures.steps.0)
          ∙ c.statements.invariant.front;
      pieces = ap (λ (xs : List Stmt). xs ++ pieces_in (body_left c.is_begun-in_body.result rest)) c.in_ok-add_part.ensures.pieces
          ∙ ap (λ (t : Bool). (if t then pieces ++ pieces_of p.stmt else pieces) ++ pieces_in (body_left t rest)) c.is_begun-in_body.ensures
          ∙ pieces_more b (is_executable (form_of p.stmt)) p rest pieces refl
          ∙ ap (λ (xs : List Placed). pieces ++ pieces_in (body_left b xs)) (sym c.in-Some.ensures.steps.0)
          ∙ c.statements.invariant.pieces;
    }

pub returns : goal.returns
returns c =
    let n = c.statements.placed-iterator.rest.ok.0 in let z = c.in-None.ensures.steps.0 in
    let e : into_iter_items c.statements.placed-iterator ≡ [] = nil_from_length _ (omega arith) in
    let b = c.statements.in_body in
    let front = c.statements.front.items in
    let pieces = c.statements.pieces.items in
    record {
      front = sym (append-nil front) ∙ ap (λ (xs : List Placed). front ++ xs) (sym (before_left_nil b)) ∙ ap (λ (xs : List Placed). front ++ before_left b xs) (sym e) ∙ c.statements.invariant.front;
      pieces = sym (append-nil pieces) ∙ ap (λ (xs : List Placed). pieces ++ pieces_in xs) (sym (body_left_nil b)) ∙ ap (λ (xs : List Placed). pieces ++ pieces_in (body_left b xs)) (sym e) ∙ c.statements.invariant.pieces;
    }
