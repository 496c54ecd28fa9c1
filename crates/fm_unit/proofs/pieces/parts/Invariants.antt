use Rattle.std.proofs.Common.{◌≡◌, ◌++◌}
use Rattle.std.specs.Vec.Iter.{into_iter_items}
use Rattle.fm_tree.specs.Units.{before_body}
use Rattle.fm_unit.specs.Pieces.{before_left, body_in, body_left, pieces_in}
use Rattle.fm_unit.proofs.pieces.parts.Given as goal

abbrev pub invariant-statements : goal.invariant-statements
invariant-statements l = record {
  front : l.front.items ++ before_left l.in_body (into_iter_items l.placed-iterator) ≡ before_body l.fn.statements.items;
  pieces : l.pieces.items ++ pieces_in (body_left l.in_body (into_iter_items l.placed-iterator)) ≡ pieces_in (body_in l.fn.statements.items);
}
