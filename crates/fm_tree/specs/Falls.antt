-- Each operand of an expression has fewer nodes than the expression.
-- Source: this profile.
use Rattle.std.specs.Prelude.{◌≤◌, ◌+◌, max, List, [], ◌∷◌}
use Rattle.std.proofs.Common.{arith}
use denote.Param.Weighed.{most}
use Rattle.fm_tree.specs.Tree.{Tree, node_count, node_counts, trees_from}
use Rattle.fm_tree.specs.Reading.{reading}
use Rattle.fm_tree.specs.declared.expression.ExprNode.{ExprNode}
use Rattle.fm_tree.specs.declared.expression.ExprNode.TheVariants as node
use Rattle.fm_tree.specs.declared.expression.Expr.TheDeep.{deep-ExprNode}

most_of_list : (ts : List Tree) → most (λ t. node_count t + 1) ts ≤ node_counts (trees_from ts) + 1
most_of_list [] = omega arith
most_of_list (t ∷ ts) = omega (arith, most_of_list ts)

pub children_are_smaller : (n : ExprNode) → max (deep-ExprNode n) 0 ≤ node_count (reading n)
children_are_smaller (node.Number n) = omega arith
children_are_smaller (node.Truth b) = omega arith
children_are_smaller (node.Named name) = omega arith
children_are_smaller (node.Ref name args) = omega (arith, most_of_list args.items)
children_are_smaller (node.Paren e) = omega arith
children_are_smaller (node.Signed op e) = omega arith
children_are_smaller (node.Not e) = omega arith
children_are_smaller (node.Binary op a b) = omega arith
