-- An expression in memory as a plain tree.
-- Source: this profile.
use Rattle.fm_tree.specs.Tree.{Tree, Number, Truth, Named, Ref, Paren, Signed, Not, Binary, trees_from}
use Rattle.fm_tree.specs.declared.expression.ExprNode.{ExprNode}
use Rattle.fm_tree.specs.declared.expression.ExprNode.TheVariants as node

-- one level, with each expression inside already seen as its tree
abbrev pub reading : ExprNode → Tree
reading (node.Number n) = Number n
reading (node.Truth b) = Truth b
reading (node.Named name) = Named name
reading (node.Ref name args) = Ref name (trees_from args.items)
reading (node.Paren e) = Paren e.value
reading (node.Signed op e) = Signed op e.value
reading (node.Not e) = Not e.value
reading (node.Binary op a b) = Binary op a.value b.value
