-- At which level an operand may stand.
-- Source: ANSI X3.9-1978, sections 6.1.2, 6.3, 6.4.2 and 6.5: the precedence of operators, and the forms of expressions.
use Rattle.std.specs.Prelude.{ℕ, ◌≤◌, ◌≡◌, ◌⊎◌}
use Rattle.fm_base.specs.declared.token.Op.{Op}
use Rattle.fm_base.specs.declared.token.Op.TheVariants as op
use Rattle.fm_tree.specs.Tree.{Tree, Trees, Number, Truth, Named, Ref, Paren, Signed, Not, Binary, NoTrees, More}

-- the level that joins two operands, loosest first, and the least levels of its operands
pub record Levels : Type 0 where
  pub own : ℕ
  pub left : ℕ
  pub right : ℕ

-- from the left: a - b - c is (a - b) - c
abbrev pub from_left : ℕ → ℕ → Levels
from_left n m = record { own = n; left = n; right = m }

-- two operands at most
abbrev pub relation : Levels
relation = record { own = 5; left = 6; right = 6 }

-- .NOT. joins nothing, since no operand reaches level 10; ** is from the right
abbrev pub levels : Op → Levels
levels op.Eqv = from_left 1 2
levels op.Neqv = from_left 1 2
levels op.Or = from_left 2 3
levels op.And = from_left 3 4
levels op.Not = record { own = 0; left = 10; right = 9 }
levels op.Eq = relation
levels op.Ne = relation
levels op.Lt = relation
levels op.Le = relation
levels op.Gt = relation
levels op.Ge = relation
levels op.Add = from_left 6 7
levels op.Sub = from_left 6 7
levels op.Mul = from_left 7 8
levels op.Div = from_left 7 8
levels op.Pow = record { own = 8; left = 9; right = 8 }

-- the level of an expression: that of its outermost operator, and 9 where no operator stands outermost
abbrev pub grade : Tree → ℕ
grade (Number n) = 9
grade (Truth b) = 9
grade (Named name) = 9
grade (Ref name args) = 9
grade (Paren e) = 9
grade (Signed o e) = 6
grade (Not e) = 4
grade (Binary o a b) = (levels o).own

abbrev pub IsSignOp : Op → Type 0
IsSignOp o = (o ≡ op.Add) ⊎ (o ≡ op.Sub)

-- each operand stands at a level that is allowed there: one sign at the head of a sum, one .NOT. before a relation
abbrev mutual
  pub IsWellShaped : Tree → Type 0
  IsWellShaped (Number n) = Unit {0}
  IsWellShaped (Truth b) = Unit {0}
  IsWellShaped (Named name) = Unit {0}
  IsWellShaped (Ref name args) = AreWellShaped args
  IsWellShaped (Paren e) = IsWellShaped e
  IsWellShaped (Signed o e) = IsSignOp o × (7 ≤ grade e) × IsWellShaped e
  IsWellShaped (Not e) = (5 ≤ grade e) × IsWellShaped e
  IsWellShaped (Binary o a b) = ((levels o).left ≤ grade a) × IsWellShaped a × ((levels o).right ≤ grade b) × IsWellShaped b

  pub AreWellShaped : Trees → Type 0
  AreWellShaped NoTrees = Unit {0}
  AreWellShaped (More t ts) = IsWellShaped t × AreWellShaped ts
