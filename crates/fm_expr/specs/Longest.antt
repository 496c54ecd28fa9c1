-- What a list of tokens begins with.
-- Source: ANSI X3.9-1978, sections 6.1, 6.3 and 6.4: the forms of expressions, of which this profile takes the longest.
use Rattle.std.proofs.Common.{refl}
use Rattle.std.specs.Prelude.{ℕ, ◌≡◌, ◌≤◌, Option, Some, None, List, [], ◌∷◌, ◌++◌, length, take}
use Rattle.fm_base.specs.declared.token.Token.{Token}
use Rattle.fm_base.specs.declared.token.Token.TheVariants as tokens
use Rattle.fm_tree.specs.Tree.{Tree}
use Rattle.fm_tree.specs.Spelling.{spelling}
use Rattle.fm_tree.specs.Shape.{IsWellShaped}
use Rattle.fm_expr.specs.Reading.{run}

-- the longest part at the front that spells a well-shaped tree is the first n tokens, and spells t
pub record IsLongestExpression (all : List Token) (t : Tree) (n : ℕ) : Type 0 where
  pub shaped : IsWellShaped t
  pub spelled : spelling t ≡ take n all
  pub within : n ≤ length all
  pub longest : (u : Tree) (more : List Token) → IsWellShaped u → all ≡ spelling u ++ more → length (spelling u) ≤ n

-- no part at the front spells one
abbrev pub BeginsNoExpression : List Token → Type 0
BeginsNoExpression all = (u : Tree) (more : List Token) → IsWellShaped u → all ≡ spelling u ++ more → ⊥

-- nothing, or a token behind which no expression goes on
abbrev pub StopsExpression : List Token → Type 0
StopsExpression [] = Unit {0}
StopsExpression (tokens.Close ∷ more) = Unit {0}
StopsExpression (tokens.Comma ∷ more) = Unit {0}
StopsExpression (tokens.Equals ∷ more) = Unit {0}
StopsExpression (tokens.Colon ∷ more) = Unit {0}
StopsExpression (token ∷ more) = ⊥

-- one expression has a spelling
abbrev pub OneExpression : Type 0
OneExpression = (a b : Tree) → IsWellShaped a → IsWellShaped b → spelling a ≡ spelling b → a ≡ b

-- the longest expression at the front with its number of tokens, or none where none is there
abbrev pub IsExpressionAt : List Token → Option (Tree × ℕ) → Type 0
IsExpressionAt all None = BeginsNoExpression all
IsExpressionAt all (Some found) = IsLongestExpression all found.0 found.1

-- the same as a function, for readers whose reading is one; it is shut, and known by IsExpressionAt alone
pub expr_at : List Token → Option (Tree × ℕ)
expr_at all = run all [] None 0

pub expr_at-run : (all : List Token) → run all [] None 0 ≡ expr_at all
unfolding expr_at
expr_at-run all = refl
