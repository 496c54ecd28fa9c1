-- The one spelling of an expression.
-- Source: ANSI X3.9-1978, sections 5.3, 6.1 to 6.5 and 15.2.1.
use Rattle.std.specs.Prelude.{Bool, true, false, List, [], ◌∷◌, ◌++◌}
use Rattle.fm_base.specs.declared.token.Op.TheVariants as op
use Rattle.fm_base.specs.declared.token.Token.{Token}
use Rattle.fm_base.specs.declared.token.Token.TheVariants as token
use Rattle.fm_tree.specs.Tree.{Tree, Trees, Number, Truth, Named, Ref, Paren, Signed, Not, Binary, NoTrees, More}

abbrev pub truth_token : Bool → Token
truth_token true = token.True
truth_token false = token.False

abbrev mutual
  pub spelling : Tree → List Token
  spelling (Number n) = token.Number n ∷ []
  spelling (Truth b) = truth_token b ∷ []
  spelling (Named name) = token.Named name ∷ []
  spelling (Ref name args) = token.Named name ∷ token.Open ∷ (list_spelling args ++ token.Close ∷ [])
  spelling (Paren e) = token.Open ∷ (spelling e ++ token.Close ∷ [])
  spelling (Signed o e) = token.Sign o ∷ spelling e
  spelling (Not e) = token.Sign op.Not ∷ spelling e
  spelling (Binary o a b) = spelling a ++ token.Sign o ∷ spelling b

  -- with commas between
  pub list_spelling : Trees → List Token
  list_spelling NoTrees = []
  list_spelling (More t ts) = spelling t ++ tail_spelling ts

  -- with a comma before each
  pub tail_spelling : Trees → List Token
  tail_spelling NoTrees = []
  tail_spelling (More t ts) = token.Comma ∷ (spelling t ++ tail_spelling ts)
