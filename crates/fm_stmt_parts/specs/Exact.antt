-- That a part is read exactly for its form.
-- Source: this profile, over the forms of fm_tree.
use Rattle.std.specs.Prelude.{◌≡◌, Some, List, ◌++◌}
use Rattle.fm_base.specs.declared.token.Token.{Token}
use Rattle.fm_stmt_parts.specs.Reading.{Part, Ends}

-- What is read has the form and is spelled by the tokens that were taken. What has the form is read from its spelling,
-- before any token that may stand behind it.
pub record IsExact {X : Type 0} (g : Part X) : Type 0 where
  pub sound : (ts : List Token) (x : X) (rest : List Token) → g.read ts ≡ Some (x, rest) → g.form.Shape x × (ts ≡ g.form.spelled x ++ rest)
  pub complete : (x : X) (rest : List Token) → g.form.Shape x → Ends g.stop rest → g.read (g.form.spelled x ++ rest) ≡ Some (x, rest)
