use Rattle.std.proofs.Common.{sym, ◌∙◌}
use Rattle.fm_token.specs.Steps.{operators}
use Rattle.fm_token.proofs.Fixed.{fixed_bare, fixed_sign}
use Rattle.fm_token.proofs.pieces.fixed_token.Goals as goal

pub returns-in-Some : goal.returns-in-Some
returns-in-Some c = fixed_bare _ _ (sym c.bare_token.ensures ∙ c.in-Some.is)

pub returns-in-Some-operator : goal.returns-in-Some-operator
unfolding operators
returns-in-Some-operator c = fixed_sign _ _ (sym c.in-Some-operator.is ∙ c.operator.ensures) (sym c.bare_token.ensures ∙ c.in-None.is)

pub returns-in-None-operator : goal.returns-in-None-operator
unfolding operators
returns-in-None-operator c = fixed_sign _ _ (sym c.in-None-operator.is ∙ c.operator.ensures) (sym c.bare_token.ensures ∙ c.in-None.is)
