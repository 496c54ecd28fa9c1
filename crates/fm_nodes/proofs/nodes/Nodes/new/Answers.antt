use Rattle.std.proofs.Common.{◌≡◌, Option, None, subst}
use Rattle.fm_base.specs.declared.name.Line.{Line}
use Rattle.fm_nodes_plain.specs.Lines.{IsPlainVerdict}
use Rattle.fm_rules.specs.declared.program.Program.{Program}
use Rattle.fm_nodes.proofs.nodes.Nodes.new.Goals as goal

plain_where : (seen p : Program) (o : Option Line) → seen ≡ p → o ≡ None → ∥ IsPlainVerdict seen o ∥₁ → ∥ IsPlainVerdict p None ∥₁
plain_where seen p o same none told = subst (λ (q : Program). ∥ IsPlainVerdict q None ∥₁) same (subst (λ (l : Option Line). ∥ IsPlainVerdict seen l ∥₁) none told)

pub hosted-requires-clause-plain : goal.hosted-requires-clause-plain
hosted-requires-clause-plain c = plain_where _ _ _ c.deref.ensures c.in-None.is c.in_ok-line.ensures

pub returns-in_ok-hosted-in-None-clause-plain : goal.returns-in_ok-hosted-in-None-clause-plain
returns-in_ok-hosted-in-None-clause-plain c = plain_where _ _ _ c.deref.ensures c.in-None.is c.in_ok-line.ensures
