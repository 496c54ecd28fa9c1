-- Two verdicts on one set of broken rules are one.
use Rattle.std.proofs.Common.{◌≡◌, ℕ, Option, Some, None, List, [], ◌∷◌, refl, sym, ◌∙◌, ap, arith, get_or}
use Rattle.fm_base.specs.declared.rule.Refusal.{Refusal}
use Rattle.fm_base.specs.declared.rule.Rule.{Rule}
use Rattle.fm_base.specs.declared.rule.Rule.TheVariants.{E01, E02, E03, E04, E05, E10, E11, E12, E20, E21, E22, E23, E24, E25, E26, E27, E28, E29, E30, E31, E32, E33, E34, E40, E41, E42, E43, E44, E45, E46, E50, E51, E52, E53, E54}
use Rattle.fm_base.specs.Rules.{number_of, phase_of}
use Rattle.fm_base.specs.Verdict.{IsUpTo, IsVerdict}

-- the rules by their numbers, a gap having any rule
abbrev rules : List Rule
rules =
    E01 ∷ E01 ∷ E02 ∷ E03 ∷ E04 ∷ E05 ∷ E01 ∷ E01 ∷ E01 ∷ E01
    ∷ E10 ∷ E11 ∷ E12 ∷ E01 ∷ E01 ∷ E01 ∷ E01 ∷ E01 ∷ E01 ∷ E01
    ∷ E20 ∷ E21 ∷ E22 ∷ E23 ∷ E24 ∷ E25 ∷ E26 ∷ E27 ∷ E28 ∷ E29
    ∷ E30 ∷ E31 ∷ E32 ∷ E33 ∷ E34 ∷ E01 ∷ E01 ∷ E01 ∷ E01 ∷ E01
    ∷ E40 ∷ E41 ∷ E42 ∷ E43 ∷ E44 ∷ E45 ∷ E46 ∷ E01 ∷ E01 ∷ E01
    ∷ E50 ∷ E51 ∷ E52 ∷ E53 ∷ E54 ∷ []

rule_at-number_of : (rule : Rule) → get_or rules (number_of rule) E01 ≡ rule
rule_at-number_of E01 = refl
rule_at-number_of E02 = refl
rule_at-number_of E03 = refl
rule_at-number_of E04 = refl
rule_at-number_of E05 = refl
rule_at-number_of E10 = refl
rule_at-number_of E11 = refl
rule_at-number_of E12 = refl
rule_at-number_of E20 = refl
rule_at-number_of E21 = refl
rule_at-number_of E22 = refl
rule_at-number_of E23 = refl
rule_at-number_of E24 = refl
rule_at-number_of E25 = refl
rule_at-number_of E26 = refl
rule_at-number_of E27 = refl
rule_at-number_of E28 = refl
rule_at-number_of E29 = refl
rule_at-number_of E30 = refl
rule_at-number_of E31 = refl
rule_at-number_of E32 = refl
rule_at-number_of E33 = refl
rule_at-number_of E34 = refl
rule_at-number_of E40 = refl
rule_at-number_of E41 = refl
rule_at-number_of E42 = refl
rule_at-number_of E43 = refl
rule_at-number_of E44 = refl
rule_at-number_of E45 = refl
rule_at-number_of E46 = refl
rule_at-number_of E50 = refl
rule_at-number_of E51 = refl
rule_at-number_of E52 = refl
rule_at-number_of E53 = refl
rule_at-number_of E54 = refl

pub number_of-injective : (r s : Rule) → number_of r ≡ number_of s → r ≡ s
number_of-injective r s e = sym (rule_at-number_of r) ∙ (ap (λ (n : ℕ). get_or rules n E01) e ∙ rule_at-number_of s)

-- two places, each of which isn't behind the other
pub upto_both : (p q : Refusal) → IsUpTo p q → IsUpTo q p → p ≡ q
upto_both p q a b =
    let phase : phase_of p.rule ≡ phase_of q.rule = omega (arith, a.0, b.0) in
    let c = a.1 phase in
    let d = b.1 (sym phase) in
    let line : p.line.0 ≡ q.line.0 = omega (arith, c.0, d.0) in
    let number : number_of p.rule ≡ number_of q.rule = omega (arith, c.1 line, d.1 (sym line)) in
    let rule : p.rule ≡ q.rule = number_of-injective p.rule q.rule number in
    λ i. record { line = record { 0 = line i }; rule = rule i }

pub verdict_one : (Broken : Refusal → Type 0) (a b : Option Refusal) → IsVerdict Broken a → IsVerdict Broken b → a ≡ b
verdict_one Broken None None v w = refl
verdict_one Broken None (Some q) v w = absurd (v q w.broken)
verdict_one Broken (Some p) None v w = absurd (w p v.broken)
verdict_one Broken (Some p) (Some q) v w = ap Some (upto_both p q (v.least q w.broken) (w.least p v.broken))
