-- A program has one verdict.
use Rattle.std.proofs.Common.{◌≡◌, ℕ, ◌≤◌, Option, Some, None, refl, ap, arith}
use Rattle.fm_base.specs.declared.name.Line.{Line}
use Rattle.fm_rules.specs.declared.program.Program.{Program}
use Rattle.fm_flow_law.specs.Flow.{IsFlowVerdict}

line_is : (a b : Line) → a.0 ≤ b.0 → b.0 ≤ a.0 → a ≡ b
line_is a b low high = let same : a.0 ≡ b.0 = omega (arith, low, high) in ap (λ (n : ℕ). record { 0 = n }) same

pub one_verdict : (p : Program) (v w : Option Line) → IsFlowVerdict p v → IsFlowVerdict p w → v ≡ w
one_verdict p None None h g = refl
one_verdict p None (Some l) h g = absurd (h l.0 g.risk)
one_verdict p (Some l) None h g = absurd (g l.0 h.risk)
one_verdict p (Some l) (Some k) h g = ap (λ (x : Line). Some x) (line_is l k (h.least k.0 g.risk) (g.least l.0 h.risk))
