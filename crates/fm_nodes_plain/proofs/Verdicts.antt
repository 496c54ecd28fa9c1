-- The least of two kinds of lines.
use Rattle.std.proofs.Common.{◌≡◌, ℕ, ◌≤◌, ◌⊎◌, inl, inr, ⊎_elim, true, Option, Some, None, List, refl, sym, ap, subst, arith}
use mathlib.Core.Logic.{∥∥₁_map}
use Rattle.fm_base.specs.declared.name.Line.{Line}
use Rattle.fm_tree.specs.declared.program_unit.Unit.{Unit}
use Rattle.fm_symbols.specs.declared.context.Context.{Context}
use Rattle.fm_rules.specs.Race.{IsRace, IsRaceVerdict}
use Rattle.fm_rules.specs.declared.program.Program.{Program}
use Rattle.fm_mean.specs.Names.{context}
use Rattle.fm_call_graph.specs.Least.{lower_if}
use Rattle.fm_call_graph.proofs.Lowest.{IsLow, IsLowest, lowest_if, lowest_same}
use Rattle.fm_nodes_plain.specs.Carriers.{IsCarrier, IsFirstCarrierOf}
use Rattle.fm_nodes_plain.specs.Lines.{IsPlainVerdict, IsUnplainAt}
use Rattle.fm_nodes_plain.specs.Search.{earlier}

-- where each line of one kind has one of the other that isn't greater
wider : (R S : ℕ → Type 0) → ((k : ℕ) → R k → S k) → ((k : ℕ) → S k → (j : ℕ) × R j × (j ≤ k)) → (best : Option Line) → IsLowest R best → IsLowest S best
wider R S there back None h = λ k s. let r = back k s in h r.0 r.1
wider R S there back (Some b) h = record {
  here = there b.0 h.here;
  least = λ k s. let r = back k s in let x = h.least r.0 r.1 in let y = r.2 in omega (arith, x, y);
}

lowest_earlier : (P Q : ℕ → Type 0) (a b : Option Line) → IsLowest P a → IsLowest Q b → IsLowest (λ k. P k ⊎ Q k) (earlier a b)
lowest_earlier P Q a None h g = lowest_same P (λ k. P k ⊎ Q k) (λ k x. inl x) (λ k x. ⊎_elim (λ (p : P k). p) (λ (q : Q k). absurd (g k q)) x) a h
lowest_earlier P Q a (Some line) h g =
    let R : ℕ → Type 0 = λ k. P k ⊎ ((true ≡ true) × (line.0 ≡ k)) in
    wider R (λ k. P k ⊎ Q k)
    (λ k x. ⊎_elim (λ (p : P k). inl p) (λ (e : (true ≡ true) × (line.0 ≡ k)). inr (subst Q e.1 g.here)) x)
    (λ k x. ⊎_elim (λ (p : P k). (k, inl p, omega arith)) (λ (q : Q k). (line.0, inr (refl, refl), g.least k q)) x)
    (lower_if true a line) (lowest_if P true a line h)

race_lowest : (us : List Unit) (c : Context) (v : Option Line) → IsRaceVerdict us c v → IsLowest (IsRace us c) v
race_lowest us c None h = h
race_lowest us c (Some b) h = record { here = h.race; least = h.least }

carrier_lowest : (us : List Unit) (c : Context) (v : Option Line) → IsFirstCarrierOf us c v → IsLowest (IsCarrier us c) v
carrier_lowest us c None h = h
carrier_lowest us c (Some b) h = record { here = h.carrier; least = h.least }

lowest_plain : (p : Program) (v : Option Line) → IsLowest (IsUnplainAt p) v → IsPlainVerdict p v
lowest_plain p None h = h
lowest_plain p (Some b) h = record { unplain = h.here; least = h.least }

pub plain_verdict : (p : Program) (race carrier : Option Line) → IsRaceVerdict p.units.units (context p) race → IsFirstCarrierOf p.units.units (context p) carrier → IsPlainVerdict p (earlier race carrier)
plain_verdict p race carrier h g =
    lowest_plain p (earlier race carrier)
    (lowest_earlier (IsRace p.units.units (context p)) (IsCarrier p.units.units (context p)) race carrier (race_lowest p.units.units (context p) race h) (carrier_lowest p.units.units (context p) carrier g))

pub told_verdict : (p : Program) (us : List Unit) (c : Context) (race carrier r : Option Line) → us ≡ p.units.units → c ≡ context p → ∥ IsRaceVerdict p.units.units (context p) race ∥₁
    → IsFirstCarrierOf us c carrier → r ≡ earlier race carrier → ∥ IsPlainVerdict p r ∥₁
told_verdict p us c race carrier r u e h g z =
    let here : IsFirstCarrierOf p.units.units (context p) carrier = subst (λ (d : Context). IsFirstCarrierOf p.units.units d carrier) e (subst (λ (l : List Unit). IsFirstCarrierOf l c carrier) u g) in
    ∥∥₁_map h (λ told. subst (IsPlainVerdict p) (sym z) (plain_verdict p race carrier told here))

line_is : (a b : Line) → a.0 ≤ b.0 → b.0 ≤ a.0 → a ≡ b
line_is a b low high = let same : a.0 ≡ b.0 = omega (arith, low, high) in ap (λ (n : ℕ). record { 0 = n }) same

pub one_verdict : (p : Program) (v w : Option Line) → IsPlainVerdict p v → IsPlainVerdict p w → v ≡ w
one_verdict p None None h g = refl
one_verdict p None (Some l) h g = absurd (h l.0 g.unplain)
one_verdict p (Some l) None h g = absurd (g l.0 h.unplain)
one_verdict p (Some l) (Some k) h g = ap (λ (x : Line). Some x) (line_is l k (h.least k.0 g.unplain) (g.least l.0 h.unplain))
