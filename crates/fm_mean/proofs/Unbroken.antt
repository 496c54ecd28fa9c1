-- What it means of a program that its rules hold: lists of broken places without any.
use Rattle.std.proofs.Common.{◌≡◌, List, [], inl, inr, sym, ap, ◌∙◌, subst}
use Rattle.std.proofs.Math.Logic.{∥∥₁_elim}
use Rattle.std.specs.Prelude.{Contains}
use Rattle.fm_base.specs.declared.rule.Refusal.{Refusal}
use Rattle.fm_base.specs.Verdict.{IsClean}
use Rattle.fm_tree.specs.declared.program_unit.Placed.{Placed}
use Rattle.fm_tree.specs.declared.program_unit.Unit as tree
use Rattle.fm_tree.specs.declared.program_unit.Units.{Units}
use Rattle.fm_symbols.specs.declared.names.Names.{Names}
use Rattle.fm_symbols.specs.declared.names.UnitNames.{UnitNames}
use Rattle.fm_symbols.specs.Context.{context_of}
use Rattle.fm_rules.specs.Units.{units_of}
use Rattle.fm_rules.specs.BrokenStructure.{broken_structure}
use Rattle.fm_rules.specs.Names.{names_of}
use Rattle.fm_rules.specs.BrokenNames.{broken_names}
use Rattle.fm_rules.specs.Broken.{Then, IsBrokenUnit, IsBrokenUse}
use Rattle.fm_rules.specs.Program.{AreShaped, IsLawful}
use Rattle.fm_rules.specs.declared.program.Program.{Program}
pub use Rattle.fm_rules.proofs.Empty.{nothing_in, left_empty, right_empty, each_empty, not_when, or_left, or_right}

-- ---- phases that are clean

pub first_clean : (P Q : Refusal → Type 0) → IsClean (Then P Q) → IsClean P
first_clean P Q clean q b = clean q (inl b)

pub next_clean : (P Q : Refusal → Type 0) → IsClean (Then P Q) → IsClean Q
next_clean P Q clean q b = clean q (inr (first_clean P Q clean, b))

-- ---- what a program keeps

-- units and names that break no rule
pub record Unbroken (us : List tree.Unit) (ns : List UnitNames) : Type 0 where
  pub statements : List Placed
  pub shaped : AreShaped statements
  pub units_are : us ≡ units_of statements
  pub names_are : ns ≡ names_of us
  pub structure : broken_structure statements ≡ []
  pub names : broken_names us ≡ []
  pub uses : IsClean (IsBrokenUse us ns (context_of us ns))

use_in : (us : List tree.Unit) (ns : List UnitNames) → IsClean (IsBrokenUse us ns (context_of us ns)) → (vs : List tree.Unit) (ms : List UnitNames) → vs ≡ us → ms ≡ ns → IsClean (IsBrokenUse vs ms (context_of vs ms))
use_in us ns clean vs ms same alike =
    subst (λ (ms : List UnitNames). IsClean (IsBrokenUse vs ms (context_of vs ms))) (sym alike)
    (subst (λ (vs : List tree.Unit). IsClean (IsBrokenUse vs ns (context_of vs ns))) (sym same) clean)

pub opened : (units : Units) (names : Names) → IsLawful units names → Unbroken units.units names.units
opened units names h =
    let ps = h.0 in
    let unit : IsClean (IsBrokenUnit (units_of ps)) = next_clean (Contains (broken_structure ps)) (IsBrokenUnit (units_of ps)) h.1.clean in
    let ns = names_of (units_of ps) in
    record {
      statements = ps;
      shaped = h.1.shaped;
      units_are = h.1.units_are;
      names_are = h.1.names_are ∙ ap names_of (sym h.1.units_are);
      structure = nothing_in (broken_structure ps) (first_clean (Contains (broken_structure ps)) (IsBrokenUnit (units_of ps)) h.1.clean);
      names = ap broken_names h.1.units_are
          ∙ nothing_in (broken_names (units_of ps)) (first_clean (Contains (broken_names (units_of ps))) (IsBrokenUse (units_of ps) ns (context_of (units_of ps) ns)) unit);
      uses = use_in (units_of ps) ns (next_clean (Contains (broken_names (units_of ps))) (IsBrokenUse (units_of ps) ns (context_of (units_of ps) ns)) unit) units.units names.units h.1.units_are h.1.names_are;
    }

-- what follows from it, if it is a proposition
pub from_rules : (p : Program) (P : Type 0) → IsProp P → (Unbroken p.units.units p.names.units → P) → P
from_rules p P prop f = ∥∥₁_elim p.lawful prop (λ h. f (opened p.units p.names h))

-- the use of names breaks no rule
pub uses_clean : (p : Program) → IsClean (IsBrokenUse p.units.units p.names.units (context_of p.units.units p.names.units))
uses_clean p q broken = from_rules p ⊥ (λ a b. absurd a) (λ h. h.uses q broken)
