-- The verdict of phases, one after the other.
use Rattle.std.proofs.Common.{◌≡◌, inl, inr, ⊎_elim, List, refl, ap, ◌∙◌, subst}
use Rattle.std.specs.Prelude.{Option, Some, None, Result, Ok, Err, IfOk, IfErr, Contains}
use Rattle.fm_base.specs.declared.rule.CheckFail.{CheckFail}
use Rattle.fm_base.specs.declared.rule.CheckFail.TheVariants.{Refused, NoMemory}
use Rattle.fm_base.specs.declared.rule.Refusal.{Refusal}
use Rattle.fm_base.specs.Verdict.{IsClean, IsLeast, IsRefusal, IsVerdict}
use Rattle.fm_base.proofs.Least.{verdict_same}
use Rattle.fm_tree.specs.declared.program_unit.Placed.{Placed}
use Rattle.fm_tree.specs.declared.program_unit.Unit.{Unit}
use Rattle.fm_symbols.specs.declared.names.UnitNames.{UnitNames}
use Rattle.fm_symbols.specs.declared.context.Context.{Context}
use Rattle.fm_symbols.specs.Context.{context_of}
use Rattle.fm_rules.specs.Units.{units_of}
use Rattle.fm_rules.specs.BrokenStructure.{broken_structure}
use Rattle.fm_rules.specs.Names.{names_of}
use Rattle.fm_rules.specs.BrokenNames.{broken_names}
use Rattle.fm_tree.specs.declared.program_unit.Units.{Units}
use Rattle.fm_symbols.specs.declared.names.Names.{Names}
use Rattle.fm_rules.specs.declared.program.Program.{Program}
use Rattle.fm_rules.specs.Broken.{IsBrokenStatement, IsBrokenUnit, IsBrokenUse, Then}
use Rattle.fm_rules.specs.Program.{AreShaped, IsChecked, IsLawful, IsNamed}

module _ (P Q : Refusal → Type 0) where
  -- the least of the first is the least of both
  pub then_first : (p : Refusal) → IsLeast P p → IsLeast (Then P Q) p
  then_first p h = record { broken = inl h.broken; least = λ q. ⊎_elim (λ x. h.least q x) (λ x. absurd (x.0 p h.broken)) }

  -- where the first breaks nothing, the second decides
  pub then_next : (v : Option Refusal) → IsClean P → IsVerdict Q v → IsVerdict (Then P Q) v
  then_next v clean w = verdict_same Q (Then P Q) (λ q b. inr (clean, b)) (λ q. ⊎_elim (λ x. absurd (clean q x)) (λ x. x.1)) v w

  pub refused_first : (e : CheckFail) → IsRefusal P e → IsRefusal (Then P Q) e
  refused_first (Refused p) h = then_first p h
  refused_first NoMemory h = tt

  pub refused_next : (e : CheckFail) → IsClean P → IsRefusal Q e → IsRefusal (Then P Q) e
  refused_next (Refused p) clean h = then_next (Some p) clean h
  refused_next NoMemory clean h = tt

module _ (us : List Unit) (ns : List UnitNames) (c : Context) (is : c ≡ context_of us ns) where
  -- the use of names, where what they mean is looked up in a context
  pub use_none : (v : Option Refusal) → IsVerdict (IsBrokenUse us ns c) v → v ≡ None → IsClean (IsBrokenUse us ns (context_of us ns))
  use_none v h e = subst (λ (x : Context). IsClean (IsBrokenUse us ns x)) is (subst (IsVerdict (IsBrokenUse us ns c)) e h)

  pub use_some : (v : Option Refusal) (q : Refusal) → IsVerdict (IsBrokenUse us ns c) v → v ≡ Some q → IsLeast (IsBrokenUse us ns (context_of us ns)) q
  use_some v q h e = subst (λ (x : Context). IsLeast (IsBrokenUse us ns x) q) is (subst (IsVerdict (IsBrokenUse us ns c)) e h)

module _ (us : List Unit) (ns : List UnitNames) (are : ns ≡ names_of us) (named : IsClean (Contains (broken_names us))) where
  -- names and then their use
  pub unit_clean : IsClean (IsBrokenUse us ns (context_of us ns)) → IsClean (IsBrokenUnit us)
  unit_clean h = then_next (Contains (broken_names us)) (IsBrokenUse us (names_of us) (context_of us (names_of us))) None named
      (subst (λ (l : List UnitNames). IsClean (IsBrokenUse us l (context_of us l))) are h)

  pub unit_refused : (e : CheckFail) → IsRefusal (IsBrokenUse us ns (context_of us ns)) e → IsRefusal (IsBrokenUnit us) e
  unit_refused e h = refused_next (Contains (broken_names us)) (IsBrokenUse us (names_of us) (context_of us (names_of us))) e named
      (subst (λ (l : List UnitNames). IsRefusal (IsBrokenUse us l (context_of us l)) e) are h)

pub names_refused : (us : List Unit) (e : CheckFail) → IsRefusal (Contains (broken_names us)) e → IsRefusal (IsBrokenUnit us) e
names_refused us e h = refused_first (Contains (broken_names us)) (IsBrokenUse us (names_of us) (context_of us (names_of us))) e h

module _ (ps : List Placed) where
  pub structure_refused : (e : CheckFail) → IsRefusal (Contains (broken_structure ps)) e → IsRefusal (IsBrokenStatement ps) e
  structure_refused e h = refused_first (Contains (broken_structure ps)) (IsBrokenUnit (units_of ps)) e h

  pub statement_clean : (us : List Unit) → us ≡ units_of ps → IsClean (Contains (broken_structure ps)) → IsClean (IsBrokenUnit us) → IsClean (IsBrokenStatement ps)
  statement_clean us is clean h =
      then_next (Contains (broken_structure ps)) (IsBrokenUnit (units_of ps)) None clean (subst (λ (l : List Unit). IsClean (IsBrokenUnit l)) is h)

  pub statement_refused : (us : List Unit) (e : CheckFail) → us ≡ units_of ps → IsClean (Contains (broken_structure ps)) → IsRefusal (IsBrokenUnit us) e → IsRefusal (IsBrokenStatement ps) e
  statement_refused us e is clean h = refused_next (Contains (broken_structure ps)) (IsBrokenUnit (units_of ps)) e clean (subst (λ (l : List Unit). IsRefusal (IsBrokenUnit l) e) is h)

-- units and names with which nothing is broken are lawful
pub lawful : (units : Units) (names : Names) → IsNamed units names → IsClean (IsBrokenUse units.units names.units (context_of units.units names.units)) → IsLawful units names
lawful units names h clean = (
  h.structure.statements,
  record {
    shaped = h.structure.shaped;
    units_are = h.structure.units_are;
    names_are = h.names_are ∙ ap names_of h.structure.units_are;
    clean = statement_clean h.structure.statements units.units h.structure.units_are h.structure.structured
        (unit_clean units.units names.units h.names_are h.named clean);
  },
)

-- what the last call answers, of the statements
module _ (ps : List Placed) (units : Units) (shaped : AreShaped ps) (are : units.units ≡ units_of ps) (clean : IsClean (Contains (broken_structure ps))) where
  pub checked : (p : Program) → p.units ≡ units → p.names.units ≡ names_of units.units → IsClean (IsBrokenUnit units.units) → IsChecked ps p.units p.names
  checked p same named h = record {
    shaped = shaped;
    units_are = ap (λ (u : Units). u.units) same ∙ are;
    names_are = named ∙ ap names_of are;
    clean = statement_clean ps units.units are clean h;
  }

  pub all_checked : (r : Result Program CheckFail) → IfOk r (λ p. p.units ≡ units) → IfOk r (λ p. p.names.units ≡ names_of units.units) → IfOk r (λ p. IsClean (IsBrokenUnit units.units))
      → IfOk r (λ p. IsChecked ps p.units p.names)
  all_checked (Ok p) same named h = checked p same named h
  all_checked (Err e) same named h = tt

  pub all_refused : (r : Result Program CheckFail) → IfErr r (IsRefusal (IsBrokenUnit units.units)) → IfErr r (IsRefusal (IsBrokenStatement ps))
  all_refused (Ok p) h = tt
  all_refused (Err e) h = statement_refused ps units.units e are clean h

-- and of the units
module _ (us : List Unit) (names : Names) (are : names.units ≡ names_of us) (named : IsClean (Contains (broken_names us))) where
  pub names_kept : (r : Result Program CheckFail) → IfOk r (λ p. p.names ≡ names) → IfOk r (λ p. p.names.units ≡ names_of us)
  names_kept (Ok p) h = ap (λ (n : Names). n.units) h ∙ are
  names_kept (Err e) h = tt

  pub units_clean : (r : Result Program CheckFail) → IfOk r (λ p. IsClean (IsBrokenUse us names.units (context_of us names.units))) → IfOk r (λ p. IsClean (IsBrokenUnit us))
  units_clean (Ok p) h = unit_clean us names.units are named h
  units_clean (Err e) h = tt

  pub units_refused : (r : Result Program CheckFail) → IfErr r (IsRefusal (IsBrokenUse us names.units (context_of us names.units))) → IfErr r (IsRefusal (IsBrokenUnit us))
  units_refused (Ok p) h = tt
  units_refused (Err e) h = unit_refused us names.units are named e h

pub not_some : (v : Option Refusal) → ((q : Refusal) → v ≡ Some q → ⊥) → v ≡ None
not_some None h = refl
not_some (Some q) h = absurd (h q refl)
