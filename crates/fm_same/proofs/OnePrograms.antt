-- A program is known by its units: what else it keeps follows from them.
use mathlib.Core.HLevel.{is_prop→PathP}
use mathlib.Core.Logic.{∥∥₁_elim, ∥∥₁_prop}
use mathlib.Core.Path.{PathP, path_j}
use native.Mathlib.Nat.{ℕ_set}
use Rattle.std.proofs.Common.{◌≡◌, ℕ, List, refl, sym, ap, subst₂, ◌∙◌, arith}
use Rattle.std.specs.Prelude.{Option, Some, None, unwrap_or}
use Rattle.fm_base.specs.declared.name.Line.{Line}
use Rattle.fm_rules.specs.Race.{IsRaceVerdict, IsDeterministic, IsFirstRace}
use Rattle.fm_symbols.specs.Context.{context_of}
use Rattle.fm_symbols.specs.declared.context.Context.{Context}
use Rattle.fm_symbols.specs.declared.names.Names.{Names}
use Rattle.fm_symbols.specs.declared.names.UnitNames.{UnitNames}
use Rattle.fm_symbols.specs.contracts.names.Names as names
use Rattle.fm_rules.specs.Names.{names_of}
use Rattle.std.specs.Coded.{Coded-set}
use Rattle.fm_tree.specs.declared.program_unit.Unit.{Unit}
use Rattle.fm_tree.specs.declared.program_unit.Units.{Units}
use Rattle.fm_rules.specs.declared.program.Program.{Program}
use Rattle.fm_rules.specs.Main.{main_of}
use Rattle.fm_rules.specs.Program.{IsLawful, all_links}

-- a value that equals x
abbrev Equal : {X : Type 0} → X → Type 0
Equal {X} x = (y : X) × (y ≡ x)

only : {X : Type 0} (y x : X) (e : y ≡ x) → ◌≡◌ {A = Equal x} (y, e) (x, refl)
only y x e = path_j (λ z (q : y ≡ z). ◌≡◌ {A = Equal z} (y, q) (z, refl)) refl e

one_equal : {X : Type 0} (x : X) (p q : Equal x) → p ≡ q
one_equal x p q = only p.0 x p.1 ∙ sym (only q.0 x q.1)

-- Verdicts on races.

no_race : (us : List Unit) (c : Context) (l : Line) → ∥ IsDeterministic us c ∥₁ → ∥ IsFirstRace us c l ∥₁ → ⊥
no_race us c l t s = ∥∥₁_elim t (λ a b. absurd a) (λ d. ∥∥₁_elim s (λ a b. absurd a) (λ f. d l.0 f.race))

one_line : (us : List Unit) (c : Context) (l k : Line) → ∥ IsFirstRace us c l ∥₁ → ∥ IsFirstRace us c k ∥₁ → l.0 ≡ k.0
one_line us c l k t s = ∥∥₁_elim t (ℕ_set l.0 k.0) (λ f. ∥∥₁_elim s (ℕ_set l.0 k.0) (λ g. omega (arith, f.least k.0 g.race, g.least l.0 f.race)))

one_race : (us : List Unit) (c : Context) (x y : Option Line) → ∥ IsRaceVerdict us c x ∥₁ → ∥ IsRaceVerdict us c y ∥₁ → x ≡ y
one_race us c None None t s = refl
one_race us c None (Some k) t s = absurd (no_race us c k t s)
one_race us c (Some l) None t s = absurd (no_race us c l s t)
one_race us c (Some l) (Some k) t s = ap (λ n. Some (record { 0 = n })) (one_line us c l k t s)

-- Programs.

abbrev program : (u : Units) (n : Names) → ∥ IsLawful u n ∥₁ → (c : Equal (context_of u.units n.units)) → Equal (all_links u.units) → Equal (unwrap_or (main_of u.units) 0)
    → (r : Option Line) → ∥ IsRaceVerdict u.units c.0 r ∥₁ → Program
program u n lawful c l m r race = record {
  units = u;
  names = n;
  context = c.0;
  links = l.0;
  main = m.0;
  race = r;
  lawful = lawful;
  context_is = c.1;
  links_are = l.1;
  main_is = m.1;
  race_is = race;
}

-- programs of the same units and names are one
one_program : (a b : Program) → a.units ≡ b.units → a.names ≡ b.names → a ≡ b
one_program a b eu en =
    let cs : PathP (λ i. Equal (context_of (eu i).units (en i).units)) (a.context, a.context_is) (b.context, b.context_is) =
    is_prop→PathP (λ i. Equal (context_of (eu i).units (en i).units)) (λ i. one_equal (context_of (eu i).units (en i).units)) _ _ in
    let ls : PathP (λ i. Equal (all_links (eu i).units)) (a.links, a.links_are) (b.links, b.links_are) =
    is_prop→PathP (λ i. Equal (all_links (eu i).units)) (λ i. one_equal (all_links (eu i).units)) _ _ in
    let ms : PathP (λ i. Equal (unwrap_or (main_of (eu i).units) 0)) (a.main, a.main_is) (b.main, b.main_is) =
    is_prop→PathP (λ i. Equal (unwrap_or (main_of (eu i).units) 0)) (λ i. one_equal (unwrap_or (main_of (eu i).units) 0)) _ _ in
    let es : a.race ≡ b.race = one_race b.units.units b.context a.race b.race
    (subst₂ (λ us c. ∥ IsRaceVerdict us c a.race ∥₁) (λ i. (eu i).units) (λ i. (cs i).0) a.race_is) b.race_is in
    let fs : PathP (λ i. ∥ IsLawful (eu i) (en i) ∥₁) a.lawful b.lawful = is_prop→PathP (λ i. ∥ IsLawful (eu i) (en i) ∥₁) (λ i. ∥∥₁_prop) _ _ in
    let rs : PathP (λ i. ∥ IsRaceVerdict (eu i).units (cs i).0 (es i) ∥₁) a.race_is b.race_is =
    is_prop→PathP (λ i. ∥ IsRaceVerdict (eu i).units (cs i).0 (es i) ∥₁) (λ i. ∥∥₁_prop) _ _ in
    λ i. program (eu i) (en i) (fs i) (cs i) (ls i) (ms i) (es i) (rs i)

-- units and names are known by their lists
names_are : (a b : Names) → a.units ≡ b.units → a ≡ b
names_are a b e = ap (λ (l : List UnitNames). record { units = l }) e

-- names of checked units follow from the units
names_follow : (u : Units) (n : Names) → IsLawful u n → n.units ≡ names_of u.units
names_follow u n h = h.1.names_are ∙ ap names_of (sym h.1.units_are)

names_set : (a b : Names) → IsProp (a ≡ b)
names_set = Coded-set names.the_row.coded

same_names : (u v : Units) (n m : Names) → u ≡ v → ∥ IsLawful u n ∥₁ → ∥ IsLawful v m ∥₁ → n ≡ m
same_names u v n m e t s =
    ∥∥₁_elim t (names_set n m) (λ h. ∥∥₁_elim s (names_set n m)
    (λ k. names_are n m (names_follow u n h ∙ ap (λ (w : Units). names_of w.units) e ∙ sym (names_follow v m k))))

-- programs of the same units are one
pub by_units : (a b : Program) → a.units ≡ b.units → a ≡ b
by_units a b e = one_program a b e (same_names a.units b.units a.names b.names e a.lawful b.lawful)
