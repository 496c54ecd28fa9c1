-- The code of a unit stands at the number of the unit.
use Rattle.std.proofs.Common.{◌≡◌, ℕ, zero, suc, ◌<◌, ◌≤◌, Option, Some, None, List, [], ◌∷◌, ◌++◌, length, refl, sym, ap, ◌∙◌, arith, length-append, ⊎_elim}
use Rattle.std.specs.Prelude.{slice_get}
use Rattle.std.proofs.lemmas.Bool.{cases_lt}
use Rattle.std.proofs.lemmas.Option.{slice_get_within}
use Rattle.fm_tree.specs.declared.program_unit.Unit as tree
use Rattle.fm_symbols.specs.declared.names.UnitNames.{UnitNames}
use Rattle.fm_rules.specs.declared.program.Program.{Program}
use Rattle.fm_mean.specs.Names.{ProgramUnit, unit_at, unit_with}
use Rattle.fm_gen.specs.Units.{unit_of_code}
use Rattle.fm_gen.specs.Programs.{unit_if, units_of_code}

there : {A : Type 0} (xs : List A) (k : ℕ) → k < length xs → (x : A) × (slice_get xs k ≡ Some x)
there [] k less = absurd (omega (arith, less))
there (x ∷ xs) zero less = (x, refl)
there (x ∷ xs) (suc k) less = there xs k (omega (arith, less))

left : {A : Type 0} (xs ys : List A) (k : ℕ) → k < length xs → slice_get (xs ++ ys) k ≡ slice_get xs k
left [] ys k less = absurd (omega (arith, less))
left (x ∷ xs) ys zero less = refl
left (x ∷ xs) ys (suc k) less = left xs ys k (omega (arith, less))

last : {A : Type 0} (xs : List A) (x : A) (k : ℕ) → k ≡ length xs → slice_get (xs ++ x ∷ []) k ≡ Some x
last [] x zero e = refl
last [] x (suc k) e = absurd (omega (arith, e))
last (y ∷ xs) x zero e = absurd (omega (arith, e))
last (y ∷ xs) x (suc k) e = last xs x k (omega (arith, e))

within : {A : Type 0} (xs : List A) (o : Option A) (k : ℕ) (u : ProgramUnit) → slice_get xs k ≡ o → (o ≡ None → ⊥) → k < length xs
within xs None k u is some = absurd (some refl)
within xs (Some x) k u is some = slice_get_within xs k x is

no_tree : (o : Option tree.Unit) (n : Option UnitNames) (u : ProgramUnit) → unit_with o n ≡ Some u → o ≡ None → ⊥
no_tree None n u is none = absurd (cc)
no_tree (Some t) n u is none = absurd (cc)

no_names : (o : Option tree.Unit) (n : Option UnitNames) (u : ProgramUnit) → unit_with o n ≡ Some u → n ≡ None → ⊥
no_names None n u is none = absurd (cc)
no_names (Some t) None u is none = absurd (cc)
no_names (Some t) (Some n) u is none = absurd (cc)

module _ (p : Program) where
  pub tree_within : (k : ℕ) (u : ProgramUnit) → unit_at p k ≡ Some u → k < length p.units.units
  tree_within k u is =
      within p.units.units (slice_get p.units.units k) k u refl (no_tree (slice_get p.units.units k) (slice_get p.names.units k) u is)

  -- units stand before a unit
  unit_before : (k j : ℕ) (u : ProgramUnit) → unit_at p k ≡ Some u → j < k → (v : ProgramUnit) × (unit_at p j ≡ Some v)
  unit_before k j u is less =
      let names = within p.names.units (slice_get p.names.units k) k u refl (no_names (slice_get p.units.units k) (slice_get p.names.units k) u is) in
      let t = there p.units.units j (omega (arith, less, tree_within k u is)) in
      let n = there p.names.units j (omega (arith, less, names)) in
      (record { tree = t.0; names = n.0 }, λ i. unit_with (t.1 i) (n.1 i))

  counted : (k j : ℕ) (u : ProgramUnit) → unit_at p k ≡ Some u → j ≤ k → length (units_of_code p j) ≡ j
  counted k zero u is le = refl
  counted k (suc j) u is le =
      let before = unit_before k j u is (omega (arith, le)) in
      let one : length (unit_if p (unit_at p j)) ≡ 1 = ap (λ o. length (unit_if p o)) before.1 in
      omega (arith, one, length-append (units_of_code p j) (unit_if p (unit_at p j)), counted k j u is (omega (arith, le)))

  at_number : (n k : ℕ) (u : ProgramUnit) → unit_at p k ≡ Some u → k < n → slice_get (units_of_code p n) k ≡ Some (unit_of_code p u)
  at_number zero k u is less = absurd (omega (arith, less))
  at_number (suc n) k u is less = ⊎_elim
      (λ (l : k < n).
      let before = at_number n k u is l in
      left (units_of_code p n) (unit_if p (unit_at p n)) k (slice_get_within (units_of_code p n) k (unit_of_code p u) before) ∙ before)
      (λ (l : n ≤ k).
      let same : n ≡ k = omega (arith, l, less) in
      (λ i. slice_get (units_of_code p (same i) ++ unit_if p (unit_at p (same i))) k)
      ∙ ap (λ o. slice_get (units_of_code p k ++ unit_if p o) k) is
      ∙ last (units_of_code p k) (unit_of_code p u) k (sym (counted k k u is (omega arith))))
      (cases_lt k n)

  pub unit_there : (k : ℕ) (u : ProgramUnit) → unit_at p k ≡ Some u → slice_get (units_of_code p (length p.units.units)) k ≡ Some (unit_of_code p u)
  unit_there k u is = at_number (length p.units.units) k u is (tree_within k u is)
