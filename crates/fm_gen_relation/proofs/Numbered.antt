-- Each formal among the variables of a unit is the one with its number, and the numbers are those of the heading.
use Rattle.std.proofs.Common.{◌≡◌, inl, inr, ℕ, zero, suc, ◌+◌, ◌<◌, ◌≤◌, ◌==◌, Bool, true, false, cond, Option, Some, None, unwrap_or, List, [], ◌∷◌, length, slice_get, refl, sym, ap, ◌∙◌, subst, arith}
use Rattle.std.specs.FinMap.{get}
use Rattle.std.specs.Coded.{le_prop}
use Rattle.std.specs.List.{list_any}
use Rattle.std.proofs.lemmas.Bool.{eq-eqb, eqb-true}
use native.Mathlib.Nat.{ℕ_set}
use Rattle.fm_tree.specs.declared.program_unit.Unit as tree
use Rattle.fm_symbols.specs.ByName.{ByName}
use Rattle.fm_symbols.specs.Headings.{heading_formals}
use Rattle.fm_symbols.specs.declared.names.UnitNames.{UnitNames}
use Rattle.fm_symbols.specs.declared.names.Variable.{Variable}
use Rattle.fm_rules.specs.FunctionTitles as facts
use Rattle.fm_rules.specs.declared.sheet.Occurrence.{Occurrence}
use Rattle.fm_rules.specs.Occurrences.{is_of}
use Rattle.fm_rules.specs.declared.sheet.Sheet.{Sheet}
use Rattle.fm_rules.specs.Sheets.{numbered, sheet_of}
use Rattle.fm_rules.specs.Variables.{laid_out, variable, variables_among, words_of}
use Rattle.fm_rules.specs.Names.{unit_names}
use Rattle.fm_rules.specs.BrokenNames.{broken_in}
use Rattle.fm_rules.specs.declared.program.Program.{Program}
use Rattle.fm_mean.specs.Names.{ProgramUnit, formal_from, formal_place, unit_at}
use Rattle.fm_mean.specs.Calls.{is_formal}
use Rattle.fm_mean.proofs.FirstEntries.{first_entry, first_there}
use Rattle.fm_mean.proofs.Meanings.{numbered_there}
use Rattle.fm_mean.proofs.Members.{In, passes, same_names}
use Rattle.fm_mean.proofs.Sizes.{parts_of}
use Rattle.fm_mean.proofs.Unbroken.{from_rules}
use Rattle.fm_gen_relation.specs.Sound.{formals_among}
use Rattle.fm_mean.proofs.FirstUnits.{by_rules}
use Rattle.fm_gen_relation.proofs.FormalCounts.{Distinct, unit_formals, variables_distinct}

never : true ≡ false → ⊥
never e = absurd (cc)

the_variable : (a b : Variable) → Some a ≡ Some b → a ≡ b
the_variable a b e = cc

the_name : (a b : List ℕ) → Some a ≡ Some b → a ≡ b
the_name a b e = cc

got_less : {X : Type 0} (xs : List X) (i : ℕ) (x : X) → slice_get xs i ≡ Some x → i < length xs
got_less [] i x e = absurd (cc)
got_less (y ∷ xs) zero x e = omega arith
got_less (y ∷ xs) (suc i) x e = let less = got_less xs i x e in omega (arith, less)

-- Numbers of names.

-- a formal is a name of the heading, and has its number there
record IsNumber (names : List (List ℕ)) (name : List ℕ) (number : ℕ) : Type 0 where
  before : ℕ
  is : number ≡ suc before
  there : slice_get names before ≡ Some name

number_of : (names : List (List ℕ)) (name : List ℕ) → is_formal (unwrap_or (first_entry (numbered 1 names) name) 0) ≡ true → IsNumber names name (unwrap_or (first_entry (numbered 1 names) name) 0)
number_of names name formal = go (first_entry (numbered 1 names) name) refl formal
  where
    go : (o : Option ℕ) → first_entry (numbered 1 names) name ≡ o → is_formal (unwrap_or o 0) ≡ true → IsNumber names name (unwrap_or o 0)
    go None is formal = absurd (cc formal)
    go (Some k) is formal =
        let r = numbered_there names 1 name k is in
        record { before = r.0; is = omega (arith, r.1); there = r.2 }

-- names of one number are one name
one_name : (names : List (List ℕ)) (a b : List ℕ) (m n : ℕ) → IsNumber names a m → IsNumber names b n → m ≡ n → a ≡ b
one_name names a b m n h k e =
    let same : h.before ≡ k.before = omega (arith, h.is, k.is, e) in
    the_name a b (sym h.there ∙ ap (slice_get names) same ∙ k.there)

-- Variables of names that stand once.

module _ (s : Sheet) (names : List (List ℕ)) (numbers : (name : List ℕ) → is_formal (unwrap_or (get s.formals name) 0) ≡ true → IsNumber names name (unwrap_or (get s.formals name) 0)) where
  -- a variable that was laid out is that of a name
  record IsOfName (os : List Occurrence) (v : Variable) : Type 0 where
    occurrence : Occurrence
    within : In occurrence os
    number : v.formal ≡ unwrap_or (get s.formals occurrence.name) 0

  laid_at : (first : ℕ) (os : List Occurrence) (i : ℕ) (v : Variable) → slice_get (laid_out s first os) i ≡ Some v → IsOfName os v
  laid_at first [] i v at = absurd (cc)
  laid_at first (o ∷ os) zero v at =
      record { occurrence = o; within = inl refl; number = ap (λ (w : Variable). w.formal) (sym (the_variable (variable s first o.name) v at)) }
  laid_at first (o ∷ os) (suc i) v at =
      let r = laid_at (first + words_of s o.name) os i v at in
      record { occurrence = r.occurrence; within = inr r.within; number = r.number }

  -- and has its number, where that is one of a formal
  numbered_at : (os : List Occurrence) (v : Variable) (h : IsOfName os v) → is_formal v.formal ≡ true → IsNumber names h.occurrence.name v.formal
  numbered_at os v h formal = subst (IsNumber names h.occurrence.name) (sym h.number) (numbers h.occurrence.name (ap is_formal (sym h.number) ∙ formal))

  -- none of the later ones has the number of the first
  apart : (o : Occurrence) (os : List Occurrence) (v : Variable) → list_any (is_of o.name) os ≡ false → IsOfName os v → is_formal v.formal ≡ true → unwrap_or (get s.formals o.name) 0 ≡ v.formal → ⊥
  apart o os v once h formal e =
      let mine = numbers o.name (ap is_formal e ∙ formal) in
      let name = one_name names o.name h.occurrence.name (unwrap_or (get s.formals o.name) 0) v.formal mine (numbered_at os v h formal) e in
      never (sym (passes (is_of o.name) h.occurrence os h.within (same_names o.name h.occurrence.name name)) ∙ once)

  first_with : (first base : ℕ) (os : List Occurrence) (i : ℕ) (v : Variable) → Distinct os → slice_get (laid_out s first os) i ≡ Some v → is_formal v.formal ≡ true
      → formal_from base v.formal (laid_out s first os) ≡ base + i
  first_with first base [] i v once at formal = absurd (cc)
  first_with first base (o ∷ os) zero v once at formal =
      let rest = formal_from (suc base) v.formal (laid_out s (first + words_of s o.name) os) in
      let e : unwrap_or (get s.formals o.name) 0 ≡ v.formal = ap (λ (w : Variable). w.formal) (the_variable (variable s first o.name) v at) in
      ap (λ b. cond b base rest) (eq-eqb (unwrap_or (get s.formals o.name) 0) v.formal e) ∙ omega arith
  first_with first base (o ∷ os) (suc i) v once at formal =
      go (unwrap_or (get s.formals o.name) 0 == v.formal) refl (first_with (first + words_of s o.name) (suc base) os i v once.1 at formal)
    where
      go : (b : Bool) → (unwrap_or (get s.formals o.name) 0 == v.formal) ≡ b → formal_from (suc base) v.formal (laid_out s (first + words_of s o.name) os) ≡ suc base + i
          → cond b base (formal_from (suc base) v.formal (laid_out s (first + words_of s o.name) os)) ≡ base + suc i
      go true e rest = absurd (apart o os v once.0 (laid_at (first + words_of s o.name) os i v at) formal (eqb-true (unwrap_or (get s.formals o.name) 0) v.formal e))
      go false e rest = rest ∙ omega arith

-- Units.

-- a formal of a unit is where its number says, and its number is that of one of the formals
record IsNumbered (vs : List Variable) (i n : ℕ) : Type 0 where
  place : formal_from 0 n vs ≡ i
  few : n ≤ length (formals_among vs)

numbered_prop : (vs : List Variable) (i n : ℕ) → IsProp (IsNumbered vs i n)
numbered_prop vs i n = hlevel (ℕ_set, le_prop)

unit_numbered : (titles : ByName Bool) (u : tree.Unit) → broken_in titles u ≡ [] → (v : Variable) (i : ℕ) → slice_get (unit_names titles u).variables i ≡ Some v → is_formal v.formal ≡ true
    → IsNumbered (unit_names titles u).variables i v.formal
unit_numbered titles u clean v i at formal =
    let s = sheet_of u in
    let names = heading_formals u.heading.stmt in
    let os = variables_among titles u.heading.stmt s s.first in
    let numbers : (name : List ℕ) → is_formal (unwrap_or (get s.formals name) 0) ≡ true → IsNumber names name (unwrap_or (get s.formals name) 0) = λ name h.
    subst (λ (o : Option ℕ). IsNumber names name (unwrap_or o 0)) (sym (first_there (numbered 1 names) name))
    (number_of names name (ap (λ (o : Option ℕ). is_formal (unwrap_or o 0)) (sym (first_there (numbered 1 names) name)) ∙ h)) in
    let mine = numbered_at s names numbers os v (laid_at s names numbers 0 os i v at) formal in
    record {
      place = first_with s names numbers 0 0 os i v (variables_distinct titles u clean) at formal ∙ omega arith;
      few = omega (arith, mine.is, got_less names mine.before _ mine.there, unit_formals titles u clean);
    }

-- each formal is the one with its number, and these are as many as the formals
pub formals_numbered : (p : Program) (number : ℕ) (u : ProgramUnit) → unit_at p number ≡ Some u → (v : Variable) (i : ℕ) → slice_get u.names.variables i ≡ Some v → is_formal v.formal ≡ true
    → (n : ℕ) × (formal_place u (suc n) ≡ i) × (n < length (formals_among u.names.variables))
formals_numbered p number u is v i at formal =
    let vs = u.names.variables in
    let h : IsNumbered vs i v.formal = from_rules p (IsNumbered vs i v.formal) (numbered_prop vs i v.formal)
    (λ h.
    let titles = facts.titles_of p.units.units in
    let rules = by_rules p.units.units p.names.units h number u (parts_of p number u is).0 (parts_of p number u is).1 in
    subst (λ (n : UnitNames). IsNumbered n.variables i v.formal) (sym rules.names_are)
    (unit_numbered titles u.tree rules.clean v i (subst (λ (n : UnitNames). slice_get n.variables i ≡ Some v) rules.names_are at) formal)) in
    go v.formal formal h
  where
    go : (n : ℕ) → is_formal n ≡ true → IsNumbered u.names.variables i n → (n : ℕ) × (formal_place u (suc n) ≡ i) × (n < length (formals_among u.names.variables))
    go zero e h = absurd (cc e)
    go (suc n) e h = (n, h.place, omega (arith, h.few))
