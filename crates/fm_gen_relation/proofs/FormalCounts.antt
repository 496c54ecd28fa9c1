-- A unit has a variable for each formal of its heading, and no other formals.
use Rattle.std.proofs.Common.{◌≡◌, ◌⊎◌, inl, inr, ℕ, zero, suc, ◌+◌, ◌<◌, Bool, true, false, cond, ◌||◌, Option, Some, None, unwrap_or, List, [], ◌∷◌, ◌++◌, map, length, slice_get, refl, sym, ap, ◌∙◌, subst, arith}
use Rattle.std.specs.Prelude.{if◌then◌else◌}
use Rattle.std.specs.FinMap.{get}
use Rattle.std.specs.List.{list_any}
use Rattle.std.proofs.lemmas.List.Folds.{list_any-append}
use native.Mathlib.Nat.{ℕ_set}
use Rattle.fm_tree.specs.declared.program_unit.Unit as tree
use Rattle.fm_symbols.specs.ByName.{ByName}
use Rattle.fm_symbols.specs.Context.{constant_entry, symbols_of, variable_entries, symbol_place}
use Rattle.fm_symbols.specs.Headings.{heading_formals}
use Rattle.fm_symbols.specs.declared.names.Constant.{Constant}
use Rattle.fm_symbols.specs.declared.symbol.Symbol.{Symbol}
use Rattle.fm_rules.specs.FunctionTitles as facts
use Rattle.fm_rules.specs.declared.sheet.Occurrence.{Occurrence}
use Rattle.fm_rules.specs.Occurrences.{first_occurrences, is_of, occurrences}
use Rattle.fm_rules.proofs.Earlier.{first_occurrences_behind, firsts_behind}
use Rattle.fm_rules.specs.declared.sheet.Sheet.{Sheet}
use Rattle.fm_rules.specs.Sheets.{numbered, sheet_of}
use Rattle.fm_rules.specs.Variables.{laid_out, names_variable, those_that, variable, variables_among, words_of}
use Rattle.fm_rules.specs.Names.{unit_names}
use Rattle.fm_rules.specs.BrokenNames.{broken_in}
use Rattle.fm_rules.specs.declared.program.Program.{Program}
use Rattle.fm_mean.specs.Names.{ProgramUnit, same_name, unit_at}
use Rattle.fm_mean.specs.Calls.{is_formal}
use Rattle.fm_mean.proofs.Clashes.{formals_distinct}
use Rattle.fm_mean.proofs.FirstEntries.{first_entry, first_there}
use Rattle.fm_mean.proofs.JudgedValues.{constant_placeless}
use Rattle.fm_mean.proofs.Meanings.{entry_in, none_some}
use Rattle.fm_mean.proofs.Members.{In, in_either, name_is, passing, same_names}
use Rattle.fm_mean.proofs.Sizes.{parts_of}
use Rattle.fm_mean.proofs.Unbroken.{from_rules, or_left, or_right}
use Rattle.fm_mean.proofs.UnitMeanings.{first_parts, formal_symbol}
use Rattle.fm_gen_relation.specs.Sound.{formals_among}
use Rattle.fm_mean.proofs.FirstUnits.{by_rules}

never : true ≡ false → ⊥
never e = absurd (cc)

abbrev Name : Type 0
Name = List ℕ

-- ---- names that stand once

same_both : (a b : Name) → same_name a b ≡ false → same_name b a ≡ false
same_both a b e = go (same_name b a) refl
  where
    go : (t : Bool) → same_name b a ≡ t → t ≡ false
    go true is = absurd (never (sym (same_names a b (sym (name_is b a is))) ∙ e))
    go false is = refl

-- each name of these stands once
abbrev pub Distinct : List Occurrence → Type 0
Distinct [] = Unit {0}
Distinct (o ∷ os) = (list_any (is_of o.name) os ≡ false) × Distinct os

or_same : (a : Bool) → (a || (true || false)) ≡ true
or_same true = refl
or_same false = refl

-- the first of a name that stands before is not here
none_again : (q : Name) (before os : List Occurrence) → list_any (is_of q) before ≡ true → list_any (is_of q) (firsts_behind before os) ≡ false
none_again q before [] known = refl
none_again q before (o ∷ os) known = go (list_any (is_of o.name) before) refl (is_of q o) refl (none_again q (before ++ o ∷ []) os still)
  where
    still : list_any (is_of q) (before ++ o ∷ []) ≡ true
    still = list_any-append (is_of q) before (o ∷ []) ∙ ap (λ (b : Bool). b || (is_of q o || false)) known

    go : (b : Bool) → list_any (is_of o.name) before ≡ b → (s : Bool) → is_of q o ≡ s → list_any (is_of q) (firsts_behind (before ++ o ∷ []) os) ≡ false
        → list_any (is_of q) (cond b (firsts_behind (before ++ o ∷ []) os) (o ∷ firsts_behind (before ++ o ∷ []) os)) ≡ false
    go true is s same rest = rest
    go false is true same rest = absurd (never (sym (ap (λ (n : Name). list_any (is_of n) before) (sym (name_is q o.name same)) ∙ known) ∙ is))
    go false is false same rest = ap (λ (b : Bool). b || list_any (is_of q) (firsts_behind (before ++ o ∷ []) os)) same ∙ rest

distinct_behind : (before os : List Occurrence) → Distinct (firsts_behind before os)
distinct_behind before [] = tt
distinct_behind before (o ∷ os) = go (list_any (is_of o.name) before) (distinct_behind (before ++ o ∷ []) os)
  where
    here : list_any (is_of o.name) (before ++ o ∷ []) ≡ true
    here = list_any-append (is_of o.name) before (o ∷ []) ∙ ap (λ (b : Bool). list_any (is_of o.name) before || (b || false)) (same_names o.name o.name refl) ∙ or_same (list_any (is_of o.name) before)

    go : (b : Bool) → Distinct (firsts_behind (before ++ o ∷ []) os) → Distinct (cond b (firsts_behind (before ++ o ∷ []) os) (o ∷ firsts_behind (before ++ o ∷ []) os))
    go true rest = rest
    go false rest = (none_again o.name (before ++ o ∷ []) os here, rest)

distinct_firsts : (os : List Occurrence) → Distinct (first_occurrences os)
distinct_firsts os = subst Distinct (sym (first_occurrences_behind os)) (distinct_behind [] os)

none_chosen : (f test : Occurrence → Bool) (os : List Occurrence) → list_any f os ≡ false → list_any f (those_that test os) ≡ false
none_chosen f test [] e = refl
none_chosen f test (o ∷ os) e = go (test o) (none_chosen f test os (or_right (f o) (list_any f os) e))
  where
    go : (b : Bool) → list_any f (those_that test os) ≡ false → list_any f (if b then o ∷ those_that test os else those_that test os) ≡ false
    go true rest = ap (λ (b : Bool). b || list_any f (those_that test os)) (or_left (f o) (list_any f os) e) ∙ rest
    go false rest = rest

distinct_chosen : (test : Occurrence → Bool) (os : List Occurrence) → Distinct os → Distinct (those_that test os)
distinct_chosen test [] h = tt
distinct_chosen test (o ∷ os) h = go (test o) (distinct_chosen test os h.1)
  where
    go : (b : Bool) → Distinct (those_that test os) → Distinct (if b then o ∷ those_that test os else those_that test os)
    go true rest = (none_chosen (is_of o.name) test os h.0, rest)
    go false rest = rest

-- ---- counting

-- how many names of these pass a test
abbrev count : (Name → Bool) → List Occurrence → ℕ
count test [] = 0
count test (o ∷ os) = cond (test o.name) (suc (count test os)) (count test os)

count_by : (f g : Name → Bool) → ((name : Name) → f name ≡ g name) → (os : List Occurrence) → count f os ≡ count g os
count_by f g alike [] = refl
count_by f g alike (o ∷ os) = ap (λ b. cond b (suc (count f os)) (count f os)) (alike o.name) ∙ ap (λ n. cond (g o.name) (suc n) n) (count_by f g alike os)

count_none : (os : List Occurrence) → count (λ name. false) os ≡ 0
count_none [] = refl
count_none (o ∷ os) = count_none os

-- those that pass one of two tests, of which no name passes both
count_either : (f g : Name → Bool) → ((name : Name) → f name ≡ true → g name ≡ false) → (os : List Occurrence) → count (λ name. f name || g name) os ≡ count f os + count g os
count_either f g apart [] = omega arith
count_either f g apart (o ∷ os) = go (f o.name) (g o.name) (apart o.name) (count_either f g apart os)
  where
    go : (a b : Bool) → (a ≡ true → b ≡ false) → count (λ name. f name || g name) os ≡ count f os + count g os
        → cond (a || b) (suc (count (λ name. f name || g name) os)) (count (λ name. f name || g name) os) ≡ cond a (suc (count f os)) (count f os) + cond b (suc (count g os)) (count g os)
    go true true h rest = absurd (never (h refl))
    go true false h rest = omega (arith, rest)
    go false true h rest = omega (arith, rest)
    go false false h rest = rest

-- a name that stands among them is counted once
count_absent : (os : List Occurrence) (x : Name) → list_any (is_of x) os ≡ false → count (λ name. same_name name x) os ≡ 0
count_absent [] x e = refl
count_absent (o ∷ os) x e =
    ap (λ b. cond b (suc (count (λ name. same_name name x) os)) (count (λ name. same_name name x) os)) (same_both x o.name (or_left (is_of x o) (list_any (is_of x) os) e))
    ∙ count_absent os x (or_right (is_of x o) (list_any (is_of x) os) e)

count_one : (os : List Occurrence) (x : Name) (o : Occurrence) → Distinct os → In o os → x ≡ o.name → count (λ name. same_name name x) os ≡ 1
count_one [] x o h within same = absurd within
count_one (y ∷ os) x o h within same = go (same_name y.name x) refl within (λ later. count_one os x o h.1 later same)
  where
    none : same_name y.name x ≡ true → count (λ name. same_name name x) os ≡ 0
    none is = count_absent os x (ap (λ (n : Name). list_any (is_of n) os) (sym (name_is y.name x is)) ∙ h.0)

    go : (b : Bool) → same_name y.name x ≡ b → (y ≡ o) ⊎ In o os → (In o os → count (λ name. same_name name x) os ≡ 1) → cond b (suc (count (λ name. same_name name x) os)) (count (λ name. same_name name x) os) ≡ 1
    go true is within rest = ap suc (none is) ∙ omega arith
    go false is (inl here) rest = absurd (never (sym (same_names y.name x (ap (λ (z : Occurrence). z.name) here ∙ sym same)) ∙ is))
    go false is (inr later) rest = rest later

index_of : {X : Type 0} (x : X) (xs : List X) → In x xs → (i : ℕ) × (slice_get xs i ≡ Some x)
index_of x [] h = absurd h
index_of x (y ∷ xs) (inl e) = (zero, ap Some e)
index_of x (y ∷ xs) (inr h) = let r = index_of x xs h in (suc r.0, r.1)

abbrev Once : List Name → Type 0
Once names = (j i : ℕ) (a : Name) → j < i → slice_get names j ≡ Some a → slice_get names i ≡ Some a → ⊥

once_less : (x : Name) (names : List Name) → Once (x ∷ names) → Once names
once_less x names h j i a less at there = h (suc j) (suc i) a (omega (arith, less)) at there

once_apart : (x : Name) (names : List Name) → Once (x ∷ names) → (name : Name) → same_name name x ≡ true → list_any (same_name name) names ≡ false
once_apart x names h name is = go (list_any (same_name name) names) refl
  where
    go : (b : Bool) → list_any (same_name name) names ≡ b → b ≡ false
    go true e =
        let y = passing (same_name name) names e in
        let i = index_of y.0 names y.1 in
        absurd (h zero (suc i.0) x (omega arith) refl (i.1 ∙ ap Some (sym (name_is name y.0 y.2) ∙ name_is name x is)))
    go false e = refl

-- of names that stand once, as many are counted as there are
count_names : (names : List Name) (os : List Occurrence) → Once names → Distinct os → ((name : Name) → In name names → (o : Occurrence) × In o os × (name ≡ o.name)) → count (λ name. list_any (same_name name) names) os ≡ length names
count_names [] os once h there = count_none os
count_names (x ∷ names) os once h there =
    let here = there x (inl refl) in
    count_either (λ name. same_name name x) (λ name. list_any (same_name name) names) (once_apart x names once) os
    ∙ ap (λ n. n + count (λ name. list_any (same_name name) names) os) (count_one os x here.0 h here.1 here.2)
    ∙ ap (λ n. 1 + n) (count_names names os (once_less x names once) h (λ name k. there name (inr k)))
    ∙ omega arith

-- ---- formals

numbered_formal : (names : List Name) (number : ℕ) (name : Name) → is_formal number ≡ true → is_formal (unwrap_or (first_entry (numbered number names) name) 0) ≡ list_any (same_name name) names
numbered_formal [] number name e = refl
numbered_formal (x ∷ names) number name e = go (same_name name x) (numbered_formal names (number + 1) name (next number e))
  where
    next : (n : ℕ) → is_formal n ≡ true → is_formal (n + 1) ≡ true
    next zero h = absurd (cc)
    next (suc n) h = ap is_formal (later n)
      where
        later : (n : ℕ) → suc n + 1 ≡ suc (suc n)
        later n = omega arith

    go : (b : Bool) → is_formal (unwrap_or (first_entry (numbered (number + 1) names) name) 0) ≡ list_any (same_name name) names
        → is_formal (unwrap_or (cond b (Some number) (first_entry (numbered (number + 1) names) name)) 0) ≡ (b || list_any (same_name name) names)
    go true rest = e
    go false rest = rest

laid_formals : (s : Sheet) (first : ℕ) (os : List Occurrence) → length (formals_among (laid_out s first os)) ≡ count (λ name. is_formal (unwrap_or (get s.formals name) 0)) os
laid_formals s first [] = refl
laid_formals s first (o ∷ os) = go (is_formal (unwrap_or (get s.formals o.name) 0)) (laid_formals s (first + words_of s o.name) os)
  where
    go : (b : Bool) → length (formals_among (laid_out s (first + words_of s o.name) os)) ≡ count (λ name. is_formal (unwrap_or (get s.formals name) 0)) os
        → length (cond b (variable s first o.name ∷ formals_among (laid_out s (first + words_of s o.name) os)) (formals_among (laid_out s (first + words_of s o.name) os)))
        ≡ cond b (suc (count (λ name. is_formal (unwrap_or (get s.formals name) 0)) os)) (count (λ name. is_formal (unwrap_or (get s.formals name) 0)) os)
    go true e = ap suc e
    go false e = e

-- an entry of a variable has the name of its occurrence
variable_named : (s : Sheet) (first place : ℕ) (os : List Occurrence) (e : Name × Symbol) → In e (variable_entries place (laid_out s first os)) → (o : Occurrence) × In o os × (e.0 ≡ o.name)
variable_named s first place [] e h = absurd h
variable_named s first place (o ∷ os) e (inl same) = (o, inl refl, ap (λ (x : Name × Symbol). x.0) (sym same))
variable_named s first place (o ∷ os) e (inr h) = let r = variable_named s (first + words_of s o.name) (place + 1) os e h in (r.0, inr r.1, r.2)

constant_nowhere : (cs : List (Name × Constant)) (e : Name × Symbol) → In e (map constant_entry cs) → symbol_place (Some e.1) ≡ None
constant_nowhere [] e h = absurd h
constant_nowhere (c ∷ cs) e (inl same) = subst (λ (x : Name × Symbol). symbol_place (Some x.1) ≡ None) same (constant_placeless c.1)
constant_nowhere (c ∷ cs) e (inr h) = constant_nowhere cs e h

module _ (titles : ByName Bool) (u : tree.Unit) (clean : broken_in titles u ≡ []) where
  abbrev s : Sheet
  s = sheet_of u

  abbrev variables : List Occurrence
  variables = variables_among titles u.heading.stmt (sheet_of u) (sheet_of u).first

  abbrev names : List Name
  names = heading_formals u.heading.stmt

  -- a name with a place is that of a variable
  placed_among : (name : Name) (y : Symbol) (k : ℕ) → get (symbols_of (unit_names titles u)) name ≡ Some y → symbol_place (Some y) ≡ Some k → (o : Occurrence) × In o variables × (name ≡ o.name)
  placed_among name y k is at =
      let n = unit_names titles u in
      let constants = map constant_entry n.constants in
      let entries = variable_entries 0 n.variables in
      let e = entry_in (constants ++ entries) name y (sym (first_there (constants ++ entries) name) ∙ is) in
      go e.0 e.2 (ap (λ (y : Symbol). symbol_place (Some y)) e.3 ∙ at) (in_either e.0 constants entries e.1)
    where
      go : (e : Name × Symbol) → name ≡ e.0 → symbol_place (Some e.1) ≡ Some k → In e (map constant_entry (unit_names titles u).constants) ⊎ In e (variable_entries 0 (unit_names titles u).variables) → (o : Occurrence) × In o variables × (name ≡ o.name)
      go e same place (inl h) = absurd (none_some k (sym (constant_nowhere (unit_names titles u).constants e h) ∙ place))
      go e same place (inr h) = let r = variable_named (sheet_of u) 0 0 variables e h in (r.0, r.1, same ∙ r.2)

  formal_among : (name : Name) → In name names → (o : Occurrence) × In o variables × (name ≡ o.name)
  formal_among name h =
      let i = index_of name names h in
      go (get (symbols_of (unit_names titles u)) name) refl (formal_symbol titles u clean i.0 name i.1)
    where
      go : {k : ℕ} (o : Option Symbol) → get (symbols_of (unit_names titles u)) name ≡ o → symbol_place (get (symbols_of (unit_names titles u)) name) ≡ Some k → (o : Occurrence) × In o variables × (name ≡ o.name)
      go {k} None is at = absurd (none_some k (sym (ap symbol_place is) ∙ at))
      go {k} (Some y) is at = placed_among name y k is (sym (ap symbol_place is) ∙ at)

  pub variables_distinct : Distinct variables
  variables_distinct = distinct_chosen (names_variable titles u.heading.stmt s) s.first (distinct_firsts (occurrences _ u))

  pub unit_formals : length (formals_among (unit_names titles u).variables) ≡ length (heading_formals u.heading.stmt)
  unit_formals =
      laid_formals s 0 variables
      ∙ count_by (λ name. is_formal (unwrap_or (get s.formals name) 0)) (λ name. list_any (same_name name) names)
      (λ name. ap (λ (o : Option ℕ). is_formal (unwrap_or o 0)) (first_there (numbered 1 names) name) ∙ numbered_formal names 1 name refl) variables
      ∙ count_names names variables (formals_distinct titles u (first_parts titles u clean).0)
      variables_distinct formal_among

-- of a program
pub formals_counted : (p : Program) (number : ℕ) (u : ProgramUnit) → unit_at p number ≡ Some u → length (formals_among u.names.variables) ≡ length (heading_formals u.tree.heading.stmt)
formals_counted p number u is =
    let some = length (formals_among u.names.variables) in
    from_rules p (some ≡ length (heading_formals u.tree.heading.stmt)) (ℕ_set some (length (heading_formals u.tree.heading.stmt)))
    (λ h.
    let titles = facts.titles_of p.units.units in
    let rules = by_rules p.units.units p.names.units h number u (parts_of p number u is).0 (parts_of p number u is).1 in
    ap (λ n. length (formals_among n.variables)) rules.names_are ∙ unit_formals titles u.tree rules.clean)
