-- The names of a unit that breaks no rule: constants, variables, formals.
use Rattle.std.proofs.Common.{◌≡◌, ◌⊎◌, inl, inr, ℕ, zero, suc, ◌+◌, ◌<◌, ◌==◌, Bool, true, false, cond, Option, Some, None, unwrap_or, List, [], ◌∷◌, ◌++◌, map, slice_get, refl, sym, ap, ◌∙◌, subst, arith, ◌||◌}
use Rattle.std.specs.Prelude.{if◌then◌else◌}
use Rattle.std.specs.FinMap.{get, empty, get-empty}
use Rattle.std.specs.Ordering.{nat_cmp}
use Rattle.std.specs.Cmp.Lexicographic.{slice_cmp}
use Rattle.std.specs.List.{list_any}
use Rattle.std.proofs.lemmas.List.Folds.{list_any-append}
use Rattle.fm_tree.specs.declared.program_unit.Placed.{Placed}
use Rattle.fm_tree.specs.declared.statement.Defined.{Defined}
use Rattle.fm_symbols.specs.ByName.{ByName}
use Rattle.fm_symbols.specs.Context.{constant_entry, constant_symbol, variable_entries, symbol_of, symbol_place}
use Rattle.fm_symbols.specs.declared.names.Constant.{Constant}
use Rattle.fm_symbols.specs.declared.symbol.Symbol.{Symbol}
use Rattle.fm_rules.specs.declared.constants.Known.{Known}
use Rattle.fm_rules.specs.Constants.{constants_of, with_definition, with_definitions, known_from, value_here, entry_of, entries_in, entries_from}
use Rattle.fm_rules.specs.ConstantValues as constants
use Rattle.fm_rules.specs.ConstantParts.{definitions_in}
use Rattle.fm_rules.specs.declared.sheet.Occurrence.{Occurrence}
use Rattle.fm_rules.specs.Occurrences.{is_of, first_occurrences}
use Rattle.fm_rules.proofs.Earlier.{first_occurrences_behind, firsts_behind}
use Rattle.fm_rules.specs.declared.sheet.Sheet.{Sheet}
use Rattle.fm_rules.specs.Sheets.{numbered}
use Rattle.fm_rules.specs.Variables.{those_that, variable, words_of, laid_out}
use Rattle.fm_mean.specs.Names.{same_name, constant_in, formal_from}
use Rattle.fm_mean.proofs.FirstEntries.{or_then, first_entry, new_there}
use Rattle.fm_mean.proofs.JudgedValues.{symbol_placed}
use Rattle.fm_mean.proofs.Members.{In, in_either, name_is, same_names}

pub none_some : {X : Type 0} (x : X) → None ≡ Some x → ⊥
none_some x e = absurd (cc)

-- ---- entries by name

pub first_append : {X : Type 0} (xs ys : List (List ℕ × X)) (q : List ℕ) → first_entry xs q ≡ None → first_entry (xs ++ ys) q ≡ first_entry ys q
first_append [] ys q e = refl
first_append {X} (x ∷ xs) ys q e = go (same_name q x.0) e (λ h. first_append xs ys q h)
  where
    go : (b : Bool) → cond b (Some x.1) (first_entry xs q) ≡ None → (first_entry xs q ≡ None → first_entry (xs ++ ys) q ≡ first_entry ys q) → cond b (Some x.1) (first_entry (xs ++ ys) q) ≡ first_entry ys q
    go true h rest = absurd (none_some x.1 (sym h))
    go false h rest = rest h

-- what has no entry has none in the first part
pub first_front : {X : Type 0} (xs ys : List (List ℕ × X)) (q : List ℕ) → first_entry (xs ++ ys) q ≡ None → (first_entry xs q ≡ None) × (first_entry ys q ≡ None)
first_front [] ys q e = (refl, e)
first_front {X} (x ∷ xs) ys q e = go (same_name q x.0) e (λ h. first_front xs ys q h)
  where
    go : (b : Bool) → cond b (Some x.1) (first_entry (xs ++ ys) q) ≡ None → (first_entry (xs ++ ys) q ≡ None → (first_entry xs q ≡ None) × (first_entry ys q ≡ None)) → (cond b (Some x.1) (first_entry xs q) ≡ None) × (first_entry ys q ≡ None)
    go true h rest = absurd (none_some x.1 (sym h))
    go false h rest = rest h

-- an entry stands in the list
pub entry_in : {X : Type 0} (es : List (List ℕ × X)) (q : List ℕ) (x : X) → first_entry es q ≡ Some x → (e : List ℕ × X) × In e es × (q ≡ e.0) × (e.1 ≡ x)
entry_in [] q x e = absurd (cc)
entry_in {X} (y ∷ es) q x e = go (same_name q y.0) refl e (λ h. entry_in es q x h)
  where
    the_one : (a b : X) → Some a ≡ Some b → a ≡ b
    the_one a b h = cc

    go : (b : Bool) → same_name q y.0 ≡ b → cond b (Some y.1) (first_entry es q) ≡ Some x → (first_entry es q ≡ Some x → (e : List ℕ × X) × In e es × (q ≡ e.0) × (e.1 ≡ x)) → (e : List ℕ × X) × In e (y ∷ es) × (q ≡ e.0) × (e.1 ≡ x)
    go true is h rest = (y, inl refl, name_is q y.0 is, the_one y.1 x h)
    go false is h rest = let r = rest h in (r.0, inr r.1, r.2, r.3)

-- ---- constants

-- a name that is known is defined
defined_among : (ds : List Defined) (m : ByName Known) (place item : ℕ) (q : List ℕ) (k : Known) → get (with_definitions m place item ds) q ≡ Some k → (get m q ≡ Some k) ⊎ ((d : Defined) × In d ds × (d.name ≡ q))
defined_among [] m place item q k e = inl e
defined_among (d ∷ ds) m place item q k e = later (defined_among ds (with_definition m place item d) place (item + 1) q k e)
  where
    here : (o : Option Known) (b : Bool) → get m q ≡ o → same_name q d.name ≡ b → or_then o (cond b (Some (record { value = constants.value_of m place item d.value; place = place; item = item })) None) ≡ Some k
        → (get m q ≡ Some k) ⊎ ((e : Defined) × In e (d ∷ ds) × (e.name ≡ q))
    here (Some y) b is at h = inl (is ∙ h)
    here None true is at h = inr (d, inl refl, sym (name_is q d.name at))
    here None false is at h = absurd (none_some k h)

    later : (get (with_definition m place item d) q ≡ Some k) ⊎ ((e : Defined) × In e ds × (e.name ≡ q)) → (get m q ≡ Some k) ⊎ ((e : Defined) × In e (d ∷ ds) × (e.name ≡ q))
    later (inl h) = here (get m q) (same_name q d.name) refl refl (sym (new_there m d.name (record { value = constants.value_of m place item d.value; place = place; item = item }) q) ∙ h)
    later (inr h) = inr (h.0, inr h.1, h.2)

known_among : (ps : List Placed) (m : ByName Known) (place : ℕ) (q : List ℕ) (k : Known) → get (known_from m place ps) q ≡ Some k → (get m q ≡ Some k) ⊎ ((p : Placed) × (d : Defined) × In p ps × In d (definitions_in p.stmt) × (d.name ≡ q))
known_among [] m place q k e = inl e
known_among (p ∷ ps) m place q k e = later (known_among ps (with_definitions m place 0 (definitions_in p.stmt)) (place + 1) q k e)
  where
    first : (get m q ≡ Some k) ⊎ ((d : Defined) × In d (definitions_in p.stmt) × (d.name ≡ q)) → (get m q ≡ Some k) ⊎ ((r : Placed) × (d : Defined) × In r (p ∷ ps) × In d (definitions_in r.stmt) × (d.name ≡ q))
    first (inl h) = inl h
    first (inr h) = inr (p, h.0, inl refl, h.1, h.2)

    later : (get (with_definitions m place 0 (definitions_in p.stmt)) q ≡ Some k) ⊎ ((r : Placed) × (d : Defined) × In r ps × In d (definitions_in r.stmt) × (d.name ≡ q))
        → (get m q ≡ Some k) ⊎ ((r : Placed) × (d : Defined) × In r (p ∷ ps) × In d (definitions_in r.stmt) × (d.name ≡ q))
    later (inl h) = first (defined_among (definitions_in p.stmt) m place 0 q k h)
    later (inr h) = inr (h.0, h.1, inr h.2, h.3, h.4)

abbrev nothing_known : ByName Known
nothing_known = empty

pub known_defined : (specs : List Placed) (q : List ℕ) (k : Known) → get (constants_of specs) q ≡ Some k → (p : Placed) × (d : Defined) × In p specs × In d (definitions_in p.stmt) × (d.name ≡ q)
known_defined specs q k e = go (known_among specs nothing_known 0 q k e)
  where
    go : (get nothing_known q ≡ Some k) ⊎ ((p : Placed) × (d : Defined) × In p specs × In d (definitions_in p.stmt) × (d.name ≡ q)) → (p : Placed) × (d : Defined) × In p specs × In d (definitions_in p.stmt) × (d.name ≡ q)
    go (inl h) = absurd (none_some k (sym (get-empty (slice_cmp nat_cmp) q) ∙ h))
    go (inr h) = h

-- an entry of a constant is of a name that is known
entry_known : (known : ByName Known) (name : List ℕ) (place item : ℕ) (e : List ℕ × Constant) → In e (entry_of name (value_here (get known name) place item)) → (k : Known) × (get known e.0 ≡ Some k)
entry_known known name place item e h = go (get known name) refl h
  where
    by_value : (k : Known) → get known name ≡ Some k → (v : Option Constant) → In e (entry_of name v) → (k : Known) × (get known e.0 ≡ Some k)
    by_value k is None h = absurd h
    by_value k is (Some c) (inl s) = (k, ap (λ (e : List ℕ × Constant). get known e.0) (sym s) ∙ is)
    by_value k is (Some c) (inr h) = absurd h

    go : (o : Option Known) → get known name ≡ o → In e (entry_of name (value_here o place item)) → (k : Known) × (get known e.0 ≡ Some k)
    go None is h = absurd h
    go (Some k) is h = by_value k is (value_here (Some k) place item) h

among_known : (known : ByName Known) (place item : ℕ) (ds : List Defined) (e : List ℕ × Constant) → In e (entries_in known place item ds) → (k : Known) × (get known e.0 ≡ Some k)
among_known known place item [] e h = absurd h
among_known known place item (d ∷ ds) e h = go (in_either e (entry_of d.name (value_here (get known d.name) place item)) (entries_in known place (item + 1) ds) h) (λ k. among_known known place (item + 1) ds e k)
  where
    go : In e (entry_of d.name (value_here (get known d.name) place item)) ⊎ In e (entries_in known place (item + 1) ds) → (In e (entries_in known place (item + 1) ds) → (k : Known) × (get known e.0 ≡ Some k)) → (k : Known) × (get known e.0 ≡ Some k)
    go (inl a) rest = entry_known known d.name place item e a
    go (inr b) rest = rest b

pub entries_known : (known : ByName Known) (place : ℕ) (ps : List Placed) (e : List ℕ × Constant) → In e (entries_from known place ps) → (k : Known) × (get known e.0 ≡ Some k)
entries_known known place [] e h = absurd h
entries_known known place (p ∷ ps) e h = go (in_either e (entries_in known place 0 (definitions_in p.stmt)) (entries_from known (place + 1) ps) h) (λ k. entries_known known (place + 1) ps e k)
  where
    go : In e (entries_in known place 0 (definitions_in p.stmt)) ⊎ In e (entries_from known (place + 1) ps) → (In e (entries_from known (place + 1) ps) → (k : Known) × (get known e.0 ≡ Some k)) → (k : Known) × (get known e.0 ≡ Some k)
    go (inl a) rest = among_known known place 0 (definitions_in p.stmt) e a
    go (inr b) rest = rest b

pub map_front : (cs : List (List ℕ × Constant)) (q : List ℕ) → ((e : List ℕ × Constant) → In e cs → q ≡ e.0 → ⊥) → first_entry (map constant_entry cs) q ≡ None
map_front [] q none = refl
map_front (c ∷ cs) q none = go (same_name q c.0) refl (map_front cs q (λ e h. none e (inr h)))
  where
    go : (b : Bool) → same_name q c.0 ≡ b → first_entry (map constant_entry cs) q ≡ None → cond b (Some (constant_symbol c.1)) (first_entry (map constant_entry cs) q) ≡ None
    go true is rest = absurd (none c (inl refl) (name_is q c.0 is))
    go false is rest = rest

pub constant_found : (cs : List (List ℕ × Constant)) (q : List ℕ) (c : Constant) → constant_in q cs ≡ Some c → (e : List ℕ × Constant) × In e cs × (q ≡ e.0)
constant_found [] q c e = absurd (cc)
constant_found (x ∷ cs) q c e = go (same_name q x.0) refl e (λ h. constant_found cs q c h)
  where
    go : (b : Bool) → same_name q x.0 ≡ b → cond b (Some x.1) (constant_in q cs) ≡ Some c → (constant_in q cs ≡ Some c → (e : List ℕ × Constant) × In e cs × (q ≡ e.0)) → (e : List ℕ × Constant) × In e (x ∷ cs) × (q ≡ e.0)
    go true is h rest = (x, inl refl, name_is q x.0 is)
    go false is h rest = let r = rest h in (r.0, inr r.1, r.2)

-- ---- occurrences

either_known : (a b : Bool) → (a || (b || false)) ≡ true → (a ≡ true) ⊎ (b ≡ true)
either_known true b e = inl refl
either_known false true e = inr refl
either_known false false e = absurd (cc e)

-- the name of o is among those before, or the first of its name is here
abbrev IsNoted : List Occurrence → Occurrence → List Occurrence → Type 0
IsNoted before o firsts = (list_any (is_of o.name) before ≡ true) ⊎ ((x : Occurrence) × In x firsts × (o.name ≡ x.name))

module _ (before rest : List Occurrence) (y o : Occurrence) where
  noted_here : (b : Bool) → list_any (is_of y.name) before ≡ b → o.name ≡ y.name → IsNoted before o (cond b rest (y ∷ rest))
  noted_here true is same = inl (ap (λ (n : List ℕ). list_any (is_of n) before) same ∙ is)
  noted_here false is same = inr (y, inl refl, same)

  noted_by : (b : Bool) → list_any (is_of y.name) before ≡ b → (list_any (is_of o.name) before ≡ true) ⊎ (is_of o.name y ≡ true) → IsNoted before o (cond b rest (y ∷ rest))
  noted_by b is (inl e) = inl e
  noted_by b is (inr e) = noted_here b is (name_is o.name y.name e)

  noted_later : (b : Bool) → list_any (is_of y.name) before ≡ b → IsNoted (before ++ y ∷ []) o rest → IsNoted before o (cond b rest (y ∷ rest))
  noted_later b is (inl e) = noted_by b is (either_known (list_any (is_of o.name) before) (is_of o.name y) (sym (list_any-append (is_of o.name) before (y ∷ [])) ∙ e))
  noted_later true is (inr r) = inr r
  noted_later false is (inr r) = inr (r.0, inr r.1, r.2)

noted : (before os : List Occurrence) (o : Occurrence) → In o os → IsNoted before o (firsts_behind before os)
noted before [] o h = absurd h
noted before (y ∷ os) o (inl s) =
    noted_here before (firsts_behind (before ++ y ∷ []) os) y o (list_any (is_of y.name) before) refl (ap (λ (z : Occurrence). z.name) (sym s))
noted before (y ∷ os) o (inr h) =
    noted_later before (firsts_behind (before ++ y ∷ []) os) y o (list_any (is_of y.name) before) refl (noted (before ++ y ∷ []) os o h)

-- a name that occurs is among the first occurrences
pub first_noted : (os : List Occurrence) (o : Occurrence) → In o os → (x : Occurrence) × In x (first_occurrences os) × (o.name ≡ x.name)
first_noted os o h = subst (λ (l : List Occurrence). (x : Occurrence) × In x l × (o.name ≡ x.name)) (sym (first_occurrences_behind os)) (go (noted [] os o h))
  where
    go : (false ≡ true) ⊎ ((x : Occurrence) × In x (firsts_behind [] os) × (o.name ≡ x.name)) → (x : Occurrence) × In x (firsts_behind [] os) × (o.name ≡ x.name)
    go (inl e) = absurd (cc e)
    go (inr r) = r

pub chosen : (test : Occurrence → Bool) (os : List Occurrence) (o : Occurrence) → In o os → test o ≡ true → In o (those_that test os)
chosen test [] o h e = absurd h
chosen test (x ∷ os) o (inl s) e = go (test x) (ap test s ∙ e)
  where
    go : (b : Bool) → b ≡ true → In o (if b then x ∷ those_that test os else those_that test os)
    go true e = inl s
    go false e = absurd (cc e)
chosen test (x ∷ os) o (inr h) e = go (test x) (chosen test os o h e)
  where
    go : (b : Bool) → In o (those_that test os) → In o (if b then x ∷ those_that test os else those_that test os)
    go true k = inr k
    go false k = k

-- ---- variables

-- a name among these has an entry
pub found_there : (s : Sheet) (os : List Occurrence) (w place : ℕ) (q : List ℕ) (o : Occurrence) → In o os → q ≡ o.name → first_entry (variable_entries place (laid_out s w os)) q ≡ None → ⊥
found_there s [] w place q o h e none = absurd h
found_there s (x ∷ os) w place q o h e none = go (same_name q x.name) refl none h (λ k n. found_there s os (w + words_of s x.name) (place + 1) q o k e n)
  where
    go : (b : Bool) → same_name q x.name ≡ b → cond b (Some (symbol_of place (variable s w x.name))) (first_entry (variable_entries (place + 1) (laid_out s (w + words_of s x.name) os)) q) ≡ None → (x ≡ o) ⊎ In o os
        → (In o os → first_entry (variable_entries (place + 1) (laid_out s (w + words_of s x.name) os)) q ≡ None → ⊥) → ⊥
    go true is n h rest = none_some (symbol_of place (variable s w x.name)) (sym n)
    go false is n (inl s') rest = absurd (no (sym (same_names q x.name (e ∙ ap (λ (z : Occurrence). z.name) (sym s'))) ∙ is))
      where
        no : true ≡ false → ⊥
        no e = absurd (cc)
    go false is n (inr k) rest = rest k n

-- and what it is
pub what_there : (s : Sheet) (os : List Occurrence) (w place : ℕ) (q : List ℕ) (y : Symbol) → first_entry (variable_entries place (laid_out s w os)) q ≡ Some y → (k first : ℕ) × (symbol_of k (variable s first q) ≡ y)
what_there s [] w place q y e = absurd (cc)
what_there s (x ∷ os) w place q y e = go (same_name q x.name) refl e (λ h. what_there s os (w + words_of s x.name) (place + 1) q y h)
  where
    the_one : (a b : Symbol) → Some a ≡ Some b → a ≡ b
    the_one a b h = cc

    go : (b : Bool) → same_name q x.name ≡ b → cond b (Some (symbol_of place (variable s w x.name))) (first_entry (variable_entries (place + 1) (laid_out s (w + words_of s x.name) os)) q) ≡ Some y
        → (first_entry (variable_entries (place + 1) (laid_out s (w + words_of s x.name) os)) q ≡ Some y → (k first : ℕ) × (symbol_of k (variable s first q) ≡ y)) → (k first : ℕ) × (symbol_of k (variable s first q) ≡ y)
    go true is h rest = (place, w, ap (λ n. symbol_of place (variable s w n)) (name_is q x.name is) ∙ the_one (symbol_of place (variable s w x.name)) y h)
    go false is h rest = rest h

-- the place of a formal is that of its variable
pub formal_here : (s : Sheet) (os : List Occurrence) (w place i : ℕ) (q : List ℕ) (o : Occurrence) → In o os → q ≡ o.name → ((n : List ℕ) → (unwrap_or (get s.formals n) 0 == suc i) ≡ same_name q n)
    → symbol_place (first_entry (variable_entries place (laid_out s w os)) q) ≡ Some (formal_from place (suc i) (laid_out s w os))
formal_here s [] w place i q o h e alike = absurd h
formal_here s (x ∷ os) w place i q o h e alike = go (same_name q x.name) refl h (λ k. formal_here s os (w + words_of s x.name) (place + 1) i q o k e alike)
  where
    go : (b : Bool) → same_name q x.name ≡ b → (x ≡ o) ⊎ In o os
        → (In o os → symbol_place (first_entry (variable_entries (place + 1) (laid_out s (w + words_of s x.name) os)) q) ≡ Some (formal_from (place + 1) (suc i) (laid_out s (w + words_of s x.name) os)))
        → symbol_place (first_entry (variable_entries place (laid_out s w (x ∷ os))) q) ≡ Some (formal_from place (suc i) (laid_out s w (x ∷ os)))
    go true is h rest =
        let rest' = laid_out s (w + words_of s x.name) os in
        ap (λ b. symbol_place (cond b (Some (symbol_of place (variable s w x.name))) (first_entry (variable_entries (place + 1) rest') q))) is
        ∙ symbol_placed (variable s w x.name).kind (variable s w x.name).bounds (variable s w x.name).words place
        ∙ sym (ap (λ b. Some (cond b place (formal_from (suc place) (suc i) rest'))) (alike x.name ∙ is))
    go false is (inl s') rest = absurd (no (sym (same_names q x.name (e ∙ ap (λ (z : Occurrence). z.name) (sym s'))) ∙ is))
      where
        no : true ≡ false → ⊥
        no e = absurd (cc)
    go false is (inr k) rest =
        let rest' = laid_out s (w + words_of s x.name) os in
        ap (λ b. symbol_place (cond b (Some (symbol_of place (variable s w x.name))) (first_entry (variable_entries (place + 1) rest') q))) is ∙ rest k
        ∙ ap (λ (n : ℕ). Some (formal_from n (suc i) rest')) (omega arith) ∙ sym (ap (λ b. Some (cond b place (formal_from (suc place) (suc i) rest'))) (alike x.name ∙ is))

-- numbers of formals
pub numbered_there : (names : List (List ℕ)) (m : ℕ) (q : List ℕ) (k : ℕ) → first_entry (numbered m names) q ≡ Some k → (j : ℕ) × (k ≡ m + j) × (slice_get names j ≡ Some q)
numbered_there [] m q k e = absurd (cc)
numbered_there (x ∷ names) m q k e = go (same_name q x) refl e (λ h. numbered_there names (m + 1) q k h)
  where
    the_number : (a b : ℕ) → Some a ≡ Some b → a ≡ b
    the_number a b h = cc

    go : (b : Bool) → same_name q x ≡ b → cond b (Some m) (first_entry (numbered (m + 1) names) q) ≡ Some k → (first_entry (numbered (m + 1) names) q ≡ Some k → (j : ℕ) × (k ≡ m + 1 + j) × (slice_get names j ≡ Some q))
        → (j : ℕ) × (k ≡ m + j) × (slice_get (x ∷ names) j ≡ Some q)
    go true is h rest = (zero, omega (arith, the_number m k h), ap Some (sym (name_is q x is)))
    go false is h rest = let r = rest h in (suc r.0, omega (arith, r.1), r.2)

pub numbered_here : (names : List (List ℕ)) (m i : ℕ) (q : List ℕ) → slice_get names i ≡ Some q → ((j : ℕ) → j < i → slice_get names j ≡ Some q → ⊥) → first_entry (numbered m names) q ≡ Some (m + i)
numbered_here [] m i q e once = absurd (cc)
numbered_here (x ∷ names) m zero q e once = ap (λ b. cond b (Some m) (first_entry (numbered (m + 1) names) q)) (same_names q x (sym (the_name x q e))) ∙ ap (λ (n : ℕ). Some n) (omega arith)
  where
    the_name : (a b : List ℕ) → Some a ≡ Some b → a ≡ b
    the_name a b h = cc
numbered_here (x ∷ names) m (suc i) q e once = go (same_name q x) refl (numbered_here names (m + 1) i q e (λ j less at. once (suc j) (omega (arith, less)) at))
  where
    go : (b : Bool) → same_name q x ≡ b → first_entry (numbered (m + 1) names) q ≡ Some (m + 1 + i) → cond b (Some m) (first_entry (numbered (m + 1) names) q) ≡ Some (m + suc i)
    go true is rest = absurd (once 0 (omega arith) (ap Some (sym (name_is q x is))))
    go false is rest = rest ∙ ap (λ (n : ℕ). Some n) (omega arith)
