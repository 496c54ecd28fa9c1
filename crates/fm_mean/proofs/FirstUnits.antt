-- The first unit with each name, as the phases of the front and the meaning find it.
use Rattle.std.proofs.Common.{◌≡◌, ◌⊎◌, inl, inr, ℕ, zero, suc, ◌+◌, Bool, true, false, cond, not, Option, Some, None, option_map, List, [], ◌∷◌, ◌++◌, map, slice_get, refl, sym, ap, ◌∙◌, subst, arith}
use Rattle.std.specs.Prelude.{is_some, nat_eq}
use Rattle.std.specs.FinMap.{get}
use Rattle.std.proofs.lemmas.Bool.Decides.{Decides-eqb}
use Rattle.std.proofs.lemmas.Option.{slice_get-map}
use Rattle.fm_base.specs.declared.rule.Rule.TheVariants.{E27}
use Rattle.fm_base.specs.Verdict.{place}
use Rattle.fm_values.specs.Intrinsics.{intrinsic_named}
use Rattle.fm_values.specs.declared.intrinsic.Intrinsic.{Intrinsic}
use Rattle.fm_tree.specs.Units.{blank_statement, cut_of, unit_of}
use Rattle.fm_tree.specs.declared.program_unit.Placed.{Placed}
use Rattle.fm_tree.specs.declared.program_unit.Unit as tree
use Rattle.fm_tree.specs.declared.statement.Stmt.{Stmt}
use Rattle.fm_symbols.specs.ByName.{ByName}
use Rattle.fm_symbols.specs.Context.{number_told, unit_numbers}
use Rattle.fm_symbols.specs.Titles.{heading_of, title_by, titles_by, titles_from}
use Rattle.fm_symbols.specs.Headings.{heading_kind, heading_name, is_function}
use Rattle.fm_symbols.specs.declared.names.UnitNames.{UnitNames}
use Rattle.fm_rules.specs.declared.titles.Title.{Title}
use Rattle.fm_rules.specs.UnitTitles as source
use Rattle.fm_rules.specs.BrokenStructure.{broken_in_units, broken_structure, is_own, is_taken, missing_end, program_lines, taken_at, wrong_programs, wrong_title, wrong_titles}
use Rattle.fm_rules.specs.FunctionTitles as facts
use Rattle.fm_rules.specs.Names.{unit_names}
use Rattle.fm_rules.specs.BrokenNames.{broken_in}
use Rattle.fm_rules.specs.declared.program.Program.{Program}
use Rattle.fm_mean.specs.Names.{ProgramUnit, same_name, unit_with, unit_at, numbered, unit_named, kind_of}
use Rattle.fm_mean.specs.Evaluate.{Call, Unknown, function_by}
use Rattle.fm_mean.proofs.FirstEntries.{first_entry, first_there}
use Rattle.fm_mean.proofs.Meanings.{entry_in}
use Rattle.fm_mean.proofs.Members.{In, from_map, in_either}
use Rattle.fm_mean.proofs.Unbroken.{Unbroken, each_empty, left_empty, right_empty, not_when, or_left, or_right}
use Rattle.fm_mean.specs.Referring.{calls_one}

-- ---- the units by their names

-- a unit with its number
abbrev pub Found : Type 0
Found = ℕ × tree.Unit

abbrev entry_by : ℕ → tree.Unit → Option (List ℕ) → List (List ℕ × Found)
entry_by number u None = []
entry_by number u (Some name) = (name, (number, u)) ∷ []

abbrev entries_by : ℕ → List tree.Unit → List (List ℕ × Found)
entries_by number [] = []
entries_by number (u ∷ us) = entry_by number u (heading_name u.heading.stmt) ++ entries_by (number + 1) us

-- the first unit with a name
abbrev pub first_unit : List tree.Unit → List ℕ → Option Found
first_unit us name = first_entry (entries_by 0 us) name

abbrev pub is_function_unit : tree.Unit → Bool
is_function_unit u = is_function (heading_kind u.heading.stmt)

abbrev pub is_function_found : Option Found → Bool
is_function_found None = false
is_function_found (Some x) = is_function_unit x.1

-- an entry of what another list says of each
abbrev with_value : {X Y : Type 0} → (X → Y) → List ℕ × X → List ℕ × Y
with_value f e = (e.0, f e.1)

first_map : {X Y : Type 0} (f : X → Y) (es : List (List ℕ × X)) (name : List ℕ) → first_entry (map (with_value f) es) name ≡ option_map f (first_entry es name)
first_map f [] name = refl
first_map {X} {Y} f (e ∷ es) name = go (same_name name e.0) (first_map f es name)
  where
    go : (b : Bool) → first_entry (map (with_value f) es) name ≡ option_map f (first_entry es name) → cond b (Some (f e.1)) (first_entry (map (with_value f) es) name) ≡ option_map f (cond b (Some e.1) (first_entry es name))
    go true rest = refl
    go false rest = rest

-- where it stands, and its name
among : (number : ℕ) (us : List tree.Unit) (e : List ℕ × Found) → In e (entries_by number us) → (j : ℕ) × (e.1.0 ≡ number + j) × (slice_get us j ≡ Some e.1.1) × (heading_name e.1.1.heading.stmt ≡ Some e.0)
among number [] e h = absurd h
among number (u ∷ us) e h = go (heading_name u.heading.stmt) refl (in_either e (entry_by number u (heading_name u.heading.stmt)) (entries_by (number + 1) us) h) (λ k. among (number + 1) us e k)
  where
    later : (j : ℕ) × (e.1.0 ≡ number + 1 + j) × (slice_get us j ≡ Some e.1.1) × (heading_name e.1.1.heading.stmt ≡ Some e.0) → (j : ℕ) × (e.1.0 ≡ number + j) × (slice_get (u ∷ us) j ≡ Some e.1.1) × (heading_name e.1.1.heading.stmt ≡ Some e.0)
    later r = (suc r.0, omega (arith, r.1), r.2, r.3)

    here : (name : List ℕ) → heading_name u.heading.stmt ≡ Some name → (name, (number, u)) ≡ e → (j : ℕ) × (e.1.0 ≡ number + j) × (slice_get (u ∷ us) j ≡ Some e.1.1) × (heading_name e.1.1.heading.stmt ≡ Some e.0)
    here name named same =
        subst (λ (x : List ℕ × Found). (j : ℕ) × (x.1.0 ≡ number + j) × (slice_get (u ∷ us) j ≡ Some x.1.1) × (heading_name x.1.1.heading.stmt ≡ Some x.0)) same (zero, omega arith, refl, named)

    go : (o : Option (List ℕ)) → heading_name u.heading.stmt ≡ o → In e (entry_by number u o) ⊎ In e (entries_by (number + 1) us)
        → (In e (entries_by (number + 1) us) → (j : ℕ) × (e.1.0 ≡ number + 1 + j) × (slice_get us j ≡ Some e.1.1) × (heading_name e.1.1.heading.stmt ≡ Some e.0))
        → (j : ℕ) × (e.1.0 ≡ number + j) × (slice_get (u ∷ us) j ≡ Some e.1.1) × (heading_name e.1.1.heading.stmt ≡ Some e.0)
    go None named (inl a) rest = absurd a
    go (Some name) named (inl (inl same)) rest = here name named same
    go (Some name) named (inl (inr a)) rest = absurd a
    go o named (inr b) rest = later (rest b)

pub record IsThere (us : List tree.Unit) (name : List ℕ) (x : Found) : Type 0 where
  pub there : slice_get us x.0 ≡ Some x.1
  pub named : heading_name x.1.heading.stmt ≡ Some name

pub found_there : (us : List tree.Unit) (name : List ℕ) (x : Found) → first_unit us name ≡ Some x → IsThere us name x
found_there us name x e =
    let r = entry_in (entries_by 0 us) name x e in
    let a = among 0 us r.0 r.1 in
    subst (IsThere us name) r.3 (record { there = ap (slice_get us) (omega (arith, a.1)) ∙ a.2; named = a.3 ∙ ap Some (sym r.2) })

-- ---- as others find it

told_are : {X : Type 0} (told : ℕ → Stmt → X) (number : ℕ) (us : List tree.Unit)
    → titles_from told number (map heading_of us) ≡ map (with_value (λ (x : Found). told x.0 x.1.heading.stmt)) (entries_by number us)
told_are told number [] = refl
told_are told number (u ∷ us) = go (heading_name u.heading.stmt) (told_are told (number + 1) us)
  where
    go : (o : Option (List ℕ)) → titles_from told (number + 1) (map heading_of us) ≡ map (with_value (λ (x : Found). told x.0 x.1.heading.stmt)) (entries_by (number + 1) us)
        → title_by o (told number u.heading.stmt) ++ titles_from told (number + 1) (map heading_of us) ≡ map (with_value (λ (x : Found). told x.0 x.1.heading.stmt)) (entry_by number u o ++ entries_by (number + 1) us)
    go None rest = rest
    go (Some name) rest = ap (λ l. (name, told number u.heading.stmt) ∷ l) rest

-- what is told of the first unit with a name
told_found : {X : Type 0} (told : ℕ → Stmt → X) (us : List tree.Unit) (name : List ℕ) → get (titles_by told (map heading_of us)) name ≡ option_map (λ (x : Found). told x.0 x.1.heading.stmt) (first_unit us name)
told_found told us name =
    first_there (titles_from told 0 (map heading_of us)) name ∙ ap (λ es. first_entry es name) (told_are told 0 us) ∙ first_map (λ (x : Found). told x.0 x.1.heading.stmt) (entries_by 0 us) name

-- the numbers of units
pub number_found : (us : List tree.Unit) (name : List ℕ) → get (unit_numbers us) name ≡ option_map (λ (x : Found). x.0) (first_unit us name)
number_found us name = told_found number_told us name

-- the titles by which names are declared
pub flag_found : (us : List tree.Unit) (name : List ℕ) → facts.is_function_title (get (facts.titles_of us) name) ≡ is_function_found (first_unit us name)
flag_found us name =
    ap facts.is_function_title (told_found facts.function_told us name)
    ∙ go (first_unit us name)
  where
    go : (o : Option Found) → facts.is_function_title (option_map (λ (x : Found). is_function_unit x.1) o) ≡ is_function_found o
    go None = refl
    go (Some x) = refl

module _ (test : List ℕ → Bool) where
  abbrev title_of : Found → Title
  title_of x = record { number = x.0; kind = heading_kind x.1.heading.stmt }

  firsts_are : (cuts : List (List Placed)) → map source.first_of cuts ≡ map heading_of (map (unit_of test) cuts)
  firsts_are [] = refl
  firsts_are ([] ∷ cuts) = ap (λ (hs : List Stmt). blank_statement.stmt ∷ hs) (firsts_are cuts)
  firsts_are ((p ∷ ps) ∷ cuts) = ap (λ (hs : List Stmt). p.stmt ∷ hs) (firsts_are cuts)

  source_found : (cuts : List (List Placed)) (name : List ℕ) → get (source.titles_of cuts) name ≡ option_map title_of (first_unit (map (unit_of test) cuts) name)
  source_found cuts name =
      ap (λ (hs : List Stmt). get (titles_by source.title_told hs) name) (firsts_are cuts) ∙ told_found source.title_told (map (unit_of test) cuts) name

  -- the test with which the entries are made
  pub test_found : (cuts : List (List Placed)) (name : List ℕ) → source.is_function_named (source.titles_of cuts) name ≡ is_function_found (first_unit (map (unit_of test) cuts) name)
  test_found cuts name = ap source.is_function_title (source_found cuts name) ∙ go (first_unit (map (unit_of test) cuts) name)
    where
      go : (o : Option Found) → source.is_function_title (option_map title_of o) ≡ is_function_found o
      go None = refl
      go (Some x) = refl

  -- no unit takes the name of an earlier one or of an intrinsic function
  untaken : (titles : ByName Title) (number : ℕ) (cuts : List (List Placed)) (j : ℕ) (u : tree.Unit) (name : List ℕ) → wrong_titles titles number cuts ≡ [] → slice_get (map (unit_of test) cuts) j ≡ Some u → heading_name u.heading.stmt ≡ Some name
      → is_taken titles (number + j) name ≡ false
  unfolding heading_name
  untaken titles number [] j u name e is named = absurd (cc)
  untaken titles number (c ∷ cuts) (suc j) u name e is named =
      ap (λ (n : ℕ). is_taken titles n name) (omega arith) ∙ untaken titles (number + 1) cuts j u name (right_empty (wrong_title titles number c) (wrong_titles titles (number + 1) cuts) e) is named
  untaken titles number (c ∷ cuts) zero u name e is named = ap (λ (n : ℕ). is_taken titles n name) (omega arith) ∙ here c (left_empty (wrong_title titles number c) (wrong_titles titles (number + 1) cuts) e) (ap (λ (x : tree.Unit). heading_name x.heading.stmt) (the_unit (unit_of test c) u is) ∙ named)
    where
      the_unit : (a b : tree.Unit) → Some a ≡ Some b → a ≡ b
      the_unit a b h = cc

      no_name : None ≡ Some name → ⊥
      no_name h = absurd (cc)

      here : (c : List Placed) → wrong_title titles number c ≡ [] → heading_name (unit_of test c).heading.stmt ≡ Some name → is_taken titles number name ≡ false
      here [] none has = absurd (no_name has)
      here (p ∷ ps) none has = not_when (is_taken titles number name) (place p.line.0 E27) (sym (ap (taken_at titles number p.line.0) has) ∙ none)

  own_number : (number : ℕ) (o : Option Found) → not (is_own number (option_map title_of o)) ≡ false → (x : Found) × (o ≡ Some x) × (x.0 ≡ number)
  own_number number None e = absurd (cc)
  own_number number (Some x) e = (x, refl, (Decides-eqb x.0 number).0 (not_false (nat_eq x.0 number) e))
    where
      not_false : (b : Bool) → not b ≡ false → b ≡ true
      not_false true h = refl
      not_false false h = absurd (cc)

  first_alone : (cuts : List (List Placed)) (j : ℕ) (u : tree.Unit) (name : List ℕ) → is_taken (source.titles_of cuts) j name ≡ false → slice_get (map (unit_of test) cuts) j ≡ Some u
      → (intrinsic_named name ≡ None) × (first_unit (map (unit_of test) cuts) name ≡ Some (j, u))
  first_alone cuts j u name e is =
      let us = map (unit_of test) cuts in
      let own = own_number j (first_unit us name) (sym (ap (λ o. not (is_own j o)) (source_found cuts name)) ∙ or_right (is_some (intrinsic_named name)) (not (is_own j (get (source.titles_of cuts) name))) e) in
      let there = (found_there us name own.0 own.1).there in
      (no_intrinsic (intrinsic_named name) (or_left (is_some (intrinsic_named name)) (not (is_own j (get (source.titles_of cuts) name))) e), own.1 ∙ ap Some (same own.0 (j, u) own.2 (the_unit own.0.1 u (sym there ∙ ap (slice_get us) own.2 ∙ is))))
    where
      the_unit : (a b : tree.Unit) → Some a ≡ Some b → a ≡ b
      the_unit a b h = cc

      same : (a b : Found) → a.0 ≡ b.0 → a.1 ≡ b.1 → a ≡ b
      same a b h k = λ i. (h i, k i)

      no_intrinsic : (o : Option Intrinsic) → is_some o ≡ false → o ≡ None
      no_intrinsic None h = refl
      no_intrinsic (Some f) h = absurd (cc)

-- ---- in a program

-- the names of a unit, which breaks no rule on names
pub record ByRules (us : List tree.Unit) (u : ProgramUnit) : Type 0 where
  pub names_are : u.names ≡ unit_names (facts.titles_of us) u.tree
  pub clean : broken_in (facts.titles_of us) u.tree ≡ []

pub by_rules : (us : List tree.Unit) (ns : List UnitNames) → Unbroken us ns → (k : ℕ) (u : ProgramUnit) → slice_get us k ≡ Some u.tree → slice_get ns k ≡ Some u.names → ByRules us u
by_rules us ns h k u tree_is names_are =
    let f = unit_names (facts.titles_of us) in
    let x = from_map f us k u.names (ap (λ (l : List UnitNames). slice_get l k) (sym h.names_are) ∙ names_are) in
    record { names_are = sym x.2 ∙ ap f (the_unit x.0 u.tree (sym x.1 ∙ tree_is)); clean = each_empty (broken_in (facts.titles_of us)) us k u.tree h.names tree_is }
  where
    the_unit : (a b : tree.Unit) → Some a ≡ Some b → a ≡ b
    the_unit a b e = cc

titles_right : (statements : List Placed) → broken_structure statements ≡ [] → wrong_titles (source.titles_of (cut_of statements)) 0 (cut_of statements) ≡ []
titles_right statements e =
    let programs = wrong_programs (program_lines statements) in
    let titles = wrong_titles (source.titles_of (cut_of statements)) 0 (cut_of statements) in
    right_empty (programs ++ missing_end statements) titles (left_empty (programs ++ missing_end statements ++ titles) (broken_in_units (cut_of statements)) e)

-- a unit is the first one with its name, which no intrinsic function has
pub has_own_name : (us : List tree.Unit) (ns : List UnitNames) → Unbroken us ns → (j : ℕ) (u : tree.Unit) (name : List ℕ) → slice_get us j ≡ Some u → heading_name u.heading.stmt ≡ Some name → (intrinsic_named name ≡ None) × (first_unit us name ≡ Some (j, u))
has_own_name us ns h j u name is named =
    let cuts = cut_of h.statements in
    let test = source.is_function_named (source.titles_of cuts) in
    let here = ap (λ (l : List tree.Unit). slice_get l j) (sym h.units_are) ∙ is in
    let x = first_alone test cuts j u name (ap (λ (n : ℕ). is_taken (source.titles_of cuts) n name) (omega arith) ∙ untaken test (source.titles_of cuts) 0 cuts j u name (titles_right h.statements h.structure) here named) here in
    (x.0, ap (λ (l : List tree.Unit). first_unit l name) h.units_are ∙ x.1)

-- the test with which the entries of a program are made
abbrev pub test_of : (us : List tree.Unit) (ns : List UnitNames) → Unbroken us ns → List ℕ → Bool
test_of us ns h = source.is_function_named (source.titles_of (cut_of h.statements))

pub test_is : (us : List tree.Unit) (ns : List UnitNames) (h : Unbroken us ns) (name : List ℕ) → test_of us ns h name ≡ is_function_found (first_unit us name)
test_is us ns h name = test_found (test_of us ns h) (cut_of h.statements) name ∙ ap (λ (l : List tree.Unit). is_function_found (first_unit l name)) (sym h.units_are)

calls_by : (k : ℕ) (u : ProgramUnit) → calls_one (function_by (Some (k, u))) ≡ is_function_unit u.tree
calls_by k u = go (is_function (kind_of u))
  where
    go : (b : Bool) → calls_one (cond b (Call k u) Unknown) ≡ b
    go true = refl
    go false = refl

-- the FUNCTION of a name in the meaning
pub call_is : (p : Program) → Unbroken p.units.units p.names.units → (name : List ℕ) → calls_one (function_by (unit_named p name)) ≡ is_function_found (first_unit p.units.units name)
call_is p h name = ap (λ o. calls_one (function_by (numbered p o))) (number_found p.units.units name) ∙ go (first_unit p.units.units name) refl
  where
    f : tree.Unit → UnitNames
    f = unit_names (facts.titles_of p.units.units)

    unit_is : (x : Found) → slice_get p.units.units x.0 ≡ Some x.1 → unit_at p x.0 ≡ Some (record { tree = x.1; names = f x.1 })
    unit_is x there =
        let named = ap (λ (l : List UnitNames). slice_get l x.0) h.names_are ∙ slice_get-map f p.units.units x.0 ∙ ap (option_map f) there in
        ap (λ o. unit_with o (slice_get p.names.units x.0)) there ∙ ap (unit_with (Some x.1)) named

    go : (o : Option Found) → first_unit p.units.units name ≡ o → calls_one (function_by (numbered p (option_map (λ (x : Found). x.0) o))) ≡ is_function_found o
    go None is = refl
    go (Some x) is =
        let there = unit_is x (found_there p.units.units name x is).there in
        ap (λ (o : Option ProgramUnit). calls_one (function_by (option_map {U = ℕ × ProgramUnit} (λ u. (x.0, u)) o))) there ∙ calls_by x.0 (record { tree = x.1; names = f x.1 })
