-- What the names of a program that breaks no rule stand for, unit by unit.
use Rattle.std.proofs.Common.{◌≡◌, inl, inr, ℕ, zero, suc, ◌+◌, Bool, true, false, cond, ◌||◌, ◌&&◌, not, Option, Some, None, is_some, List, [], ◌∷◌, ◌++◌, map, slice_get, refl, sym, ap, ◌∙◌, subst, arith}
use Rattle.std.specs.Prelude.{if◌then◌else◌}
use Rattle.std.specs.FinMap.{get}
use Rattle.std.specs.List.{flat_map}
use native.Mathlib.Nat.{ℕ_set}
use Rattle.fm_tree.specs.Tree.{Tree}
use Rattle.fm_tree.specs.References as applied
use Rattle.fm_tree.specs.declared.entry_mark.EntryMark.{EntryMark}
use Rattle.fm_tree.specs.declared.form.Form.{Form}
use Rattle.fm_tree.specs.declared.form.Form.TheVariants as form
use Rattle.fm_tree.specs.declared.program_unit.Entry.{Entry}
use Rattle.fm_tree.specs.declared.program_unit.Placed.{Placed}
use Rattle.fm_tree.specs.declared.program_unit.Unit as tree
use Rattle.fm_tree.specs.declared.statement.Stmt.{Stmt}
use Rattle.fm_tree.specs.declared.statement.Stmt.TheVariants as stmt
use Rattle.fm_tree.specs.Layout.{contained_in, laid_out, statement_of, test_of}
use Rattle.fm_tree.specs.Units.{body_of, cut_of, entries_from, entry_of, unit_of}
use Rattle.fm_symbols.specs.Context.{constant_entry, variable_entries, context_of, function_at, function_named, is_function_scope, or_else, scalar_by, scope_of, scopes_of, symbol_in, symbols_of, result_in as scope_result, number_told, unit_numbers, symbol_place}
use Rattle.fm_symbols.specs.Titles.{heading_of, title_by, titles_from}
use Rattle.fm_symbols.specs.Headings.{heading_formals, heading_kind, heading_name, is_function}
use Rattle.fm_symbols.specs.declared.names.UnitNames.{UnitNames}
use Rattle.fm_symbols.specs.declared.context.Scope as symbols
use Rattle.fm_symbols.specs.declared.symbol.Symbol.{Symbol}
use Rattle.fm_symbols.specs.declared.symbol.Symbol.TheVariants as symbol
use Rattle.fm_rules.specs.Constants.{constants_of}
use Rattle.fm_rules.specs.NameTypes.{types_of}
use Rattle.fm_rules.specs.FunctionTitles.{is_other_function, is_function_title, is_own_name, function_told, titles_of}
use Rattle.fm_rules.specs.declared.sheet.Occurrence.{Occurrence}
use Rattle.fm_rules.specs.Arrays.{is_array}
use Rattle.fm_rules.specs.Occurrences.{stands_in, occurrence, in_placed, in_entry, occurrences}
use Rattle.fm_rules.specs.Sheets.{arrays_of, sheet_of}
use Rattle.fm_rules.specs.Variables.{is_variable, variables_among}
use Rattle.fm_rules.specs.Names.{unit_names, names_of}
use Rattle.fm_rules.specs.BrokenNames.{broken_in}
use Rattle.fm_rules.specs.UnitTitles as source
use Rattle.fm_net.specs.Typed.{AllIn}
use Rattle.fm_rules.specs.declared.program.Program.{Program}
use Rattle.fm_mean.specs.Names.{ProgramUnit, unit_at, context, constant_in, same_name, formal_from, formal_place}
use Rattle.fm_mean.specs.TypedTrees.{HasTypes}
use Rattle.fm_mean.proofs.Unbroken.{Unbroken, each_empty, from_rules}
use Rattle.fm_mean.proofs.FirstEntries.{first_entry, first_there}
use Rattle.fm_mean.proofs.Sizes.{parts_of}
use Rattle.fm_mean.proofs.Members.{In, in_right, in_map, in_flat, got_in, from_map}
use Rattle.fm_mean.proofs.Meanings.{none_some, first_front, found_there}
use Rattle.fm_mean.proofs.KeptConstants.{constant_kept}
use Rattle.fm_mean.proofs.UnitMeanings.{first_parts, variable_among, formal_symbol, own_constant, own_result}
use Rattle.fm_mean.proofs.JudgedValues.{HaveNoOwnConstants}
use Rattle.fm_mean.proofs.JudgedPlaces.{IsMeant}
use Rattle.fm_mean.proofs.JudgedCalls.{HaveFormals}
use Rattle.fm_mean.proofs.JudgedStatements.{HaveResults}
use Rattle.fm_mean.proofs.SoundTrees.{IsAlone}
use Rattle.fm_mean.proofs.JudgedPrograms.{arrays_in, HaveMeanings, has_types}

never : true ≡ false → ⊥
never e = absurd (cc)

-- ---- FUNCTIONs by name

-- the first unit with a name
abbrev numbers_from : ℕ → List tree.Unit → List (List ℕ × ℕ)
numbers_from m us = titles_from number_told m (map heading_of us)

abbrev flags_from : ℕ → List tree.Unit → List (List ℕ × Bool)
flags_from m us = titles_from function_told m (map heading_of us)

titled : (us : List tree.Unit) (m : ℕ) (q : List ℕ) → first_entry (flags_from m us) q ≡ Some true → (k : ℕ) × (u : tree.Unit) × (first_entry (numbers_from m us) q ≡ Some (m + k)) × (slice_get us k ≡ Some u) × (is_function (heading_kind u.heading.stmt) ≡ true)
titled [] m q e = absurd (cc)
titled (u ∷ us) m q e = go (heading_name u.heading.stmt) e (λ h. titled us (m + 1) q h)
  where
    the_flag : (a b : Bool) → Some a ≡ Some b → a ≡ b
    the_flag a b h = cc

    behind : (es : List (List ℕ × ℕ)) → first_entry es q ≡ first_entry (numbers_from (m + 1) us) q → (k : ℕ) × (w : tree.Unit) × (first_entry (numbers_from (m + 1) us) q ≡ Some (m + 1 + k)) × (slice_get us k ≡ Some w) × (is_function (heading_kind w.heading.stmt) ≡ true)
        → (k : ℕ) × (w : tree.Unit) × (first_entry es q ≡ Some (m + k)) × (slice_get (u ∷ us) k ≡ Some w) × (is_function (heading_kind w.heading.stmt) ≡ true)
    behind es same r = (suc r.0, r.1, same ∙ r.2 ∙ ap (λ (n : ℕ). Some n) (omega arith), r.3, r.4)

    by_name : (name : List ℕ) (b : Bool) → same_name q name ≡ b → cond b (Some (is_function (heading_kind u.heading.stmt))) (first_entry (flags_from (m + 1) us) q) ≡ Some true
        → (first_entry (flags_from (m + 1) us) q ≡ Some true → (k : ℕ) × (w : tree.Unit) × (first_entry (numbers_from (m + 1) us) q ≡ Some (m + 1 + k)) × (slice_get us k ≡ Some w) × (is_function (heading_kind w.heading.stmt) ≡ true))
        → (k : ℕ) × (w : tree.Unit) × (first_entry ((name, m) ∷ numbers_from (m + 1) us) q ≡ Some (m + k)) × (slice_get (u ∷ us) k ≡ Some w) × (is_function (heading_kind w.heading.stmt) ≡ true)
    by_name name true is h rest =
        (zero, u, ap (λ b. cond b (Some m) (first_entry (numbers_from (m + 1) us) q)) is ∙ ap (λ (n : ℕ). Some n) (omega arith), refl, the_flag (is_function (heading_kind u.heading.stmt)) true h)
    by_name name false is h rest = behind ((name, m) ∷ numbers_from (m + 1) us) (ap (λ b. cond b (Some m) (first_entry (numbers_from (m + 1) us) q)) is) (rest h)

    go : (o : Option (List ℕ)) → first_entry (title_by o (is_function (heading_kind u.heading.stmt)) ++ flags_from (m + 1) us) q ≡ Some true
        → (first_entry (flags_from (m + 1) us) q ≡ Some true → (k : ℕ) × (w : tree.Unit) × (first_entry (numbers_from (m + 1) us) q ≡ Some (m + 1 + k)) × (slice_get us k ≡ Some w) × (is_function (heading_kind w.heading.stmt) ≡ true))
        → (k : ℕ) × (w : tree.Unit) × (first_entry (title_by o m ++ numbers_from (m + 1) us) q ≡ Some (m + k)) × (slice_get (u ∷ us) k ≡ Some w) × (is_function (heading_kind w.heading.stmt) ≡ true)
    go None e rest = behind (numbers_from (m + 1) us) refl (rest e)
    go (Some name) e rest = by_name name (same_name q name) refl e rest

scope_there : (f : tree.Unit → UnitNames) (us : List tree.Unit) (k : ℕ) (u : tree.Unit) → slice_get us k ≡ Some u → slice_get (scopes_of us (map f us)) k ≡ Some (scope_of u (f u))
scope_there f [] k u e = absurd (cc)
scope_there f (v ∷ us) zero u e = ap (λ (v : tree.Unit). Some (scope_of v (f v))) (the_unit v u e)
  where
    the_unit : (a b : tree.Unit) → Some a ≡ Some b → a ≡ b
    the_unit a b e = cc
scope_there f (v ∷ us) (suc k) u e = scope_there f us k u e

-- another FUNCTION's name stands for it
function_there : (us : List tree.Unit) (heading : Stmt) (q : List ℕ) → is_other_function (titles_of us) heading q ≡ true → function_named (context_of us (names_of us)) q ≡ None → ⊥
function_there us heading q e none = go (get (titles_of us) q) refl e
  where
    first : (a b : Bool) → (a && b) ≡ true → a ≡ true
    first true b e = refl
    first false b e = absurd (cc e)

    titled_here : first_entry (flags_from 0 us) q ≡ Some true → ⊥
    titled_here at =
        let r = titled us 0 q at in
        let number : get (unit_numbers us) q ≡ Some r.0 = first_there (numbers_from 0 us) q ∙ r.2 ∙ ap (λ (n : ℕ). Some n) (omega arith) in
        let scope = scope_there (unit_names (titles_of us)) us r.0 r.1 r.3 in
        none_some (symbol.Function r.0)
        (sym none ∙ ap (function_at (context_of us (names_of us))) number ∙ ap (λ (o : Option symbols.Scope). if is_function_scope o then Some (symbol.Function r.0) else None) scope
        ∙ ap (λ (b : Bool). if b then Some (symbol.Function r.0) else None) r.4)

    go : (o : Option Bool) → get (titles_of us) q ≡ o → (is_function_title (get (titles_of us) q) && not (is_own_name (heading_name heading) q)) ≡ true → ⊥
    go None is h = absurd (never (sym (first (is_function_title (get (titles_of us) q)) (not (is_own_name (heading_name heading) q)) h) ∙ ap is_function_title is))
    go (Some false) is h = absurd (never (sym (first (is_function_title (get (titles_of us) q)) (not (is_own_name (heading_name heading) q)) h) ∙ ap is_function_title is))
    go (Some true) is h = titled_here (sym (first_there (flags_from 0 us) q) ∙ is)

-- ---- the names of a unit

or_else_none : (a b : Option Symbol) → or_else a b ≡ None → (a ≡ None) × (b ≡ None)
or_else_none None b e = (refl, e)
or_else_none (Some y) b e = absurd (none_some y (sym e))

-- a name that occurs stands for something
occurring : (us : List tree.Unit) (u : tree.Unit) → broken_in (titles_of us) u ≡ [] → (q : List ℕ) (o : Occurrence) → In o (occurrences (is_array (arrays_of (constants_of u.specs) u.specs)) u) → q ≡ o.name
    → symbol_in (context_of us (names_of us)) (scope_of u (unit_names (titles_of us) u)) q ≡ None → ⊥
occurring us u clean q o within same none = go (is_some (get (constants_of u.specs) q)) (is_other_function (titles_of us) u.heading.stmt q) refl refl
  where
    parts : (get (symbols_of (unit_names (titles_of us) u)) q ≡ None) × (function_named (context_of us (names_of us)) q ≡ None)
    parts = or_else_none (get (symbols_of (unit_names (titles_of us) u)) q) (function_named (context_of us (names_of us)) q) none

    entries : (first_entry (map constant_entry (unit_names (titles_of us) u).constants) q ≡ None) × (first_entry (variable_entries 0 (unit_names (titles_of us) u).variables) q ≡ None)
    entries =
        first_front (map constant_entry (unit_names (titles_of us) u).constants) (variable_entries 0 (unit_names (titles_of us) u).variables) q
        (sym (first_there (map constant_entry (unit_names (titles_of us) u).constants ++ variable_entries 0 (unit_names (titles_of us) u).variables) q)
        ∙ (or_else_none (get (symbols_of (unit_names (titles_of us) u)) q) (function_named (context_of us (names_of us)) q) none).0)

    go : (a b : Bool) → is_some (get (constants_of u.specs) q) ≡ a → is_other_function (titles_of us) u.heading.stmt q ≡ b → ⊥
    go true b ea eb = constant_kept u.specs (types_of u.specs) q (first_parts (titles_of us) u clean).1 (λ h. never (sym ea ∙ ap is_some h)) entries.0
    go false true ea eb = function_there us u.heading.stmt q eb parts.1
    go false false ea eb =
        let is : is_variable (titles_of us) u.heading.stmt (sheet_of u) q ≡ true = ap (λ (a : Bool). not (a || is_other_function (titles_of us) u.heading.stmt q)) ea ∙ ap not eb in
        let x = variable_among (titles_of us) u clean q o within same is in
        found_there (sheet_of u) (variables_among (titles_of us) u.heading.stmt (sheet_of u) (sheet_of u).first) 0 0 q x.0 x.1 x.2 entries.1

-- ---- entries

test_alone : (p : Program) (array : List ℕ → Bool) (u : ProgramUnit) (t : Stmt) → IsAlone p array u (test_of t)
unfolding test_of applied.in_simple
test_alone p array u (stmt.LogicalIf e k) = refl
test_alone p array u t = tt

contained_alone : (p : Program) (array : List ℕ → Bool) (u : ProgramUnit) (t : Stmt) → IsAlone p array u (contained_in t)
unfolding contained_in
contained_alone p array u (stmt.LogicalIf e k) = tt
contained_alone p array u t = tt

form_alone : (p : Program) (array : List ℕ → Bool) (u : ProgramUnit) (f : Form) (t : Stmt) → IsAlone p array u (statement_of f t)
unfolding statement_of
form_alone p array u form.Wrap t = tt
form_alone p array u form.EndWrap t = tt
form_alone p array u (form.LoopEnd k) t = tt
form_alone p array u form.Test t = test_alone p array u t
form_alone p array u f t = contained_alone p array u t

entry_alone : (p : Program) (array : List ℕ → Bool) (u : ProgramUnit) (test : List ℕ → Bool) (ps : List Placed) (marks : List EntryMark) (k : ℕ) (ms : List EntryMark) (i : ℕ) (e : Entry) → slice_get (entries_from test ps marks k ms) i ≡ Some e → IsAlone p array u e.stmt
entry_alone p array u test ps marks k [] i e is = absurd (cc)
entry_alone p array u test ps marks k (m ∷ ms) zero e is =
    subst (λ (x : Entry). IsAlone p array u x.stmt) (the_entry (entry_of test ps marks k) e is) (form_alone p array u _ _)
  where
    the_entry : (a b : Entry) → Some a ≡ Some b → a ≡ b
    the_entry a b h = cc
entry_alone p array u test ps marks k (m ∷ ms) (suc i) e is = entry_alone p array u test ps marks (k + 1) ms i e is

-- ---- of a program

-- the names of a unit, by the rules
unit_of_rules : (us : List tree.Unit) (ns : List UnitNames) → Unbroken us ns → (k : ℕ) (w : ProgramUnit) → slice_get us k ≡ Some w.tree → slice_get ns k ≡ Some w.names → (w.names ≡ unit_names (titles_of us) w.tree) × (broken_in (titles_of us) w.tree ≡ [])
unit_of_rules us ns h k w tree_is names_are =
    let x = from_map (unit_names (titles_of us)) us k w.names (subst (λ (l : List UnitNames). slice_get l k ≡ Some w.names) h.names_are names_are) in
    (sym x.2 ∙ ap (unit_names (titles_of us)) (the_unit x.0 w.tree (sym x.1 ∙ tree_is)), each_empty (broken_in (titles_of us)) us k w.tree h.names tree_is)
  where
    the_unit : (a b : tree.Unit) → Some a ≡ Some b → a ≡ b
    the_unit a b e = cc

-- a FUNCTION has a name
unnamed : (t : Stmt) → is_function (heading_kind t) ≡ true → heading_name t ≡ None → ⊥
unfolding heading_kind heading_name
unnamed (stmt.Function name formals) e h = absurd (none_some name (sym h))
unnamed (stmt.IntegerFunction name formals) e h = absurd (none_some name (sym h))
unnamed (stmt.LogicalFunction name formals) e h = absurd (none_some name (sym h))
unnamed t e h = absurd (cc e)

module _ (p : Program) where
  refuted : (Unbroken p.units.units p.names.units → ⊥) → ⊥
  refuted f = from_rules p ⊥ (λ a b. absurd a) f

  own_constants : HaveNoOwnConstants p
  own_constants k w name c is named function at =
      refuted (λ h.
      let u = unit_of_rules p.units.units p.names.units h k w (parts_of p k w is).0 (parts_of p k w is).1 in
      own_constant (titles_of p.units.units) w.tree u.1 name c named function (sym (ap (λ (n : UnitNames). constant_in name n.constants) u.0) ∙ at))

  results : HaveResults p
  results k w is function none =
      refuted (λ h.
      let u = unit_of_rules p.units.units p.names.units h k w (parts_of p k w is).0 (parts_of p k w is).1 in
      by_name (heading_name w.tree.heading.stmt) refl
      (λ name named.
      own_result (titles_of p.units.units) w.tree u.1 name named function
      (sym (ap (λ (n : UnitNames). scalar_by (get (symbols_of n) name)) u.0)
      ∙ sym (ap (λ (b : Bool). if b then scalar_by (get (symbols_of w.names) name) else None) function)
      ∙ sym (ap (λ (o : Option (List ℕ)). scope_result (heading_kind w.tree.heading.stmt) (symbols_of w.names) o) named) ∙ none)))
    where
      by_name : (o : Option (List ℕ)) → heading_name w.tree.heading.stmt ≡ o → ((name : List ℕ) → heading_name w.tree.heading.stmt ≡ Some name → ⊥) → ⊥
      by_name None is f = unnamed w.tree.heading.stmt function is
      by_name (Some name) is f = f name is

  the_formal : (w : ProgramUnit) (i : ℕ) (o : Option ℕ) (k : ℕ) → unit_at p k ≡ Some w → (name : List ℕ) → slice_get (heading_formals w.tree.heading.stmt) i ≡ Some name → symbol_place (get (symbols_of w.names) name) ≡ o → o ≡ Some (formal_place w (suc i))
  the_formal w i o k is name at here = go o here
    where
      rule : Unbroken p.units.units p.names.units → symbol_place (get (symbols_of w.names) name) ≡ Some (formal_place w (suc i))
      rule h =
          let u = unit_of_rules p.units.units p.names.units h k w (parts_of p k w is).0 (parts_of p k w is).1 in
          ap (λ (n : UnitNames). symbol_place (get (symbols_of n) name)) u.0 ∙ formal_symbol (titles_of p.units.units) w.tree u.1 i name at ∙ sym (ap (λ (n : UnitNames). Some (formal_from 0 (suc i) n.variables)) u.0)

      the_number : (a b : ℕ) → Some a ≡ Some b → a ≡ b
      the_number a b e = cc

      go : (o : Option ℕ) → symbol_place (get (symbols_of w.names) name) ≡ o → o ≡ Some (formal_place w (suc i))
      go None is = absurd (refuted (λ h. none_some (formal_place w (suc i)) (sym is ∙ rule h)))
      go (Some j) is = ap (λ (n : ℕ). Some n) (from_rules p (j ≡ formal_place w (suc i)) (ℕ_set j (formal_place w (suc i))) (λ h. the_number j (formal_place w (suc i)) (sym is ∙ rule h)))

  formals : (k : ℕ) (w : ProgramUnit) → unit_at p k ≡ Some w → HaveFormals w
  formals k w is i name at = the_formal w i (symbol_place (get (symbols_of w.names) name)) k is name at refl

  meant_all : (u : ProgramUnit) (names : List (List ℕ)) → ((q : List ℕ) → In q names → IsMeant u (context p) q) → AllIn (IsMeant u (context p)) names
  meant_all u [] f = tt
  meant_all u (x ∷ names) f = (f x (inl refl), meant_all u names (λ q h. f q (inr h)))

  names : (n : ℕ) (u : ProgramUnit) (i : ℕ) (e : Entry) → unit_at p n ≡ Some u → slice_get u.tree.body i ≡ Some e → AllIn (IsMeant u (context p)) (stands_in (arrays_in u) e.stmt)
  names n u i e is at =
      meant_all u (stands_in (arrays_in u) e.stmt)
      (λ q h none.
      refuted (λ rules.
      let us = p.units.units in
      let ns = p.names.units in
      let w = unit_of_rules us ns rules n u (parts_of p n u is).0 (parts_of p n u is).1 in
      let o = occurrence e.line q in
      let within = in_right o (in_placed (arrays_in u) u.tree.heading) (flat_map (in_placed (arrays_in u)) u.tree.specs ++ flat_map (in_entry (arrays_in u)) u.tree.body)
      (in_right o (flat_map (in_placed (arrays_in u)) u.tree.specs) (flat_map (in_entry (arrays_in u)) u.tree.body)
      (in_flat (in_entry (arrays_in u)) e o u.tree.body (got_in e u.tree.body i at) (in_map (occurrence e.line) q (stands_in (arrays_in u) e.stmt) h))) in
      occurring us u.tree w.1 q o within refl
      (sym (ap (λ (m : List UnitNames). symbol_in (context_of us m) (scope_of u.tree (unit_names (titles_of us) u.tree)) q) rules.names_are)
      ∙ sym (ap (λ (m : UnitNames). symbol_in (context_of us ns) (scope_of u.tree m) q) w.0) ∙ none)))

  alone : (n : ℕ) (u : ProgramUnit) (i : ℕ) (e : Entry) → unit_at p n ≡ Some u → slice_get u.tree.body i ≡ Some e → IsAlone p (arrays_in u) u e.stmt
  alone n u i e is at = go e.stmt rule
    where
      rule : Unbroken p.units.units p.names.units → IsAlone p (arrays_in u) u e.stmt
      rule h =
          let ps = h.statements in
          let test = source.is_function_named (source.titles_of (cut_of ps)) in
          let x = from_map (unit_of test) (cut_of ps) n u.tree (subst (λ (l : List tree.Unit). slice_get l n ≡ Some u.tree) h.units_are (parts_of p n u is).0) in
          let body = body_of (laid_out x.0) in
          entry_alone p (arrays_in u) u test x.0 body 0 body i e (ap (λ (t : tree.Unit). slice_get t.body i) x.2 ∙ at)

      list_empty : (ts : List Tree) → (Unbroken p.units.units p.names.units → ts ≡ []) → ts ≡ []
      list_empty [] f = refl
      list_empty (t ∷ ts) f = absurd (refuted (λ h. no t ts (f h)))
        where
          no : (t : Tree) (ts : List Tree) → t ∷ ts ≡ [] → ⊥
          no t ts e = absurd (cc)

      go : (t : Stmt) → (Unbroken p.units.units p.names.units → IsAlone p (arrays_in u) u t) → IsAlone p (arrays_in u) u t
      go (stmt.LogicalIf t k) f = list_empty (applied.in_simple k) f
      go t f = tt

  pub meanings : HaveMeanings p
  meanings = record { own = own_constants; results = results; formals = formals; names = names; alone = alone }

-- each program has the types that its meaning asks for
pub program_has_types : (p : Program) → HasTypes p
program_has_types p = has_types p (meanings p)
