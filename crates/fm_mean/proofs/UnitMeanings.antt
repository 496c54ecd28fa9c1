-- What the names of a unit that breaks no rule stand for.
use Rattle.std.proofs.Common.{◌≡◌, ◌⊎◌, inl, inr, ℕ, suc, ℤ, ◌+◌, ◌==◌, Bool, true, false, ◌||◌, ◌&&◌, not, Option, Some, None, unwrap_or, is_some, List, [], ◌∷◌, ◌++◌, map, slice_get, refl, sym, ap, ◌∙◌, subst, arith}
use Rattle.std.specs.FinMap.{get}
use Rattle.std.specs.List.{flat_map}
use Rattle.std.proofs.lemmas.Bool.Decides.{Decides-eqb}
use Rattle.fm_base.specs.declared.name.Line.{Line}
use Rattle.fm_base.specs.declared.rule.Rule.TheVariants.{E34}
use Rattle.fm_base.specs.Verdict.{place, when}
use Rattle.fm_tree.specs.declared.program_unit.Placed.{Placed}
use Rattle.fm_tree.specs.declared.program_unit.Unit as tree
use Rattle.fm_tree.specs.declared.port_type.Kind.{Kind}
use Rattle.fm_tree.specs.declared.port_type.Kind.TheVariants as kind
use Rattle.fm_tree.specs.declared.statement.Decl.{Decl}
use Rattle.fm_tree.specs.declared.statement.Stmt.{Stmt}
use Rattle.fm_tree.specs.declared.statement.Stmt.TheVariants as stmt
use Rattle.fm_symbols.specs.ByName.{ByName}
use Rattle.fm_symbols.specs.Context.{constant_entry, variable_entries, symbols_of, symbol_by, scalar_by, symbol_place}
use Rattle.fm_symbols.specs.Headings.{heading_formals, heading_kind, heading_name, is_function}
use Rattle.fm_symbols.specs.declared.names.Constant.{Constant}
use Rattle.fm_symbols.specs.declared.symbol.Symbol.{Symbol}
use Rattle.fm_rules.specs.declared.constants.Known.{Known}
use Rattle.fm_rules.specs.Constants.{constants_of}
use Rattle.fm_rules.specs.ConstantParts.{decls_of}
use Rattle.fm_rules.specs.NameTypes.{types_of}
use Rattle.fm_rules.specs.BrokenConstants as constants
use Rattle.fm_rules.specs.declared.sheet.Aspect.TheVariants as aspect
use Rattle.fm_rules.specs.Declarations.{fact, typed_facts, facts_by, facts_in, declared_twice_in}
use Rattle.fm_rules.specs.FunctionTitles.{is_other_function, is_function_title, is_own_name}
use Rattle.fm_rules.specs.declared.sheet.Occurrence.{Occurrence}
use Rattle.fm_rules.specs.Arrays.{is_array}
use Rattle.fm_rules.specs.Occurrences.{one_name, stands_in, occurrence, in_placed, in_entry, occurrences}
use Rattle.fm_rules.specs.declared.sheet.Sheet.{Sheet}
use Rattle.fm_rules.specs.Sheets.{kind_in, kind_entries, kinds_at, kinds_from, own_kind, numbered, arrays_of, sheet_of}
use Rattle.fm_rules.specs.Variables.{is_variable, names_variable, variables_among, variable}
use Rattle.fm_rules.specs.Names.{unit_names}
use Rattle.fm_rules.specs.BrokenNames.{broken_in, untyped_in, is_long}
use Rattle.fm_mean.specs.Names.{same_name, constant_in, formal_from}
use Rattle.fm_mean.proofs.Unbroken.{left_empty, right_empty}
use Rattle.fm_mean.proofs.FirstEntries.{first_entry, first_there}
use Rattle.fm_mean.proofs.Members.{In, in_left, in_either, in_map, in_flat, got_in, name_is, same_self, same_names}
use Rattle.fm_mean.proofs.Clashes.{no_formal_constant, no_own_constant, no_own_port, no_formal_function, formals_distinct}
use Rattle.fm_mean.proofs.Meanings.{none_some, first_append, entry_in, known_defined, entries_known, map_front, constant_found, first_noted, chosen, found_there, what_there, formal_here, numbered_there, numbered_here}

never : true ≡ false → ⊥
never e = absurd (cc)

-- ---- headings

formal_stands : (array : List ℕ → Bool) (t : Stmt) (i : ℕ) (q : List ℕ) → slice_get (heading_formals t) i ≡ Some q → In q (stands_in array t)
unfolding heading_formals stands_in
formal_stands array (stmt.Process n None) i q e = absurd (cc e)
formal_stands array (stmt.Process n (Some names)) i q e = in_flat one_name q q names (got_in q names i e) (inl refl)
formal_stands array (stmt.Subroutine n None) i q e = absurd (cc e)
formal_stands array (stmt.Subroutine n (Some names)) i q e = in_flat one_name q q names (got_in q names i e) (inl refl)
formal_stands array (stmt.Function n names) i q e = inr (in_flat one_name q q names (got_in q names i e) (inl refl))
formal_stands array (stmt.IntegerFunction n names) i q e = inr (in_flat one_name q q names (got_in q names i e) (inl refl))
formal_stands array (stmt.LogicalFunction n names) i q e = inr (in_flat one_name q q names (got_in q names i e) (inl refl))
formal_stands array t i q e = absurd (cc e)

the_name : (a b : List ℕ) → Some a ≡ Some b → a ≡ b
the_name a b e = cc

own_stands : (array : List ℕ → Bool) (t : Stmt) (q : List ℕ) → heading_name t ≡ Some q → is_function (heading_kind t) ≡ true → In q (stands_in array t)
unfolding heading_name heading_kind stands_in
own_stands array (stmt.Function n names) q e h = inl (the_name n q e)
own_stands array (stmt.IntegerFunction n names) q e h = inl (the_name n q e)
own_stands array (stmt.LogicalFunction n names) q e h = inl (the_name n q e)
own_stands array t q e h = absurd (cc h)

-- ---- kinds

abbrev IsPortKind : Kind → Type 0
IsPortKind kind.Integer = ⊥
IsPortKind kind.Logical = ⊥
IsPortKind (kind.In t) = Unit {0}
IsPortKind (kind.Out t) = Unit {0}

scalar_none : (kd : Kind) (bs : List (ℤ × ℤ)) (words k : ℕ) → scalar_by (Some (symbol_by kd bs words k)) ≡ None → IsPortKind kd
scalar_none kind.Integer [] words k e = absurd (cc e)
scalar_none kind.Integer (b ∷ bs) words k e = absurd (cc e)
scalar_none kind.Logical [] words k e = absurd (cc e)
scalar_none kind.Logical (b ∷ bs) words k e = absurd (cc e)
scalar_none (kind.In t) bs words k e = tt
scalar_none (kind.Out t) bs words k e = tt

abbrev Entry : Type 0
Entry = List ℕ × Kind

-- entries of one kind
of_kind : (k : Kind) (ds : List Decl) (e : Entry) → In e (map (λ (d : Decl). (d.name, k)) ds) → (e.1 ≡ k) × ((d : Decl) × In d ds × (d.name ≡ e.0))
of_kind k [] e h = absurd h
of_kind k (d ∷ ds) e (inl s) = (ap (λ (x : Entry). x.1) (sym s), (d, inl refl, ap (λ (x : Entry). x.0) s))
of_kind k (d ∷ ds) e (inr h) = let r = of_kind k ds e h in (r.0, (r.1.0, inr r.1.1, r.1.2))

port_fact : (line : Line) (k : Kind) (ds : List Decl) (e : Entry) → In e (map (λ (d : Decl). (d.name, k)) ds) → In (fact line aspect.Port e.0) (flat_map (typed_facts line aspect.Port) ds)
port_fact line k ds e h =
    let r = of_kind k ds e h in
    in_flat (typed_facts line aspect.Port) r.1.0 (fact line aspect.Port e.0) ds r.1.1 (inl (ap (fact line aspect.Port) r.1.2))

port_said : (known : ByName Known) (at : ℕ) (line : Line) (t : Stmt) (e : Entry) → In e (kind_entries (kind_in known at t) (decls_of t)) → IsPortKind e.1 → In (fact line aspect.Port e.0) (facts_by line t)
unfolding kind_in decls_of facts_by
port_said known at line (stmt.Integer ds) e h is = absurd (subst IsPortKind (of_kind kind.Integer ds e h).0 is)
port_said known at line (stmt.Logical ds) e h is = absurd (subst IsPortKind (of_kind kind.Logical ds e h).0 is)
port_said known at line (stmt.Inport p ds) e h is = port_fact line _ ds e h
port_said known at line (stmt.Outport p ds) e h is = port_fact line _ ds e h
port_said known at line t e h is = absurd h

ports_said : (known : ByName Known) (at : ℕ) (ps : List Placed) (e : Entry) → In e (kinds_from known at ps) → IsPortKind e.1 → (p : Placed) × In p ps × In (fact p.line aspect.Port e.0) (facts_in p)
ports_said known at [] e h is = absurd h
ports_said known at (p ∷ ps) e h is = go (in_either e (kinds_at known at p) (kinds_from known (at + 1) ps) h) (λ k. ports_said known (at + 1) ps e k is)
  where
    go : In e (kinds_at known at p) ⊎ In e (kinds_from known (at + 1) ps) → (In e (kinds_from known (at + 1) ps) → (r : Placed) × In r ps × In (fact r.line aspect.Port e.0) (facts_in r)) → (r : Placed) × In r (p ∷ ps) × In (fact r.line aspect.Port e.0) (facts_in r)
    go (inl a) rest = (p, inl refl, port_said known at p.line p.stmt e a is)
    go (inr b) rest = let r = rest b in (r.0, inr r.1, r.2)

own_no_port : (t : Stmt) (e : Entry) → In e (own_kind t) → IsPortKind e.1 → ⊥
unfolding own_kind
own_no_port (stmt.IntegerFunction n names) e (inl s) is = subst (λ (x : Entry). IsPortKind x.1) (sym s) is
own_no_port (stmt.IntegerFunction n names) e (inr h) is = h
own_no_port (stmt.LogicalFunction n names) e (inl s) is = subst (λ (x : Entry). IsPortKind x.1) (sym s) is
own_no_port (stmt.LogicalFunction n names) e (inr h) is = h
own_no_port t e h is = absurd h

-- ---- a unit

module _ (titles : ByName Bool) (u : tree.Unit) (clean : broken_in titles u ≡ []) where
  abbrev s : Sheet
  s = sheet_of u

  abbrev known : ByName Known
  known = constants_of u.specs

  abbrev array : List ℕ → Bool
  array = is_array (arrays_of (constants_of u.specs) u.specs)

  abbrev heading : Stmt
  heading = u.heading.stmt

  pub first_parts : (declared_twice_in titles u ≡ []) × (constants.broken_from known (types_of u.specs) 0 u.specs ≡ [])
  first_parts =
      let twice = declared_twice_in titles u in
      let bad = constants.broken_from known (types_of u.specs) 0 u.specs in
      let untyped = untyped_in titles heading s in
      let long = when (is_long titles heading s) (place u.heading.line.0 E34) in
      let both = left_empty (twice ++ bad) untyped (left_empty (twice ++ bad ++ untyped) long clean) in
      (left_empty twice bad both, right_empty twice bad both)

  unknown_symbol : (q : List ℕ) → get known q ≡ None → get (symbols_of (unit_names titles u)) q ≡ first_entry (variable_entries 0 (unit_names titles u).variables) q
  unknown_symbol q none =
      let n = unit_names titles u in
      first_there (map constant_entry n.constants ++ variable_entries 0 n.variables) q
      ∙ first_append (map constant_entry n.constants) (variable_entries 0 n.variables) q
      (map_front n.constants q (λ e h same. let k = entries_known known 0 u.specs e h in none_some k.0 (sym none ∙ ap (get known) same ∙ k.1)))

  -- a name that occurs and is a variable is among the variables
  pub variable_among : (q : List ℕ) (o : Occurrence) → In o (occurrences array u) → q ≡ o.name → is_variable titles heading s q ≡ true → (x : Occurrence) × In x (variables_among titles heading s s.first) × (q ≡ x.name)
  variable_among q o h e is =
      let x = first_noted (occurrences array u) o h in
      let same = e ∙ x.2 in
      (x.0, chosen (names_variable titles heading s) s.first x.0 x.1 (sym (ap (is_variable titles heading s) same) ∙ is), same)

  variable_if : (q : List ℕ) → get known q ≡ None → is_other_function titles heading q ≡ false → is_variable titles heading s q ≡ true
  variable_if q none other = ap (λ (o : Option Known). not (is_some o || is_other_function titles heading q)) none ∙ ap not other

  -- formals
  formal_unknown : (i : ℕ) (q : List ℕ) → slice_get (heading_formals heading) i ≡ Some q → get known q ≡ None
  formal_unknown i q e = go (get known q) refl
    where
      go : (o : Option Known) → get known q ≡ o → get known q ≡ None
      go None is = is
      go (Some k) is = let d = known_defined u.specs q k is in absurd (no_formal_constant titles u first_parts.0 i d.0 d.1 d.2 d.3 (e ∙ ap Some (sym d.4)))

  numbers_alike : (i : ℕ) (q : List ℕ) → slice_get (heading_formals heading) i ≡ Some q → (m : List ℕ) → (unwrap_or (get s.formals m) 0 == suc i) ≡ same_name q m
  numbers_alike i q e m = ap (λ (o : Option ℕ). unwrap_or o 0 == suc i) (first_there (numbered 1 (heading_formals heading)) m) ∙ go (same_name q m) refl
    where
      the_number : (a b : ℕ) → Some a ≡ Some b → a ≡ b
      the_number a b e = cc

      not_true : (b : Bool) → (b ≡ true → ⊥) → b ≡ false
      not_true true h = absurd (h refl)
      not_true false h = refl

      other : (o : Option ℕ) → first_entry (numbered 1 (heading_formals heading)) m ≡ o → same_name q m ≡ false → (unwrap_or o 0 == suc i) ≡ false
      other None is apart = not_true (0 == suc i) (λ h. absurd (omega (arith, (Decides-eqb 0 (suc i)).0 h)))
      other (Some k) is apart =
          not_true (k == suc i)
          (λ h.
          let r = numbered_there (heading_formals heading) 1 m k is in
          let same : r.0 ≡ i = omega (arith, r.1, (Decides-eqb k (suc i)).0 h) in
          never (sym (same_names q m (the_name q m (sym e ∙ ap (slice_get (heading_formals heading)) (sym same) ∙ r.2))) ∙ apart))

      go : (b : Bool) → same_name q m ≡ b → (unwrap_or (first_entry (numbered 1 (heading_formals heading)) m) 0 == suc i) ≡ b
      go true is =
          let here = numbered_here (heading_formals heading) 1 i q e (λ j less at. formals_distinct titles u first_parts.0 j i q less at e) in
          ap (λ (o : Option ℕ). unwrap_or o 0 == suc i) (ap (first_entry (numbered 1 (heading_formals heading))) (sym (name_is q m is)) ∙ here) ∙ (Decides-eqb (1 + i) (suc i)).1 (omega arith)
      go false is = other (first_entry (numbered 1 (heading_formals heading)) m) refl is

  pub formal_symbol : (i : ℕ) (q : List ℕ) → slice_get (heading_formals heading) i ≡ Some q → symbol_place (get (symbols_of (unit_names titles u)) q) ≡ Some (formal_from 0 (suc i) (unit_names titles u).variables)
  formal_symbol i q e =
      let none = formal_unknown i q e in
      let o = occurrence u.heading.line q in
      let within = in_left o (in_placed array u.heading) (flat_map (in_placed array) u.specs ++ flat_map (in_entry array) u.body) (in_map (occurrence u.heading.line) q (stands_in array heading) (formal_stands array heading i q e)) in
      let x = variable_among q o within refl (variable_if q none (no_formal_function titles u first_parts.0 i q e)) in
      ap symbol_place (unknown_symbol q none) ∙ formal_here s (variables_among titles heading s s.first) 0 0 i q x.0 x.1 x.2 (numbers_alike i q e)

  -- a FUNCTION's own name
  pub own_constant : (q : List ℕ) (c : Constant) → heading_name heading ≡ Some q → is_function (heading_kind heading) ≡ true → constant_in q (unit_names titles u).constants ≡ Some c → ⊥
  own_constant q c named function e =
      let x = constant_found (unit_names titles u).constants q c e in
      let k = entries_known known 0 u.specs x.0 x.1 in
      let d = known_defined u.specs x.0.0 k.0 k.1 in
      no_own_constant titles u first_parts.0 d.0 d.1 d.2 d.3 (named ∙ ap Some (x.2 ∙ sym d.4)) function

  own_unknown : (q : List ℕ) → heading_name heading ≡ Some q → is_function (heading_kind heading) ≡ true → get known q ≡ None
  own_unknown q named function = go (get known q) refl
    where
      go : (o : Option Known) → get known q ≡ o → get known q ≡ None
      go None is = is
      go (Some k) is = let d = known_defined u.specs q k is in absurd (no_own_constant titles u first_parts.0 d.0 d.1 d.2 d.3 (named ∙ ap Some (sym d.4)) function)

  own_title : (q : List ℕ) → heading_name heading ≡ Some q → is_other_function titles heading q ≡ false
  own_title q named = ap (λ (o : Option (List ℕ)). is_function_title (get titles q) && not (is_own_name o q)) named ∙ ap (λ (b : Bool). is_function_title (get titles q) && not b) (same_self q) ∙ no_more (is_function_title (get titles q))
    where
      no_more : (b : Bool) → (b && false) ≡ false
      no_more true = refl
      no_more false = refl

  own_kind_port : (q : List ℕ) → heading_name heading ≡ Some q → is_function (heading_kind heading) ≡ true → IsPortKind (unwrap_or (get s.kinds q) kind.Integer) → ⊥
  own_kind_port q named function is = go (get s.kinds q) refl is
    where
      by : (k : Kind) → get s.kinds q ≡ Some k → IsPortKind k → ⊥
      by k at is =
          let es = own_kind heading ++ kinds_from known 0 u.specs in
          let e = entry_in es q k (sym (first_there es q) ∙ at) in
          let port : IsPortKind e.0.1 = subst IsPortKind (sym e.3) is in
          among e.0 (in_either e.0 (own_kind heading) (kinds_from known 0 u.specs) e.1) port e.2
        where
          among : (e : Entry) → In e (own_kind heading) ⊎ In e (kinds_from known 0 u.specs) → IsPortKind e.1 → q ≡ e.0 → ⊥
          among e (inl h) port same = own_no_port heading e h port
          among e (inr h) port same =
              let x = ports_said known 0 u.specs e h port in
              no_own_port titles u first_parts.0 x.0 (fact x.0.line aspect.Port e.0) x.1 x.2 refl (named ∙ ap Some same) function

      go : (o : Option Kind) → get s.kinds q ≡ o → IsPortKind (unwrap_or o kind.Integer) → ⊥
      go None at is = is
      go (Some k) at is = by k at is

  pub own_result : (q : List ℕ) → heading_name heading ≡ Some q → is_function (heading_kind heading) ≡ true → scalar_by (get (symbols_of (unit_names titles u)) q) ≡ None → ⊥
  own_result q named function e =
      let none = own_unknown q named function in
      let o = occurrence u.heading.line q in
      let within = in_left o (in_placed array u.heading) (flat_map (in_placed array) u.specs ++ flat_map (in_entry array) u.body) (in_map (occurrence u.heading.line) q (stands_in array heading) (own_stands array heading q named function)) in
      let x = variable_among q o within refl (variable_if q none (own_title q named)) in
      go x.0 x.1 x.2 (first_entry (variable_entries 0 (unit_names titles u).variables) q) refl (sym (ap scalar_by (unknown_symbol q none)) ∙ e)
    where
      go : (x : Occurrence) → In x (variables_among titles heading s s.first) → q ≡ x.name → (o : Option Symbol) → first_entry (variable_entries 0 (unit_names titles u).variables) q ≡ o
          → scalar_by (first_entry (variable_entries 0 (unit_names titles u).variables) q) ≡ None → ⊥
      go x within same None is h = found_there s (variables_among titles heading s s.first) 0 0 q x within same is
      go x within same (Some y) is h =
          let w = what_there s (variables_among titles heading s s.first) 0 0 q y is in
          let v = variable s w.1 q in
          own_kind_port q named function (scalar_none v.kind v.bounds v.words w.0 (ap (λ (y : Symbol). scalar_by (Some y)) w.2 ∙ sym (ap scalar_by is) ∙ h))
