-- No array has the name of a FUNCTION: a unit that breaks no rule gives no bounds to such a name.
use Rattle.std.proofs.Common.{◌≡◌, ◌⊎◌, inl, inr, ℕ, ℤ, ◌+◌, Bool, true, false, ◌||◌, Option, Some, None, List, [], ◌∷◌, ◌++◌, map, refl, sym, ap, ◌∙◌, subst}
use Rattle.std.specs.FinMap.{get}
use Rattle.std.specs.List.{flat_map}
use Rattle.fm_base.specs.declared.name.Line.{Line}
use Rattle.fm_tree.specs.declared.port_type.Bound.{Bound}
use Rattle.fm_tree.specs.declared.port_type.Kind.{Kind}
use Rattle.fm_tree.specs.declared.port_type.Kind.TheVariants as kind
use Rattle.fm_tree.specs.declared.program_unit.Placed.{Placed}
use Rattle.fm_tree.specs.declared.program_unit.Unit as tree
use Rattle.fm_tree.specs.declared.statement.Decl.{Decl}
use Rattle.fm_tree.specs.declared.statement.Stmt.{Stmt}
use Rattle.fm_tree.specs.declared.statement.Stmt.TheVariants as stmt
use Rattle.fm_symbols.specs.ByName.{ByName}
use Rattle.fm_symbols.specs.Context.{constant_entry, constant_symbol, symbol_by, symbol_of, symbols_of, variable_entries}
use Rattle.fm_symbols.specs.Headings.{heading_kind, heading_name, is_function}
use Rattle.fm_symbols.specs.declared.names.Constant.{Constant}
use Rattle.fm_symbols.specs.declared.names.Constant.TheVariants as constant
use Rattle.fm_symbols.specs.declared.symbol.Symbol.{Symbol}
use Rattle.fm_symbols.specs.declared.symbol.Symbol.TheVariants as symbol
use Rattle.fm_rules.specs.declared.constants.Known.{Known}
use Rattle.fm_rules.specs.Constants.{constants_of}
use Rattle.fm_rules.specs.ConstantParts.{decls_of}
use Rattle.fm_rules.specs.declared.sheet.Aspect.{Aspect}
use Rattle.fm_rules.specs.declared.sheet.Aspect.TheVariants as aspect
use Rattle.fm_rules.specs.Declarations.{bounds_facts, clashes_among, declared_twice_in, decl_facts, dimension_facts, fact, facts_by, facts_in, facts_of, repeated_processors, said, typed_facts}
use Rattle.fm_rules.specs.FunctionTitles.{is_other_function}
use Rattle.fm_rules.specs.declared.sheet.ArrayShape.{ArrayShape}
use Rattle.fm_rules.specs.declared.sheet.Occurrence.{Occurrence}
use Rattle.fm_rules.specs.declared.sheet.Sheet.{Sheet}
use Rattle.fm_rules.specs.Sheets.{decl_shapes, shape_entries, shapes_from, sheet_of}
use Rattle.fm_rules.specs.Variables.{bounds_by, laid_out, variable, variables_among, words_of}
use Rattle.fm_rules.specs.Names.{unit_names}
use Rattle.fm_mean.specs.Evaluate.{is_array}
use Rattle.fm_mean.proofs.FirstEntries.{first_there}
use Rattle.fm_mean.proofs.Meanings.{entry_in}
use Rattle.fm_mean.proofs.Members.{In, in_either, in_flat, in_parts, in_right}
use Rattle.fm_mean.proofs.Unbroken.{left_empty, or_right}
use Rattle.fm_mean.proofs.Clashes.{across, takes_none}

never : true ≡ false → ⊥
never e = absurd (cc)

-- ---- symbols of arrays

abbrev pub has_bounds : Symbol → Bool
has_bounds (symbol.Constant s) = false
has_bounds (symbol.Variable s place) = false
has_bounds (symbol.Array s place x) = true
has_bounds (symbol.Port d place) = false
has_bounds (symbol.Ports d place x) = true
has_bounds (symbol.Function k) = false

pub symbol_bounds : (kd : Kind) (bs : List (ℤ × ℤ)) (words place : ℕ) → has_bounds (symbol_by kd bs words place) ≡ is_array bs
symbol_bounds kind.Integer [] words place = refl
symbol_bounds kind.Integer (b ∷ bs) words place = refl
symbol_bounds kind.Logical [] words place = refl
symbol_bounds kind.Logical (b ∷ bs) words place = refl
symbol_bounds (kind.In t) [] words place = refl
symbol_bounds (kind.In t) (b ∷ bs) words place = refl
symbol_bounds (kind.Out t) [] words place = refl
symbol_bounds (kind.Out t) (b ∷ bs) words place = refl

constant_bounds : (c : Constant) → has_bounds (constant_symbol c) ≡ false
constant_bounds (constant.Integer n) = refl
constant_bounds (constant.Logical b) = refl

abbrev Entry : Type 0
Entry = List ℕ × Symbol

constant_entries : (cs : List (List ℕ × Constant)) (e : Entry) → In e (map constant_entry cs) → has_bounds e.1 ≡ false
constant_entries [] e h = absurd h
constant_entries (c ∷ cs) e (inl same) = subst (λ (x : Entry). has_bounds x.1 ≡ false) same (constant_bounds c.1)
constant_entries (c ∷ cs) e (inr h) = constant_entries cs e h

-- an entry of a variable is made of its name
variable_entry : (s : Sheet) (first place : ℕ) (os : List Occurrence) (e : Entry) → In e (variable_entries place (laid_out s first os)) → (k w : ℕ) × (symbol_of k (variable s w e.0) ≡ e.1)
variable_entry s first place [] e h = absurd h
variable_entry s first place (o ∷ os) e (inl same) = subst (λ (x : Entry). (k w : ℕ) × (symbol_of k (variable s w x.0) ≡ x.1)) same (place, first, refl)
variable_entry s first place (o ∷ os) e (inr h) = variable_entry s (first + words_of s o.name) (place + 1) os e h

-- what is an array among the names of a unit is declared with bounds
array_declared : (titles : ByName Bool) (u : tree.Unit) (name : List ℕ) (y : Symbol) → get (symbols_of (unit_names titles u)) name ≡ Some y → has_bounds y ≡ true → is_array (bounds_by (get (sheet_of u).arrays name)) ≡ true
array_declared titles u name y is array =
    let s = sheet_of u in
    let n = unit_names titles u in
    let constants = map constant_entry n.constants in
    let variables = variable_entries 0 n.variables in
    let e = entry_in (constants ++ variables) name y (sym (first_there (constants ++ variables) name) ∙ is) in
    go e.0 e.2 (ap has_bounds e.3 ∙ array) (in_either e.0 constants variables e.1)
  where
    go : (e : Entry) → name ≡ e.0 → has_bounds e.1 ≡ true → In e (map constant_entry (unit_names titles u).constants) ⊎ In e (variable_entries 0 (unit_names titles u).variables) → is_array (bounds_by (get (sheet_of u).arrays name)) ≡ true
    go e same bounds (inl h) = absurd (never (sym bounds ∙ constant_entries (unit_names titles u).constants e h))
    go e same bounds (inr h) =
        let x = variable_entry (sheet_of u) 0 0 (variables_among titles u.heading.stmt (sheet_of u) (sheet_of u).first) e h in
        let v = variable (sheet_of u) x.1 e.0 in
        ap (λ (q : List ℕ). is_array (bounds_by (get (sheet_of u).arrays q))) same ∙ sym (symbol_bounds v.kind v.bounds v.words x.0) ∙ ap has_bounds x.2 ∙ bounds

-- ---- what is said of it

shape_said : (known : ByName Known) (at : ℕ) (line : Line) (d : Decl) (e : List ℕ × ArrayShape) → In e (decl_shapes known at d) → In (fact line aspect.Bounds e.0) (bounds_facts line d.name d.bounds)
shape_said known at line d e h = go d.bounds h
  where
    go : (bs : List Bound) → In e (shape_entries known at d.name bs) → In (fact line aspect.Bounds e.0) (bounds_facts line d.name bs)
    go [] h = absurd h
    go (b ∷ bs) (inl same) = inl (ap (λ (x : List ℕ × ArrayShape). fact line aspect.Bounds x.0) same)
    go (b ∷ bs) (inr h) = absurd h

typed_said : (known : ByName Known) (at : ℕ) (line : Line) (what : Aspect) (ds : List Decl) (e : List ℕ × ArrayShape) → In e (flat_map (decl_shapes known at) ds) → In (fact line aspect.Bounds e.0) (decl_facts line what ds)
typed_said known at line what ds e h =
    let d = in_parts (decl_shapes known at) e ds h in
    in_flat (typed_facts line what) d.0 (fact line aspect.Bounds e.0) ds d.1 (inr (shape_said known at line d.0 e d.2))

dimension_said : (known : ByName Known) (at : ℕ) (line : Line) (ds : List Decl) (e : List ℕ × ArrayShape) → In e (flat_map (decl_shapes known at) ds) → In (fact line aspect.Bounds e.0) (flat_map (dimension_facts line) ds)
dimension_said known at line ds e h =
    let d = in_parts (decl_shapes known at) e ds h in
    in_flat (dimension_facts line) d.0 (fact line aspect.Bounds e.0) ds d.1 (shape_said known at line d.0 e d.2)

bounds_said : (known : ByName Known) (at : ℕ) (line : Line) (t : Stmt) (e : List ℕ × ArrayShape) → In e (flat_map (decl_shapes known at) (decls_of t)) → In (fact line aspect.Bounds e.0) (facts_by line t)
unfolding decls_of facts_by
bounds_said known at line (stmt.Integer ds) e h = typed_said known at line aspect.Value ds e h
bounds_said known at line (stmt.Logical ds) e h = typed_said known at line aspect.Value ds e h
bounds_said known at line (stmt.Dimension ds) e h = dimension_said known at line ds e h
bounds_said known at line (stmt.Inport p ds) e h = typed_said known at line aspect.Port ds e h
bounds_said known at line (stmt.Outport p ds) e h = typed_said known at line aspect.Port ds e h
bounds_said known at line t e h = absurd h

shapes_said : (known : ByName Known) (at : ℕ) (ps : List Placed) (e : List ℕ × ArrayShape) → In e (shapes_from known at ps) → (p : Placed) × In p ps × In (fact p.line aspect.Bounds e.0) (facts_in p)
shapes_said known at [] e h = absurd h
shapes_said known at (p ∷ ps) e h = go (in_either e (flat_map (decl_shapes known at) (decls_of p.stmt)) (shapes_from known (at + 1) ps) h) (λ k. shapes_said known (at + 1) ps e k)
  where
    go : In e (flat_map (decl_shapes known at) (decls_of p.stmt)) ⊎ In e (shapes_from known (at + 1) ps) → (In e (shapes_from known (at + 1) ps) → (r : Placed) × In r ps × In (fact r.line aspect.Bounds e.0) (facts_in r))
        → (r : Placed) × In r (p ∷ ps) × In (fact r.line aspect.Bounds e.0) (facts_in r)
    go (inl a) rest = (p, inl refl, bounds_said known at p.line p.stmt e a)
    go (inr b) rest = let r = rest b in (r.0, inr r.1, r.2)

own_said : (line : Line) (t : Stmt) (name : List ℕ) → heading_name t ≡ Some name → is_function (heading_kind t) ≡ true → In (fact line aspect.Own name) (facts_by line t)
unfolding heading_name heading_kind facts_by
own_said line (stmt.Function n formals) name e h = inl (ap (fact line aspect.Own) (the_name n name e))
  where
    the_name : (a b : List ℕ) → Some a ≡ Some b → a ≡ b
    the_name a b e = cc
own_said line (stmt.IntegerFunction n formals) name e h = inl (ap (fact line aspect.Own) (the_name n name e))
  where
    the_name : (a b : List ℕ) → Some a ≡ Some b → a ≡ b
    the_name a b e = cc
own_said line (stmt.LogicalFunction n formals) name e h = inl (ap (fact line aspect.Own) (the_name n name e))
  where
    the_name : (a b : List ℕ) → Some a ≡ Some b → a ≡ b
    the_name a b e = cc
own_said line t name e h = absurd (cc h)

-- ---- a unit

module _ (titles : ByName Bool) (u : tree.Unit) (clean : declared_twice_in titles u ≡ []) where
  facts_clean : clashes_among titles u.heading.stmt (facts_in u.heading ++ flat_map facts_in u.specs) ≡ []
  facts_clean = left_empty (clashes_among titles u.heading.stmt (facts_of u)) (repeated_processors u.specs) clean

  -- what has bounds is neither another FUNCTION's name nor its own
  pub record NoFunction (name : List ℕ) : Type 0 where
    pub other : is_other_function titles u.heading.stmt name ≡ false
    pub own : heading_name u.heading.stmt ≡ Some name → is_function (heading_kind u.heading.stmt) ≡ true → ⊥

  no_function : (name : List ℕ) (p : Placed) → In p u.specs → In (fact p.line aspect.Bounds name) (facts_in p) → NoFunction name
  no_function name p within says_so =
      let f = fact p.line aspect.Bounds name in
      let here = in_flat facts_in p f u.specs within says_so in
      record {
        other = takes_none titles u.heading.stmt (facts_in u.heading ++ flat_map facts_in u.specs) f facts_clean (in_right f (facts_in u.heading) (flat_map facts_in u.specs) here);
        own = λ named function.
            let x = across titles u.heading.stmt (facts_in u.heading) (flat_map facts_in u.specs) f (fact u.heading.line aspect.Own name) aspect.Own facts_clean (own_said u.heading.line u.heading.stmt name named function) here refl refl in
            let s = said x.0 name in
            never (sym x.1 ∙ or_right (s aspect.Constant) (s aspect.Own) (or_right (s aspect.Bounds) (s aspect.Constant || s aspect.Own) x.2));
      }

  pub array_no_function : (name : List ℕ) (y : Symbol) → get (symbols_of (unit_names titles u)) name ≡ Some y → has_bounds y ≡ true → NoFunction name
  array_no_function name y is array = go (get (sheet_of u).arrays name) refl (array_declared titles u name y is array)
    where
      go : (o : Option ArrayShape) → get (sheet_of u).arrays name ≡ o → is_array (bounds_by (get (sheet_of u).arrays name)) ≡ true → NoFunction name
      go None at e = absurd (never (sym e ∙ ap (λ (o : Option ArrayShape). is_array (bounds_by o)) at))
      go (Some x) at e =
          let shapes = shapes_from (constants_of u.specs) 0 u.specs in
          let r = entry_in shapes name x (sym (first_there shapes name) ∙ at) in
          let p = shapes_said (constants_of u.specs) 0 u.specs r.0 r.1 in
          no_function name p.0 p.1 (subst (λ (q : List ℕ). In (fact p.0.line aspect.Bounds q) (facts_in p.0)) (sym r.2) p.2)
