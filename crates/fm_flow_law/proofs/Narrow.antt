-- Where no declaration is wide, port variables have one element, and their messages no ports.
use Rattle.std.proofs.Common.{◌≡◌, ◌⊎◌, inl, inr, ℕ, zero, suc, ◌+◌, Bool, true, false, ◌||◌, ◌&&◌, Option, Some, None, unwrap_or, List, [], ◌∷◌, ◌++◌, map, slice_get, refl, sym, ap, ◌∙◌, subst}
use Rattle.std.specs.Prelude.{Contains}
use Rattle.std.specs.FinMap.{get}
use Rattle.std.specs.List.{flat_map}
use Rattle.fm_base.specs.declared.name.Line.{Line}
use Rattle.fm_tree.specs.PortFields.{PortFields, FieldKind, NoFields, FieldThen, Integer, Logical, In, Out}
use Rattle.fm_tree.specs.declared.port_type.Bound.{Bound}
use Rattle.fm_tree.specs.declared.port_type.Kind.{Kind}
use Rattle.fm_tree.specs.declared.port_type.Kind.TheVariants as kind
use Rattle.fm_tree.specs.declared.program_unit.Placed.{Placed}
use Rattle.fm_tree.specs.declared.program_unit.Unit as tree
use Rattle.fm_tree.specs.declared.statement.Decl.{Decl}
use Rattle.fm_tree.specs.declared.statement.Stmt.{Stmt}
use Rattle.fm_tree.specs.declared.statement.Stmt.TheVariants as stmt
use Rattle.fm_symbols.specs.ByName.{ByName}
use Rattle.fm_symbols.specs.declared.names.UnitNames.{UnitNames}
use Rattle.fm_symbols.specs.declared.names.Variable.{Variable}
use Rattle.fm_rules.proofs.Lists.{at_head, behind_head}
use Rattle.fm_base.specs.Verdict.{place, when}
use Rattle.fm_base.specs.declared.rule.Rule.TheVariants.{E34}
use Rattle.fm_rules.specs.BrokenConstants.{broken_from as names_from}
use Rattle.fm_rules.specs.BrokenNames.{broken_in, untyped_in, is_long}
use Rattle.fm_rules.specs.ConstantParts.{decls_of}
use Rattle.fm_rules.specs.Constants.{constants_of}
use Rattle.fm_rules.specs.Declarations.{Fact, clashes, clashes_among, decl_facts, declared_twice_in, fact, facts_by, facts_in, facts_of, repeated_processors, said, same_aspect, typed_facts}
use Rattle.fm_rules.specs.FunctionTitles.{titles_of}
use Rattle.fm_rules.specs.Names.{unit_names}
use Rattle.fm_rules.specs.PortTypes.{normal_fields, normal_kind, normal_type}
use Rattle.fm_rules.specs.SizedFields.{Sizes, size_given}
use Rattle.fm_rules.specs.Sheets.{decl_shapes, kind_entries, kind_in, kinds_at, kinds_from, own_kind, shape_entries, shapes_from, sheet_of}
use Rattle.fm_rules.specs.Variables.{bounds_by, laid_out, variable, variables_among, words_by, words_of}
use Rattle.fm_rules.specs.declared.constants.Known.{Known}
use Rattle.fm_rules.specs.declared.program.Program.{Program}
use Rattle.fm_rules.specs.declared.sheet.ArrayShape.{ArrayShape}
use Rattle.fm_rules.specs.declared.sheet.Aspect.{Aspect}
use Rattle.fm_rules.specs.declared.sheet.Aspect.TheVariants as aspect
use Rattle.fm_rules.specs.declared.sheet.Occurrence.{Occurrence}
use Rattle.fm_rules.specs.declared.sheet.Sheet.{Sheet}
use Rattle.fm_net.specs.Typed.{AllIn}
use Rattle.fm_mean.specs.Evaluate.{is_array}
use Rattle.fm_mean.specs.Names.{ProgramUnit, same_name, unit_at, main_number}
use Rattle.fm_mean.proofs.Clashes.{across}
use Rattle.fm_mean.proofs.FirstEntries.{first_there}
use Rattle.fm_mean.proofs.Meanings.{entry_in}
use Rattle.fm_mean.proofs.Members.{In as Among, in_either, in_flat, in_parts, in_right, same_names}
use Rattle.fm_mean.proofs.Sizes.{parts_of, the_names}
use Rattle.fm_mean.proofs.Unbroken.{Unbroken, each_empty, from_rules, left_empty, or_left, or_right}
use Rattle.fm_flow_law.specs.Flow.{IsFlowSafe, any_bounded, any_port, is_bounded, is_field_port, is_port, is_wide, names_port, sends_ports, wide}
use Rattle.fm_flow_law.proofs.Assembled.{no_risk}
use Rattle.fm_flow_law.proofs.MainArguments.{IsNarrow, NarrowBy}
use Rattle.fm_flow_law.proofs.Wraps.{all_points}
use native.Mathlib.Decide.{ℕ_discrete}

never : true ≡ false → ⊥
never e = absurd (cc)

-- ---- types without names have ports where those with names have

kind_plain : (known : ByName Known) (at : ℕ) (k : FieldKind) → is_field_port (normal_kind known at k) ≡ is_field_port k
kind_plain known at Integer = refl
kind_plain known at Logical = refl
kind_plain known at (In t) = refl
kind_plain known at (Out t) = refl

fields_plain : (known : ByName Known) (at : ℕ) (earlier : Sizes) (t : PortFields) → sends_ports (normal_fields known at earlier t) ≡ sends_ports t
fields_plain known at earlier NoFields = refl
fields_plain known at earlier (FieldThen k name bounds rest) =
    let sizes = size_given k name bounds ∷ earlier in
    ap (λ (b : Bool). b || sends_ports (normal_fields known at sizes rest)) (kind_plain known at k) ∙ ap (λ (b : Bool). is_field_port k || b) (fields_plain known at sizes rest)

type_plain : (known : ByName Known) (at : ℕ) (t : PortFields) → sends_ports (normal_type known at t) ≡ sends_ports t
type_plain known at t = fields_plain known at [] t

-- ---- lists

contains : (xs : List Placed) (x : Placed) → Among x xs → Contains xs x
contains [] x h = absurd h
contains (y ∷ xs) x (inl e) = subst (λ (z : Placed). Contains (y ∷ xs) z) e (at_head y xs)
contains (y ∷ xs) x (inr h) = behind_head y x xs (contains xs x h)

-- of two facts one stands before the other
data InTurn (f g : Fact) (all : List Fact) : Type 0 where
  one : f ≡ g → InTurn f g all
  before : (xs ys : List Fact) → all ≡ xs ++ ys → Among f xs → Among g ys → InTurn f g all
  behind : (xs ys : List Fact) → all ≡ xs ++ ys → Among g xs → Among f ys → InTurn f g all

in_turn : (f g : Fact) (all : List Fact) → Among f all → Among g all → InTurn f g all
in_turn f g [] h k = absurd h
in_turn f g (x ∷ xs) (inl e) (inl d) = one (sym e ∙ d)
in_turn f g (x ∷ xs) (inl e) (inr k) = before (x ∷ []) xs refl (inl e) k
in_turn f g (x ∷ xs) (inr h) (inl d) = behind (x ∷ []) xs refl (inl d) h
in_turn f g (x ∷ xs) (inr h) (inr k) = longer (in_turn f g xs h k)
  where
    longer : InTurn f g xs → InTurn f g (x ∷ xs)
    longer (one e) = one e
    longer (before as' ys e a b) = before (x ∷ as') ys (ap (λ (l : List Fact). x ∷ l) e) (inr a) b
    longer (behind as' ys e a b) = behind (x ∷ as') ys (ap (λ (l : List Fact). x ∷ l) e) (inr a) b

-- ---- what is declared twice

twice_of : (titles : ByName Bool) (t : tree.Unit) → broken_in titles t ≡ [] → declared_twice_in titles t ≡ []
twice_of titles t e =
    let s = sheet_of t in
    let a = declared_twice_in titles t in
    let b = names_from s.known s.types 0 t.specs in
    let c = untyped_in titles t.heading.stmt s in
    let d = when (is_long titles t.heading.stmt s) (place t.heading.line.0 E34) in
    left_empty a b (left_empty (a ++ b) c (left_empty (a ++ b ++ c) d e))

-- ---- statements

same_kind : (k : Kind) (ds : List Decl) (e : List ℕ × Kind) → Among e (map (λ (d : Decl). (d.name, k)) ds) → (k ≡ e.1) × (d : Decl) × Among d ds × (d.name ≡ e.0)
same_kind k [] e h = absurd h
same_kind k (d ∷ ds) e (inl same) = (ap (λ (x : List ℕ × Kind). x.1) same, d, inl refl, ap (λ (x : List ℕ × Kind). x.0) same)
same_kind k (d ∷ ds) e (inr h) = let r = same_kind k ds e h in (r.0, r.1, inr r.2, r.3)

abbrev pub plain_kind : Kind → Bool
plain_kind kind.Integer = false
plain_kind kind.Logical = false
plain_kind (kind.In x) = sends_ports x
plain_kind (kind.Out x) = sends_ports x

port_said : (line : Line) (ds : List Decl) (k : Kind) (e : List ℕ × Kind) → Among e (map (λ (d : Decl). (d.name, k)) ds) → Among (fact line aspect.Port e.0) (decl_facts line aspect.Port ds)
port_said line ds k e h =
    let d = same_kind k ds e h in
    subst (λ (n : List ℕ). Among (fact line aspect.Port n) (decl_facts line aspect.Port ds)) d.3 (in_flat (typed_facts line aspect.Port) d.1 (fact line aspect.Port d.1.name) ds d.2 (inl refl))

own_no_port : (s : Stmt) (e : List ℕ × Kind) → Among e (own_kind s) → is_port e.1 ≡ false
unfolding own_kind
own_no_port (stmt.IntegerFunction name formals) e (inl same) = ap (λ (x : List ℕ × Kind). is_port x.1) (sym same)
own_no_port (stmt.IntegerFunction name formals) e (inr h) = absurd h
own_no_port (stmt.LogicalFunction name formals) e (inl same) = ap (λ (x : List ℕ × Kind). is_port x.1) (sym same)
own_no_port (stmt.LogicalFunction name formals) e (inr h) = absurd h
own_no_port s e h = absurd h

any_bounded_in : (ds : List Decl) (d : Decl) → Among d ds → is_bounded d.bounds ≡ true → any_bounded ds ≡ true
any_bounded_in [] d h e = absurd h
any_bounded_in (x ∷ ds) d (inl same) e = ap (λ (b : Bool). b || any_bounded ds) (ap (λ (y : Decl). is_bounded y.bounds) same ∙ e)
any_bounded_in (x ∷ ds) d (inr h) e = or_more (is_bounded x.bounds) (any_bounded ds) (any_bounded_in ds d h e)
  where
    or_more : (a b : Bool) → b ≡ true → (a || b) ≡ true
    or_more true b q = refl
    or_more false b q = q

any_port_in : (vs : List Variable) (ds : List Decl) (d : Decl) → Among d ds → names_port vs d.name ≡ true → any_port vs ds ≡ true
any_port_in vs [] d h e = absurd h
any_port_in vs (x ∷ ds) d (inl same) e = ap (λ (b : Bool). b || any_port vs ds) (ap (λ (y : Decl). names_port vs y.name) same ∙ e)
any_port_in vs (x ∷ ds) d (inr h) e = or_more (names_port vs x.name) (any_port vs ds) (any_port_in vs ds d h e)
  where
    or_more : (a b : Bool) → b ≡ true → (a || b) ≡ true
    or_more true b q = refl
    or_more false b q = q

names_port_in : (vs : List Variable) (i : ℕ) (v : Variable) → slice_get vs i ≡ Some v → is_port v.kind ≡ true → names_port vs v.name ≡ true
names_port_in [] i v at port = absurd (cc at)
names_port_in (x ∷ vs) zero v at port =
    let same : x ≡ v = the_variable x v at in
    ap (λ (b : Bool). b || names_port vs v.name) (ap (λ (y : Variable). same_name y.name v.name && is_port y.kind) same ∙ ap (λ (b : Bool). b && is_port v.kind) (same_names v.name v.name refl) ∙ port)
  where
    the_variable : (a b : Variable) → Some a ≡ Some b → a ≡ b
    the_variable a b e = cc
names_port_in (x ∷ vs) (suc i) v at port = or_more (same_name x.name v.name && is_port x.kind) (names_port vs v.name) (names_port_in vs i v at port)
  where
    or_more : (a b : Bool) → b ≡ true → (a || b) ≡ true
    or_more true b q = refl
    or_more false b q = q

module _ (u : ProgramUnit) where
  -- what declares a port
  record SaysPort (line : Line) (s : Stmt) (e : List ℕ × Kind) : Type 0 where
    says : Among (fact line aspect.Port e.0) (facts_by line s)
    plain : is_wide u s ≡ false → plain_kind e.1 ≡ false

  stmt_port : (known : ByName Known) (at : ℕ) (line : Line) (s : Stmt) (e : List ℕ × Kind) → Among e (kind_entries (kind_in known at s) (decls_of s)) → is_port e.1 ≡ true → SaysPort line s e
  unfolding kind_in decls_of facts_by is_wide
  stmt_port known at line (stmt.Integer ds) e h port = absurd (never (sym port ∙ ap is_port (sym (same_kind kind.Integer ds e h).0)))
  stmt_port known at line (stmt.Logical ds) e h port = absurd (never (sym port ∙ ap is_port (sym (same_kind kind.Logical ds e h).0)))
  stmt_port known at line (stmt.Inport t ds) e h port = record {
    says = port_said line ds (kind.In (normal_type known at t)) e h;
    plain = λ q. ap plain_kind (sym (same_kind (kind.In (normal_type known at t)) ds e h).0) ∙ type_plain known at t ∙ or_left (sends_ports t) (any_bounded ds) q;
  }
  stmt_port known at line (stmt.Outport t ds) e h port = record {
    says = port_said line ds (kind.Out (normal_type known at t)) e h;
    plain = λ q. ap plain_kind (sym (same_kind (kind.Out (normal_type known at t)) ds e h).0) ∙ type_plain known at t ∙ or_left (sends_ports t) (any_bounded ds) q;
  }
  stmt_port known at line s e h port = absurd h

  stmt_bounded : (line : Line) (s : Stmt) (d : Decl) → Among d (decls_of s) → is_bounded d.bounds ≡ true → is_wide u s ≡ false → names_port u.names.variables d.name ≡ true → Among (fact line aspect.Value d.name) (facts_by line s)
  unfolding decls_of facts_by is_wide
  stmt_bounded line (stmt.Integer ds) d h b q port = in_flat (typed_facts line aspect.Value) d (fact line aspect.Value d.name) ds h (inl refl)
  stmt_bounded line (stmt.Logical ds) d h b q port = in_flat (typed_facts line aspect.Value) d (fact line aspect.Value d.name) ds h (inl refl)
  stmt_bounded line (stmt.Dimension ds) d h b q port = absurd (never (sym (any_port_in u.names.variables ds d h port) ∙ q))
  stmt_bounded line (stmt.Inport t ds) d h b q port = absurd (never (sym (any_bounded_in ds d h b) ∙ or_right (sends_ports t) (any_bounded ds) q))
  stmt_bounded line (stmt.Outport t ds) d h b q port = absurd (never (sym (any_bounded_in ds d h b) ∙ or_right (sends_ports t) (any_bounded ds) q))
  stmt_bounded line s d h b q port = absurd h

-- ---- declarations

kinds_declared : (known : ByName Known) (at : ℕ) (ps : List Placed) (e : List ℕ × Kind) → Among e (kinds_from known at ps) → (p : Placed) × (n : ℕ) × Among p ps × Among e (kinds_at known n p)
kinds_declared known at [] e h = absurd h
kinds_declared known at (p ∷ ps) e h = go (in_either e (kinds_at known at p) (kinds_from known (at + 1) ps) h) (λ k. kinds_declared known (at + 1) ps e k)
  where
    go : Among e (kinds_at known at p) ⊎ Among e (kinds_from known (at + 1) ps) → (Among e (kinds_from known (at + 1) ps) → (q : Placed) × (n : ℕ) × Among q ps × Among e (kinds_at known n q)) → (q : Placed) × (n : ℕ) × Among q (p ∷ ps) × Among e (kinds_at known n q)
    go (inl a) rest = (p, at, inl refl, a)
    go (inr b) rest = let r = rest b in (r.0, r.1, inr r.2, r.3)

shapes_declared : (known : ByName Known) (at : ℕ) (ps : List Placed) (e : List ℕ × ArrayShape) → Among e (shapes_from known at ps) → (p : Placed) × (n : ℕ) × Among p ps × Among e (flat_map (decl_shapes known n) (decls_of p.stmt))
shapes_declared known at [] e h = absurd h
shapes_declared known at (p ∷ ps) e h = go (in_either e (flat_map (decl_shapes known at) (decls_of p.stmt)) (shapes_from known (at + 1) ps) h) (λ k. shapes_declared known (at + 1) ps e k)
  where
    go : Among e (flat_map (decl_shapes known at) (decls_of p.stmt)) ⊎ Among e (shapes_from known (at + 1) ps) → (Among e (shapes_from known (at + 1) ps) → (q : Placed) × (n : ℕ) × Among q ps × Among e (flat_map (decl_shapes known n) (decls_of q.stmt)))
        → (q : Placed) × (n : ℕ) × Among q (p ∷ ps) × Among e (flat_map (decl_shapes known n) (decls_of q.stmt))
    go (inl a) rest = (p, at, inl refl, a)
    go (inr b) rest = let r = rest b in (r.0, r.1, inr r.2, r.3)

bounds_there : (known : ByName Known) (at : ℕ) (name : List ℕ) (bs : List Bound) (e : List ℕ × ArrayShape) → Among e (shape_entries known at name bs) → (is_bounded bs ≡ true) × (name ≡ e.0)
bounds_there known at name [] e h = absurd h
bounds_there known at name (b ∷ bs) e (inl same) = (refl, ap (λ (x : List ℕ × ArrayShape). x.0) same)
bounds_there known at name (b ∷ bs) e (inr h) = absurd h

laid_variable : (s : Sheet) (first : ℕ) (os : List Occurrence) (i : ℕ) (v : Variable) → slice_get (laid_out s first os) i ≡ Some v → (w : ℕ) × (o : Occurrence) × (variable s w o.name ≡ v)
laid_variable s first [] i v at = absurd (cc at)
laid_variable s first (o ∷ os) zero v at = (first, o, the_variable (variable s first o.name) v at)
  where
    the_variable : (a b : Variable) → Some a ≡ Some b → a ≡ b
    the_variable a b e = cc
laid_variable s first (o ∷ os) (suc i) v at = laid_variable s (first + words_of s o.name) os i v at

abbrev port_aspect : Aspect → Bool
port_aspect aspect.Port = true
port_aspect aspect.Value = false
port_aspect aspect.Bounds = false
port_aspect aspect.Intent = false
port_aspect aspect.Constant = false
port_aspect aspect.Formal = false
port_aspect aspect.Own = false

-- ---- a unit

module _ (titles : ByName Bool) (u : ProgramUnit) (clean : declared_twice_in titles u.tree ≡ []) (names : unit_names titles u.tree ≡ u.names) (none_wide : (d : Placed) → Among d u.tree.specs → is_wide u d.stmt ≡ false) where
  facts_clean : clashes_among titles u.tree.heading.stmt (facts_in u.tree.heading ++ flat_map facts_in u.tree.specs) ≡ []
  facts_clean = left_empty (clashes_among titles u.tree.heading.stmt (facts_of u.tree)) (repeated_processors u.tree.specs) clean

  -- two facts that stand one before the other
  clash : (f g : Fact) → f.what ≡ aspect.Port → g.what ≡ aspect.Value → f.name ≡ g.name → InTurn f g (facts_in u.tree.heading ++ flat_map facts_in u.tree.specs) → ⊥
  clash f g port value same (one e) = never (sym (ap port_aspect port) ∙ ap (λ (x : Fact). port_aspect x.what) e ∙ ap port_aspect value)
  clash f g port value same (before xs ys e a b) =
      let x = across titles u.tree.heading.stmt xs ys g f aspect.Port (ap (clashes_among titles u.tree.heading.stmt) (sym e) ∙ facts_clean) a b same (ap (λ (w : Aspect). same_aspect aspect.Port w) port) in
      let s = said x.0 g.name in
      never (sym x.1 ∙ or_right (s aspect.Value) (s aspect.Port) (ap (clashes s) (sym value) ∙ x.2))
  clash f g port value same (behind xs ys e a b) =
      let x = across titles u.tree.heading.stmt xs ys f g aspect.Value (ap (clashes_among titles u.tree.heading.stmt) (sym e) ∙ facts_clean) a b (sym same) (ap (λ (w : Aspect). same_aspect aspect.Value w) value) in
      let s = said x.0 f.name in
      never (sym x.1 ∙ or_left (s aspect.Value) (s aspect.Port || (s aspect.Constant || s aspect.Own)) (ap (clashes s) (sym port) ∙ x.2))

  among_all : (p : Placed) (f : Fact) → Among p u.tree.specs → Among f (facts_in p) → Among f (facts_in u.tree.heading ++ flat_map facts_in u.tree.specs)
  among_all p f in_p says = in_right f (facts_in u.tree.heading) (flat_map facts_in u.tree.specs) (in_flat facts_in p f u.tree.specs in_p says)

  record IsPortOf (name : List ℕ) (k : Kind) : Type 0 where
    placed : Placed
    within : Among placed u.tree.specs
    says : Among (fact placed.line aspect.Port name) (facts_in placed)
    plain : plain_kind k ≡ false

  -- a name of this kind is declared as a port
  port_of : (name : List ℕ) (k : Kind) → get (sheet_of u.tree).kinds name ≡ Some k → is_port k ≡ true → IsPortOf name k
  port_of name k is port =
      let known = constants_of u.tree.specs in
      let own = own_kind u.tree.heading.stmt in
      let from = kinds_from known 0 u.tree.specs in
      let r = entry_in (own ++ from) name k (sym (first_there (own ++ from) name) ∙ is) in
      go r.0 r.2 r.3 (in_either r.0 own from r.1)
    where
      go : (e : List ℕ × Kind) → name ≡ e.0 → e.1 ≡ k → Among e (own_kind u.tree.heading.stmt) ⊎ Among e (kinds_from (constants_of u.tree.specs) 0 u.tree.specs) → IsPortOf name k
      go e named same (inl h) = absurd (never (sym port ∙ ap is_port (sym same) ∙ own_no_port u.tree.heading.stmt e h))
      go e named same (inr h) =
          let d = kinds_declared (constants_of u.tree.specs) 0 u.tree.specs e h in
          let x = stmt_port u (constants_of u.tree.specs) d.1 d.0.line d.0.stmt e d.3 (ap is_port same ∙ port) in
          record {
            placed = d.0;
            within = d.2;
            says = subst (λ (n : List ℕ). Among (fact d.0.line aspect.Port n) (facts_in d.0)) (sym named) x.says;
            plain = ap plain_kind (sym same) ∙ x.plain (none_wide d.0 d.2);
          }

  -- a port is no array
  no_shape : (name : List ℕ) (k : Kind) (x : ArrayShape) → IsPortOf name k → names_port u.names.variables name ≡ true → get (sheet_of u.tree).arrays name ≡ Some x → ⊥
  no_shape name k x port named is =
      let shapes = shapes_from (constants_of u.tree.specs) 0 u.tree.specs in
      let r = entry_in shapes name x (sym (first_there shapes name) ∙ is) in
      let p = shapes_declared (constants_of u.tree.specs) 0 u.tree.specs r.0 r.1 in
      let d = in_parts (decl_shapes (constants_of u.tree.specs) p.1) r.0 (decls_of p.0.stmt) p.3 in
      let b = bounds_there (constants_of u.tree.specs) p.1 d.0.name d.0.bounds r.0 d.2 in
      let same : name ≡ d.0.name = r.2 ∙ sym b.1 in
      let value = stmt_bounded u p.0.line p.0.stmt d.0 d.1 b.0 (none_wide p.0 p.2) (ap (names_port u.names.variables) (sym same) ∙ named) in
      let f = fact port.placed.line aspect.Port name in
      let g = fact p.0.line aspect.Value d.0.name in
      clash f g refl refl same (in_turn f g (facts_in u.tree.heading ++ flat_map facts_in u.tree.specs) (among_all port.placed f port.within port.says) (among_all p.0 g p.2 value))

  abbrev IsNarrowPort : Variable → Type 0
  IsNarrowPort v = (is_array v.bounds ≡ false) × (v.words ≡ 1) × (plain_kind v.kind ≡ false)

  port_narrow : (i : ℕ) (v : Variable) → slice_get u.names.variables i ≡ Some v → is_port v.kind ≡ true → IsNarrowPort v
  port_narrow i v at port =
      let laid : slice_get (unit_names titles u.tree).variables i ≡ Some v = ap (λ (n : UnitNames). slice_get n.variables i) names ∙ at in
      let r = laid_variable (sheet_of u.tree) 0 (variables_among titles u.tree.heading.stmt (sheet_of u.tree) (sheet_of u.tree).first) i v laid in
      by r.1.name (sym r.2) (names_port_in u.names.variables i v at port)
    where
      by : {w : ℕ} (name : List ℕ) → v ≡ variable (sheet_of u.tree) w name → names_port u.names.variables v.name ≡ true → IsNarrowPort v
      by {w} name same named =
          let kind_is : v.kind ≡ unwrap_or (get (sheet_of u.tree).kinds name) kind.Integer = ap (λ (y : Variable). y.kind) same in
          with_kind (get (sheet_of u.tree).kinds name) refl kind_is
        where
          name_is : names_port u.names.variables name ≡ true
          name_is = ap (names_port u.names.variables) (sym (ap (λ (y : Variable). y.name) same)) ∙ named

          with_shape : (k : Kind) → v.kind ≡ k → IsPortOf name k → (o : Option ArrayShape) → get (sheet_of u.tree).arrays name ≡ o → IsNarrowPort v
          with_shape k kind_is p None is = (
            ap (λ (y : Variable). is_array y.bounds) same ∙ ap (λ (o : Option ArrayShape). is_array (bounds_by o)) is,
            ap (λ (y : Variable). y.words) same ∙ ap words_by is,
            ap plain_kind kind_is ∙ p.plain,
          )
          with_shape k kind_is p (Some x) is = absurd (no_shape name k x p name_is is)

          with_kind : (o : Option Kind) → get (sheet_of u.tree).kinds name ≡ o → v.kind ≡ unwrap_or o kind.Integer → IsNarrowPort v
          with_kind None is kind_is = absurd (never (sym port ∙ ap is_port kind_is))
          with_kind (Some k) is kind_is = with_shape k kind_is (port_of name k is (ap is_port (sym kind_is) ∙ port)) (get (sheet_of u.tree).arrays name) refl

-- ---- the PROGRAM of a safe program

module _ (p : Program) (m : ℕ) (u : ProgramUnit) (is_main : main_number p ≡ Some m) (here : unit_at p m ≡ Some u) (safe : IsFlowSafe p) where
  none_wide : (d : Placed) → Among d u.tree.specs → is_wide u d.stmt ≡ false
  none_wide d h = go (is_wide u d.stmt) refl
    where
      go : (b : Bool) → is_wide u d.stmt ≡ b → b ≡ false
      go false q = refl
      go true q = absurd (no_risk p m u is_main here safe d.line.0 (wide (d, contains u.tree.specs d h, q, refl)))

  -- what refutes it
  refuted : (i : ℕ) (v : Variable) → slice_get u.names.variables i ≡ Some v → is_port v.kind ≡ true → (((is_array v.bounds ≡ false) × (v.words ≡ 1) × (plain_kind v.kind ≡ false)) → ⊥) → ⊥
  refuted i v at port f = from_rules p ⊥ (λ a b. absurd a) (λ rules. f (narrow_by rules))
    where
      narrow_by : Unbroken p.units.units p.names.units → (is_array v.bounds ≡ false) × (v.words ≡ 1) × (plain_kind v.kind ≡ false)
      narrow_by rules =
          let parts = parts_of p m u here in
          let titles = titles_of p.units.units in
          let x = the_names titles p.units.units m u.names (subst (λ (l : List UnitNames). slice_get l m ≡ Some u.names) rules.names_are parts.1) in
          let same : x.0 ≡ u.tree = the_unit x.0 u.tree (sym x.1 ∙ parts.0) in
          let names : unit_names titles u.tree ≡ u.names = ap (unit_names titles) (sym same) ∙ x.2 in
          let clean = each_empty (broken_in titles) p.units.units m u.tree rules.names parts.0 in
          port_narrow titles u (twice_of titles u.tree clean) names none_wide i v at port
        where
          the_unit : (a b : tree.Unit) → Some a ≡ Some b → a ≡ b
          the_unit a b e = cc

  no_array : (i : ℕ) (v : Variable) → slice_get u.names.variables i ≡ Some v → is_port v.kind ≡ true → (b : Bool) → is_array v.bounds ≡ b → b ≡ false
  no_array i v at port false q = refl
  no_array i v at port true q = absurd (refuted i v at port (λ h. never (sym q ∙ h.0)))

  one_word : (i : ℕ) (v : Variable) → slice_get u.names.variables i ≡ Some v → is_port v.kind ≡ true → v.words ≡ 1
  one_word i v at port = elim (ℕ_discrete v.words 1) [
    | yes e ↦ e
    | no n ↦ absurd (refuted i v at port (λ h. n h.1))
  ]

  is_plain : (i : ℕ) (v : Variable) → slice_get u.names.variables i ≡ Some v → is_port v.kind ≡ true → (b : Bool) → plain_kind v.kind ≡ b → b ≡ false
  is_plain i v at port false q = refl
  is_plain i v at port true q = absurd (refuted i v at port (λ h. never (sym q ∙ h.2)))

  one_narrow : (i : ℕ) (v : Variable) → slice_get u.names.variables i ≡ Some v → (k : Kind) → v.kind ≡ k → NarrowBy k v
  one_narrow i v at kind.Integer is = tt
  one_narrow i v at kind.Logical is = tt
  one_narrow i v at (kind.In x) is = let port = ap is_port is in (no_array i v at port (is_array v.bounds) refl, one_word i v at port, is_plain i v at port (sends_ports x) (ap plain_kind is))
  one_narrow i v at (kind.Out x) is = let port = ap is_port is in (no_array i v at port (is_array v.bounds) refl, one_word i v at port, is_plain i v at port (sends_ports x) (ap plain_kind is))

  pub ports_narrow : AllIn IsNarrow u.names.variables
  ports_narrow = all_points IsNarrow u.names.variables (λ i v at. one_narrow i v at v.kind refl)
