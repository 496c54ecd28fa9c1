-- Over a port of a unit goes a port only where a declaration there says so.
use Rattle.std.proofs.Common.{◌≡◌, ◌⊎◌, inl, inr, ℕ, zero, suc, ◌+◌, Bool, true, false, ◌||◌, Option, Some, None, unwrap_or, List, [], ◌∷◌, ◌++◌, map, slice_get, refl, sym, ap, ◌∙◌, subst}
use Rattle.std.proofs.Math.Logic.{∥∥₁_elim}
use Rattle.std.specs.Prelude.{Contains}
use Rattle.std.specs.FinMap.{get}
use Rattle.fm_base.specs.declared.name.Line.{Line}
use Rattle.fm_tree.specs.PortFields.{PortFields, FieldKind, NoFields, FieldThen, Integer, Logical, In, Out}
use Rattle.fm_tree.specs.declared.port_type.Kind.{Kind}
use Rattle.fm_tree.specs.declared.port_type.Kind.TheVariants as kind
use Rattle.fm_tree.specs.declared.program_unit.Placed.{Placed}
use Rattle.fm_tree.specs.declared.program_unit.Unit as tree
use Rattle.fm_tree.specs.declared.statement.Decl.{Decl}
use Rattle.fm_tree.specs.declared.statement.Stmt.{Stmt}
use Rattle.fm_tree.specs.declared.statement.Stmt.TheVariants as stmt
use Rattle.fm_symbols.specs.ByName.{ByName}
use Rattle.fm_symbols.specs.declared.names.UnitNames.{UnitNames}
use Rattle.fm_symbols.specs.declared.names.Variable.{Variable}
use Rattle.fm_rules.proofs.Lists.{at_head, behind_head}
use Rattle.fm_rules.specs.ConstantParts.{decls_of}
use Rattle.fm_rules.specs.Constants.{constants_of}
use Rattle.fm_rules.specs.FunctionTitles.{titles_of}
use Rattle.fm_rules.specs.Names.{unit_names}
use Rattle.fm_rules.specs.PortTypes.{normal_fields, normal_kind, normal_type}
use Rattle.fm_rules.specs.SizedFields.{Sizes, size_given}
use Rattle.fm_rules.specs.Sheets.{kind_entries, kind_in, kinds_at, kinds_from, own_kind, sheet_of}
use Rattle.fm_rules.specs.Variables.{laid_out, variable, variables_among, words_of}
use Rattle.fm_rules.specs.declared.constants.Known.{Known}
use Rattle.fm_rules.specs.declared.program.Program.{Program}
use Rattle.fm_rules.specs.declared.sheet.Occurrence.{Occurrence}
use Rattle.fm_rules.specs.declared.sheet.Sheet.{Sheet}
use Rattle.fm_net.specs.Typed.{AllIn}
use Rattle.fm_mean.specs.Determinism.{IsReached}
use Rattle.fm_mean.specs.Fits.{sort_of_variable, variables_of}
use Rattle.fm_mean.specs.Names.{ProgramUnit, unit_at}
use Rattle.fm_mean.proofs.FirstEntries.{first_there}
use Rattle.fm_mean.proofs.Meanings.{entry_in}
use Rattle.fm_mean.proofs.Members.{In as Among, in_either}
use Rattle.fm_mean.proofs.Sizes.{parts_of, the_names}
use Rattle.fm_mean.proofs.Unbroken.{Unbroken, from_rules}
use Rattle.fm_nodes_plain.specs.Plain.{CarriesWords, HasWordsAlone, IsPlainProgram}
use Rattle.fm_nodes_plain.specs.Carriers.{carries_ports, declares_carrier, is_port}
use Rattle.fm_nodes_plain.specs.Lines.{IsPlainVerdict, IsUnplainAt}

never : true ≡ false → ⊥
never e = absurd (cc)

-- ---- types

kind_same : (known : ByName Known) (at : ℕ) (k : FieldKind) → is_port (normal_kind known at k) ≡ is_port k
kind_same known at Integer = refl
kind_same known at Logical = refl
kind_same known at (In t) = refl
kind_same known at (Out t) = refl

fields_same : (known : ByName Known) (at : ℕ) (earlier : Sizes) (t : PortFields) → carries_ports (normal_fields known at earlier t) ≡ carries_ports t
fields_same known at earlier NoFields = refl
fields_same known at earlier (FieldThen k name bounds rest) =
    let sizes = size_given k name bounds ∷ earlier in
    ap (λ (b : Bool). b || carries_ports (normal_fields known at sizes rest)) (kind_same known at k) ∙ ap (λ (b : Bool). is_port k || b) (fields_same known at sizes rest)

type_same : (known : ByName Known) (at : ℕ) (t : PortFields) → carries_ports (normal_type known at t) ≡ carries_ports t
type_same known at t = fields_same known at [] t

words_alone : (t : PortFields) → carries_ports t ≡ false → HasWordsAlone t
words_alone NoFields e = tt
words_alone (FieldThen Integer name bounds rest) e = words_alone rest e
words_alone (FieldThen Logical name bounds rest) e = words_alone rest e
words_alone (FieldThen (In t) name bounds rest) e = absurd (never e)
words_alone (FieldThen (Out t) name bounds rest) e = absurd (never e)

abbrev pub over_it : Kind → Bool
over_it kind.Integer = false
over_it kind.Logical = false
over_it (kind.In t) = carries_ports t
over_it (kind.Out t) = carries_ports t

-- ---- declarations

contains : (xs : List Placed) (x : Placed) → Among x xs → Contains xs x
contains [] x h = absurd h
contains (y ∷ xs) x (inl e) = subst (λ (z : Placed). Contains (y ∷ xs) z) e (at_head y xs)
contains (y ∷ xs) x (inr h) = behind_head y x xs (contains xs x h)

kind_of_each : (k : Kind) (ds : List Decl) (e : List ℕ × Kind) → Among e (map (λ (d : Decl). (d.name, k)) ds) → k ≡ e.1
kind_of_each k [] e h = absurd h
kind_of_each k (d ∷ ds) e (inl same) = ap (λ (x : List ℕ × Kind). x.1) same
kind_of_each k (d ∷ ds) e (inr h) = kind_of_each k ds e h

own_kinds : (s : Stmt) (e : List ℕ × Kind) → Among e (own_kind s) → over_it e.1 ≡ false
unfolding own_kind
own_kinds (stmt.IntegerFunction name formals) e (inl same) = ap (λ (x : List ℕ × Kind). over_it x.1) (sym same)
own_kinds (stmt.IntegerFunction name formals) e (inr h) = absurd h
own_kinds (stmt.LogicalFunction name formals) e (inl same) = ap (λ (x : List ℕ × Kind). over_it x.1) (sym same)
own_kinds (stmt.LogicalFunction name formals) e (inr h) = absurd h
own_kinds s e h = absurd h

declared : (known : ByName Known) (at : ℕ) (s : Stmt) (e : List ℕ × Kind) → Among e (kind_entries (kind_in known at s) (decls_of s)) → declares_carrier s ≡ over_it e.1
unfolding kind_in decls_of declares_carrier
declared known at (stmt.Integer ds) e h = ap over_it (kind_of_each kind.Integer ds e h)
declared known at (stmt.Logical ds) e h = ap over_it (kind_of_each kind.Logical ds e h)
declared known at (stmt.Inport t ds) e h = sym (type_same known at t) ∙ ap over_it (kind_of_each (kind.In (normal_type known at t)) ds e h)
declared known at (stmt.Outport t ds) e h = sym (type_same known at t) ∙ ap over_it (kind_of_each (kind.Out (normal_type known at t)) ds e h)
declared known at s e h = absurd h

kinds_declared : (known : ByName Known) (at : ℕ) (ps : List Placed) (e : List ℕ × Kind) → Among e (kinds_from known at ps) → (p : Placed) × Among p ps × (declares_carrier p.stmt ≡ over_it e.1)
kinds_declared known at [] e h = absurd h
kinds_declared known at (p ∷ ps) e h = go (in_either e (kinds_at known at p) (kinds_from known (at + 1) ps) h) (λ k. kinds_declared known (at + 1) ps e k)
  where
    go : Among e (kinds_at known at p) ⊎ Among e (kinds_from known (at + 1) ps) → (Among e (kinds_from known (at + 1) ps) → (q : Placed) × Among q ps × (declares_carrier q.stmt ≡ over_it e.1)) → (q : Placed) × Among q (p ∷ ps) × (declares_carrier q.stmt ≡ over_it e.1)
    go (inl a) rest = (p, inl refl, declared known at p.stmt e a)
    go (inr b) rest = let r = rest b in (r.0, inr r.1, r.2)

laid_variable : (s : Sheet) (first : ℕ) (os : List Occurrence) (i : ℕ) (v : Variable) → slice_get (laid_out s first os) i ≡ Some v → (w : ℕ) × (o : Occurrence) × (variable s w o.name ≡ v)
laid_variable s first [] i v at = absurd (cc at)
laid_variable s first (o ∷ os) zero v at = (first, o, the_variable (variable s first o.name) v at)
  where
    the_variable : (a b : Variable) → Some a ≡ Some b → a ≡ b
    the_variable a b e = cc
laid_variable s first (o ∷ os) (suc i) v at = laid_variable s (first + words_of s o.name) os i v at

-- ---- a unit

abbrev CarrierIn : tree.Unit → Type 0
CarrierIn u = (p : Placed) × Among p u.specs × (declares_carrier p.stmt ≡ true)

carrier_of : (titles : ByName Bool) (u : tree.Unit) (i : ℕ) (v : Variable) → slice_get (unit_names titles u).variables i ≡ Some v → over_it v.kind ≡ true → CarrierIn u
carrier_of titles u i v at over =
    let r = laid_variable (sheet_of u) 0 (variables_among titles u.heading.stmt (sheet_of u) (sheet_of u).first) i v at in
    with_kind r.1.name (get (sheet_of u).kinds r.1.name) refl (ap (λ (y : Variable). over_it y.kind) r.2 ∙ over)
  where
    with_kind : (name : List ℕ) (m : Option Kind) → get (sheet_of u).kinds name ≡ m → over_it (unwrap_or m kind.Integer) ≡ true → CarrierIn u
    with_kind name None there h = absurd (never (sym h))
    with_kind name (Some k) there h =
        let own = own_kind u.heading.stmt in
        let from = kinds_from (constants_of u.specs) 0 u.specs in
        let r = entry_in (own ++ from) name k (sym (first_there (own ++ from) name) ∙ there) in
        go r.0 (ap over_it r.3 ∙ h) (in_either r.0 own from r.1)
      where
        go : (e : List ℕ × Kind) → over_it e.1 ≡ true → Among e (own_kind u.heading.stmt) ⊎ Among e (kinds_from (constants_of u.specs) 0 u.specs) → CarrierIn u
        go e it (inl a) = absurd (never (sym it ∙ own_kinds u.heading.stmt e a))
        go e it (inr b) = let d = kinds_declared (constants_of u.specs) 0 u.specs e b in (d.0, d.1, d.2 ∙ it)

all_points : {X : Type 0} (P : X → Type 0) (xs : List X) → ((k : ℕ) (x : X) → slice_get xs k ≡ Some x → P x) → AllIn P xs
all_points P [] h = tt
all_points P (x ∷ xs) h = (h 0 x refl, all_points P xs (λ k y e. h (suc k) y e))

-- ---- a program

module _ (p : Program) (none : (line : ℕ) → ¬ IsUnplainAt p line) (n : ℕ) (reached : IsReached p n) (u : ProgramUnit) (here : unit_at p n ≡ Some u) where
  no_carrier : CarrierIn u.tree → ⊥
  no_carrier d = none d.0.line.0 (inr (record {
    main = reached.main;
    starts = reached.starts;
    number = n;
    reached = reached.leads;
    unit = u.tree;
    here = (parts_of p n u here).0;
    placed = d.0;
    within = contains u.tree.specs d.0 d.1;
    carries = d.2;
    at = refl;
  }))

  none_over : (i : ℕ) (v : Variable) → slice_get u.names.variables i ≡ Some v → over_it v.kind ≡ true → ⊥
  none_over i v at over = from_rules p ⊥ (λ a b. absurd a) (λ rules. no_carrier (found rules))
    where
      found : Unbroken p.units.units p.names.units → CarrierIn u.tree
      found rules =
          let parts = parts_of p n u here in
          let titles = titles_of p.units.units in
          let x = the_names titles p.units.units n u.names (subst (λ (l : List UnitNames). slice_get l n ≡ Some u.names) rules.names_are parts.1) in
          let same : x.0 ≡ u.tree = the_unit x.0 u.tree (sym x.1 ∙ parts.0) in
          let names : unit_names titles u.tree ≡ u.names = ap (unit_names titles) (sym same) ∙ x.2 in
          carrier_of titles u.tree i v (ap (λ (m : UnitNames). slice_get m.variables i) names ∙ at) over
        where
          the_unit : (a b : tree.Unit) → Some a ≡ Some b → a ≡ b
          the_unit a b e = cc

  words_at : (i : ℕ) (v : Variable) → slice_get u.names.variables i ≡ Some v → CarriesWords (sort_of_variable v)
  words_at i v at = by v.kind refl
    where
      alone : (t : PortFields) → over_it v.kind ≡ carries_ports t → (b : Bool) → carries_ports t ≡ b → HasWordsAlone t
      alone t e false q = words_alone t q
      alone t e true q = absurd (none_over i v at (e ∙ q))

      by : (k : Kind) → v.kind ≡ k → CarriesWords (sort_of_variable v)
      by kind.Integer e = rw e tt
      by kind.Logical e = rw e tt
      by (kind.In t) e = rw e (alone t (ap over_it e) (carries_ports t) refl)
      by (kind.Out t) e = rw e (alone t (ap over_it e) (carries_ports t) refl)

words_in : (p : Program) → ((line : ℕ) → ¬ IsUnplainAt p line) → (n : ℕ) → IsReached p n → AllIn (λ v. CarriesWords (sort_of_variable v)) (variables_of p n)
words_in p none n reached = by (unit_at p n) refl
  where
    by : (o : Option ProgramUnit) → unit_at p n ≡ o → AllIn (λ v. CarriesWords (sort_of_variable v)) (variables_of p n)
    by None is = rw is tt
    by (Some u) is = rw is (all_points (λ v. CarriesWords (sort_of_variable v)) u.names.variables (words_at p none n reached u is))

pub plain_program : (p : Program) → ((line : ℕ) → ¬ IsUnplainAt p line) → IsPlainProgram p
plain_program p none = record { deterministic = λ line race. none line (inl race); ports = words_in p none }

pub told_program : (p : Program) → ∥ IsPlainVerdict p None ∥₁ → IsPlainProgram p
told_program p told = plain_program p (λ line at. ∥∥₁_elim told (λ a b. absurd a) (λ none. none line at))
