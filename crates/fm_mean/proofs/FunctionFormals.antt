-- No FUNCTION has a port among its variables, where no rule on types is broken. So no reference breaks a rule on ports.
use Rattle.std.proofs.Common.{◌≡◌, ℕ, zero, suc, ℤ, ◌+◌, Bool, true, false, cond, ◌||◌, ◌&&◌, Option, Some, None, unwrap_or, List, [], ◌∷◌, ◌++◌, map, slice_get, inl, refl, sym, ap, ◌∙◌, subst, arith}
use Rattle.std.specs.Prelude.{Contains}
use Rattle.std.specs.FinMap.{get}
use Rattle.std.specs.List.{flat_map}
use Rattle.std.proofs.Math.Bool.{Bool-set}
use Rattle.fm_tree.specs.declared.port_type.Kind.{Kind}
use Rattle.fm_tree.specs.declared.port_type.Kind.TheVariants as kind
use Rattle.fm_tree.specs.declared.program_unit.Placed.{Placed}
use Rattle.fm_tree.specs.declared.program_unit.Unit as tree
use Rattle.fm_tree.specs.declared.statement.Decl.{Decl}
use Rattle.fm_tree.specs.declared.statement.Stmt.{Stmt}
use Rattle.fm_tree.specs.declared.statement.Stmt.TheVariants as stmt
use Rattle.fm_symbols.specs.ByName.{ByName}
use Rattle.fm_symbols.specs.Context.{symbol_by, symbols_of, constant_symbol, scope_of, formal_by, formal_in}
use Rattle.fm_symbols.specs.Headings.{heading_formals, is_function}
use Rattle.fm_symbols.specs.declared.context.Context.{Context}
use Rattle.fm_symbols.specs.declared.context.Scope as symbols
use Rattle.fm_symbols.specs.declared.names.Constant.{Constant}
use Rattle.fm_symbols.specs.declared.names.Constant.TheVariants as constant
use Rattle.fm_symbols.specs.declared.names.Variable.{Variable}
use Rattle.fm_symbols.specs.declared.names.UnitNames.{UnitNames}
use Rattle.fm_symbols.specs.declared.symbol.Symbol.{Symbol}
use Rattle.fm_rules.specs.declared.constants.Known.{Known}
use Rattle.fm_rules.specs.Constants.{constants_of}
use Rattle.fm_rules.specs.ConstantParts.{decls_of}
use Rattle.fm_rules.specs.FunctionTitles.{titles_of}
use Rattle.fm_rules.specs.declared.sheet.Occurrence.{Occurrence}
use Rattle.fm_rules.specs.declared.sheet.Sheet.{Sheet}
use Rattle.fm_rules.specs.Sheets.{kind_in, kind_entries, kinds_at, kinds_from, own_kind, sheet_of}
use Rattle.fm_rules.specs.Variables.{laid_out, variables_among, words_of}
use Rattle.fm_rules.specs.Names.{unit_names}
use Rattle.fm_rules.specs.declared.typing.ExprType.{ExprType}
use Rattle.fm_rules.specs.TypeStatements.{flags_of, is_barred, typed_flags}
use Rattle.fm_rules.specs.BrokenTypes as types
use Rattle.fm_rules.specs.BrokenPorts as ports
use Rattle.fm_rules.specs.PortFitting.{breaks_formal, break_formals}
use Rattle.fm_rules.specs.PortRules.{actuals_break, breaks_unit}
use Rattle.fm_net.specs.Typed.{AllIn}
use Rattle.fm_rules.specs.Broken.{IsBrokenType}
use Rattle.fm_rules.specs.declared.program.Program.{Program}
use Rattle.fm_mean.specs.Names.{ProgramUnit, same_name, unit_at, context, kind_of}
use Rattle.fm_mean.proofs.FirstEntries.{first_entry, first_there}
use Rattle.fm_mean.proofs.Unbroken.{Unbroken, from_rules, nothing_in, left_empty, right_empty, or_right, first_clean, uses_clean}
use Rattle.fm_mean.proofs.Unflagged.{line_unflagged}
use Rattle.fm_mean.proofs.Sizes.{all_append, in_all, parts_of, the_names}
use Rattle.fm_mean.proofs.JudgedValues.{Stands, stands_none, stands_constant, stands_variable, stands, scope_by, scopes_there}

never : true ≡ false → ⊥
never e = absurd (cc)

-- ---- units that break no rule on types

types_clean : (p : Program) → types.broken_types p.units.units p.names.units (context p) ≡ []
types_clean p =
    let us = p.units.units in
    let ns = p.names.units in
    nothing_in (types.broken_types us ns (context p)) (λ q broken. first_clean (IsBrokenType us ns (context p)) (Contains (ports.broken_ports us ns (context p))) (uses_clean p) q (inl broken))

pub the_unit : (a b : tree.Unit) → Some a ≡ Some b → a ≡ b
the_unit a b e = cc

types_from : (ns : List UnitNames) (c : Context) (number : ℕ) (us : List tree.Unit) (k : ℕ) (u : tree.Unit) → types.broken_from ns c number us ≡ [] → slice_get us k ≡ Some u → types.broken_at ns c (number + k) u ≡ []
types_from ns c number [] k u e is = absurd (cc)
types_from ns c number (v ∷ us) zero u e is =
    ap (λ (v : tree.Unit). types.broken_at ns c (number + 0) v) (sym (the_unit v u is)) ∙ ap (λ (n : ℕ). types.broken_at ns c n v) (omega arith) ∙ left_empty (types.broken_at ns c number v) (types.broken_from ns c (suc number) us) e
types_from ns c number (v ∷ us) (suc k) u e is =
    ap (λ (n : ℕ). types.broken_at ns c n u) (omega arith) ∙ types_from ns c (suc number) us k u (right_empty (types.broken_at ns c number v) (types.broken_from ns c (suc number) us) e) is

pub scope_here : (p : Program) (n : ℕ) (u : ProgramUnit) → unit_at p n ≡ Some u → slice_get (context p).scopes n ≡ Some (scope_of u.tree u.names)
scope_here p n u is = scopes_there p.units.units p.names.units n ∙ ap scope_by is

-- no statement of a unit breaks one
pub unit_types : (p : Program) (n : ℕ) (u : ProgramUnit) → unit_at p n ≡ Some u → types.broken_in_unit (context p) (scope_of u.tree u.names) u.names.variables u.tree ≡ []
unit_types p n u is =
    let ns = p.names.units in
    let here : types.broken_at ns (context p) n u.tree ≡ [] = ap (λ (k : ℕ). types.broken_at ns (context p) k u.tree) (omega arith) ∙ types_from ns (context p) 0 p.units.units n u.tree (types_clean p) (parts_of p n u is).0 in
    sym (ap (λ (o : Option symbols.Scope). types.broken_by (context p) o (Some u.names) u.tree) (scope_here p n u is))
    ∙ sym (ap (λ (o : Option UnitNames). types.broken_by (context p) (slice_get (context p).scopes n) o u.tree) (parts_of p n u is).1) ∙ here

-- ---- a FUNCTION declares no port

abbrev IsAllowed : Placed → Type 0
IsAllowed q = is_barred q.stmt ≡ false

allowed : (c : Context) (s : symbols.Scope) (vs : List Variable) (q : Placed) → is_function s.kind ≡ true → types.broken_in_statement c s vs q ≡ [] → IsAllowed q
allowed c s vs q function none =
    let f = flags_of c s vs q.stmt in
    sym (ap (λ (b : Bool). b && is_barred q.stmt) function)
    ∙ or_right (typed_flags c s vs q.stmt).e46 (is_function s.kind && is_barred q.stmt) (line_unflagged q.line.0 (record f { e50 = false }) none refl).e46

all_allowed : (c : Context) (s : symbols.Scope) (vs : List Variable) (qs : List Placed) → is_function s.kind ≡ true → flat_map (types.broken_in_statement c s vs) qs ≡ [] → AllIn IsAllowed qs
all_allowed c s vs [] function none = tt
all_allowed c s vs (q ∷ qs) function none =
    let here = types.broken_in_statement c s vs q in
    let more = flat_map (types.broken_in_statement c s vs) qs in
    (allowed c s vs q function (left_empty here more none), all_allowed c s vs qs function (right_empty here more none))

-- a kind of values
abbrev IsValue : Kind → Type 0
IsValue kind.Integer = Unit {0}
IsValue kind.Logical = Unit {0}
IsValue (kind.In p) = ⊥
IsValue (kind.Out p) = ⊥

abbrev GivesValue : List ℕ × Kind → Type 0
GivesValue e = IsValue e.1

decls_values : (k : Kind) → IsValue k → (ds : List Decl) → AllIn GivesValue (map (λ (d : Decl). (d.name, k)) ds)
decls_values k h [] = tt
decls_values k h (d ∷ ds) = (h, decls_values k h ds)

statement_values : (known : ByName Known) (at : ℕ) (t : Stmt) (ds : List Decl) → is_barred t ≡ false → AllIn GivesValue (kind_entries (kind_in known at t) ds)
unfolding kind_in is_barred
statement_values known at (stmt.Integer decls) ds e = decls_values kind.Integer tt ds
statement_values known at (stmt.Logical decls) ds e = decls_values kind.Logical tt ds
statement_values known at (stmt.Inport p decls) ds e = absurd (never e)
statement_values known at (stmt.Outport p decls) ds e = absurd (never e)
statement_values known at t ds e = tt

declared_values : (known : ByName Known) (at : ℕ) (qs : List Placed) → AllIn IsAllowed qs → AllIn GivesValue (kinds_from known at qs)
declared_values known at [] h = tt
declared_values known at (q ∷ qs) h =
    all_append GivesValue (kinds_at known at q) (kinds_from known (at + 1) qs) (statement_values known at q.stmt (decls_of q.stmt) h.0) (declared_values known (at + 1) qs h.1)

own_value : (t : Stmt) → AllIn GivesValue (own_kind t)
unfolding own_kind
own_value (stmt.IntegerFunction name formals) = (tt, tt)
own_value (stmt.LogicalFunction name formals) = (tt, tt)
own_value t = tt

entry_value : (es : List (List ℕ × Kind)) (name : List ℕ) → AllIn GivesValue es → IsValue (unwrap_or (first_entry es name) kind.Integer)
entry_value [] name h = tt
entry_value (e ∷ es) name h = go (same_name name e.0) (entry_value es name h.1)
  where
    go : (b : Bool) → IsValue (unwrap_or (first_entry es name) kind.Integer) → IsValue (unwrap_or (cond b (Some e.1) (first_entry es name)) kind.Integer)
    go true rest = h.0
    go false rest = rest

abbrev HoldsValue : Variable → Type 0
HoldsValue v = IsValue v.kind

laid_values : (s : Sheet) (first : ℕ) (os : List Occurrence) → ((name : List ℕ) → IsValue (unwrap_or (get s.kinds name) kind.Integer)) → AllIn HoldsValue (laid_out s first os)
laid_values s first [] h = tt
laid_values s first (o ∷ os) h = (h o.name, laid_values s (first + words_of s o.name) os h)

variables_values : (titles : ByName Bool) (u : tree.Unit) → AllIn IsAllowed u.specs → AllIn HoldsValue (unit_names titles u).variables
variables_values titles u h =
    let s = sheet_of u in
    let known = constants_of u.specs in
    let es = own_kind u.heading.stmt ++ kinds_from known 0 u.specs in
    let all = all_append GivesValue (own_kind u.heading.stmt) (kinds_from known 0 u.specs) (own_value u.heading.stmt) (declared_values known 0 u.specs h) in
    laid_values s 0 (variables_among titles u.heading.stmt s s.first)
    (λ name. subst (λ (o : Option Kind). IsValue (unwrap_or o kind.Integer)) (sym (first_there es name)) (entry_value es name all))

names_values : (us : List tree.Unit) (ns : List UnitNames) (k : ℕ) (w : ProgramUnit) → Unbroken us ns → slice_get us k ≡ Some w.tree → slice_get ns k ≡ Some w.names → AllIn IsAllowed w.tree.specs → AllIn HoldsValue w.names.variables
names_values us ns k w rules tree_is names_are h =
    let x = the_names (titles_of us) us k w.names (subst (λ (l : List UnitNames). slice_get l k ≡ Some w.names) rules.names_are names_are) in
    subst (λ (n : UnitNames). AllIn HoldsValue n.variables) x.2
    (variables_values (titles_of us) x.0 (subst (λ (u : tree.Unit). AllIn IsAllowed u.specs) (the_unit w.tree x.0 (sym tree_is ∙ x.1)) h))

-- ---- its formals

value_formal : (callee n : UnitNames) (t : ExprType) (k : Kind) (bs : List (ℤ × ℤ)) (words place : ℕ) → IsValue k → breaks_formal callee n t (formal_by (Some (symbol_by k bs words place))) ≡ false
value_formal callee n t kind.Integer [] words place h = refl
value_formal callee n t kind.Integer (b ∷ bs) words place h = refl
value_formal callee n t kind.Logical [] words place h = refl
value_formal callee n t kind.Logical (b ∷ bs) words place h = refl
value_formal callee n t (kind.In p) bs words place h = absurd h
value_formal callee n t (kind.Out p) bs words place h = absurd h

constant_formal : (callee n : UnitNames) (t : ExprType) (c : Constant) → breaks_formal callee n t (formal_by (Some (constant_symbol c))) ≡ false
constant_formal callee n t (constant.Integer m) = refl
constant_formal callee n t (constant.Logical b) = refl

formal_unbroken : (w : ProgramUnit) → AllIn HoldsValue w.names.variables → (n : UnitNames) (t : ExprType) (name : List ℕ) → breaks_formal w.names n t (formal_in (symbols_of w.names) name) ≡ false
formal_unbroken w h n t name = go (stands w name)
  where
    by : (o : Option Symbol) → get (symbols_of w.names) name ≡ o → breaks_formal w.names n t (formal_by o) ≡ false → breaks_formal w.names n t (formal_in (symbols_of w.names) name) ≡ false
    by o at e = ap (λ (o : Option Symbol). breaks_formal w.names n t (formal_by o)) at ∙ e

    go : Stands w name (get (symbols_of w.names) name) → breaks_formal w.names n t (formal_in (symbols_of w.names) name) ≡ false
    go (stands_none at none) = by None at refl
    go (stands_constant c at none there) = by (Some (constant_symbol c)) at (constant_formal w.names n t c)
    go (stands_variable k v at there here) = by (Some (symbol_by v.kind v.bounds v.words k)) at (value_formal w.names n t v.kind v.bounds v.words k (in_all HoldsValue w.names.variables k v h here))

formals_unbroken : (w : ProgramUnit) → AllIn HoldsValue w.names.variables → (n : UnitNames) (ts : List ExprType) (names : List (List ℕ)) → break_formals w.names n ts (map (formal_in (symbols_of w.names)) names) ≡ false
formals_unbroken w h n [] names = refl
formals_unbroken w h n (t ∷ ts) [] = refl
formals_unbroken w h n (t ∷ ts) (name ∷ names) =
    ap (λ (b : Bool). b || break_formals w.names n ts (map (formal_in (symbols_of w.names)) names)) (formal_unbroken w h n t name) ∙ formals_unbroken w h n ts names

-- whatever the actuals of a reference are, they fit the ports among the formals of its FUNCTION
pub function_unbroken : (p : Program) (k : ℕ) (w : ProgramUnit) → unit_at p k ≡ Some w → is_function (kind_of w) ≡ true → (n : UnitNames) (ts : List ExprType) → breaks_unit p.names.units (context p) n ts (Some k) ≡ false
function_unbroken p k w is function n ts =
    let c = context p in
    let sc = scope_of w.tree w.names in
    let vs = w.names.variables in
    let heading = types.broken_in_statement c sc vs w.tree.heading in
    let specs = flat_map (types.broken_in_statement c sc vs) w.tree.specs in
    let body = flat_map (types.broken_in_entry c sc vs) w.tree.body in
    let all = all_allowed c sc vs w.tree.specs function (left_empty specs body (right_empty heading (specs ++ body) (unit_types p k w is))) in
    let parts = parts_of p k w is in
    ap (λ (o : Option UnitNames). actuals_break n ts o (slice_get c.scopes k)) parts.1
    ∙ ap (λ (o : Option symbols.Scope). actuals_break n ts (Some w.names) o) (scope_here p k w is)
    ∙ from_rules p (break_formals w.names n ts (map (formal_in (symbols_of w.names)) (heading_formals w.tree.heading.stmt)) ≡ false) (Bool-set _ _)
    (λ rules. formals_unbroken w (names_values p.units.units p.names.units k w rules parts.0 parts.1 all) n ts (heading_formals w.tree.heading.stmt))
