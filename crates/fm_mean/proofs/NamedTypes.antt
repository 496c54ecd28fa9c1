-- A name that stands alone has the type that the rules judge it to have.
use Rattle.std.proofs.Common.{◌≡◌, ℕ, zero, suc, ℤ, ◌+◌, Bool, true, false, cond, Option, Some, None, option_map, List, [], ◌∷◌, ◌++◌, map, slice_get, refl, sym, ap, ◌∙◌, subst, arith}
use Rattle.std.specs.FinMap.{get}
use Rattle.fm_tree.specs.PortFields.{FieldKind, Integer, Logical}
use Rattle.fm_tree.specs.PortReading as reading
use Rattle.fm_tree.specs.declared.port_type.Kind.{Kind}
use Rattle.fm_tree.specs.declared.port_type.Kind.TheVariants as kind
use Rattle.fm_symbols.specs.Context.{symbol_by, symbol_of, constant_symbol, constant_entry, variable_entries, symbols_of, symbol_place}
use Rattle.fm_symbols.specs.declared.names.Constant.{Constant}
use Rattle.fm_symbols.specs.declared.names.Constant.TheVariants as constant
use Rattle.fm_symbols.specs.declared.names.Variable.{Variable}
use Rattle.fm_symbols.specs.declared.names.UnitNames.{UnitNames}
use Rattle.fm_symbols.specs.declared.symbol.Scalar.{Scalar}
use Rattle.fm_symbols.specs.declared.symbol.Scalar.TheVariants as scalar
use Rattle.fm_symbols.specs.declared.symbol.Symbol.{Symbol}
use Rattle.fm_symbols.specs.declared.symbol.Symbol.TheVariants as symbol
use Rattle.std.specs.Prelude.{if◌then◌else◌}
use Rattle.fm_symbols.specs.declared.context.Context.{Context}
use Rattle.fm_symbols.specs.Context.{or_else, is_function_scope, function_at, function_named}
use Rattle.fm_rules.specs.declared.typing.ExprType.TheVariants.{Value}
use Rattle.fm_rules.specs.Typing.{symbol_type}
use Rattle.fm_mean.specs.Names.{same_name, constant_in, variable_at, variable_of}
use Rattle.fm_mean.specs.Evaluate.{Scope}
use Rattle.fm_mean.specs.Fits.{sort_of_variable}
use Rattle.fm_mean.specs.ValueTypes.{word_type, constant_type, named_type}
use Rattle.fm_mean.proofs.FirstEntries.{first_entry, first_there}

-- the type of a value, in the words of the types of messages
abbrev pub field_kind : Scalar → FieldKind
field_kind scalar.Integer = Integer
field_kind scalar.Logical = Logical

the_symbol : (a b : Symbol) → Some a ≡ Some b → a ≡ b
the_symbol a b e = cc

-- a symbol comes from a constant, or from a variable
pub data Comes (cs : List (List ℕ × Constant)) (vs : List Variable) (i : ℕ) (name : List ℕ) (y : Symbol) : Type 0 where
  from_constant : (c : Constant) → constant_in name cs ≡ Some c → constant_symbol c ≡ y → Comes cs vs i name y
  from_variable : (k : ℕ) (v : Variable) → slice_get vs k ≡ Some v → symbol_of (k + i) v ≡ y → Comes cs vs i name y

from_variables : (vs : List Variable) (i : ℕ) (name : List ℕ) (y : Symbol) → first_entry (variable_entries i vs) name ≡ Some y → (k : ℕ) × (v : Variable) × (slice_get vs k ≡ Some v) × (symbol_of (k + i) v ≡ y)
from_variables [] i name y e = absurd (cc)
from_variables (v ∷ vs) i name y e = go (same_name name v.name) e (λ h. from_variables vs (i + 1) name y h)
  where
    go : (b : Bool) → cond b (Some (symbol_of i v)) (first_entry (variable_entries (i + 1) vs) name) ≡ Some y
        → (first_entry (variable_entries (i + 1) vs) name ≡ Some y → (k : ℕ) × (w : Variable) × (slice_get vs k ≡ Some w) × (symbol_of (k + (i + 1)) w ≡ y))
        → (k : ℕ) × (w : Variable) × (slice_get (v ∷ vs) k ≡ Some w) × (symbol_of (k + i) w ≡ y)
    go true e' rest = (zero, v, refl, ap (λ n. symbol_of n v) (omega arith) ∙ the_symbol (symbol_of i v) y e')
    go false e' rest = let h = rest e' in (suc h.0, h.1, h.2, ap (λ n. symbol_of n h.1) (omega arith) ∙ h.3)

comes : (cs : List (List ℕ × Constant)) (vs : List Variable) (name : List ℕ) (y : Symbol) → first_entry (map constant_entry cs ++ variable_entries 0 vs) name ≡ Some y → Comes cs vs 0 name y
comes [] vs name y e = let h = from_variables vs 0 name y e in from_variable h.0 h.1 h.2 h.3
comes (c ∷ cs) vs name y e = go (same_name name c.0) refl e (λ h. comes cs vs name y h)
  where
    wider : same_name name c.0 ≡ false → Comes cs vs 0 name y → Comes (c ∷ cs) vs 0 name y
    wider off (from_constant d is at) = from_constant d (ap (λ b. cond b (Some c.1) (constant_in name cs)) off ∙ is) at
    wider off (from_variable k v is at) = from_variable k v is at

    go : (b : Bool) → same_name name c.0 ≡ b → cond b (Some (constant_symbol c.1)) (first_entry (map constant_entry cs ++ variable_entries 0 vs) name) ≡ Some y
        → (first_entry (map constant_entry cs ++ variable_entries 0 vs) name ≡ Some y → Comes cs vs 0 name y) → Comes (c ∷ cs) vs 0 name y
    go true on e' rest = from_constant c.1 (ap (λ b. cond b (Some c.1) (constant_in name cs)) on) (the_symbol (constant_symbol c.1) y e')
    go false off e' rest = wider off (rest e')

-- the symbol of a name comes from its unit
pub symbol_comes : (n : UnitNames) (name : List ℕ) (y : Symbol) → get (symbols_of n) name ≡ Some y → Comes n.constants n.variables 0 name y
symbol_comes n name y e = comes n.constants n.variables name y (sym (first_there (map constant_entry n.constants ++ variable_entries 0 n.variables) name) ∙ e)

-- what a symbol says of its variable

scalar_is : (k : Kind) (bs : List (ℤ × ℤ)) (w n place : ℕ) (r : Scalar) → symbol_by k bs w n ≡ symbol.Variable r place → (reading.kind_of k ≡ field_kind r) × (n ≡ place)
scalar_is kind.Integer [] w n place scalar.Integer e = (refl, cc e)
scalar_is kind.Integer [] w n place scalar.Logical e = absurd (cc e)
scalar_is kind.Logical [] w n place scalar.Logical e = (refl, cc e)
scalar_is kind.Logical [] w n place scalar.Integer e = absurd (cc e)
scalar_is kind.Integer (b ∷ bs) w n place r e = absurd (cc e)
scalar_is kind.Logical (b ∷ bs) w n place r e = absurd (cc e)
scalar_is (kind.In t) [] w n place r e = absurd (cc e)
scalar_is (kind.In t) (b ∷ bs) w n place r e = absurd (cc e)
scalar_is (kind.Out t) [] w n place r e = absurd (cc e)
scalar_is (kind.Out t) (b ∷ bs) w n place r e = absurd (cc e)

never_constant : (k : Kind) (bs : List (ℤ × ℤ)) (w n : ℕ) (r : Scalar) → symbol_by k bs w n ≡ symbol.Constant r → ⊥
never_constant kind.Integer [] w n r e = absurd (cc e)
never_constant kind.Logical [] w n r e = absurd (cc e)
never_constant kind.Integer (b ∷ bs) w n r e = absurd (cc e)
never_constant kind.Logical (b ∷ bs) w n r e = absurd (cc e)
never_constant (kind.In t) [] w n r e = absurd (cc e)
never_constant (kind.In t) (b ∷ bs) w n r e = absurd (cc e)
never_constant (kind.Out t) [] w n r e = absurd (cc e)
never_constant (kind.Out t) (b ∷ bs) w n r e = absurd (cc e)

constant_is : (c : Constant) (r : Scalar) → constant_symbol c ≡ symbol.Constant r → constant_type (Some c) ≡ field_kind r
constant_is (constant.Integer n) scalar.Integer e = refl
constant_is (constant.Integer n) scalar.Logical e = absurd (cc e)
constant_is (constant.Logical b) scalar.Logical e = refl
constant_is (constant.Logical b) scalar.Integer e = absurd (cc e)

never_variable : (c : Constant) (r : Scalar) (place : ℕ) → constant_symbol c ≡ symbol.Variable r place → ⊥
never_variable (constant.Integer n) r place e = absurd (cc e)
never_variable (constant.Logical b) r place e = absurd (cc e)

-- a scalar variable stands at its place with its type
pub variable_typed : (n : UnitNames) (name : List ℕ) (r : Scalar) (place : ℕ) → get (symbols_of n) name ≡ Some (symbol.Variable r place) → (v : Variable) × (slice_get n.variables place ≡ Some v) × (sort_of_variable v ≡ field_kind r)
variable_typed n name r place e = go (symbol_comes n name (symbol.Variable r place) e)
  where
    go : Comes n.constants n.variables 0 name (symbol.Variable r place) → (v : Variable) × (slice_get n.variables place ≡ Some v) × (sort_of_variable v ≡ field_kind r)
    go (from_constant c is at) = absurd (never_variable c r place at)
    go (from_variable k v is at) =
        let h = scalar_is v.kind v.bounds v.words (k + 0) place r at in
        let here : k ≡ place = omega (arith, h.1) in
        (v, subst (λ k. slice_get n.variables k ≡ Some v) here is, h.0)

-- and a constant has the type of its value
pub constant_typed : (n : UnitNames) (name : List ℕ) (r : Scalar) → get (symbols_of n) name ≡ Some (symbol.Constant r) → constant_type (constant_in name n.constants) ≡ field_kind r
constant_typed n name r e = go (symbol_comes n name (symbol.Constant r) e)
  where
    go : Comes n.constants n.variables 0 name (symbol.Constant r) → constant_type (constant_in name n.constants) ≡ field_kind r
    go (from_constant c is at) = ap constant_type is ∙ constant_is c r at
    go (from_variable k v is at) = absurd (never_constant v.kind v.bounds v.words (k + 0) r at)

-- ---- the type that is judged

no_value : (c : Context) (o : Option ℕ) (r : Scalar) → symbol_type (function_at c o) ≡ Value r → ⊥
no_value c None r e = absurd (cc e)
no_value c (Some k) r e = go (is_function_scope (slice_get c.scopes k)) e
  where
    go : (b : Bool) → symbol_type (if b then Some (symbol.Function k) else None) ≡ Value r → ⊥
    go true e' = absurd (cc e')
    go false e' = absurd (cc e')

the_scalar : (a b : Scalar) → Value a ≡ Value b → a ≡ b
the_scalar a b e = cc

word_of_scalar : (r : Scalar) → word_type (field_kind r) ≡ Some (field_kind r)
word_of_scalar scalar.Integer = refl
word_of_scalar scalar.Logical = refl

by_variable : (s : Scope) (name : List ℕ) (r : Scalar) (place : ℕ) (o : Option Variable) (v : Variable) → o ≡ Some v → sort_of_variable v ≡ field_kind r
    → named_type s name (option_map {U = ℕ × Variable} (λ v. (place, v)) o) ≡ Some (field_kind r)
by_variable s name r place None v is sort = absurd (cc)
by_variable s name r place (Some w) v is sort = ap (λ (x : Variable). word_type (sort_of_variable x)) (the_variable w v is) ∙ ap word_type sort ∙ word_of_scalar r
  where
    the_variable : (a b : Variable) → Some a ≡ Some b → a ≡ b
    the_variable a b e = cc

by_symbol : (s : Scope) (c : Context) (name : List ℕ) (r : Scalar) (o : Option Symbol) → get (symbols_of s.unit.names) name ≡ o → symbol_type (or_else o (function_named c name)) ≡ Value r
    → named_type s name (variable_at s.unit.names.variables (symbol_place o)) ≡ Some (field_kind r)
by_symbol s c name r None is e = absurd (no_value c (get c.units name) r e)
by_symbol s c name r (Some (symbol.Constant q)) is e = ap Some (constant_typed s.unit.names name q is) ∙ ap (λ q. Some (field_kind q)) (the_scalar q r e)
by_symbol s c name r (Some (symbol.Variable q place)) is e =
    let h = variable_typed s.unit.names name q place is in
    by_variable s name q place (slice_get s.unit.names.variables place) h.0 h.1 h.2 ∙ ap (λ q. Some (field_kind q)) (the_scalar q r e)
by_symbol s c name r (Some (symbol.Array q place x)) is e = absurd (cc e)
by_symbol s c name r (Some (symbol.Port d place)) is e = absurd (cc e)
by_symbol s c name r (Some (symbol.Ports d place x)) is e = absurd (cc e)
by_symbol s c name r (Some (symbol.Function k)) is e = absurd (cc e)

pub name_typed : (s : Scope) (c : Context) (name : List ℕ) (r : Scalar) → symbol_type (or_else (get (symbols_of s.unit.names) name) (function_named c name)) ≡ Value r → named_type s name (variable_of s.unit name) ≡ Some (field_kind r)
name_typed s c name r e = by_symbol s c name r (get (symbols_of s.unit.names) name) refl e
