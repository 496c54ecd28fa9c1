-- A variable or an element that is judged has, in the meaning, the sort that it is judged to have.
use Rattle.std.proofs.Common.{◌≡◌, ℕ, ℤ, Bool, true, false, Option, Some, None, option_map, List, [], ◌∷◌, slice_get, refl, sym, ap, ◌∙◌, subst}
use Rattle.std.specs.Prelude.{if◌then◌else◌}
use Rattle.std.specs.FinMap.{get}
use Rattle.fm_tree.specs.Tree.{trees_from}
use Rattle.fm_tree.specs.PortReading as reading
use Rattle.fm_tree.specs.declared.port_type.Kind.{Kind}
use Rattle.fm_tree.specs.declared.port_type.Kind.TheVariants as kind
use Rattle.fm_tree.specs.declared.statement.Var.{Var}
use Rattle.fm_symbols.specs.Context.{symbol_by, symbol_of, symbols_of, symbol_in, constant_symbol, scope_of, or_else, function_at, function_named, is_function_scope}
use Rattle.fm_symbols.specs.declared.context.Context.{Context}
use Rattle.fm_symbols.specs.declared.context.Scope as symbols
use Rattle.fm_symbols.specs.declared.names.Constant.{Constant}
use Rattle.fm_symbols.specs.declared.names.Constant.TheVariants as constant
use Rattle.fm_symbols.specs.declared.names.Variable.{Variable}
use Rattle.fm_symbols.specs.declared.symbol.Symbol.{Symbol}
use Rattle.fm_symbols.specs.declared.symbol.Symbol.TheVariants as symbol
use Rattle.fm_rules.specs.declared.typing.ExprType.{ExprType}
use Rattle.fm_rules.specs.declared.typing.ExprType.TheVariants.{Value, Array, Port, Ports, Function, Nothing}
use Rattle.fm_rules.specs.declared.typing.Judgement.{Judgement}
use Rattle.fm_rules.specs.declared.typing.Referent.{Referent}
use Rattle.fm_rules.specs.declared.typing.Referent.TheVariants as referent
use Rattle.fm_rules.specs.declared.typing.Arguments.{Arguments}
use Rattle.fm_rules.specs.Flags.{e41}
use Rattle.fm_rules.specs.Typing.{symbol_type, plain}
use Rattle.fm_rules.specs.Expressions.{array_or, arguments_judged}
use Rattle.fm_rules.specs.VariableTypes.{element_of, is_bare, is_fixed, subscripted, target_judged, target_named, target_type, variable_judged}
use Rattle.fm_mean.specs.Names.{ProgramUnit, variable_of}
use Rattle.fm_mean.specs.Fits.{sort_of_variable}
use Rattle.fm_mean.specs.Typing.{sort_of}
use Rattle.fm_mean.proofs.NamedTypes.{field_kind}
use Rattle.fm_mean.proofs.Unflagged.{IsUnflagged, right_unflagged}
use Rattle.fm_mean.proofs.JudgedValues.{Stands, stands_none, stands_constant, stands_variable, stands}

-- what a type that is judged says of a variable
abbrev pub PlaceIs : ProgramUnit → List ℕ → ExprType → Type 0
PlaceIs u name (Value q) = sort_of u name ≡ Some (field_kind q)
PlaceIs u name (Array q m) = sort_of u name ≡ Some (field_kind q)
PlaceIs u name (Port k) = (v : Variable) × (slice_get u.names.variables k ≡ Some v) × (sort_of u name ≡ Some (sort_of_variable v))
PlaceIs u name (Ports k) = (v : Variable) × (slice_get u.names.variables k ≡ Some v) × (sort_of u name ≡ Some (sort_of_variable v))
PlaceIs u name Function = Unit {0}
PlaceIs u name Nothing = Unit {0}

-- of a constant nothing is said but where a port is wanted
abbrev pub PortIs : ProgramUnit → List ℕ → ExprType → Type 0
PortIs u name (Value q) = Unit {0}
PortIs u name (Array q m) = Unit {0}
PortIs u name (Port k) = (v : Variable) × (slice_get u.names.variables k ≡ Some v) × (sort_of u name ≡ Some (sort_of_variable v))
PortIs u name (Ports k) = (v : Variable) × (slice_get u.names.variables k ≡ Some v) × (sort_of u name ≡ Some (sort_of_variable v))
PortIs u name Function = Unit {0}
PortIs u name Nothing = Unit {0}

pub port_part : (u : ProgramUnit) (name : List ℕ) (t : ExprType) → PlaceIs u name t → PortIs u name t
port_part u name (Value q) h = tt
port_part u name (Array q m) h = tt
port_part u name (Port k) h = h
port_part u name (Ports k) h = h
port_part u name Function h = tt
port_part u name Nothing h = tt

never : true ≡ false → ⊥
never e = absurd (cc)

sort_there : (u : ProgramUnit) (name : List ℕ) (k : ℕ) (v : Variable) → variable_of u name ≡ Some (k, v) → sort_of u name ≡ Some (sort_of_variable v)
sort_there u name k v is = ap (option_map (λ (w : ℕ × Variable). sort_of_variable w.1)) is

sort_by : (u : ProgramUnit) (name : List ℕ) (v : Variable) (kd : Kind) → sort_of u name ≡ Some (sort_of_variable v) → v.kind ≡ kd → sort_of u name ≡ Some (reading.kind_of kd)
sort_by u name v kd is ek = is ∙ ap (λ (k : Kind). Some (reading.kind_of k)) ek

-- ---- a name alone

symbol_is : (u : ProgramUnit) (name : List ℕ) (k : ℕ) (v : Variable) (kd : Kind) (bs : List (ℤ × ℤ)) → slice_get u.names.variables k ≡ Some v → sort_of u name ≡ Some (sort_of_variable v) → v.kind ≡ kd
    → PlaceIs u name (symbol_type (Some (symbol_by kd bs v.words k)))
symbol_is u name k v kind.Integer [] is sort ek = sort_by u name v kind.Integer sort ek
symbol_is u name k v kind.Logical [] is sort ek = sort_by u name v kind.Logical sort ek
symbol_is u name k v kind.Integer (b ∷ bs) is sort ek = sort_by u name v kind.Integer sort ek
symbol_is u name k v kind.Logical (b ∷ bs) is sort ek = sort_by u name v kind.Logical sort ek
symbol_is u name k v (kind.In t) [] is sort ek = (v, is, sort)
symbol_is u name k v (kind.Out t) [] is sort ek = (v, is, sort)
symbol_is u name k v (kind.In t) (b ∷ bs) is sort ek = (v, is, sort)
symbol_is u name k v (kind.Out t) (b ∷ bs) is sort ek = (v, is, sort)

-- as a target it has the same type
target_same : (c : Context) (kd : Kind) (bs : List (ℤ × ℤ)) (words k : ℕ) → target_type c (Some (symbol_by kd bs words k)) ≡ symbol_type (Some (symbol_by kd bs words k))
target_same c kind.Integer [] words k = refl
target_same c kind.Logical [] words k = refl
target_same c kind.Integer (b ∷ bs) words k = refl
target_same c kind.Logical (b ∷ bs) words k = refl
target_same c (kind.In t) [] words k = refl
target_same c (kind.Out t) [] words k = refl
target_same c (kind.In t) (b ∷ bs) words k = refl
target_same c (kind.Out t) (b ∷ bs) words k = refl

function_port : (u : ProgramUnit) (name : List ℕ) (c : Context) (o : Option ℕ) → PortIs u name (symbol_type (function_at c o))
function_port u name c None = tt
function_port u name c (Some k) = elim (is_function_scope (slice_get c.scopes k)) as (λ (b : Bool). PortIs u name (symbol_type (if b then Some (symbol.Function k) else None))) [ true ↦ tt | false ↦ tt ]

constant_port : (u : ProgramUnit) (name : List ℕ) (c : Constant) → PortIs u name (symbol_type (Some (constant_symbol c)))
constant_port u name (constant.Integer n) = tt
constant_port u name (constant.Logical b) = tt

name_port : (u : ProgramUnit) (c : Context) (name : List ℕ) → PortIs u name (symbol_type (or_else (get (symbols_of u.names) name) (function_named c name)))
name_port u c name = go (stands u name)
  where
    by : (o : Option Symbol) → get (symbols_of u.names) name ≡ o → PortIs u name (symbol_type (or_else o (function_named c name))) → PortIs u name (symbol_type (or_else (get (symbols_of u.names) name) (function_named c name)))
    by o at h = subst (λ (o : Option Symbol). PortIs u name (symbol_type (or_else o (function_named c name)))) (sym at) h

    go : Stands u name (get (symbols_of u.names) name) → PortIs u name (symbol_type (or_else (get (symbols_of u.names) name) (function_named c name)))
    go (stands_none at none) = by None at (function_port u name c (get c.units name))
    go (stands_constant x at none there) = by (Some (constant_symbol x)) at (constant_port u name x)
    go (stands_variable k v at there here) =
        by (Some (symbol_of k v)) at (port_part u name (symbol_type (Some (symbol_of k v))) (symbol_is u name k v v.kind v.bounds here (sort_there u name k v there) refl))

-- what may be changed is a variable
abbrev IsTarget : ProgramUnit → List ℕ → Context → Option Symbol → Type 0
IsTarget u name c o = is_fixed o ≡ false → PlaceIs u name (symbol_type o) × PlaceIs u name (target_type c o)

constant_target : (u : ProgramUnit) (name : List ℕ) (c : Context) (x : Constant) → IsTarget u name c (Some (constant_symbol x))
constant_target u name c (constant.Integer n) e = absurd (never e)
constant_target u name c (constant.Logical b) e = absurd (never e)

function_target : (u : ProgramUnit) (name : List ℕ) (c : Context) (o : Option ℕ) → IsTarget u name c (function_at c o)
function_target u name c None = λ e. (tt, tt)
function_target u name c (Some k) = elim (is_function_scope (slice_get c.scopes k)) as (λ (b : Bool). IsTarget u name c (if b then Some (symbol.Function k) else None)) [ true ↦ λ e. absurd (never e) | false ↦ λ e. (tt, tt) ]

name_target : (u : ProgramUnit) (c : Context) (name : List ℕ) → IsTarget u name c (or_else (get (symbols_of u.names) name) (function_named c name))
name_target u c name = go (stands u name)
  where
    by : (o : Option Symbol) → get (symbols_of u.names) name ≡ o → IsTarget u name c (or_else o (function_named c name)) → IsTarget u name c (or_else (get (symbols_of u.names) name) (function_named c name))
    by o at h = subst (λ (o : Option Symbol). IsTarget u name c (or_else o (function_named c name))) (sym at) h

    go : Stands u name (get (symbols_of u.names) name) → IsTarget u name c (or_else (get (symbols_of u.names) name) (function_named c name))
    go (stands_none at none) = by None at (function_target u name c (get c.units name))
    go (stands_constant x at none there) = by (Some (constant_symbol x)) at (constant_target u name c x)
    go (stands_variable k v at there here) =
        let one = symbol_is u name k v v.kind v.bounds here (sort_there u name k v there) refl in
        by (Some (symbol_of k v)) at (λ e. (one, subst (PlaceIs u name) (sym (target_same c v.kind v.bounds v.words k)) one))

-- ---- elements

element_place : (u : ProgramUnit) (c : Context) (name : List ℕ) (k : ℕ) (v : Variable) (kd : Kind) (bs : List (ℤ × ℤ)) (words : ℕ) (a : Arguments) → slice_get u.names.variables k ≡ Some v → sort_of u name ≡ Some (sort_of_variable v) → v.kind ≡ kd
    → IsUnflagged (subscripted c (array_or (Some (symbol_by kd bs words k)) referent.Unknown) a).flags → PlaceIs u name (subscripted c (array_or (Some (symbol_by kd bs words k)) referent.Unknown) a).expr_type
element_place u c name k v kind.Integer [] words a is sort ek h = tt
element_place u c name k v kind.Logical [] words a is sort ek h = tt
element_place u c name k v (kind.In t) [] words a is sort ek h = tt
element_place u c name k v (kind.Out t) [] words a is sort ek h = tt
element_place u c name k v kind.Integer (b ∷ bs) words a is sort ek h = sort_by u name v kind.Integer sort ek
element_place u c name k v kind.Logical (b ∷ bs) words a is sort ek h = sort_by u name v kind.Logical sort ek
element_place u c name k v (kind.In t) (b ∷ bs) words a is sort ek h = (v, is, sort)
element_place u c name k v (kind.Out t) (b ∷ bs) words a is sort ek h = (v, is, sort)

constant_element : (u : ProgramUnit) (c : Context) (name : List ℕ) (x : Constant) (a : Arguments) → PlaceIs u name (subscripted c (array_or (Some (constant_symbol x)) referent.Unknown) a).expr_type
constant_element u c name (constant.Integer n) a = tt
constant_element u c name (constant.Logical b) a = tt

element_is : (u : ProgramUnit) (c : Context) (name : List ℕ) (a : Arguments) → IsUnflagged (subscripted c (array_or (get (symbols_of u.names) name) referent.Unknown) a).flags
    → PlaceIs u name (subscripted c (array_or (get (symbols_of u.names) name) referent.Unknown) a).expr_type
element_is u c name a = go (stands u name)
  where
    by : (o : Option Symbol) → get (symbols_of u.names) name ≡ o
        → (IsUnflagged (subscripted c (array_or o referent.Unknown) a).flags → PlaceIs u name (subscripted c (array_or o referent.Unknown) a).expr_type)
        → IsUnflagged (subscripted c (array_or (get (symbols_of u.names) name) referent.Unknown) a).flags
        → PlaceIs u name (subscripted c (array_or (get (symbols_of u.names) name) referent.Unknown) a).expr_type
    by o at h = subst (λ (o : Option Symbol). IsUnflagged (subscripted c (array_or o referent.Unknown) a).flags → PlaceIs u name (subscripted c (array_or o referent.Unknown) a).expr_type) (sym at) h

    go : Stands u name (get (symbols_of u.names) name) → IsUnflagged (subscripted c (array_or (get (symbols_of u.names) name) referent.Unknown) a).flags
        → PlaceIs u name (subscripted c (array_or (get (symbols_of u.names) name) referent.Unknown) a).expr_type
    go (stands_none at none) = by None at (λ h. tt)
    go (stands_constant x at none there) = by (Some (constant_symbol x)) at (λ h. constant_element u c name x a)
    go (stands_variable k v at there here) = by (Some (symbol_of k v)) at (element_place u c name k v v.kind v.bounds v.words a here (sort_there u name k v there) refl)

-- ---- variables and targets

if_flagged : (b : Bool) (x y : Judgement) (P : Judgement → Type 0) → (b ≡ true → IsUnflagged x.flags → P x) → (b ≡ false → IsUnflagged y.flags → P y) → IsUnflagged (if b then x else y).flags → P (if b then x else y)
if_flagged true x y P f g h = f refl h
if_flagged false x y P f g h = g refl h

module _ (u : ProgramUnit) (c : Context) where
  abbrev sc : symbols.Scope
  sc = scope_of u.tree u.names

  abbrev subscripts : Var → Arguments
  subscripts v = arguments_judged c sc (array_or (get sc.symbols v.name) referent.Unknown) 0 (trees_from v.subscripts)

  -- a variable, as one that holds a port
  pub port_is : (v : Var) → IsUnflagged (variable_judged c sc v).flags → PortIs u v.name (variable_judged c sc v).expr_type
  port_is v =
      if_flagged (is_bare v.subscripts) (plain (symbol_type (symbol_in c sc v.name))) (element_of c sc v) (λ (j : Judgement). PortIs u v.name j.expr_type) (λ bare h. name_port u c v.name)
      (λ bare h. port_part u v.name (element_of c sc v).expr_type (element_is u c v.name (subscripts v) h))

  -- as a target
  pub target_is : (v : Var) → IsUnflagged (target_judged c sc v).flags → PlaceIs u v.name (target_judged c sc v).expr_type
  target_is v =
      if_flagged (is_bare v.subscripts) (target_named c (symbol_in c sc v.name)) (element_of c sc v) (λ (j : Judgement). PlaceIs u v.name j.expr_type) (λ bare h. (name_target u c v.name h.e44).1)
      (λ bare h. element_is u c v.name (subscripts v) h)

  -- what may be a target has its type as a variable too
  pub item_is : (v : Var) → IsUnflagged (target_judged c sc v).flags → PlaceIs u v.name (variable_judged c sc v).expr_type
  item_is v = go (is_bare v.subscripts)
    where
      go : (b : Bool) → IsUnflagged (if b then target_named c (symbol_in c sc v.name) else element_of c sc v).flags
          → PlaceIs u v.name (if b then plain (symbol_type (symbol_in c sc v.name)) else element_of c sc v).expr_type
      go true h = (name_target u c v.name h.e44).0
      go false h = element_is u c v.name (subscripts v) h

  -- the variable of a loop
  pub loop_is : (name : List ℕ) → IsUnflagged (target_named c (symbol_in c sc name)).flags → PlaceIs u name (target_named c (symbol_in c sc name)).expr_type
  loop_is name h = (name_target u c name h.e44).1

  -- ---- what has no type

  -- the name stands for something
  abbrev pub IsMeant : List ℕ → Type 0
  IsMeant name = symbol_in c sc name ≡ None → ⊥

  pub typed_symbol : (o : Option Symbol) → (o ≡ None → ⊥) → symbol_type o ≡ Nothing → ⊥
  typed_symbol None some e = some refl
  typed_symbol (Some (symbol.Constant q)) some e = absurd (cc e)
  typed_symbol (Some (symbol.Variable q k)) some e = absurd (cc e)
  typed_symbol (Some (symbol.Array q k x)) some e = absurd (cc e)
  typed_symbol (Some (symbol.Port d k)) some e = absurd (cc e)
  typed_symbol (Some (symbol.Ports d k x)) some e = absurd (cc e)
  typed_symbol (Some (symbol.Function k)) some e = absurd (cc e)

  typed_target : (o : Option Symbol) → (o ≡ None → ⊥) → is_fixed o ≡ false → target_type c o ≡ Nothing → ⊥
  typed_target None some free e = some refl
  typed_target (Some (symbol.Constant q)) some free e = absurd (cc e)
  typed_target (Some (symbol.Variable q k)) some free e = absurd (cc e)
  typed_target (Some (symbol.Array q k x)) some free e = absurd (cc e)
  typed_target (Some (symbol.Port d k)) some free e = absurd (cc e)
  typed_target (Some (symbol.Ports d k x)) some free e = absurd (cc e)
  typed_target (Some (symbol.Function k)) some free e = absurd (never free)

  typed_subscripted : (r : Referent) (a : Arguments) → IsUnflagged (subscripted c r a).flags → (subscripted c r a).expr_type ≡ Nothing → ⊥
  typed_subscripted (referent.Element q n) a h e = absurd (no e)
    where
      no : Value q ≡ Nothing → ⊥
      no e = absurd (cc)
  typed_subscripted (referent.PortElement k n) a h e = absurd (no e)
    where
      no : Port k ≡ Nothing → ⊥
      no e = absurd (cc)
  typed_subscripted (referent.Intrinsic f) a h e = never (right_unflagged a.flags (e41 true) h).e41
  typed_subscripted (referent.Unit k) a h e = never (right_unflagged a.flags (e41 true) h).e41
  typed_subscripted referent.Unknown a h e = never (right_unflagged a.flags (e41 true) h).e41

  pub variable_has_type : (v : Var) → IsMeant v.name → IsUnflagged (variable_judged c sc v).flags → (variable_judged c sc v).expr_type ≡ Nothing → ⊥
  variable_has_type v some =
      if_flagged (is_bare v.subscripts) (plain (symbol_type (symbol_in c sc v.name))) (element_of c sc v) (λ (j : Judgement). j.expr_type ≡ Nothing → ⊥) (λ bare h. typed_symbol (symbol_in c sc v.name) some)
      (λ bare h. typed_subscripted (array_or (get sc.symbols v.name) referent.Unknown) (subscripts v) h)

  pub target_has_type : (v : Var) → IsMeant v.name → IsUnflagged (target_judged c sc v).flags → (target_judged c sc v).expr_type ≡ Nothing → ⊥
  target_has_type v some =
      if_flagged (is_bare v.subscripts) (target_named c (symbol_in c sc v.name)) (element_of c sc v) (λ (j : Judgement). j.expr_type ≡ Nothing → ⊥) (λ bare h. typed_target (symbol_in c sc v.name) some h.e44)
      (λ bare h. typed_subscripted (array_or (get sc.symbols v.name) referent.Unknown) (subscripts v) h)

  pub item_has_type : (v : Var) → IsMeant v.name → IsUnflagged (target_judged c sc v).flags → (variable_judged c sc v).expr_type ≡ Nothing → ⊥
  item_has_type v some = go (is_bare v.subscripts)
    where
      go : (b : Bool) → IsUnflagged (if b then target_named c (symbol_in c sc v.name) else element_of c sc v).flags
          → (if b then plain (symbol_type (symbol_in c sc v.name)) else element_of c sc v).expr_type ≡ Nothing → ⊥
      go true h = typed_symbol (symbol_in c sc v.name) some
      go false h = typed_subscripted (array_or (get sc.symbols v.name) referent.Unknown) (subscripts v) h

  pub loop_has_type : (name : List ℕ) → IsMeant name → IsUnflagged (target_named c (symbol_in c sc name)).flags → (target_named c (symbol_in c sc name)).expr_type ≡ Nothing → ⊥
  loop_has_type name some h = typed_target (symbol_in c sc name) some h.e44
