-- In a checked program ports and variables stand where statements on ports want them, and each entry has types.
use Rattle.std.proofs.Common.{◌≡◌, ℕ, ℤ, Bool, true, false, ◌||◌, not, Option, Some, None, option_map, List, [], ◌∷◌, ◌++◌, slice_get, refl, sym, ap, subst}
use Rattle.std.specs.Prelude.{if◌then◌else◌}
use Rattle.std.specs.FinMap.{get}
use Rattle.std.specs.List.{flat_map}
use Rattle.fm_net.specs.Typed.{AllIn}
use Rattle.fm_tree.specs.PortFields.{PortFields, FieldKind, Logical, In}
use Rattle.fm_tree.specs.PortReading.{kind_of}
use Rattle.fm_tree.specs.Tree.{trees_from}
use Rattle.fm_tree.specs.declared.port_type.Kind.{Kind}
use Rattle.fm_tree.specs.declared.port_type.Kind.TheVariants as kind
use Rattle.fm_tree.specs.declared.program_unit.Entry.{Entry}
use Rattle.fm_tree.specs.declared.statement.Extra.{Extra}
use Rattle.fm_tree.specs.declared.statement.Simple.{Simple}
use Rattle.fm_tree.specs.declared.statement.Simple.TheVariants as simple
use Rattle.fm_tree.specs.declared.statement.Stmt.TheVariants as stmt
use Rattle.fm_tree.specs.declared.statement.Var.{Var}
use Rattle.fm_symbols.specs.Context.{symbol_by, symbol_of, symbols_of, symbol_in, constant_symbol, scope_of, or_else, function_at, function_named, is_function_scope}
use Rattle.fm_symbols.specs.declared.context.Context.{Context}
use Rattle.fm_symbols.specs.declared.context.Scope as symbols
use Rattle.fm_symbols.specs.declared.names.Constant.{Constant}
use Rattle.fm_symbols.specs.declared.names.Constant.TheVariants as constant
use Rattle.fm_symbols.specs.declared.names.Variable.{Variable}
use Rattle.fm_symbols.specs.declared.symbol.Direction.TheVariants as direction
use Rattle.fm_symbols.specs.declared.symbol.Scalar.{Scalar}
use Rattle.fm_symbols.specs.declared.symbol.Scalar.TheVariants as scalar
use Rattle.fm_symbols.specs.declared.symbol.Symbol.{Symbol}
use Rattle.fm_symbols.specs.declared.symbol.Symbol.TheVariants as symbol
use Rattle.fm_rules.specs.Occurrences as occurrences
use Rattle.fm_rules.specs.declared.typing.ExprType.{ExprType}
use Rattle.fm_rules.specs.declared.typing.ExprType.TheVariants.{Value, Array, Port, Ports, Function, Nothing}
use Rattle.fm_rules.specs.declared.typing.Arguments.{Arguments}
use Rattle.fm_rules.specs.declared.typing.Referent.{Referent}
use Rattle.fm_rules.specs.declared.typing.Referent.TheVariants as referent
use Rattle.fm_rules.specs.Expressions.{array_or, arguments_judged}
use Rattle.fm_rules.specs.Flags.{both}
use Rattle.fm_rules.specs.Typing.{operand, plain, result_in, symbol_type, value_type}
use Rattle.fm_rules.specs.VariableTypes.{element_of, is_bare, subscripted, target_judged, target_named, target_type, variable_judged}
use Rattle.fm_rules.specs.TypeStatements.{extra_flags, in_any, port_flags, simple_flags, target_flags}
use Rattle.fm_rules.specs.PortFitting.{is_one_port, lacks_port, port_variable, ports_differ}
use Rattle.fm_rules.specs.JudgedStatements.{variable_type}
use Rattle.fm_rules.specs.PortRules.{breaks_move, breaks_type, lacks_direction}
use Rattle.fm_rules.specs.declared.program.Program.{Program}
use Rattle.fm_mean.specs.Fits.{sort_of_variable}
use Rattle.fm_mean.specs.Names.{ProgramUnit, unit_at, context, variable_of}
use Rattle.fm_mean.specs.Typing.{sort_of}
use Rattle.fm_mean.specs.TypedTrees.{EntryHasTypes}
use Rattle.fm_mean.proofs.JudgedItems.{all_left, all_parts, all_right, all_unflagged, inport_is}
use Rattle.fm_mean.proofs.JudgedPlaces.{PlaceIs, port_is, target_has_type, target_is, variable_has_type}
use Rattle.fm_mean.proofs.JudgedPlaces as judged
use Rattle.fm_mean.proofs.JudgedPrograms.{arrays_in}
use Rattle.fm_mean.proofs.JudgedStatements.{operand_is}
use Rattle.fm_mean.proofs.JudgedValues.{Stands, stands_none, stands_constant, stands_variable, stands}
use Rattle.fm_mean.proofs.ProgramMeanings.{program_has_types}
use Rattle.fm_mean.proofs.Unbroken.{or_left, or_right}
use Rattle.fm_mean.proofs.Unflagged.{IsUnflagged, left_unflagged, right_unflagged}
use Rattle.fm_gen_relation.specs.Meant.{IsMeant}
use Rattle.fm_gen_relation.specs.Sound.{IsPort, IsVariable, IsWord, is_word}
use Rattle.fm_gen_relation.proofs.Kept.{Keeps, keeps}
use Rattle.fm_gen_relation.proofs.Shaped.{one_iostat}

-- Variables by their sorts.

logical_word : (k : Kind) → kind_of k ≡ Logical → is_word k ≡ true
logical_word kind.Integer e = refl
logical_word kind.Logical e = refl
logical_word (kind.In t) e = absurd (cc e)
logical_word (kind.Out t) e = absurd (cc e)

sorted_variable : (o : Option (ℕ × Variable)) (r : FieldKind) → option_map (λ (v : ℕ × Variable). sort_of_variable v.1) o ≡ Some r → (v : ℕ × Variable) × (o ≡ Some v) × (sort_of_variable v.1 ≡ r)
sorted_variable None r e = absurd (cc)
sorted_variable (Some v) r e = (v, refl, the_sort (sort_of_variable v.1) r e)
  where
    the_sort : (a b : FieldKind) → Some a ≡ Some b → a ≡ b
    the_sort a b e = cc

variable_by : (u : ProgramUnit) (name : List ℕ) (r : FieldKind) → sort_of u name ≡ Some r → IsVariable u name
variable_by u name r e = let x = sorted_variable (variable_of u name) r e in (x.0, x.1)

word_by : (u : ProgramUnit) (name : List ℕ) → sort_of u name ≡ Some Logical → IsWord u name
word_by u name e = let x = sorted_variable (variable_of u name) Logical e in (x.0, x.1, logical_word x.0.1.kind x.2)

-- Ports.

-- what has the type of a port is a variable that holds ports
abbrev HoldsPort : ProgramUnit → List ℕ → ExprType → Type 0
HoldsPort u name (Value q) = Unit {0}
HoldsPort u name (Array q m) = Unit {0}
HoldsPort u name (Port k) = IsPort u name
HoldsPort u name (Ports k) = IsPort u name
HoldsPort u name Function = Unit {0}
HoldsPort u name Nothing = Unit {0}

symbol_holds : (u : ProgramUnit) (name : List ℕ) (k : ℕ) (v : Variable) (kd : Kind) (bs : List (ℤ × ℤ)) (words : ℕ) → variable_of u name ≡ Some (k, v) → v.kind ≡ kd → HoldsPort u name (symbol_type (Some (symbol_by kd bs words k)))
symbol_holds u name k v kind.Integer [] words there at = tt
symbol_holds u name k v kind.Logical [] words there at = tt
symbol_holds u name k v kind.Integer (b ∷ bs) words there at = tt
symbol_holds u name k v kind.Logical (b ∷ bs) words there at = tt
symbol_holds u name k v (kind.In t) [] words there at = ((k, v), there, ap is_word at)
symbol_holds u name k v (kind.Out t) [] words there at = ((k, v), there, ap is_word at)
symbol_holds u name k v (kind.In t) (b ∷ bs) words there at = ((k, v), there, ap is_word at)
symbol_holds u name k v (kind.Out t) (b ∷ bs) words there at = ((k, v), there, ap is_word at)

function_holds : (u : ProgramUnit) (name : List ℕ) (c : Context) (o : Option ℕ) → HoldsPort u name (symbol_type (function_at c o))
function_holds u name c None = tt
function_holds u name c (Some k) = elim (is_function_scope (slice_get c.scopes k)) as (λ (b : Bool). HoldsPort u name (symbol_type (if b then Some (symbol.Function k) else None))) [ true ↦ tt | false ↦ tt ]

constant_holds : (u : ProgramUnit) (name : List ℕ) (x : Constant) → HoldsPort u name (symbol_type (Some (constant_symbol x)))
constant_holds u name (constant.Integer n) = tt
constant_holds u name (constant.Logical b) = tt

name_holds : (u : ProgramUnit) (c : Context) (name : List ℕ) → HoldsPort u name (symbol_type (or_else (get (symbols_of u.names) name) (function_named c name)))
name_holds u c name = go (stands u name)
  where
    by : (o : Option Symbol) → get (symbols_of u.names) name ≡ o → HoldsPort u name (symbol_type (or_else o (function_named c name))) → HoldsPort u name (symbol_type (or_else (get (symbols_of u.names) name) (function_named c name)))
    by o at h = subst (λ (o : Option Symbol). HoldsPort u name (symbol_type (or_else o (function_named c name)))) (sym at) h

    go : Stands u name (get (symbols_of u.names) name) → HoldsPort u name (symbol_type (or_else (get (symbols_of u.names) name) (function_named c name)))
    go (stands_none at none) = by None at (function_holds u name c (get c.units name))
    go (stands_constant x at none there) = by (Some (constant_symbol x)) at (constant_holds u name x)
    go (stands_variable k v at there here) = by (Some (symbol_of k v)) at (symbol_holds u name k v v.kind v.bounds v.words there refl)

element_holds : (u : ProgramUnit) (c : Context) (name : List ℕ) (k : ℕ) (v : Variable) (kd : Kind) (bs : List (ℤ × ℤ)) (words : ℕ) (a : Arguments) → variable_of u name ≡ Some (k, v) → v.kind ≡ kd
    → HoldsPort u name (subscripted c (array_or (Some (symbol_by kd bs words k)) referent.Unknown) a).expr_type
element_holds u c name k v kind.Integer [] words a there at = tt
element_holds u c name k v kind.Logical [] words a there at = tt
element_holds u c name k v (kind.In t) [] words a there at = tt
element_holds u c name k v (kind.Out t) [] words a there at = tt
element_holds u c name k v kind.Integer (b ∷ bs) words a there at = tt
element_holds u c name k v kind.Logical (b ∷ bs) words a there at = tt
element_holds u c name k v (kind.In t) (b ∷ bs) words a there at = ((k, v), there, ap is_word at)
element_holds u c name k v (kind.Out t) (b ∷ bs) words a there at = ((k, v), there, ap is_word at)

constant_element : (u : ProgramUnit) (c : Context) (name : List ℕ) (x : Constant) (a : Arguments) → HoldsPort u name (subscripted c (array_or (Some (constant_symbol x)) referent.Unknown) a).expr_type
constant_element u c name (constant.Integer n) a = tt
constant_element u c name (constant.Logical b) a = tt

subscripts_hold : (u : ProgramUnit) (c : Context) (name : List ℕ) (a : Arguments) → HoldsPort u name (subscripted c (array_or (get (symbols_of u.names) name) referent.Unknown) a).expr_type
subscripts_hold u c name a = go (stands u name)
  where
    by : (o : Option Symbol) → get (symbols_of u.names) name ≡ o → HoldsPort u name (subscripted c (array_or o referent.Unknown) a).expr_type → HoldsPort u name (subscripted c (array_or (get (symbols_of u.names) name) referent.Unknown) a).expr_type
    by o at h = subst (λ (o : Option Symbol). HoldsPort u name (subscripted c (array_or o referent.Unknown) a).expr_type) (sym at) h

    go : Stands u name (get (symbols_of u.names) name) → HoldsPort u name (subscripted c (array_or (get (symbols_of u.names) name) referent.Unknown) a).expr_type
    go (stands_none at none) = by None at tt
    go (stands_constant x at none there) = by (Some (constant_symbol x)) at (constant_element u c name x a)
    go (stands_variable k v at there here) = by (Some (symbol_of k v)) at (element_holds u c name k v v.kind v.bounds v.words a there refl)

one_port : (u : ProgramUnit) (name : List ℕ) (t : ExprType) → HoldsPort u name t → (t ≡ Nothing → ⊥) → not (is_one_port t) ≡ false → IsPort u name
one_port u name (Port k) h some e = h
one_port u name Nothing h some e = absurd (some refl)
one_port u name (Ports k) h some e = absurd (cc e)
one_port u name (Value q) h some e = absurd (cc e)
one_port u name (Array q m) h some e = absurd (cc e)
one_port u name Function h some e = absurd (cc e)

out_port : (u : ProgramUnit) (t : ExprType) → lacks_port direction.Out u.names t ≡ false → not (is_one_port t) ≡ false
out_port u (Port k) e = refl
out_port u Nothing e = refl
out_port u (Ports k) e = absurd (cc e)
out_port u (Value q) e = absurd (cc e)
out_port u (Array q m) e = absurd (cc e)
out_port u Function e = absurd (cc e)

-- Targets.

named_target : (c : Context) (o : Option Symbol) → target_type c o ≡ Function → ⊥
named_target c None e = absurd (cc e)
named_target c (Some (symbol.Constant q)) e = absurd (cc e)
named_target c (Some (symbol.Variable q k)) e = absurd (cc e)
named_target c (Some (symbol.Array q k x)) e = absurd (cc e)
named_target c (Some (symbol.Port d k)) e = absurd (cc e)
named_target c (Some (symbol.Ports d k x)) e = absurd (cc e)
named_target c (Some (symbol.Function k)) e = go (slice_get c.scopes k) e
  where
    value : (r : Option Scalar) → value_type r ≡ Function → ⊥
    value None e = absurd (cc e)
    value (Some q) e = absurd (cc e)

    go : (o : Option symbols.Scope) → result_in o ≡ Function → ⊥
    go None e = absurd (cc e)
    go (Some s) e = value s.result e

element_target : (c : Context) (r : Referent) (a : Arguments) → (subscripted c r a).expr_type ≡ Function → ⊥
element_target c (referent.Element q n) a e = never q e
  where
    never : (q : Scalar) → Value q ≡ Function → ⊥
    never q e = absurd (cc e)
element_target c (referent.PortElement k n) a e = never k e
  where
    never : (k : ℕ) → Port k ≡ Function → ⊥
    never k e = absurd (cc e)
element_target c (referent.Intrinsic f) a e = absurd (cc e)
element_target c (referent.Unit k) a e = absurd (cc e)
element_target c referent.Unknown a e = absurd (cc e)

placed_variable : (u : ProgramUnit) (name : List ℕ) (t : ExprType) → PlaceIs u name t → (t ≡ Nothing → ⊥) → (t ≡ Function → ⊥) → IsVariable u name
placed_variable u name (Value q) h some never = variable_by u name _ h
placed_variable u name (Array q m) h some never = variable_by u name _ h
placed_variable u name (Port k) h some never = variable_by u name _ h.2
placed_variable u name (Ports k) h some never = variable_by u name _ h.2
placed_variable u name Function h some never = absurd (never refl)
placed_variable u name Nothing h some never = absurd (some refl)

-- Statements.

module _ (p : Program) (u : ProgramUnit) where
  abbrev sc : symbols.Scope
  sc = scope_of u.tree u.names

  abbrev array : List ℕ → Bool
  array = arrays_in u

  abbrev AreMeant : List (List ℕ) → Type 0
  AreMeant names = AllIn (judged.IsMeant u (context p)) names

  variable_holds : (v : Var) → HoldsPort u v.name (variable_judged (context p) sc v).expr_type
  variable_holds v = go (is_bare v.subscripts)
    where
      a : Arguments
      a = arguments_judged (context p) sc (array_or (get sc.symbols v.name) referent.Unknown) 0 (trees_from v.subscripts)

      go : (b : Bool) → HoldsPort u v.name (if b then plain (symbol_type (symbol_in (context p) sc v.name)) else element_of (context p) sc v).expr_type
      go true = name_holds u (context p) v.name
      go false = subscripts_hold u (context p) v.name a

  -- one port, whose type is judged
  port_there : (v : Var) → IsUnflagged (port_flags (context p) sc v) → AreMeant (occurrences.in_var array v) → not (is_one_port (variable_judged (context p) sc v).expr_type) ≡ false → IsPort u v.name
  port_there v h some one = one_port u v.name (variable_judged (context p) sc v).expr_type (variable_holds v) (variable_has_type u (context p) v some.0 h) one

  variable_there : (v : Var) → IsUnflagged (target_flags (context p) sc v) → AreMeant (occurrences.in_var array v) → IsVariable u v.name
  variable_there v h some = placed_variable u v.name (target_judged (context p) sc v).expr_type (target_is u (context p) v h) (target_has_type u (context p) v some.0 h) (go (is_bare v.subscripts))
    where
      go : (b : Bool) → (if b then target_named (context p) (symbol_in (context p) sc v.name) else element_of (context p) sc v).expr_type ≡ Function → ⊥
      go true e = named_target (context p) (symbol_in (context p) sc v.name) e
      go false e = element_target (context p) (array_or (get sc.symbols v.name) referent.Unknown) (arguments_judged (context p) sc (array_or (get sc.symbols v.name) referent.Unknown) 0 (trees_from v.subscripts)) e

  variables_there : (vs : List Var) → AllIn (λ v. IsUnflagged (target_flags (context p) sc v)) vs → AllIn (λ v. AreMeant (occurrences.in_var array v)) vs → AllIn (λ (v : Var). IsVariable u v.name) vs
  variables_there [] h some = tt
  variables_there (v ∷ vs) h some = (variable_there v h.0 some.0, variables_there vs h.1 some.1)

  received : (q : Var) (xs : List Extra) (vs : List Var) → IsUnflagged (both (both (port_flags (context p) sc q) (in_any (extra_flags (context p) sc) xs)) (in_any (target_flags (context p) sc) vs))
      → AreMeant (occurrences.in_var array q ++ (flat_map (occurrences.in_extra array) xs ++ flat_map (occurrences.in_var array) vs)) → AllIn (λ (v : Var). IsVariable u v.name) vs
  received q xs vs h some =
      let before = both (port_flags (context p) sc q) (in_any (extra_flags (context p) sc) xs) in
      let more = flat_map (occurrences.in_extra array) xs in
      let items = flat_map (occurrences.in_var array) vs in
      variables_there vs (all_unflagged (target_flags (context p) sc) vs (right_unflagged before (in_any (target_flags (context p) sc) vs) h))
      (all_parts (judged.IsMeant u (context p)) (occurrences.in_var array) vs (all_right (judged.IsMeant u (context p)) more items (all_right (judged.IsMeant u (context p)) (occurrences.in_var array q) (more ++ items) some)))

  ended : (q : Var) → IsUnflagged (port_flags (context p) sc q) → AreMeant (occurrences.in_var array q) → lacks_port direction.Out u.names (variable_type (context p) sc q) ≡ false → IsPort u q.name
  unfolding variable_type
  ended q h some way = port_there q h some (out_port u (variable_judged (context p) sc q).expr_type way)

  moved : (v w : Var) → IsUnflagged (both (port_flags (context p) sc v) (port_flags (context p) sc w)) → AreMeant (occurrences.in_var array v ++ occurrences.in_var array w)
      → breaks_move u.names (variable_type (context p) sc v) (variable_type (context p) sc w) ≡ false → IsPort u v.name × IsPort u w.name
  unfolding variable_type
  moved v w h some e =
      let t = (variable_judged (context p) sc v).expr_type in
      let r = (variable_judged (context p) sc w).expr_type in
      let ones = or_left (not (is_one_port t) || not (is_one_port r)) (ports_differ (port_variable u.names t) (port_variable u.names r)) e in (
        port_there v (left_unflagged (port_flags (context p) sc v) (port_flags (context p) sc w) h) (all_left (judged.IsMeant u (context p)) (occurrences.in_var array v) (occurrences.in_var array w) some) (or_left (not (is_one_port t)) (not (is_one_port r)) ones),
        port_there w (right_unflagged (port_flags (context p) sc v) (port_flags (context p) sc w) h) (all_right (judged.IsMeant u (context p)) (occurrences.in_var array v) (occurrences.in_var array w) some)
            (or_right (not (is_one_port t)) (not (is_one_port r)) ones),
      )

  probed : (q empty : Var) → IsUnflagged (both (port_flags (context p) sc q) (operand scalar.Logical (target_judged (context p) sc empty))) → AreMeant (occurrences.in_var array q ++ occurrences.in_var array empty)
      → lacks_port direction.In u.names (variable_type (context p) sc q) ≡ false → ((t : PortFields) × (sort_of u q.name ≡ Some (In t))) × IsWord u empty.name
  unfolding variable_type
  probed q empty h some way =
      let j = target_judged (context p) sc empty in
      let first = left_unflagged (port_flags (context p) sc q) (operand scalar.Logical j) h in
      let port = all_left (judged.IsMeant u (context p)) (occurrences.in_var array q) (occurrences.in_var array empty) some in
      let word = all_right (judged.IsMeant u (context p)) (occurrences.in_var array q) (occurrences.in_var array empty) some in
      let i = inport_is u q.name (variable_judged (context p) sc q).expr_type (port_is u (context p) q first) (variable_has_type u (context p) q port.0 first) way in
      let x = operand_is scalar.Logical j (right_unflagged (port_flags (context p) sc q) (operand scalar.Logical j) h) (target_has_type u (context p) empty word.0) in
      ((i.fields, i.sort), word_by u empty.name (subst (PlaceIs u empty.name) x.1 (target_is u (context p) empty x.0)))

module _ (p : Program) (number : ℕ) (u : ProgramUnit) (i : ℕ) (e : Entry) (is : unit_at p number ≡ Some u) (at : slice_get u.tree.body i ≡ Some e) where
  meant_by : (s : Simple) → e.stmt ≡ stmt.Simple s → Keeps p number u is s → IsMeant u s
  unfolding simple_flags occurrences.in_simple lacks_direction breaks_type
  meant_by (simple.Assignment v t) same h = tt
  meant_by (simple.Goto l) same h = tt
  meant_by simple.Continue same h = tt
  meant_by simple.Return same h = tt
  meant_by simple.Stop same h = tt
  meant_by (simple.Call name args) same h = tt
  meant_by (simple.Print items) same h = tt
  meant_by (simple.Write unit items) same h = tt
  meant_by (simple.Channel in_first v w) same h = tt
  meant_by (simple.Merger v ws) same h = tt
  meant_by (simple.Send named q items) same h = tt
  meant_by (simple.Receive named q extras items) same h = (one_iostat p number u i e is at named q extras items same, received p u q extras items h.flags h.names)
  meant_by (simple.EndChannel named q) same h = ended p u q h.flags h.names h.direction
  meant_by (simple.MovePort from to) same h = moved p u from to h.flags h.names h.alike
  meant_by (simple.Probe named q empty) same h = probed p u q empty h.flags h.names h.direction

-- ports, variables and one IOSTAT= at most stand in statements on ports
pub meant : (p : Program) (number : ℕ) (u : ProgramUnit) (i : ℕ) (e : Entry) → unit_at p number ≡ Some u → slice_get u.tree.body i ≡ Some e → (s : Simple) → e.stmt ≡ stmt.Simple s → IsMeant u s
meant p number u i e is at s same = meant_by p number u i e is at s same (keeps p number u is i e at s same)

-- each entry has the types that its meaning asks for
pub entry_types : (p : Program) (number : ℕ) (u : ProgramUnit) (i : ℕ) (e : Entry) → unit_at p number ≡ Some u → slice_get u.tree.body i ≡ Some e → EntryHasTypes p u e
entry_types p number u i e is at = (program_has_types p).entries number u i e is at
