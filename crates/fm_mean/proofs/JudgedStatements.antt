-- A statement that breaks no rule of types and ports has the types that its meaning asks for.
use Rattle.std.proofs.Common.{◌≡◌, ℕ, Bool, true, false, ◌||◌, not, Option, Some, None, List, [], ◌∷◌, ◌++◌, map, slice_get, refl, sym, ap, ◌∙◌, subst}
use Rattle.std.specs.Prelude.{if◌then◌else◌}
use Rattle.std.specs.FinMap.{get}
use Rattle.std.specs.List.{flat_map, list_any}
use Rattle.fm_values.specs.declared.intrinsic.Intrinsic.{Intrinsic}
use Rattle.fm_values.specs.Intrinsics.{intrinsic_named}
use Rattle.fm_tree.specs.Tree.{Tree, Number, Truth, Named, Ref, Paren, Signed, Not, Binary, trees_from}
use Rattle.fm_tree.specs.PortFields.{PortFields, Integer, In, Out}
use Rattle.fm_tree.specs.declared.statement.Var.{Var}
use Rattle.fm_tree.specs.declared.statement.LoopHead.{LoopHead}
use Rattle.fm_tree.specs.declared.statement.Extra.{Extra}
use Rattle.fm_tree.specs.declared.statement.Extra.TheVariants as extra
use Rattle.fm_tree.specs.declared.statement.Simple.{Simple}
use Rattle.fm_tree.specs.declared.statement.Simple.TheVariants as simple
use Rattle.fm_tree.specs.declared.statement.Stmt.{Stmt}
use Rattle.fm_tree.specs.declared.statement.Stmt.TheVariants as stmt
use Rattle.fm_symbols.specs.Context.{symbol_in, scope_of, function_at, function_named, is_function_scope}
use Rattle.fm_symbols.specs.Headings.{is_function}
use Rattle.fm_symbols.specs.declared.context.Context.{Context}
use Rattle.fm_symbols.specs.declared.context.Scope as symbols
use Rattle.fm_symbols.specs.declared.symbol.Direction.TheVariants as direction
use Rattle.fm_symbols.specs.declared.symbol.Scalar.{Scalar}
use Rattle.fm_symbols.specs.declared.symbol.Scalar.TheVariants as scalar
use Rattle.fm_symbols.specs.declared.symbol.Symbol.{Symbol}
use Rattle.fm_symbols.specs.declared.symbol.Symbol.TheVariants as symbol
use Rattle.fm_rules.specs.Occurrences as stands
use Rattle.fm_rules.specs.declared.flags.Flags.{Flags}
use Rattle.fm_rules.specs.declared.typing.ExprType.{ExprType}
use Rattle.fm_rules.specs.declared.typing.ExprType.TheVariants.{Value, Array, Port, Ports, Function, Nothing}
use Rattle.fm_rules.specs.declared.typing.Judgement.{Judgement}
use Rattle.fm_rules.specs.declared.typing.OperatorKind.{OperatorKind}
use Rattle.fm_rules.specs.declared.typing.OperatorKind.TheVariants as operator
use Rattle.fm_rules.specs.declared.typing.Referent.{Referent}
use Rattle.fm_rules.specs.declared.typing.Referent.TheVariants as referent
use Rattle.fm_rules.specs.declared.typing.Arguments.{Arguments}
use Rattle.fm_rules.specs.Flags.{both, e40, e43, e46, e50}
use Rattle.fm_rules.specs.Typing.{needed, needed_value, operand, operator_kind, result_in, same_scalar, value_type}
use Rattle.fm_rules.specs.Expressions.{array_or, arguments_judged, function_referent, in_parentheses, intrinsic_or, judged, operated, reference_judged, referent_of}
use Rattle.fm_rules.specs.VariableTypes.{target_judged, target_named, variable_judged}
use Rattle.fm_rules.specs.TypeStatements.{assignment_flags, call_flags, changes_formal, expr_flags, extra_flags, in_any, integer_flags, loop_flags, loop_variable_flags, optional_flags, port_flags, position_flags, simple_flags, target_flags, typed_flags, value_for}
use Rattle.fm_rules.specs.declared.calls.CallKind.{CallKind}
use Rattle.fm_rules.specs.declared.calls.CallKind.TheVariants as call_kind
use Rattle.fm_rules.specs.JudgedStatements as ports
use Rattle.fm_rules.specs.PortFitting.{fit_fields, is_one_port, lacks_port, lacks_ports, messages_differ, port_variable, ports_differ}
use Rattle.fm_rules.specs.PortRules.{breaks_call, breaks_fields, breaks_message, breaks_move, breaks_type, call_in, call_in_simple, in_simple, lacks_direction, message_at, simple_in}
use Rattle.fm_net.specs.Typed.{AllIn}
use Rattle.fm_rules.specs.declared.program.Program.{Program}
use Rattle.fm_mean.specs.Names.{ProgramUnit, unit_at, context, kind_of}
use Rattle.fm_mean.specs.Actions.{loop_of}
use Rattle.fm_mean.specs.Typing.{sort_of, OneType, ExtraFits, LoopFits}
use Rattle.fm_mean.specs.TypedTrees.{HasType, ItemsHaveTypes, ArgumentsHaveTypes, SimpleHasTypes, StatementHasTypes}
use Rattle.fm_mean.proofs.NamedTypes.{field_kind}
use Rattle.fm_mean.proofs.Unbroken.{or_left, or_right}
use Rattle.fm_mean.proofs.Unflagged.{IsUnflagged, left_unflagged, right_unflagged}
use Rattle.fm_mean.proofs.JudgedValues.{HaveNoOwnConstants, scope_by, scopes_there, value_typed}
use Rattle.fm_mean.proofs.JudgedArguments.{HaveSizes, arg_typed}
use Rattle.fm_mean.proofs.JudgedPlaces.{PlaceIs, PortIs, IsMeant, typed_symbol, port_is, target_is, item_is, loop_is, variable_has_type, target_has_type, item_has_type, loop_has_type}
use Rattle.fm_mean.proofs.JudgedItems.{all_unflagged, all_left, all_right, all_parts, none_true, IsPort, inport_is, outport_is, outports_are, one_message, one_sort, a_port, items_are, places_are}

never : true ≡ false → ⊥
never e = absurd (cc)

not_false : (b : Bool) → not b ≡ false → b ≡ true
not_false true e = refl
not_false false e = absurd (cc)

-- ---- expressions that have a type

-- each FUNCTION has a result
abbrev pub HaveResults : Program → Type 0
HaveResults p = (k : ℕ) (w : ProgramUnit) → unit_at p k ≡ Some w → is_function (kind_of w) ≡ true → (scope_of w.tree w.names).result ≡ None → ⊥

abbrev HasSome : Context → Arguments → Referent → Type 0
HasSome c a r = IsUnflagged (reference_judged c r a).flags → (reference_judged c r a).expr_type ≡ Nothing → ⊥

unknown_some : (c : Context) (a : Arguments) → HasSome c a referent.Unknown
unknown_some c a h e = never (right_unflagged a.flags (e43 true) h).e43

array_some : (c : Context) (a : Arguments) (o : Option Symbol) (r : Referent) → HasSome c a r → HasSome c a (array_or o r)
array_some c a None r rest = rest
array_some c a (Some (symbol.Constant q)) r rest = rest
array_some c a (Some (symbol.Variable q k)) r rest = rest
array_some c a (Some (symbol.Array q k x)) r rest = λ h e. no e
  where
    no : Value q ≡ Nothing → ⊥
    no e = absurd (cc)
array_some c a (Some (symbol.Port d k)) r rest = rest
array_some c a (Some (symbol.Ports d k x)) r rest = λ h e. no e
  where
    no : Port k ≡ Nothing → ⊥
    no e = absurd (cc)
array_some c a (Some (symbol.Function k)) r rest = rest

intrinsic_some : (c : Context) (a : Arguments) (r : Referent) (f : Option Intrinsic) → HasSome c a r → HasSome c a (intrinsic_or f r)
intrinsic_some c a r None rest = rest
intrinsic_some c a r (Some f) rest = λ h e. absurd (cc e)

no_value : (r : Option Scalar) → value_type r ≡ Nothing → r ≡ None
no_value None e = refl
no_value (Some q) e = absurd (cc e)

module _ (p : Program) (results : HaveResults p) where
  called_some : (a : Arguments) (k : ℕ) (o : Option ProgramUnit) → unit_at p k ≡ o → HasSome (context p) a (function_referent (if is_function_scope (scope_by o) then Some (symbol.Function k) else None))
  called_some a k None is = unknown_some (context p) a
  called_some a k (Some w) is = go (is_function (kind_of w)) refl
    where
      go : (b : Bool) → is_function (kind_of w) ≡ b → HasSome (context p) a (function_referent (if b then Some (symbol.Function k) else None))
      go false at = unknown_some (context p) a
      go true at = λ h e. results k w is at (no_value (scope_of w.tree w.names).result (sym (ap (λ o. result_in o) (scopes_there p.units.units p.names.units k ∙ ap scope_by is)) ∙ e))

  function_some : (a : Arguments) (o : Option ℕ) → HasSome (context p) a (function_referent (function_at (context p) o))
  function_some a None = unknown_some (context p) a
  function_some a (Some k) =
      subst (λ (o : Option symbols.Scope). HasSome (context p) a (function_referent (if is_function_scope o then Some (symbol.Function k) else None))) (sym (scopes_there p.units.units p.names.units k)) (called_some a k (unit_at p k) refl)

  reference_some : (sc : symbols.Scope) (a : Arguments) (name : List ℕ) → HasSome (context p) a (referent_of (context p) sc name)
  reference_some sc a name =
      let r = function_referent (function_named (context p) name) in
      array_some (context p) a (get sc.symbols name) (intrinsic_or (intrinsic_named name) r)
      (intrinsic_some (context p) a r (intrinsic_named name) (function_some a (get (context p).units name)))

  operated_some : (o : OperatorKind) (a b : Judgement) → (operated o a b).expr_type ≡ Nothing → ⊥
  operated_some operator.Arithmetic a b e = absurd (cc e)
  operated_some operator.Relational a b e = absurd (cc e)
  operated_some operator.Logical a b e = absurd (cc e)

  parenthesized : (t : ExprType) (f : Flags) → (IsUnflagged f → t ≡ Nothing → ⊥) → IsUnflagged (in_parentheses t f).flags → (in_parentheses t f).expr_type ≡ Nothing → ⊥
  parenthesized (Value q) f rest h e = absurd (cc e)
  parenthesized (Array q m) f rest h e = never (right_unflagged f (e40 true) h).e40
  parenthesized (Port k) f rest h e = never (right_unflagged f (e50 true) h).e50
  parenthesized (Ports k) f rest h e = never (right_unflagged f (e50 true) h).e50
  parenthesized Function f rest h e = never (right_unflagged f (e40 true) h).e40
  parenthesized Nothing f rest h e = rest h refl

  -- an expression whose names stand for something has a type
  pub tree_has_type : (u : ProgramUnit) (array : List ℕ → Bool) (t : Tree) → AllIn (IsMeant u (context p)) (stands.in_tree array t) → IsUnflagged (judged (context p) (scope_of u.tree u.names) t).flags
      → (judged (context p) (scope_of u.tree u.names) t).expr_type ≡ Nothing → ⊥
  tree_has_type u array (Number n) some h e = absurd (cc e)
  tree_has_type u array (Truth b) some h e = absurd (cc e)
  tree_has_type u array (Named name) some h e = typed_symbol u (context p) (symbol_in (context p) (scope_of u.tree u.names) name) some.0 e
  tree_has_type u array (Ref name args) some h e =
      reference_some (scope_of u.tree u.names) (arguments_judged (context p) (scope_of u.tree u.names) (referent_of (context p) (scope_of u.tree u.names) name) 0 args) name h e
  tree_has_type u array (Paren t) some h e =
      let j = judged (context p) (scope_of u.tree u.names) t in
      parenthesized j.expr_type j.flags (λ h e. tree_has_type u array t some h e) h e
  tree_has_type u array (Signed o t) some h e = absurd (cc e)
  tree_has_type u array (Not t) some h e = absurd (cc e)
  tree_has_type u array (Binary o a b) some h e =
      operated_some (operator_kind o) (judged (context p) (scope_of u.tree u.names) a) (judged (context p) (scope_of u.tree u.names) b) e

-- ---- operands

same_scalars : (a b : Scalar) → same_scalar a b ≡ true → a ≡ b
same_scalars scalar.Integer scalar.Integer e = refl
same_scalars scalar.Integer scalar.Logical e = absurd (cc e)
same_scalars scalar.Logical scalar.Integer e = absurd (cc e)
same_scalars scalar.Logical scalar.Logical e = refl

needed_is : (q : Scalar) (t : ExprType) → IsUnflagged (needed q t) → (t ≡ Nothing → ⊥) → t ≡ Value q
needed_is q (Value r) h some = ap Value (same_scalars r q (not_false (same_scalar r q) h.e40))
needed_is q (Array r m) h some = absurd (never h.e40)
needed_is q (Port k) h some = absurd (never h.e50)
needed_is q (Ports k) h some = absurd (never h.e50)
needed_is q Function h some = absurd (never h.e40)
needed_is q Nothing h some = absurd (some refl)

-- an operand that is asked to be of a type is of it
pub operand_is : (q : Scalar) (j : Judgement) → IsUnflagged (operand q j) → (IsUnflagged j.flags → j.expr_type ≡ Nothing → ⊥) → IsUnflagged j.flags × (j.expr_type ≡ Value q)
operand_is q j h some =
    let own = left_unflagged j.flags (needed q j.expr_type) h in
    (own, needed_is q j.expr_type (right_unflagged j.flags (needed q j.expr_type) h) (some own))

-- a target that is given a value has the type of the value
value_for_is : (t : ExprType) (j : Judgement) → IsUnflagged (value_for t j) → (t ≡ Nothing → ⊥) → (IsUnflagged j.flags → j.expr_type ≡ Nothing → ⊥) → (q : Scalar) × (t ≡ Value q) × IsUnflagged j.flags × (j.expr_type ≡ Value q)
value_for_is (Value q) j h some has = let x = operand_is q j h has in (q, refl, x.0, x.1)
value_for_is (Array q m) j h some has = absurd (never (right_unflagged j.flags (e40 true) h).e40)
value_for_is (Port k) j h some has = absurd (never (right_unflagged (both j.flags (needed_value j.expr_type)) (e50 true) h).e50)
value_for_is (Ports k) j h some has = absurd (never (right_unflagged (both j.flags (needed_value j.expr_type)) (e50 true) h).e50)
value_for_is Function j h some has = absurd (never (right_unflagged j.flags (e40 true) h).e40)
value_for_is Nothing j h some has = absurd (some refl)

-- ---- statements

-- the fields that are asked for are there, and the items fit them
fields_fit : (u : ProgramUnit) (ts : List ExprType) (o : Option PortFields) (asked : PortFields) → o ≡ Some asked → breaks_fields u.names ts o ≡ false → fit_fields u.names ts asked ≡ true
fields_fit u ts None asked is e = absurd (cc)
fields_fit u ts (Some x) asked is e = ap (fit_fields u.names ts) (sym (the_fields x asked is)) ∙ not_false (fit_fields u.names ts x) e
  where
    the_fields : (a b : PortFields) → Some a ≡ Some b → a ≡ b
    the_fields a b e = cc

module _ (p : Program) (u : ProgramUnit) (own : HaveNoOwnConstants p) (results : HaveResults p) (sizes : HaveSizes u) (array : List ℕ → Bool) where
  abbrev sc : symbols.Scope
  sc = scope_of u.tree u.names

  -- the names of a statement stand for something
  abbrev pub AreMeant : List (List ℕ) → Type 0
  AreMeant names = AllIn (IsMeant u (context p)) names

  -- what calls owe
  abbrev pub CallsFit : Type 0
  CallsFit = (k : CallKind) (name : List ℕ) (args : List Tree) → IsUnflagged (call_flags (context p) sc k name args) → breaks_call p.names.units u.names (context p) sc (Some (name, args)) ≡ false
      → AreMeant (flat_map (stands.in_tree array) args) → ArgumentsHaveTypes p u name (trees_from args)

  port_here : (v : Var) → IsUnflagged (port_flags (context p) sc v) → AreMeant (stands.in_var array v) → PortIs u v.name (variable_judged (context p) sc v).expr_type × ((variable_judged (context p) sc v).expr_type ≡ Nothing → ⊥)
  port_here v h some = (port_is u (context p) v h, variable_has_type u (context p) v some.0 h)

  typed_value : (t : Tree) (q : Scalar) → IsUnflagged (judged (context p) sc t).flags → (judged (context p) sc t).expr_type ≡ Value q → HasType p u t (Some (field_kind q))
  typed_value t q h e s at =
      value_typed p own s at.program t q (subst (λ (w : ProgramUnit). IsUnflagged (judged (context p) (scope_of w.tree w.names) t).flags) (sym at.unit) h)
      (ap (λ (w : ProgramUnit). (judged (context p) (scope_of w.tree w.names) t).expr_type) at.unit ∙ e)

  assigned : (v : Var) (t : Tree) → IsUnflagged (assignment_flags (context p) sc u.names.variables v t) → AreMeant (stands.in_var array v ++ stands.in_tree array t) → SimpleHasTypes p u (simple.Assignment v t)
  assigned v t h some =
      let left = both (target_judged (context p) sc v).flags (e46 (changes_formal sc u.names.variables v.name)) in
      let target = left_unflagged (target_judged (context p) sc v).flags (e46 (changes_formal sc u.names.variables v.name)) (left_unflagged left (value_for (target_judged (context p) sc v).expr_type (judged (context p) sc t)) h) in
      let names = all_left (IsMeant u (context p)) (stands.in_var array v) (stands.in_tree array t) some in
      let more = all_right (IsMeant u (context p)) (stands.in_var array v) (stands.in_tree array t) some in
      let x = value_for_is (target_judged (context p) sc v).expr_type (judged (context p) sc t) (right_unflagged left (value_for (target_judged (context p) sc v).expr_type (judged (context p) sc t)) h)
      (target_has_type u (context p) v names.0 target) (tree_has_type p results u array t more) in
      (field_kind x.0, subst (PlaceIs u v.name) x.1 (target_is u (context p) v target), typed_value t x.0 x.2 x.3)

  -- ports
  inport : (v : Var) → IsUnflagged (port_flags (context p) sc v) → AreMeant (stands.in_var array v) → lacks_port direction.In u.names (ports.variable_type (context p) sc v) ≡ false → IsPort u v.name (variable_judged (context p) sc v).expr_type In
  unfolding ports.variable_type
  inport v h some e = let x = port_here v h some in inport_is u v.name (variable_judged (context p) sc v).expr_type x.0 x.1 e

  outport : (v : Var) → IsUnflagged (port_flags (context p) sc v) → AreMeant (stands.in_var array v) → lacks_port direction.Out u.names (ports.variable_type (context p) sc v) ≡ false → IsPort u v.name (variable_judged (context p) sc v).expr_type Out
  unfolding ports.variable_type
  outport v h some e = let x = port_here v h some in outport_is u v.name (variable_judged (context p) sc v).expr_type x.0 x.1 e

  outports : (v : Var) → IsUnflagged (port_flags (context p) sc v) → AreMeant (stands.in_var array v) → lacks_ports direction.Out u.names (ports.variable_type (context p) sc v) ≡ false → IsPort u v.name (variable_judged (context p) sc v).expr_type Out
  unfolding ports.variable_type
  outports v h some e = let x = port_here v h some in outports_are u v.name (variable_judged (context p) sc v).expr_type x.0 x.1 e

  -- an outport of the type of an inport
  same_type : (v w : Var) (i : IsPort u v.name (variable_judged (context p) sc v).expr_type In) → IsPort u w.name (variable_judged (context p) sc w).expr_type Out
      → messages_differ (message_at u.names (context p) sc v) (message_at u.names (context p) sc w) ≡ false → sort_of u w.name ≡ Some (Out i.fields)
  unfolding ports.variable_type
  same_type v w i o e =
      o.sort ∙ ap (λ (t : PortFields). Some (Out t)) (sym (one_message (message_at u.names (context p) sc v) (message_at u.names (context p) sc w) i.fields o.fields i.message o.message e))

  channel_names : (in_first : Bool) (v w : Var) → AreMeant (stands.in_channel array in_first v w) → AreMeant (stands.in_var array v) × AreMeant (stands.in_var array w)
  channel_names true v w some = (all_left (IsMeant u (context p)) (stands.in_var array v) (stands.in_var array w) some, all_right (IsMeant u (context p)) (stands.in_var array v) (stands.in_var array w) some)
  channel_names false v w some = (all_right (IsMeant u (context p)) (stands.in_var array w) (stands.in_var array v) some, all_left (IsMeant u (context p)) (stands.in_var array w) (stands.in_var array v) some)

  channel : (in_first : Bool) (v w : Var) → IsUnflagged (both (port_flags (context p) sc v) (port_flags (context p) sc w)) → AreMeant (stands.in_channel array in_first v w)
      → (lacks_port direction.In u.names (ports.variable_type (context p) sc v) || lacks_port direction.Out u.names (ports.variable_type (context p) sc w)) ≡ false
      → messages_differ (message_at u.names (context p) sc v) (message_at u.names (context p) sc w) ≡ false → OneType u v (w ∷ [])
  channel in_first v w h some way alike =
      let names = channel_names in_first v w some in
      let no_in = lacks_port direction.In u.names (ports.variable_type (context p) sc v) in
      let no_out = lacks_port direction.Out u.names (ports.variable_type (context p) sc w) in
      let i = inport v (left_unflagged (port_flags (context p) sc v) (port_flags (context p) sc w) h) names.0 (or_left no_in no_out way) in
      let o = outport w (right_unflagged (port_flags (context p) sc v) (port_flags (context p) sc w) h) names.1 (or_right no_in no_out way) in
      (i.fields, i.sort, (same_type v w i o alike, tt))

  merged : (v : Var) (i : IsPort u v.name (variable_judged (context p) sc v).expr_type In) (ws : List Var) → AllIn (λ w. IsUnflagged (port_flags (context p) sc w)) ws → AllIn (λ w. AreMeant (stands.in_var array w)) ws
      → AllIn (λ w. lacks_ports direction.Out u.names (ports.variable_type (context p) sc w) ≡ false) ws → AllIn (λ w. messages_differ (message_at u.names (context p) sc v) (message_at u.names (context p) sc w) ≡ false) ws
      → AllIn (λ (w : Var). sort_of u w.name ≡ Some (Out i.fields)) ws
  merged v i [] h some way alike = tt
  merged v i (w ∷ ws) h some way alike = (same_type v w i (outports w h.0 some.0 way.0) alike.0, merged v i ws h.1 some.1 way.1 alike.1)

  merger : (v : Var) (ws : List Var) → IsUnflagged (both (port_flags (context p) sc v) (in_any (port_flags (context p) sc) ws)) → AreMeant (stands.in_var array v ++ flat_map (stands.in_var array) ws)
      → (lacks_port direction.In u.names (ports.variable_type (context p) sc v) || list_any (λ w. lacks_ports direction.Out u.names (ports.variable_type (context p) sc w)) ws) ≡ false
      → list_any (λ w. messages_differ (message_at u.names (context p) sc v) (message_at u.names (context p) sc w)) ws ≡ false → OneType u v ws
  merger v ws h some way alike =
      let own_flags = port_flags (context p) sc v in
      let more_flags = in_any (port_flags (context p) sc) ws in
      let no_in = lacks_port direction.In u.names (ports.variable_type (context p) sc v) in
      let no_out = list_any (λ w. lacks_ports direction.Out u.names (ports.variable_type (context p) sc w)) ws in
      let i = inport v (left_unflagged own_flags more_flags h) (all_left (IsMeant u (context p)) (stands.in_var array v) (flat_map (stands.in_var array) ws) some) (or_left no_in no_out way) in (
        i.fields,
        i.sort,
        merged v i ws (all_unflagged (port_flags (context p) sc) ws (right_unflagged own_flags more_flags h))
            (all_parts (IsMeant u (context p)) (stands.in_var array) ws (all_right (IsMeant u (context p)) (stands.in_var array v) (flat_map (stands.in_var array) ws) some))
            (none_true (λ w. lacks_ports direction.Out u.names (ports.variable_type (context p) sc w)) ws (or_right no_in no_out way))
            (none_true (λ w. messages_differ (message_at u.names (context p) sc v) (message_at u.names (context p) sc w)) ws alike),
      )

  -- messages
  all_typed : (ts : List Tree) → AllIn (λ t. IsUnflagged (expr_flags (context p) sc t)) ts → AllIn (λ t. AreMeant (stands.in_tree array t)) ts → AllIn (λ t. (judged (context p) sc t).expr_type ≡ Nothing → ⊥) ts
  all_typed [] h some = tt
  all_typed (t ∷ ts) h some = (tree_has_type p results u array t some.0 h.0, all_typed ts h.1 some.1)

  sent : (fields : PortFields) (ts : List Tree) → AllIn (λ t. IsUnflagged (expr_flags (context p) sc t)) ts → AllIn (λ t. (judged (context p) sc t).expr_type ≡ Nothing → ⊥) ts
      → fit_fields u.names (map (ports.type_of (context p) sc) ts) fields ≡ true → ItemsHaveTypes p u fields (trees_from ts)
  sent fields ts h some e s at =
      items_are s (context p) fields ts (arg_typed p own s at.program (λ k v is. sizes k v (subst (λ (w : ProgramUnit). slice_get w.names.variables k ≡ Some v) at.unit is)))
      (subst (λ (w : ProgramUnit). AllIn (λ t. IsUnflagged (judged (context p) (scope_of w.tree w.names) t).flags) ts) (sym at.unit) h)
      (subst (λ (w : ProgramUnit). AllIn (λ t. (judged (context p) (scope_of w.tree w.names) t).expr_type ≡ Nothing → ⊥) ts) (sym at.unit) some)
      (subst (λ (w : ProgramUnit). fit_fields w.names (map (ports.type_of (context p) (scope_of w.tree w.names)) ts) fields ≡ true) (sym at.unit) e)

  send : (named : Bool) (q : Var) (ts : List Tree) → IsUnflagged (both (port_flags (context p) sc q) (in_any (expr_flags (context p) sc) ts)) → AreMeant (stands.in_var array q ++ flat_map (stands.in_tree array) ts)
      → lacks_port direction.Out u.names (ports.variable_type (context p) sc q) ≡ false → breaks_fields u.names (map (ports.type_of (context p) sc) ts) (message_at u.names (context p) sc q) ≡ false
      → SimpleHasTypes p u (simple.Send named q ts)
  unfolding ports.variable_type
  send named q ts h some way fits =
      let own_flags = port_flags (context p) sc q in
      let more_flags = in_any (expr_flags (context p) sc) ts in
      let o = outport q (left_unflagged own_flags more_flags h) (all_left (IsMeant u (context p)) (stands.in_var array q) (flat_map (stands.in_tree array) ts) some) way in
      let each = all_unflagged (expr_flags (context p) sc) ts (right_unflagged own_flags more_flags h) in
      let names = all_parts (IsMeant u (context p)) (stands.in_tree array) ts (all_right (IsMeant u (context p)) (stands.in_var array q) (flat_map (stands.in_tree array) ts) some) in
      (o.fields, o.sort, sent o.fields ts each (all_typed ts each names) (fields_fit u (map (ports.type_of (context p) sc) ts) (message_at u.names (context p) sc q) o.fields o.message fits))

  all_placed : (vs : List Var) → AllIn (λ v. IsUnflagged (target_flags (context p) sc v)) vs → AllIn (λ v. AreMeant (stands.in_var array v)) vs → AllIn (λ v. (variable_judged (context p) sc v).expr_type ≡ Nothing → ⊥) vs
  all_placed [] h some = tt
  all_placed (v ∷ vs) h some = (item_has_type u (context p) v some.0.0 h.0, all_placed vs h.1 some.1)

  extra_typed : (x : Extra) → IsUnflagged (extra_flags (context p) sc x) → AreMeant (stands.in_extra array x) → ExtraFits u x
  extra_typed (extra.End label) h some = tt
  extra_typed (extra.Iostat v) h some =
      let x = operand_is scalar.Integer (target_judged (context p) sc v) h (target_has_type u (context p) v some.0) in
      subst (PlaceIs u v.name) x.1 (target_is u (context p) v x.0)

  extras_typed : (xs : List Extra) → AllIn (λ x. IsUnflagged (extra_flags (context p) sc x)) xs → AllIn (λ x. AreMeant (stands.in_extra array x)) xs → AllIn (ExtraFits u) xs
  extras_typed [] h some = tt
  extras_typed (x ∷ xs) h some = (extra_typed x h.0 some.0, extras_typed xs h.1 some.1)

  receive : (named : Bool) (q : Var) (xs : List Extra) (vs : List Var) → IsUnflagged (both (both (port_flags (context p) sc q) (in_any (extra_flags (context p) sc) xs)) (in_any (target_flags (context p) sc) vs))
      → AreMeant (stands.in_var array q ++ (flat_map (stands.in_extra array) xs ++ flat_map (stands.in_var array) vs)) → lacks_port direction.In u.names (ports.variable_type (context p) sc q) ≡ false
      → breaks_fields u.names (map (ports.variable_type (context p) sc) vs) (message_at u.names (context p) sc q) ≡ false → SimpleHasTypes p u (simple.Receive named q xs vs)
  unfolding ports.variable_type
  receive named q xs vs h some way fits =
      let port = port_flags (context p) sc q in
      let extras = in_any (extra_flags (context p) sc) xs in
      let items = in_any (target_flags (context p) sc) vs in
      let names = stands.in_var array q in
      let more = flat_map (stands.in_extra array) xs in
      let rest = flat_map (stands.in_var array) vs in
      let first = left_unflagged (both port extras) items h in
      let behind = all_right (IsMeant u (context p)) names (more ++ rest) some in
      let i = inport q (left_unflagged port extras first) (all_left (IsMeant u (context p)) names (more ++ rest) some) way in
      let each = all_unflagged (target_flags (context p) sc) vs (right_unflagged (both port extras) items h) in (
        i.fields,
        i.sort,
        places_are u (context p) i.fields vs (item_is u (context p)) each (all_placed vs each (all_parts (IsMeant u (context p)) (stands.in_var array) vs (all_right (IsMeant u (context p)) more rest behind)))
            (fields_fit u (map (ports.variable_type (context p) sc) vs) (message_at u.names (context p) sc q) i.fields i.message fits),
        extras_typed xs (all_unflagged (extra_flags (context p) sc) xs (right_unflagged port extras first)) (all_parts (IsMeant u (context p)) (stands.in_extra array) xs (all_left (IsMeant u (context p)) more rest behind)),
      )

  move : (v w : Var) → IsUnflagged (both (port_flags (context p) sc v) (port_flags (context p) sc w)) → AreMeant (stands.in_var array v ++ stands.in_var array w)
      → breaks_move u.names (ports.variable_type (context p) sc v) (ports.variable_type (context p) sc w) ≡ false → SimpleHasTypes p u (simple.MovePort v w)
  unfolding ports.variable_type
  move v w h some e =
      let t = (variable_judged (context p) sc v).expr_type in
      let r = (variable_judged (context p) sc w).expr_type in
      let differ = ports_differ (port_variable u.names t) (port_variable u.names r) in
      let ones = or_left (not (is_one_port t) || not (is_one_port r)) differ e in
      let from = port_here v (left_unflagged (port_flags (context p) sc v) (port_flags (context p) sc w) h) (all_left (IsMeant u (context p)) (stands.in_var array v) (stands.in_var array w) some) in
      let to = port_here w (right_unflagged (port_flags (context p) sc v) (port_flags (context p) sc w) h) (all_right (IsMeant u (context p)) (stands.in_var array v) (stands.in_var array w) some) in
      let a = a_port u v.name t from.0 from.1 (not_false (is_one_port t) (or_left (not (is_one_port t)) (not (is_one_port r)) ones)) in
      let b = a_port u w.name r to.0 to.1 (not_false (is_one_port r) (or_right (not (is_one_port t)) (not (is_one_port r)) ones)) in
      let alike = one_sort (port_variable u.names t) (port_variable u.names r) a.0 b.0 a.1 b.1 (or_right (not (is_one_port t) || not (is_one_port r)) differ e) in
      (_, a.2, b.2 ∙ ap Some (sym alike))

  -- a statement that may stand behind a logical IF
  pub simple_typed : CallsFit → (k : Simple) → IsUnflagged (simple_flags (context p) sc u.names.variables k) → AreMeant (stands.in_simple array k) → lacks_direction u.names (context p) sc k ≡ false
      → breaks_message u.names (context p) sc k ≡ false → breaks_type u.names (context p) sc k ≡ false → breaks_call p.names.units u.names (context p) sc (call_in (stmt.Simple k)) ≡ false → SimpleHasTypes p u k
  unfolding simple_flags stands.in_simple lacks_direction breaks_message breaks_type call_in call_in_simple
  simple_typed calls (simple.Assignment v t) h some way fits alike called = assigned v t h some
  simple_typed calls (simple.Goto l) h some way fits alike called = tt
  simple_typed calls simple.Continue h some way fits alike called = tt
  simple_typed calls simple.Return h some way fits alike called = tt
  simple_typed calls simple.Stop h some way fits alike called = tt
  simple_typed calls (simple.Call name None) h some way fits alike called = calls call_kind.Call name [] h called tt
  simple_typed calls (simple.Call name (Some ts)) h some way fits alike called = calls call_kind.Call name ts h called some
  simple_typed calls (simple.Print items) h some way fits alike called = tt
  simple_typed calls (simple.Write unit items) h some way fits alike called = tt
  simple_typed calls (simple.Channel in_first v w) h some way fits alike called = channel in_first v w h some way alike
  simple_typed calls (simple.Merger v ws) h some way fits alike called = merger v ws h some way alike
  simple_typed calls (simple.Send named q ts) h some way fits alike called = send named q ts h some way fits
  simple_typed calls (simple.Receive named q xs vs) h some way fits alike called = receive named q xs vs h some way fits
  simple_typed calls (simple.EndChannel named q) h some way fits alike called = tt
  simple_typed calls (simple.MovePort v w) h some way fits alike called = move v w h some alike
  simple_typed calls (simple.Probe named q e) h some way fits alike called = tt

  -- the variable of a counted loop
  counted : (l : LoopHead) → IsUnflagged (loop_flags (context p) sc u.names.variables l) → AreMeant (stands.in_loop array l) → sort_of u l.variable ≡ Some Integer
  counted l h some =
      let j = target_named (context p) (symbol_in (context p) sc l.variable) in
      let rest = both (both (integer_flags (context p) sc l.from) (integer_flags (context p) sc l.to)) (optional_flags (context p) sc l.step) in
      let x = operand_is scalar.Integer j (left_unflagged (operand scalar.Integer j) (e46 (changes_formal sc u.names.variables l.variable)) (left_unflagged (loop_variable_flags (context p) sc u.names.variables l.variable) rest h))
      (loop_has_type u (context p) l.variable some.0) in
      subst (PlaceIs u l.variable) x.1 (loop_is u (context p) l.variable x.0)

  -- what the rules ask of a statement
  pub record Keeps (t : Stmt) : Type 0 where
    pub flags : IsUnflagged (typed_flags (context p) sc u.names.variables t)
    pub names : AreMeant (stands.stands_in array t)
    pub direction : in_simple (lacks_direction u.names (context p) sc) (simple_in t) ≡ false
    pub message : in_simple (breaks_message u.names (context p) sc) (simple_in t) ≡ false
    pub alike : in_simple (breaks_type u.names (context p) sc) (simple_in t) ≡ false
    pub call : breaks_call p.names.units u.names (context p) sc (call_in t) ≡ false

  pub statement_typed : CallsFit → (t : Stmt) → Keeps t → StatementHasTypes p u t
  unfolding typed_flags stands.stands_in simple_in call_in
  statement_typed calls (stmt.Simple k) h = simple_typed calls k h.flags h.names h.direction h.message h.alike h.call
  statement_typed calls (stmt.Do l) h = counted l h.flags h.names
  statement_typed calls (stmt.ProcessDo l) h = counted l h.flags h.names
  statement_typed calls (stmt.ProcessCall name None) h = calls call_kind.ProcessCall name [] h.flags h.call tt
  statement_typed calls (stmt.ProcessCall name (Some c)) h =
      calls call_kind.ProcessCall name c.arguments (left_unflagged (call_flags (context p) sc call_kind.ProcessCall name c.arguments) (position_flags (context p) sc c.place) h.flags) h.call
      (all_left (IsMeant u (context p)) (flat_map (stands.in_tree array) c.arguments) (stands.optional (stands.in_where array) c.place) h.names)
  statement_typed calls t h = tt

  pub loop_typed : (t : Stmt) → Keeps t → LoopFits u (loop_of t)
  unfolding typed_flags stands.stands_in
  loop_typed (stmt.Do l) h = counted l h.flags h.names
  loop_typed (stmt.ProcessDo l) h = counted l h.flags h.names
  loop_typed (stmt.DoWhile t) h = tt
  loop_typed t h = tt
