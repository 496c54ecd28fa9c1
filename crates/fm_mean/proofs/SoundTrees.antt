-- Each name with a list in a statement that breaks no rule of types is judged without one.
use Rattle.std.proofs.Common.{◌≡◌, ℕ, Bool, true, false, ◌&&◌, not, Option, Some, None, List, [], ◌∷◌, ◌++◌, slice_get, refl, sym, subst}
use Rattle.std.specs.Prelude.{if◌then◌else◌, nat_eq}
use Rattle.std.specs.FinMap.{get}
use Rattle.std.specs.List.{flat_map}
use Rattle.fm_values.specs.Intrinsics.{takes}
use Rattle.fm_tree.specs.Tree.{Tree, Trees, NoTrees, More, Number, Truth, Named, Ref, Paren, Signed, Not, Binary, trees_from}
use Rattle.fm_tree.specs.References as applied
use Rattle.fm_tree.specs.declared.statement.Var.{Var}
use Rattle.fm_tree.specs.declared.statement.LoopHead.{LoopHead}
use Rattle.fm_tree.specs.declared.statement.Item.{Item}
use Rattle.fm_tree.specs.declared.statement.Item.TheVariants as item
use Rattle.fm_tree.specs.declared.statement.Where.{Where}
use Rattle.fm_tree.specs.declared.statement.Where.TheVariants as position
use Rattle.fm_tree.specs.declared.statement.Extra.{Extra}
use Rattle.fm_tree.specs.declared.statement.Extra.TheVariants as extra
use Rattle.fm_tree.specs.declared.statement.Simple.{Simple}
use Rattle.fm_tree.specs.declared.statement.Simple.TheVariants as simple
use Rattle.fm_tree.specs.declared.statement.Stmt.{Stmt}
use Rattle.fm_tree.specs.declared.statement.Stmt.TheVariants as stmt
use Rattle.fm_symbols.specs.Context.{symbol_in, scope_of}
use Rattle.fm_symbols.specs.declared.context.Context.{Context}
use Rattle.fm_symbols.specs.declared.context.Scope as symbols
use Rattle.fm_symbols.specs.declared.symbol.Scalar.{Scalar}
use Rattle.fm_symbols.specs.declared.symbol.Scalar.TheVariants as scalar
use Rattle.fm_rules.specs.Occurrences as stands
use Rattle.fm_rules.specs.declared.flags.Flags.{Flags}
use Rattle.fm_rules.specs.declared.typing.ExprType.{ExprType}
use Rattle.fm_rules.specs.declared.typing.ExprType.TheVariants.{Value, Array, Port, Ports, Function, Nothing}
use Rattle.fm_rules.specs.declared.typing.Judgement.{Judgement}
use Rattle.fm_rules.specs.declared.typing.OperatorKind.{OperatorKind}
use Rattle.fm_rules.specs.declared.typing.OperatorKind.TheVariants as operator
use Rattle.fm_rules.specs.declared.typing.Referent.{Referent}
use Rattle.fm_rules.specs.declared.typing.Referent.TheVariants as referent
use Rattle.fm_rules.specs.declared.typing.Arguments.{Arguments}
use Rattle.fm_rules.specs.Flags.{both, e40, e41, e42, e43, e46, e50}
use Rattle.fm_rules.specs.Typing.{needed, needed_value, operand, operator_kind, plain, symbol_type}
use Rattle.fm_rules.specs.Expressions.{array_or, arguments_judged, formals_in, in_parentheses, judged, operated, reference_judged, referent_of}
use Rattle.fm_rules.specs.VariableTypes.{element_of, is_bare, subscripted, target_judged, target_named}
use Rattle.fm_rules.specs.TypeStatements.{call_flags, callee_of, changes_formal, expr_flags, extra_flags, in_any, integer_flags, item_flags, logical_flags, loop_flags, loop_variable_flags, optional_flags, port_flags, position_flags, printed, simple_flags, target_flags, typed_flags, value_for}
use Rattle.fm_rules.specs.declared.calls.CallKind.{CallKind}
use Rattle.fm_rules.specs.declared.calls.CallKind.TheVariants as call_kind
use Rattle.fm_net.specs.Typed.{AllIn}
use Rattle.fm_rules.specs.declared.program.Program.{Program}
use Rattle.fm_mean.specs.Names.{ProgramUnit, context}
use Rattle.fm_mean.proofs.Unflagged.{IsUnflagged, left_unflagged, right_unflagged}
use Rattle.fm_mean.proofs.JudgedPlaces.{IsMeant}
use Rattle.fm_mean.proofs.JudgedItems.{all_unflagged, all_left, all_right}
use Rattle.fm_mean.proofs.JudgedCalls.{AllTrees, parts_unflagged}
use Rattle.fm_mean.proofs.JudgedReferences.{Sound}
use Rattle.fm_mean.proofs.Sizes.{all_append}

-- ---- flags of parts

reference_flags : (c : Context) (r : Referent) (a : Arguments) → IsUnflagged (reference_judged c r a).flags → IsUnflagged a.flags
reference_flags c (referent.Element q n) a h = left_unflagged a.flags (e41 (not (a.fit && nat_eq a.count n))) h
reference_flags c (referent.PortElement k n) a h = left_unflagged a.flags (e41 (not (a.fit && nat_eq a.count n))) h
reference_flags c (referent.Intrinsic f) a h = left_unflagged a.flags (e42 (not (a.fit && takes f a.count))) h
reference_flags c (referent.Unit k) a h = left_unflagged a.flags (e42 (not (a.fit && nat_eq a.count (formals_in (slice_get c.scopes k))))) h
reference_flags c referent.Unknown a h = left_unflagged a.flags (e43 true) h

subscripted_flags : (c : Context) (r : Referent) (a : Arguments) → IsUnflagged (subscripted c r a).flags → IsUnflagged a.flags
subscripted_flags c (referent.Element q n) a h = reference_flags c (referent.Element q n) a h
subscripted_flags c (referent.PortElement k n) a h = reference_flags c (referent.PortElement k n) a h
subscripted_flags c (referent.Intrinsic f) a h = left_unflagged a.flags (e41 true) h
subscripted_flags c (referent.Unit k) a h = left_unflagged a.flags (e41 true) h
subscripted_flags c referent.Unknown a h = left_unflagged a.flags (e41 true) h

parenthesized_flags : (t : ExprType) (f : Flags) → IsUnflagged (in_parentheses t f).flags → IsUnflagged f
parenthesized_flags (Value q) f h = h
parenthesized_flags (Array q m) f h = left_unflagged f (e40 true) h
parenthesized_flags (Port k) f h = left_unflagged f (e50 true) h
parenthesized_flags (Ports k) f h = left_unflagged f (e50 true) h
parenthesized_flags Function f h = left_unflagged f (e40 true) h
parenthesized_flags Nothing f h = h

operand_flags : (q : Scalar) (j : Judgement) → IsUnflagged (operand q j) → IsUnflagged j.flags
operand_flags q j h = left_unflagged j.flags (needed q j.expr_type) h

operands_flags : (q : Scalar) (a b : Judgement) → IsUnflagged (both (operand q a) (operand q b)) → IsUnflagged a.flags × IsUnflagged b.flags
operands_flags q a b h = (operand_flags q a (left_unflagged (operand q a) (operand q b) h), operand_flags q b (right_unflagged (operand q a) (operand q b) h))

operated_flags : (o : OperatorKind) (a b : Judgement) → IsUnflagged (operated o a b).flags → IsUnflagged a.flags × IsUnflagged b.flags
operated_flags operator.Arithmetic a b h = operands_flags scalar.Integer a b h
operated_flags operator.Relational a b h = operands_flags scalar.Integer a b h
operated_flags operator.Logical a b h = operands_flags scalar.Logical a b h

value_flags : (t : ExprType) (j : Judgement) → IsUnflagged (value_for t j) → IsUnflagged j.flags
value_flags (Value q) j h = operand_flags q j h
value_flags (Array q m) j h = left_unflagged j.flags (e40 true) h
value_flags (Port k) j h = left_unflagged j.flags (needed_value j.expr_type) (left_unflagged (both j.flags (needed_value j.expr_type)) (e50 true) h)
value_flags (Ports k) j h = left_unflagged j.flags (needed_value j.expr_type) (left_unflagged (both j.flags (needed_value j.expr_type)) (e50 true) h)
value_flags Function j h = left_unflagged j.flags (e40 true) h
value_flags Nothing j h = left_unflagged j.flags (needed_value j.expr_type) h

else_flags : (b : Bool) (x y : Judgement) → IsUnflagged (if b then x else y).flags → b ≡ false → IsUnflagged y.flags
else_flags true x y h e = absurd (cc e)
else_flags false x y h e = h

from_trees : (P : Tree → Type 0) (ts : List Tree) → AllTrees P (trees_from ts) → AllIn P ts
from_trees P [] h = tt
from_trees P (t ∷ ts) h = (h.0, from_trees P ts h.1)

module _ (p : Program) (array : List ℕ → Bool) (u : ProgramUnit) where
  abbrev sc : symbols.Scope
  sc = scope_of u.tree u.names

  abbrev Meant : List (List ℕ) → Type 0
  Meant names = AllIn (IsMeant u (context p)) names

  abbrev Sounds : List Tree → Type 0
  Sounds ts = AllIn (Sound p array u) ts

  meant_left : (xs ys : List (List ℕ)) → Meant (xs ++ ys) → Meant xs
  meant_left xs ys h = all_left (IsMeant u (context p)) xs ys h

  meant_right : (xs ys : List (List ℕ)) → Meant (xs ++ ys) → Meant ys
  meant_right xs ys h = all_right (IsMeant u (context p)) xs ys h

  both_sound : (xs ys : List Tree) → Sounds xs → Sounds ys → Sounds (xs ++ ys)
  both_sound xs ys h k = all_append (Sound p array u) xs ys h k

  abbrev arguments_of : List ℕ → Trees → Arguments
  arguments_of name args = arguments_judged (context p) sc (referent_of (context p) sc name) 0 args

  mutual
    -- a tree without broken rules has none in its parts
    pub parts : (t : Tree) → IsUnflagged (judged (context p) sc t).flags → Meant (stands.in_tree array t) → Sounds (applied.applied t)
    parts (Number n) h some = tt
    parts (Truth b) h some = tt
    parts (Named name) h some = tt
    parts (Ref name args) h some =
        both_sound (applied.applied_each args) (Ref name args ∷ [])
        (each args (parts_unflagged (context p) sc (referent_of (context p) sc name) args 0 (reference_flags (context p) (referent_of (context p) sc name) (arguments_of name args) h))
        (meant_right (stands.subscripted (array name) name) (stands.in_trees array args) some))
        (record { flags = h; names = some }, tt)
    parts (Paren t) h some = parts t (parenthesized_flags (judged (context p) sc t).expr_type (judged (context p) sc t).flags h) some
    parts (Signed o t) h some = parts t (operand_flags scalar.Integer (judged (context p) sc t) h) some
    parts (Not t) h some = parts t (operand_flags scalar.Logical (judged (context p) sc t) h) some
    parts (Binary o a b) h some =
        let f = operated_flags (operator_kind o) (judged (context p) sc a) (judged (context p) sc b) h in
        both_sound (applied.applied a) (applied.applied b) (parts a f.0 (meant_left (stands.in_tree array a) (stands.in_tree array b) some)) (parts b f.1 (meant_right (stands.in_tree array a) (stands.in_tree array b) some))

    each : (ts : Trees) → AllTrees (λ t. IsUnflagged (judged (context p) sc t).flags) ts → Meant (stands.in_trees array ts) → Sounds (applied.applied_each ts)
    each NoTrees h some = tt
    each (More t ts) h some =
        both_sound (applied.applied t) (applied.applied_each ts) (parts t h.0 (meant_left (stands.in_tree array t) (stands.in_trees array ts) some)) (each ts h.1 (meant_right (stands.in_tree array t) (stands.in_trees array ts) some))

  listed : (ts : List Tree) → AllIn (λ t. IsUnflagged (judged (context p) sc t).flags) ts → Meant (flat_map (stands.in_tree array) ts) → Sounds (applied.in_exprs ts)
  listed [] h some = tt
  listed (t ∷ ts) h some =
      both_sound (applied.applied t) (applied.in_exprs ts) (parts t h.0 (meant_left (stands.in_tree array t) (flat_map (stands.in_tree array) ts) some)) (listed ts h.1 (meant_right (stands.in_tree array t) (flat_map (stands.in_tree array) ts) some))

  integers : (ts : List Tree) → AllIn (λ t. IsUnflagged (integer_flags (context p) sc t)) ts → AllIn (λ t. IsUnflagged (judged (context p) sc t).flags) ts
  integers [] h = tt
  integers (t ∷ ts) h = (operand_flags scalar.Integer (judged (context p) sc t) h.0, integers ts h.1)

  -- ---- variables

  bare_none : (ts : List Tree) → is_bare ts ≡ true → Sounds (applied.in_exprs ts)
  bare_none [] e = tt
  bare_none (t ∷ ts) e = absurd (cc)

  abbrev base : Var → Referent
  base v = array_or (get sc.symbols v.name) referent.Unknown

  var_parts : (v : Var) → (is_bare v.subscripts ≡ false → IsUnflagged (element_of (context p) sc v).flags) → Meant (stands.in_var array v) → Sounds (applied.in_var v)
  var_parts v h some = go (is_bare v.subscripts) refl
    where
      go : (b : Bool) → is_bare v.subscripts ≡ b → Sounds (applied.in_var v)
      go true e = bare_none v.subscripts e
      go false e =
          listed v.subscripts
          (from_trees (λ t. IsUnflagged (judged (context p) sc t).flags) v.subscripts
          (parts_unflagged (context p) sc (base v) (trees_from v.subscripts) 0
          (subscripted_flags (context p) (base v) (arguments_judged (context p) sc (base v) 0 (trees_from v.subscripts)) (h e)))) some.1

  port_parts : (v : Var) → IsUnflagged (port_flags (context p) sc v) → Meant (stands.in_var array v) → Sounds (applied.in_var v)
  port_parts v h some = var_parts v (else_flags (is_bare v.subscripts) (plain (symbol_type (symbol_in (context p) sc v.name))) (element_of (context p) sc v) h) some

  target_parts : (v : Var) → IsUnflagged (target_judged (context p) sc v).flags → Meant (stands.in_var array v) → Sounds (applied.in_var v)
  target_parts v h some = var_parts v (else_flags (is_bare v.subscripts) (target_named (context p) (symbol_in (context p) sc v.name)) (element_of (context p) sc v) h) some

  ports_parts : (vs : List Var) → AllIn (λ v. IsUnflagged (port_flags (context p) sc v)) vs → Meant (flat_map (stands.in_var array) vs) → Sounds (applied.in_vars vs)
  ports_parts [] h some = tt
  ports_parts (v ∷ vs) h some =
      both_sound (applied.in_var v) (applied.in_vars vs) (port_parts v h.0 (meant_left (stands.in_var array v) (flat_map (stands.in_var array) vs) some)) (ports_parts vs h.1 (meant_right (stands.in_var array v) (flat_map (stands.in_var array) vs) some))

  targets_parts : (vs : List Var) → AllIn (λ v. IsUnflagged (target_flags (context p) sc v)) vs → Meant (flat_map (stands.in_var array) vs) → Sounds (applied.in_vars vs)
  targets_parts [] h some = tt
  targets_parts (v ∷ vs) h some =
      both_sound (applied.in_var v) (applied.in_vars vs) (target_parts v h.0 (meant_left (stands.in_var array v) (flat_map (stands.in_var array) vs) some)) (targets_parts vs h.1 (meant_right (stands.in_var array v) (flat_map (stands.in_var array) vs) some))

  extra_parts : (x : Extra) → IsUnflagged (extra_flags (context p) sc x) → Meant (stands.in_extra array x) → Sounds (applied.in_extra x)
  extra_parts (extra.End label) h some = tt
  extra_parts (extra.Iostat v) h some = target_parts v (operand_flags scalar.Integer (target_judged (context p) sc v) h) some

  extras_parts : (xs : List Extra) → AllIn (λ x. IsUnflagged (extra_flags (context p) sc x)) xs → Meant (flat_map (stands.in_extra array) xs) → Sounds (flat_map applied.in_extra xs)
  extras_parts [] h some = tt
  extras_parts (x ∷ xs) h some =
      both_sound (applied.in_extra x) (flat_map applied.in_extra xs) (extra_parts x h.0 (meant_left (stands.in_extra array x) (flat_map (stands.in_extra array) xs) some)) (extras_parts xs h.1 (meant_right (stands.in_extra array x) (flat_map (stands.in_extra array) xs) some))

  item_parts : (x : Item) → IsUnflagged (item_flags (context p) sc x) → Meant (stands.in_item array x) → Sounds (applied.in_item x)
  item_parts (item.Expr t) h some = parts t (left_unflagged (judged (context p) sc t).flags (printed (judged (context p) sc t).expr_type) h) some
  item_parts (item.Constant bytes) h some = tt

  items_parts : (xs : List Item) → AllIn (λ x. IsUnflagged (item_flags (context p) sc x)) xs → Meant (flat_map (stands.in_item array) xs) → Sounds (flat_map applied.in_item xs)
  items_parts [] h some = tt
  items_parts (x ∷ xs) h some =
      both_sound (applied.in_item x) (flat_map applied.in_item xs) (item_parts x h.0 (meant_left (stands.in_item array x) (flat_map (stands.in_item array) xs) some)) (items_parts xs h.1 (meant_right (stands.in_item array x) (flat_map (stands.in_item array) xs) some))

  -- ---- statements

  two_ports : (v w : Var) → IsUnflagged (both (port_flags (context p) sc v) (port_flags (context p) sc w)) → Meant (stands.in_var array v) → Meant (stands.in_var array w) → Sounds (applied.in_var v) × Sounds (applied.in_var w)
  two_ports v w h a b = (port_parts v (left_unflagged (port_flags (context p) sc v) (port_flags (context p) sc w) h) a, port_parts w (right_unflagged (port_flags (context p) sc v) (port_flags (context p) sc w) h) b)

  channel_parts : (in_first : Bool) (v w : Var) → IsUnflagged (both (port_flags (context p) sc v) (port_flags (context p) sc w)) → Meant (stands.in_channel array in_first v w) → Sounds (applied.in_channel in_first v w)
  channel_parts true v w h some =
      let x = two_ports v w h (meant_left (stands.in_var array v) (stands.in_var array w) some) (meant_right (stands.in_var array v) (stands.in_var array w) some) in
      both_sound (applied.in_var v) (applied.in_var w) x.0 x.1
  channel_parts false v w h some =
      let x = two_ports v w h (meant_right (stands.in_var array w) (stands.in_var array v) some) (meant_left (stands.in_var array w) (stands.in_var array v) some) in
      both_sound (applied.in_var w) (applied.in_var v) x.1 x.0

  call_parts : (k : CallKind) (name : List ℕ) (ts : List Tree) → IsUnflagged (call_flags (context p) sc k name ts) → Meant (flat_map (stands.in_tree array) ts) → Sounds (applied.in_exprs ts)
  call_parts k name ts h some =
      let r = callee_of (context p) k name in
      listed ts (from_trees (λ t. IsUnflagged (judged (context p) sc t).flags) ts
      (parts_unflagged (context p) sc r (trees_from ts) 0 (reference_flags (context p) r (arguments_judged (context p) sc r 0 (trees_from ts)) h))) some

  pub simple_parts : (k : Simple) → IsUnflagged (simple_flags (context p) sc u.names.variables k) → Meant (stands.in_simple array k) → Sounds (applied.in_simple k)
  unfolding simple_flags stands.in_simple applied.in_simple
  simple_parts (simple.Assignment v t) h some =
      let target = both (target_judged (context p) sc v).flags (e46 (changes_formal sc u.names.variables v.name)) in
      let value = value_for (target_judged (context p) sc v).expr_type (judged (context p) sc t) in
      both_sound (applied.in_var v) (applied.applied t)
      (target_parts v (left_unflagged (target_judged (context p) sc v).flags (e46 (changes_formal sc u.names.variables v.name)) (left_unflagged target value h)) (meant_left (stands.in_var array v) (stands.in_tree array t) some))
      (parts t (value_flags (target_judged (context p) sc v).expr_type (judged (context p) sc t) (right_unflagged target value h)) (meant_right (stands.in_var array v) (stands.in_tree array t) some))
  simple_parts (simple.Goto l) h some = tt
  simple_parts simple.Continue h some = tt
  simple_parts simple.Return h some = tt
  simple_parts simple.Stop h some = tt
  simple_parts (simple.Call name None) h some = tt
  simple_parts (simple.Call name (Some ts)) h some = call_parts call_kind.Call name ts h some
  simple_parts (simple.Print is) h some = items_parts is (all_unflagged (item_flags (context p) sc) is h) some
  simple_parts (simple.Write unit is) h some = items_parts is (all_unflagged (item_flags (context p) sc) is h) some
  simple_parts (simple.Channel in_first v w) h some = channel_parts in_first v w h some
  simple_parts (simple.Merger v ws) h some =
      both_sound (applied.in_var v) (applied.in_vars ws) (port_parts v (left_unflagged (port_flags (context p) sc v) (in_any (port_flags (context p) sc) ws) h) (meant_left (stands.in_var array v) (flat_map (stands.in_var array) ws) some))
      (ports_parts ws (all_unflagged (port_flags (context p) sc) ws (right_unflagged (port_flags (context p) sc v) (in_any (port_flags (context p) sc) ws) h)) (meant_right (stands.in_var array v) (flat_map (stands.in_var array) ws) some))
  simple_parts (simple.Send named q ts) h some =
      both_sound (applied.in_var q) (applied.in_exprs ts) (port_parts q (left_unflagged (port_flags (context p) sc q) (in_any (expr_flags (context p) sc) ts) h) (meant_left (stands.in_var array q) (flat_map (stands.in_tree array) ts) some))
      (listed ts (all_unflagged (expr_flags (context p) sc) ts (right_unflagged (port_flags (context p) sc q) (in_any (expr_flags (context p) sc) ts) h)) (meant_right (stands.in_var array q) (flat_map (stands.in_tree array) ts) some))
  simple_parts (simple.Receive named q xs vs) h some =
      let port = port_flags (context p) sc q in
      let extras = in_any (extra_flags (context p) sc) xs in
      let items = in_any (target_flags (context p) sc) vs in
      let first = left_unflagged (both port extras) items h in
      let names = stands.in_var array q in
      let more = flat_map (stands.in_extra array) xs in
      let rest = flat_map (stands.in_var array) vs in
      let behind = meant_right names (more ++ rest) some in
      both_sound (applied.in_var q ++ flat_map applied.in_extra xs) (applied.in_vars vs)
      (both_sound (applied.in_var q) (flat_map applied.in_extra xs) (port_parts q (left_unflagged port extras first) (meant_left names (more ++ rest) some))
      (extras_parts xs (all_unflagged (extra_flags (context p) sc) xs (right_unflagged port extras first)) (meant_left more rest behind)))
      (targets_parts vs (all_unflagged (target_flags (context p) sc) vs (right_unflagged (both port extras) items h)) (meant_right more rest behind))
  simple_parts (simple.EndChannel named q) h some = port_parts q h some
  simple_parts (simple.MovePort v w) h some =
      let x = two_ports v w h (meant_left (stands.in_var array v) (stands.in_var array w) some) (meant_right (stands.in_var array v) (stands.in_var array w) some) in
      both_sound (applied.in_var v) (applied.in_var w) x.0 x.1
  simple_parts (simple.Probe named q e) h some =
      let value = operand scalar.Logical (target_judged (context p) sc e) in
      both_sound (applied.in_var q) (applied.in_var e) (port_parts q (left_unflagged (port_flags (context p) sc q) value h) (meant_left (stands.in_var array q) (stands.in_var array e) some))
      (target_parts e (operand_flags scalar.Logical (target_judged (context p) sc e) (right_unflagged (port_flags (context p) sc q) value h)) (meant_right (stands.in_var array q) (stands.in_var array e) some))

  loop_parts : (l : LoopHead) → IsUnflagged (loop_flags (context p) sc u.names.variables l) → Meant (stands.in_loop array l) → Sounds (applied.in_loop l)
  loop_parts l h some =
      let from = integer_flags (context p) sc l.from in
      let to = integer_flags (context p) sc l.to in
      let step = optional_flags (context p) sc l.step in
      let rest = right_unflagged (loop_variable_flags (context p) sc u.names.variables l.variable) (both (both from to) step) h in
      let ends = left_unflagged (both from to) step rest in
      let n0 = stands.in_tree array l.from in
      let n1 = stands.in_tree array l.to in
      let n2 = stands.optional (stands.in_tree array) l.step in
      let behind = meant_right n0 (n1 ++ n2) some.1 in
      both_sound (applied.applied l.from ++ applied.applied l.to) (applied.in_optional l.step)
      (both_sound (applied.applied l.from) (applied.applied l.to) (parts l.from (operand_flags scalar.Integer (judged (context p) sc l.from) (left_unflagged from to ends)) (meant_left n0 (n1 ++ n2) some.1))
      (parts l.to (operand_flags scalar.Integer (judged (context p) sc l.to) (right_unflagged from to ends)) (meant_left n1 n2 behind)))
      (optional_parts l.step (right_unflagged (both from to) step rest) (meant_right n1 n2 behind))
    where
      optional_parts : (o : Option Tree) → IsUnflagged (optional_flags (context p) sc o) → Meant (stands.optional (stands.in_tree array) o) → Sounds (applied.in_optional o)
      optional_parts None h some = tt
      optional_parts (Some t) h some = parts t (operand_flags scalar.Integer (judged (context p) sc t) h) some

  where_parts : (o : Option Where) → IsUnflagged (position_flags (context p) sc o) → Meant (stands.optional (stands.in_where array) o) → Sounds (applied.in_place o)
  where_parts None h some = tt
  where_parts (Some (position.Location ts)) h some = listed ts (integers ts (all_unflagged (integer_flags (context p) sc) ts h)) some
  where_parts (Some (position.Submachine a b)) h some =
      both_sound (applied.applied a) (applied.applied b)
      (parts a (operand_flags scalar.Integer (judged (context p) sc a) (left_unflagged (integer_flags (context p) sc a) (integer_flags (context p) sc b) h)) (meant_left (stands.in_tree array a) (stands.in_tree array b) some))
      (parts b (operand_flags scalar.Integer (judged (context p) sc b) (right_unflagged (integer_flags (context p) sc a) (integer_flags (context p) sc b) h)) (meant_right (stands.in_tree array a) (stands.in_tree array b) some))

  tests : (t : Tree) → IsUnflagged (logical_flags (context p) sc t) → Meant (stands.in_tree array t) → Sounds (applied.applied t)
  tests t h some = parts t (operand_flags scalar.Logical (judged (context p) sc t) h) some

  -- what stands in a logical IF is an entry of its own
  abbrev pub IsAlone : Stmt → Type 0
  IsAlone (stmt.LogicalIf t k) = applied.in_simple k ≡ []
  IsAlone t = Unit {0}

  pub statement_parts : (t : Stmt) → IsAlone t → IsUnflagged (typed_flags (context p) sc u.names.variables t) → Meant (stands.stands_in array t) → Sounds (applied.applied_in t)
  unfolding typed_flags stands.stands_in applied.applied_in
  statement_parts (stmt.Simple k) alone h some = simple_parts k h some
  statement_parts (stmt.LogicalIf t k) alone h some =
      both_sound (applied.applied t) (applied.in_simple k) (tests t h (meant_left (stands.in_tree array t) (stands.in_simple array k) some)) (subst Sounds (sym alone) tt)
  statement_parts (stmt.BlockIf t) alone h some = tests t h some
  statement_parts (stmt.ElseIf t) alone h some = tests t h some
  statement_parts (stmt.DoWhile t) alone h some = tests t h some
  statement_parts (stmt.Do l) alone h some = loop_parts l h some
  statement_parts (stmt.ProcessDo l) alone h some = loop_parts l h some
  statement_parts (stmt.ProcessCall name None) alone h some = tt
  statement_parts (stmt.ProcessCall name (Some c)) alone h some =
      let args = call_flags (context p) sc call_kind.ProcessCall name c.arguments in
      let at = position_flags (context p) sc c.place in
      both_sound (applied.in_exprs c.arguments) (applied.in_place c.place)
      (call_parts call_kind.ProcessCall name c.arguments (left_unflagged args at h) (meant_left (flat_map (stands.in_tree array) c.arguments) (stands.optional (stands.in_where array) c.place) some))
      (where_parts c.place (right_unflagged args at h) (meant_right (flat_map (stands.in_tree array) c.arguments) (stands.optional (stands.in_where array) c.place) some))
  statement_parts t alone h some = tt
