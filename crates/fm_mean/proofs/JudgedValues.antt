-- An expression that is judged to be a value has, in the meaning, the type that it is judged to have.
use Rattle.std.proofs.Common.{◌≡◌, ℕ, zero, suc, ℤ, ◌+◌, Bool, true, false, cond, Option, Some, None, option_map, List, [], ◌∷◌, slice_get, refl, sym, ap, ◌∙◌, subst, arith}
use Rattle.std.specs.Prelude.{if◌then◌else◌}
use Rattle.std.specs.FinMap.{get}
use Rattle.fm_base.specs.declared.token.Op.{Op}
use Rattle.fm_base.specs.declared.token.Op.TheVariants as op
use Rattle.fm_values.specs.declared.intrinsic.Intrinsic.{Intrinsic}
use Rattle.fm_values.specs.Intrinsics.{intrinsic_named}
use Rattle.fm_values.specs.Operations.{is_arithmetic}
use Rattle.fm_tree.specs.Tree.{Tree, Number, Truth, Named, Ref, Paren, Signed, Not, Binary}
use Rattle.fm_tree.specs.PortReading as reading
use Rattle.fm_tree.specs.declared.port_type.Kind.{Kind}
use Rattle.fm_tree.specs.declared.port_type.Kind.TheVariants as kind
use Rattle.fm_tree.specs.declared.program_unit.Unit as tree
use Rattle.fm_symbols.specs.Context.{symbol_by, symbol_of, symbols_of, constant_symbol, scope_of, scopes_of, unit_numbers, function_at, function_named, is_function_scope, scalar_by, result_in as scope_result, symbol_place}
use Rattle.fm_symbols.specs.Headings.{heading_name, is_function}
use Rattle.fm_symbols.specs.declared.context.Context.{Context}
use Rattle.fm_symbols.specs.declared.context.Scope as symbols
use Rattle.fm_symbols.specs.declared.names.Constant.{Constant}
use Rattle.fm_symbols.specs.declared.names.Constant.TheVariants as constant
use Rattle.fm_symbols.specs.declared.names.Variable.{Variable}
use Rattle.fm_symbols.specs.declared.names.UnitNames.{UnitNames}
use Rattle.fm_symbols.specs.declared.symbol.Scalar.{Scalar}
use Rattle.fm_symbols.specs.declared.symbol.Scalar.TheVariants as scalar
use Rattle.fm_symbols.specs.declared.symbol.Symbol.{Symbol}
use Rattle.fm_symbols.specs.declared.symbol.Symbol.TheVariants as symbol
use Rattle.fm_rules.specs.declared.flags.Flags.{Flags}
use Rattle.fm_rules.specs.declared.typing.ExprType.{ExprType}
use Rattle.fm_rules.specs.declared.typing.ExprType.TheVariants.{Value, Array, Port, Ports, Function, Nothing}
use Rattle.fm_rules.specs.declared.typing.Judgement.{Judgement}
use Rattle.fm_rules.specs.declared.typing.Referent.{Referent}
use Rattle.fm_rules.specs.declared.typing.Referent.TheVariants as referent
use Rattle.fm_rules.specs.declared.typing.Arguments.{Arguments}
use Rattle.fm_rules.specs.Flags.{e40, e43, e50}
use Rattle.fm_rules.specs.Typing.{result_in, value_type, operator_kind}
use Rattle.fm_rules.specs.Expressions.{array_or, arguments_judged, function_referent, in_parentheses, intrinsic_or, judged, operated, reference_judged, referent_of}
use Rattle.fm_rules.specs.declared.program.Program.{Program}
use Rattle.fm_mean.specs.Names.{ProgramUnit, unit_with, unit_at, numbered, unit_named, context, kind_of, variable_at, variable_of, variable_if, constant_of, result_variable}
use Rattle.fm_mean.specs.Evaluate.{Scope, Reference, Element, Call, Unknown, function_by, is_array, reference_of}
use Rattle.fm_mean.specs.Evaluate as mean
use Rattle.fm_mean.specs.ValueTypes.{word_type, result_type, ref_type, given_by, type_of}
use Rattle.fm_mean.proofs.NamedTypes.{field_kind, Comes, from_constant, from_variable, symbol_comes, name_typed}
use Rattle.fm_mean.proofs.Unflagged.{IsUnflagged, left_unflagged, right_unflagged}

pub the_scalar : (a b : Scalar) → Value a ≡ Value b → a ≡ b
the_scalar a b e = cc

pub same_kind : (a b : Scalar) → Value a ≡ Value b → Some (field_kind a) ≡ Some (field_kind b)
same_kind a b e = ap (λ q. Some (field_kind q)) (the_scalar a b e)

-- ---- what a name stands for

-- what the symbol of a name is made of
pub data Stands (u : ProgramUnit) (name : List ℕ) (o : Option Symbol) : Type 0 where
  stands_none : o ≡ None → variable_of u name ≡ None → Stands u name o
  stands_constant : (c : Constant) → o ≡ Some (constant_symbol c) → variable_of u name ≡ None → constant_of u name ≡ Some c → Stands u name o
  stands_variable : (k : ℕ) (v : Variable) → o ≡ Some (symbol_of k v) → variable_of u name ≡ Some (k, v) → slice_get u.names.variables k ≡ Some v → Stands u name o

pub constant_placeless : (c : Constant) → symbol_place (Some (constant_symbol c)) ≡ None
constant_placeless (constant.Integer n) = refl
constant_placeless (constant.Logical b) = refl

pub symbol_placed : (k : Kind) (bs : List (ℤ × ℤ)) (words place : ℕ) → symbol_place (Some (symbol_by k bs words place)) ≡ Some place
symbol_placed kind.Integer [] words place = refl
symbol_placed kind.Integer (b ∷ bs) words place = refl
symbol_placed kind.Logical [] words place = refl
symbol_placed kind.Logical (b ∷ bs) words place = refl
symbol_placed (kind.In t) [] words place = refl
symbol_placed (kind.In t) (b ∷ bs) words place = refl
symbol_placed (kind.Out t) [] words place = refl
symbol_placed (kind.Out t) (b ∷ bs) words place = refl

pub stands : (u : ProgramUnit) (name : List ℕ) → Stands u name (get (symbols_of u.names) name)
stands u name = go (get (symbols_of u.names) name) refl
  where
    placed : (o : Option Symbol) (i : Option ℕ) → get (symbols_of u.names) name ≡ o → symbol_place o ≡ i → variable_of u name ≡ variable_at u.names.variables i
    placed o i is at = ap (λ o. variable_at u.names.variables (symbol_place o)) is ∙ ap (variable_at u.names.variables) at

    by : (y : Symbol) → get (symbols_of u.names) name ≡ Some y → Comes u.names.constants u.names.variables 0 name y → Stands u name (get (symbols_of u.names) name)
    by y is (from_constant c at made) =
        let same = is ∙ ap Some (sym made) in
        stands_constant c same (placed (Some (constant_symbol c)) None same (constant_placeless c)) at
    by y is (from_variable k v at made) =
        let here : k + 0 ≡ k = omega arith in
        let same = is ∙ ap Some (sym made) ∙ ap (λ k. Some (symbol_of k v)) here in
        stands_variable k v same (placed (Some (symbol_of k v)) (Some k) same (symbol_placed v.kind v.bounds v.words k) ∙ ap (option_map {U = ℕ × Variable} (λ v. (k, v))) at) at

    go : (o : Option Symbol) → get (symbols_of u.names) name ≡ o → Stands u name (get (symbols_of u.names) name)
    go None is = stands_none is (placed None None is refl)
    go (Some y) is = by y is (symbol_comes u.names name y is)

-- ---- references

-- what is asked of a referent, in the words of the rules and of the meaning
abbrev pub Agrees : Context → Arguments → Referent → Reference → Type 0
Agrees c a r m = (q : Scalar) → IsUnflagged (reference_judged c r a).flags → (reference_judged c r a).expr_type ≡ Value q → ref_type m ≡ Some (field_kind q)

array_agrees : (c : Context) (a : Arguments) (k : ℕ) (v : Variable) (kd : Kind) (bs : List (ℤ × ℤ)) (words : ℕ) (r : Referent) (m : Reference) → v.kind ≡ kd → v.bounds ≡ bs
    → Agrees c a r m → Agrees c a (array_or (Some (symbol_by kd bs words k)) r) (mean.array_or (Some (k, v)) m)
array_agrees c a k v kind.Integer [] words r m ek eb rest q h e = ap (λ bs. ref_type (cond (is_array bs) (Element k v) m)) eb ∙ rest q h e
array_agrees c a k v kind.Logical [] words r m ek eb rest q h e = ap (λ bs. ref_type (cond (is_array bs) (Element k v) m)) eb ∙ rest q h e
array_agrees c a k v (kind.In t) [] words r m ek eb rest q h e = ap (λ bs. ref_type (cond (is_array bs) (Element k v) m)) eb ∙ rest q h e
array_agrees c a k v (kind.Out t) [] words r m ek eb rest q h e = ap (λ bs. ref_type (cond (is_array bs) (Element k v) m)) eb ∙ rest q h e
array_agrees c a k v kind.Integer (b ∷ bs) words r m ek eb rest q h e =
    ap (λ bs. ref_type (cond (is_array bs) (Element k v) m)) eb ∙ ap (λ kd. word_type (reading.kind_of kd)) ek
    ∙ same_kind scalar.Integer q e
array_agrees c a k v kind.Logical (b ∷ bs) words r m ek eb rest q h e =
    ap (λ bs. ref_type (cond (is_array bs) (Element k v) m)) eb ∙ ap (λ kd. word_type (reading.kind_of kd)) ek
    ∙ same_kind scalar.Logical q e
array_agrees c a k v (kind.In t) (b ∷ bs) words r m ek eb rest q h e = absurd (no_port k q e)
  where
    no_port : (k : ℕ) (q : Scalar) → Port k ≡ Value q → ⊥
    no_port k q e = absurd (cc)
array_agrees c a k v (kind.Out t) (b ∷ bs) words r m ek eb rest q h e = absurd (no_port k q e)
  where
    no_port : (k : ℕ) (q : Scalar) → Port k ≡ Value q → ⊥
    no_port k q e = absurd (cc)

constant_agrees : (c : Context) (a : Arguments) (x : Constant) (r : Referent) (m : Reference) → Agrees c a r m → Agrees c a (array_or (Some (constant_symbol x)) r) m
constant_agrees c a (constant.Integer n) r m rest = rest
constant_agrees c a (constant.Logical b) r m rest = rest

-- what has no meaning is refused
unknown_agrees : (c : Context) (a : Arguments) (m : Reference) → Agrees c a referent.Unknown m
unknown_agrees c a m q h e = absurd (no (right_unflagged a.flags (e43 true) h).e43)
  where
    no : true ≡ false → ⊥
    no e = absurd (cc)

-- intrinsics

intrinsic_agrees : (c : Context) (a : Arguments) (r : Referent) (m : Reference) → Agrees c a r m → (f : Option Intrinsic) → Agrees c a (intrinsic_or f r) (mean.intrinsic_or f m)
intrinsic_agrees c a r m rest None = rest
intrinsic_agrees c a r m rest (Some f) = λ q h e. same_kind scalar.Integer q e

-- FUNCTIONs

-- the scopes of a program are those of its units
abbrev pub scope_by : Option ProgramUnit → Option symbols.Scope
scope_by o = option_map (λ (u : ProgramUnit). scope_of u.tree u.names) o

pub scopes_there : (us : List tree.Unit) (ns : List UnitNames) (k : ℕ) → slice_get (scopes_of us ns) k ≡ scope_by (unit_with (slice_get us k) (slice_get ns k))
scopes_there [] ns k = refl
scopes_there (u ∷ us) [] k = none_by (slice_get (u ∷ us) k)
  where
    none_by : (o : Option tree.Unit) → None ≡ scope_by (unit_with o None)
    none_by None = refl
    none_by (Some u) = refl
scopes_there (u ∷ us) (n ∷ ns) zero = refl
scopes_there (u ∷ us) (n ∷ ns) (suc k) = scopes_there us ns k

-- no FUNCTION's own name is a constant's
abbrev pub HaveNoOwnConstants : Program → Type 0
HaveNoOwnConstants p = (k : ℕ) (w : ProgramUnit) (name : List ℕ) (c : Constant) → unit_at p k ≡ Some w → heading_name w.tree.heading.stmt ≡ Some name → is_function (kind_of w) ≡ true → constant_of w name ≡ Some c → ⊥

value_by : (q r : Scalar) → value_type (Some q) ≡ Value r → Some (field_kind q) ≡ Some (field_kind r)
value_by q r e = same_kind q r e

scalar_typed : (kd : Kind) (bs : List (ℤ × ℤ)) (words k : ℕ) (r : Scalar) → value_type (scalar_by (Some (symbol_by kd bs words k))) ≡ Value r → word_type (reading.kind_of kd) ≡ Some (field_kind r)
scalar_typed kind.Integer [] words k r e = same_kind scalar.Integer r e
scalar_typed kind.Integer (b ∷ bs) words k r e = same_kind scalar.Integer r e
scalar_typed kind.Logical [] words k r e = same_kind scalar.Logical r e
scalar_typed kind.Logical (b ∷ bs) words k r e = same_kind scalar.Logical r e
scalar_typed (kind.In t) [] words k r e = absurd (cc e)
scalar_typed (kind.In t) (b ∷ bs) words k r e = absurd (cc e)
scalar_typed (kind.Out t) [] words k r e = absurd (cc e)
scalar_typed (kind.Out t) (b ∷ bs) words k r e = absurd (cc e)

module _ (p : Program) (own : HaveNoOwnConstants p) where
  result_named : (k : ℕ) (w : ProgramUnit) (name : List ℕ) (r : Scalar) → unit_at p k ≡ Some w → heading_name w.tree.heading.stmt ≡ Some name → is_function (kind_of w) ≡ true
      → value_type (scalar_by (get (symbols_of w.names) name)) ≡ Value r → result_type (variable_of w name) ≡ Some (field_kind r)
  result_named k w name r is named function e = go (stands w name)
    where
      go : Stands w name (get (symbols_of w.names) name) → result_type (variable_of w name) ≡ Some (field_kind r)
      go (stands_none at none) = absurd (cc (sym (ap (λ o. value_type (scalar_by o)) at) ∙ e))
      go (stands_constant c at none there) = absurd (own k w name c is named function there)
      go (stands_variable i v at there here) = ap result_type there ∙ scalar_typed v.kind v.bounds v.words i r (sym (ap (λ o. value_type (scalar_by o)) at) ∙ e)

  result_typed : (k : ℕ) (w : ProgramUnit) (r : Scalar) → unit_at p k ≡ Some w → is_function (kind_of w) ≡ true → value_type (scope_of w.tree w.names).result ≡ Value r → result_type (result_variable w) ≡ Some (field_kind r)
  result_typed k w r is function e = go (heading_name w.tree.heading.stmt) refl e
    where
      go : (o : Option (List ℕ)) → heading_name w.tree.heading.stmt ≡ o → value_type (scope_result (kind_of w) (symbols_of w.names) o) ≡ Value r → result_type (variable_if w o) ≡ Some (field_kind r)
      go None at h = absurd (cc h)
      go (Some name) at h = result_named k w name r is at function (sym (ap (λ b. value_type (if b then scalar_by (get (symbols_of w.names) name) else None)) function) ∙ h)

  -- the FUNCTION with a number
  called_agrees : (a : Arguments) (k : ℕ) (o : Option ProgramUnit) → unit_at p k ≡ o → Agrees (context p) a (function_referent (if is_function_scope (scope_by o) then Some (symbol.Function k) else None)) (function_by (option_map {U = ℕ × ProgramUnit} (λ u. (k, u)) o))
  called_agrees a k None is = unknown_agrees (context p) a Unknown
  called_agrees a k (Some w) is = go (is_function (kind_of w)) refl
    where
      go : (b : Bool) → is_function (kind_of w) ≡ b → Agrees (context p) a (function_referent (if b then Some (symbol.Function k) else None)) (cond b (Call k w) Unknown)
      go false at = unknown_agrees (context p) a Unknown
      go true at = λ q h e. result_typed k w q is at (sym (ap (λ o. result_in o) (scopes_there p.units.units p.names.units k ∙ ap scope_by is)) ∙ e)

  function_agrees : (a : Arguments) (name : List ℕ) → Agrees (context p) a (function_referent (function_named (context p) name)) (function_by (unit_named p name))
  function_agrees a name = go (get (unit_numbers p.units.units) name)
    where
      go : (o : Option ℕ) → Agrees (context p) a (function_referent (function_at (context p) o)) (function_by (numbered p o))
      go None = unknown_agrees (context p) a Unknown
      go (Some k) = subst (λ o. Agrees (context p) a (function_referent (if is_function_scope o then Some (symbol.Function k) else None)) (function_by (numbered p (Some k)))) (sym (scopes_there p.units.units p.names.units k)) (called_agrees a k (unit_at p k) refl)

  -- a name with a list
  pub named_agrees : (s : Scope) (a : Arguments) (name : List ℕ) → s.program ≡ p → Agrees (context p) a (referent_of (context p) (scope_of s.unit.tree s.unit.names) name) (reference_of s name)
  named_agrees s a name same = go (stands s.unit name)
    where
      rest : Agrees (context p) a (intrinsic_or (intrinsic_named name) (function_referent (function_named (context p) name))) (mean.intrinsic_or (intrinsic_named name) (function_by (unit_named s.program name)))
      rest =
          intrinsic_agrees (context p) a (function_referent (function_named (context p) name)) (function_by (unit_named s.program name))
          (subst (λ (x : Program). Agrees (context p) a (function_referent (function_named (context p) name)) (function_by (unit_named x name))) (sym same) (function_agrees a name)) (intrinsic_named name)

      both_ways : (o : Option Symbol) (w : Option (ℕ × Variable)) → get (symbols_of s.unit.names) name ≡ o → variable_of s.unit name ≡ w
          → Agrees (context p) a (array_or o (intrinsic_or (intrinsic_named name) (function_referent (function_named (context p) name)))) (mean.array_or w (mean.intrinsic_or (intrinsic_named name) (function_by (unit_named s.program name))))
          → Agrees (context p) a (referent_of (context p) (scope_of s.unit.tree s.unit.names) name) (reference_of s name)
      both_ways o w at there h =
          subst (λ (o : Option Symbol). Agrees (context p) a (array_or o (intrinsic_or (intrinsic_named name) (function_referent (function_named (context p) name)))) (reference_of s name)) (sym at)
          (subst (λ (w : Option (ℕ × Variable)). Agrees (context p) a (array_or o (intrinsic_or (intrinsic_named name) (function_referent (function_named (context p) name)))) (mean.array_or w (mean.intrinsic_or (intrinsic_named name) (function_by (unit_named s.program name))))) (sym there) h)

      go : Stands s.unit name (get (symbols_of s.unit.names) name) → Agrees (context p) a (referent_of (context p) (scope_of s.unit.tree s.unit.names) name) (reference_of s name)
      go (stands_none at none) = both_ways None None at none rest
      go (stands_constant c at none there) = both_ways (Some (constant_symbol c)) None at none
          (constant_agrees (context p) a c (intrinsic_or (intrinsic_named name) (function_referent (function_named (context p) name))) (mean.intrinsic_or (intrinsic_named name) (function_by (unit_named s.program name))) rest)
      go (stands_variable k v at there here) = both_ways (Some (symbol_of k v)) (Some (k, v)) at there
          (array_agrees (context p) a k v v.kind v.bounds v.words (intrinsic_or (intrinsic_named name) (function_referent (function_named (context p) name))) (mean.intrinsic_or (intrinsic_named name) (function_by (unit_named s.program name))) refl refl rest)

  in_parentheses_typed : (t : ExprType) (f : Flags) (q : Scalar) → (in_parentheses t f).expr_type ≡ Value q → t ≡ Value q
  in_parentheses_typed (Value r) f q e = e
  in_parentheses_typed (Array r n) f q e = absurd (cc e)
  in_parentheses_typed (Port k) f q e = absurd (cc e)
  in_parentheses_typed (Ports k) f q e = absurd (cc e)
  in_parentheses_typed Function f q e = absurd (cc e)
  in_parentheses_typed Nothing f q e = absurd (cc e)

  pub in_parentheses_unflagged : (t : ExprType) (f : Flags) → IsUnflagged (in_parentheses t f).flags → IsUnflagged f
  in_parentheses_unflagged (Value r) f h = h
  in_parentheses_unflagged (Array r n) f h = left_unflagged f (e40 true) h
  in_parentheses_unflagged (Port k) f h = left_unflagged f (e50 true) h
  in_parentheses_unflagged (Ports k) f h = left_unflagged f (e50 true) h
  in_parentheses_unflagged Function f h = left_unflagged f (e40 true) h
  in_parentheses_unflagged Nothing f h = h

  operated_typed : (o : Op) (a b : Judgement) (q : Scalar) → (operated (operator_kind o) a b).expr_type ≡ Value q → Some (given_by (is_arithmetic o)) ≡ Some (field_kind q)
  operated_typed op.Add a b q e = same_kind scalar.Integer q e
  operated_typed op.Sub a b q e = same_kind scalar.Integer q e
  operated_typed op.Mul a b q e = same_kind scalar.Integer q e
  operated_typed op.Div a b q e = same_kind scalar.Integer q e
  operated_typed op.Pow a b q e = same_kind scalar.Integer q e
  operated_typed op.Eq a b q e = same_kind scalar.Logical q e
  operated_typed op.Ne a b q e = same_kind scalar.Logical q e
  operated_typed op.Lt a b q e = same_kind scalar.Logical q e
  operated_typed op.Le a b q e = same_kind scalar.Logical q e
  operated_typed op.Gt a b q e = same_kind scalar.Logical q e
  operated_typed op.Ge a b q e = same_kind scalar.Logical q e
  operated_typed op.And a b q e = same_kind scalar.Logical q e
  operated_typed op.Or a b q e = same_kind scalar.Logical q e
  operated_typed op.Eqv a b q e = same_kind scalar.Logical q e
  operated_typed op.Neqv a b q e = same_kind scalar.Logical q e
  operated_typed op.Not a b q e = same_kind scalar.Logical q e

  -- an expression that is judged to be a value of a type is of this type
  pub value_typed : (s : Scope) → s.program ≡ p → (t : Tree) (q : Scalar) → IsUnflagged (judged (context p) (scope_of s.unit.tree s.unit.names) t).flags → (judged (context p) (scope_of s.unit.tree s.unit.names) t).expr_type ≡ Value q
      → type_of s t ≡ Some (field_kind q)
  value_typed s same (Number n) q h e = same_kind scalar.Integer q e
  value_typed s same (Truth b) q h e = same_kind scalar.Logical q e
  value_typed s same (Named name) q h e = name_typed s (context p) name q e
  value_typed s same (Ref name args) q h e =
      named_agrees s (arguments_judged (context p) (scope_of s.unit.tree s.unit.names) (referent_of (context p) (scope_of s.unit.tree s.unit.names) name) 0 args) name same q h e
  value_typed s same (Paren t) q h e =
      let j = judged (context p) (scope_of s.unit.tree s.unit.names) t in
      value_typed s same t q (in_parentheses_unflagged j.expr_type j.flags h) (in_parentheses_typed j.expr_type j.flags q e)
  value_typed s same (Signed o t) q h e = same_kind scalar.Integer q e
  value_typed s same (Not t) q h e = same_kind scalar.Logical q e
  value_typed s same (Binary o a b) q h e = operated_typed o (judged (context p) (scope_of s.unit.tree s.unit.names) a) (judged (context p) (scope_of s.unit.tree s.unit.names) b) q e
