-- An argument or an item of a message that is judged has, in the meaning, the type and the size that it is judged to have.
use Rattle.std.proofs.Common.{◌≡◌, ℕ, ℤ, Bool, true, false, cond, Option, Some, None, List, [], ◌∷◌, slice_get, refl, sym, ap, ◌∙◌, subst}
use Rattle.std.specs.Prelude.{if◌then◌else◌}
use Rattle.std.specs.FinMap.{get}
use Rattle.fm_base.specs.declared.token.Op.{Op}
use Rattle.fm_base.specs.declared.token.Op.TheVariants as op
use Rattle.fm_values.specs.declared.intrinsic.Intrinsic.{Intrinsic}
use Rattle.fm_values.specs.Intrinsics.{intrinsic_named}
use Rattle.fm_values.specs.Operations.{is_arithmetic}
use Rattle.fm_values.specs.Places.{size}
use Rattle.fm_tree.specs.Tree.{Tree, Number, Truth, Named, Ref, Paren, Signed, Not, Binary}
use Rattle.fm_tree.specs.PortFields.{FieldKind, Integer, Logical, In, Out}
use Rattle.fm_tree.specs.PortReading as reading
use Rattle.fm_tree.specs.declared.port_type.Kind.{Kind}
use Rattle.fm_tree.specs.declared.port_type.Kind.TheVariants as kind
use Rattle.fm_symbols.specs.Context.{symbol_by, symbol_of, symbols_of, constant_symbol, scope_of, or_else, function_at, function_named, is_function_scope}
use Rattle.fm_symbols.specs.declared.context.Context.{Context}
use Rattle.fm_symbols.specs.declared.context.Scope as symbols
use Rattle.fm_symbols.specs.declared.names.Constant.{Constant}
use Rattle.fm_symbols.specs.declared.names.Constant.TheVariants as constant
use Rattle.fm_symbols.specs.declared.names.Variable.{Variable}
use Rattle.fm_symbols.specs.declared.symbol.Scalar.{Scalar}
use Rattle.fm_symbols.specs.declared.symbol.Scalar.TheVariants as scalar
use Rattle.fm_symbols.specs.declared.symbol.Symbol.{Symbol}
use Rattle.fm_symbols.specs.declared.symbol.Symbol.TheVariants as symbol
use Rattle.fm_rules.specs.declared.flags.Flags.{Flags}
use Rattle.fm_rules.specs.declared.typing.ExprType.{ExprType}
use Rattle.fm_rules.specs.declared.typing.ExprType.TheVariants.{Value, Array, Port, Ports, Function, Nothing}
use Rattle.fm_rules.specs.declared.typing.Judgement.{Judgement}
use Rattle.fm_rules.specs.declared.typing.Referent.{Referent}
use Rattle.fm_rules.specs.declared.typing.Referent.TheVariants as referent
use Rattle.fm_rules.specs.declared.typing.Arguments.{Arguments}
use Rattle.fm_rules.specs.Typing.{symbol_type, result_in, value_type, operator_kind}
use Rattle.fm_rules.specs.Expressions.{array_or, arguments_judged, function_referent, in_parentheses, intrinsic_or, judged, operated, reference_judged, referent_of}
use Rattle.fm_rules.specs.declared.program.Program.{Program}
use Rattle.fm_mean.specs.Names.{ProgramUnit, context, variable_of, unit_named}
use Rattle.fm_mean.specs.Evaluate.{Scope, Reference, Element, Call, Built, Unknown, function_by, is_array, reference_of}
use Rattle.fm_mean.specs.Evaluate as mean
use Rattle.fm_mean.specs.Fits.{sort_of_variable}
use Rattle.fm_mean.specs.ValueTypes.{word_type, constant_type, ref_type, type_of, given_by, alone, named_arg, ref_arg, arg_type}
use Rattle.fm_mean.proofs.NamedTypes.{field_kind}
use Rattle.fm_mean.proofs.Unflagged.{IsUnflagged}
use Rattle.fm_mean.proofs.JudgedValues.{HaveNoOwnConstants, Stands, stands_none, stands_constant, stands_variable, stands, in_parentheses_unflagged, named_agrees, value_typed}

-- what a type that is judged says of the type and the size in the meaning
abbrev pub ArgIs : ProgramUnit → ExprType → Option (FieldKind × ℕ) → Type 0
ArgIs u (Value q) o = o ≡ Some (field_kind q, 1)
ArgIs u (Array q m) o = o ≡ Some (field_kind q, m)
ArgIs u (Port k) o = (v : Variable) × (slice_get u.names.variables k ≡ Some v) × (o ≡ Some (sort_of_variable v, 1))
ArgIs u (Ports k) o = (v : Variable) × (slice_get u.names.variables k ≡ Some v) × (o ≡ Some (sort_of_variable v, v.words))
ArgIs u Function o = Unit {0}
ArgIs u Nothing o = Unit {0}

-- each variable has as many words as elements
abbrev pub HaveSizes : ProgramUnit → Type 0
HaveSizes u = (k : ℕ) (v : Variable) → slice_get u.names.variables k ≡ Some v → v.words ≡ size v.bounds

one_word : (v : Variable) → v.words ≡ size v.bounds → v.bounds ≡ [] → v.words ≡ 1
one_word v sized e = sized ∙ ap size e

-- ---- names

abbrev Same : Option (FieldKind × ℕ) → Option (FieldKind × ℕ) → Type 0
Same a b = a ≡ b

pair_kind : (a b : FieldKind) (m n : ℕ) → a ≡ b → m ≡ n → Same (Some (a, m)) (Some (b, n))
pair_kind a b m n e h =
    let first : FieldKind → Option (FieldKind × ℕ) = λ k. Some (k, m) in
    let second : ℕ → Option (FieldKind × ℕ) = λ n. Some (b, n) in
    ap first e ∙ ap second h

variable_is : (u : ProgramUnit) (k : ℕ) (v : Variable) (kd : Kind) (bs : List (ℤ × ℤ)) → slice_get u.names.variables k ≡ Some v → v.words ≡ size v.bounds → v.kind ≡ kd → v.bounds ≡ bs
    → ArgIs u (symbol_type (Some (symbol_by kd bs v.words k))) (Some (sort_of_variable v, v.words))
variable_is u k v kind.Integer [] is sized ek eb = pair_kind (sort_of_variable v) Integer v.words 1 (ap reading.kind_of ek) (one_word v sized eb)
variable_is u k v kind.Logical [] is sized ek eb = pair_kind (sort_of_variable v) Logical v.words 1 (ap reading.kind_of ek) (one_word v sized eb)
variable_is u k v kind.Integer (b ∷ bs) is sized ek eb = pair_kind (sort_of_variable v) Integer v.words v.words (ap reading.kind_of ek) refl
variable_is u k v kind.Logical (b ∷ bs) is sized ek eb = pair_kind (sort_of_variable v) Logical v.words v.words (ap reading.kind_of ek) refl
variable_is u k v (kind.In t) [] is sized ek eb = (v, is, pair_kind (sort_of_variable v) (sort_of_variable v) v.words 1 refl (one_word v sized eb))
variable_is u k v (kind.Out t) [] is sized ek eb = (v, is, pair_kind (sort_of_variable v) (sort_of_variable v) v.words 1 refl (one_word v sized eb))
variable_is u k v (kind.In t) (b ∷ bs) is sized ek eb = (v, is, refl)
variable_is u k v (kind.Out t) (b ∷ bs) is sized ek eb = (v, is, refl)

constant_is : (u : ProgramUnit) (c : Constant) → ArgIs u (symbol_type (Some (constant_symbol c))) (alone (Some (constant_type (Some c))))
constant_is u (constant.Integer n) = refl
constant_is u (constant.Logical b) = refl

function_is : (u : ProgramUnit) (c : Context) (o : Option ℕ) (a : Option (FieldKind × ℕ)) → ArgIs u (symbol_type (function_at c o)) a
function_is u c None a = tt
function_is u c (Some k) a = elim (is_function_scope (slice_get c.scopes k)) as (λ (b : Bool). ArgIs u (symbol_type (if b then Some (symbol.Function k) else None)) a) [ true ↦ tt | false ↦ tt ]

pub name_is : (s : Scope) (c : Context) (name : List ℕ) → HaveSizes s.unit → ArgIs s.unit (symbol_type (or_else (get (symbols_of s.unit.names) name) (function_named c name))) (named_arg s name (variable_of s.unit name))
name_is s c name sizes = go (stands s.unit name)
  where
    both_ways : (o : Option Symbol) (w : Option (ℕ × Variable)) → get (symbols_of s.unit.names) name ≡ o → variable_of s.unit name ≡ w
        → ArgIs s.unit (symbol_type (or_else o (function_named c name))) (named_arg s name w)
        → ArgIs s.unit (symbol_type (or_else (get (symbols_of s.unit.names) name) (function_named c name))) (named_arg s name (variable_of s.unit name))
    both_ways o w at there h =
        subst (λ (o : Option Symbol). ArgIs s.unit (symbol_type (or_else o (function_named c name))) (named_arg s name (variable_of s.unit name))) (sym at)
        (subst (λ (w : Option (ℕ × Variable)). ArgIs s.unit (symbol_type (or_else o (function_named c name))) (named_arg s name w)) (sym there) h)

    go : Stands s.unit name (get (symbols_of s.unit.names) name) → ArgIs s.unit (symbol_type (or_else (get (symbols_of s.unit.names) name) (function_named c name))) (named_arg s name (variable_of s.unit name))
    go (stands_none at none) = both_ways None None at none (function_is s.unit c (get c.units name) (named_arg s name None))
    go (stands_constant x at none there) =
        both_ways (Some (constant_symbol x)) None at none
        (subst (λ (o : Option Constant). ArgIs s.unit (symbol_type (Some (constant_symbol x))) (alone (Some (constant_type o)))) (sym there) (constant_is s.unit x))
    go (stands_variable k v at there here) = both_ways (Some (symbol_of k v)) (Some (k, v)) at there (variable_is s.unit k v v.kind v.bounds here (sizes k v here) refl refl)

-- ---- names with a list

-- where an element of ports is meant
abbrev AgreesPort : ProgramUnit → Context → Arguments → Referent → Reference → Type 0
AgreesPort u c a r m = (k : ℕ) → IsUnflagged (reference_judged c r a).flags → (reference_judged c r a).expr_type ≡ Port k → (v : Variable) × (slice_get u.names.variables k ≡ Some v) × (ref_arg m ≡ Some (sort_of_variable v, 1))

no_value_port : (q : Scalar) (k : ℕ) → Value q ≡ Port k → ⊥
no_value_port q k e = absurd (cc)

no_result_port : (c : Context) (o : Option symbols.Scope) (k : ℕ) → result_in o ≡ Port k → ⊥
no_result_port c None k e = absurd (cc)
no_result_port c (Some s) k e = go s.result e
  where
    go : (r : Option Scalar) → value_type r ≡ Port k → ⊥
    go None e = absurd (cc)
    go (Some q) e = absurd (cc)

the_place : (a b : ℕ) → Port a ≡ Port b → a ≡ b
the_place a b e = cc

element_is : (u : ProgramUnit) (j : ℕ) (v : Variable) (m : Reference) (b : ℤ × ℤ) (bs : List (ℤ × ℤ)) → slice_get u.names.variables j ≡ Some v → v.bounds ≡ b ∷ bs
    → (k : ℕ) → Port j ≡ Port k → (w : Variable) × (slice_get u.names.variables k ≡ Some w) × (ref_arg (mean.array_or (Some (j, v)) m) ≡ Some (sort_of_variable w, 1))
element_is u j v m b bs is eb k e =
    (v, subst (λ k. slice_get u.names.variables k ≡ Some v) (the_place j k e) is, ap (λ bs. ref_arg (cond (is_array bs) (Element j v) m)) eb)

array_ports : (u : ProgramUnit) (c : Context) (a : Arguments) (j : ℕ) (v : Variable) (kd : Kind) (bs : List (ℤ × ℤ)) (words : ℕ) (r : Referent) (m : Reference) → slice_get u.names.variables j ≡ Some v → v.bounds ≡ bs
    → AgreesPort u c a r m → AgreesPort u c a (array_or (Some (symbol_by kd bs words j)) r) (mean.array_or (Some (j, v)) m)
array_ports u c a j v kind.Integer [] words r m is eb rest k h e = let x = rest k h e in (x.0, x.1, ap (λ bs. ref_arg (cond (is_array bs) (Element j v) m)) eb ∙ x.2)
array_ports u c a j v kind.Logical [] words r m is eb rest k h e = let x = rest k h e in (x.0, x.1, ap (λ bs. ref_arg (cond (is_array bs) (Element j v) m)) eb ∙ x.2)
array_ports u c a j v (kind.In t) [] words r m is eb rest k h e = let x = rest k h e in (x.0, x.1, ap (λ bs. ref_arg (cond (is_array bs) (Element j v) m)) eb ∙ x.2)
array_ports u c a j v (kind.Out t) [] words r m is eb rest k h e = let x = rest k h e in (x.0, x.1, ap (λ bs. ref_arg (cond (is_array bs) (Element j v) m)) eb ∙ x.2)
array_ports u c a j v kind.Integer (b ∷ bs) words r m is eb rest k h e = absurd (no_value_port scalar.Integer k e)
array_ports u c a j v kind.Logical (b ∷ bs) words r m is eb rest k h e = absurd (no_value_port scalar.Logical k e)
array_ports u c a j v (kind.In t) (b ∷ bs) words r m is eb rest k h e = element_is u j v m b bs is eb k e
array_ports u c a j v (kind.Out t) (b ∷ bs) words r m is eb rest k h e = element_is u j v m b bs is eb k e

constant_ports : (u : ProgramUnit) (c : Context) (a : Arguments) (x : Constant) (r : Referent) (m : Reference) → AgreesPort u c a r m → AgreesPort u c a (array_or (Some (constant_symbol x)) r) m
constant_ports u c a (constant.Integer n) r m rest = rest
constant_ports u c a (constant.Logical b) r m rest = rest

-- what is no array is no port
abbrev NoPort : Context → Arguments → Referent → Type 0
NoPort c a r = (k : ℕ) → (reference_judged c r a).expr_type ≡ Port k → ⊥

function_no_port : (c : Context) (a : Arguments) (o : Option Symbol) → NoPort c a (function_referent o)
function_no_port c a None k e = absurd (cc)
function_no_port c a (Some (symbol.Constant s)) k e = absurd (cc)
function_no_port c a (Some (symbol.Variable s place)) k e = absurd (cc)
function_no_port c a (Some (symbol.Array s place x)) k e = absurd (cc)
function_no_port c a (Some (symbol.Port d place)) k e = absurd (cc)
function_no_port c a (Some (symbol.Ports d place x)) k e = absurd (cc)
function_no_port c a (Some (symbol.Function n)) k e = no_result_port c (slice_get c.scopes n) k e

intrinsic_no_port : (c : Context) (a : Arguments) (r : Referent) (f : Option Intrinsic) → NoPort c a r → NoPort c a (intrinsic_or f r)
intrinsic_no_port c a r None rest k e = rest k e
intrinsic_no_port c a r (Some f) rest k e = absurd (cc)

module _ (p : Program) (own : HaveNoOwnConstants p) (s : Scope) (same : s.program ≡ p) (sizes : HaveSizes s.unit) where
  abbrev sc : symbols.Scope
  sc = scope_of s.unit.tree s.unit.names

  abbrev ref_rest : List ℕ → Referent
  ref_rest name = intrinsic_or (intrinsic_named name) (function_referent (function_named (context p) name))

  abbrev mean_rest : List ℕ → Reference
  mean_rest name = mean.intrinsic_or (intrinsic_named name) (function_by (unit_named s.program name))

  rest_no_port : (a : Arguments) (name : List ℕ) → NoPort (context p) a (ref_rest name)
  rest_no_port a name =
      intrinsic_no_port (context p) a (function_referent (function_named (context p) name)) (intrinsic_named name) (function_no_port (context p) a (function_named (context p) name))

  rest_ports : (a : Arguments) (name : List ℕ) → AgreesPort s.unit (context p) a (ref_rest name) (mean_rest name)
  rest_ports a name k h e = absurd (rest_no_port a name k e)

  ports_agree : (a : Arguments) (name : List ℕ) → AgreesPort s.unit (context p) a (referent_of (context p) sc name) (reference_of s name)
  ports_agree a name = go (stands s.unit name)
    where
      both_ways : (o : Option Symbol) (w : Option (ℕ × Variable)) → get (symbols_of s.unit.names) name ≡ o → variable_of s.unit name ≡ w
          → AgreesPort s.unit (context p) a (array_or o (ref_rest name)) (mean.array_or w (mean_rest name)) → AgreesPort s.unit (context p) a (referent_of (context p) sc name) (reference_of s name)
      both_ways o w at there h =
          subst (λ (o : Option Symbol). AgreesPort s.unit (context p) a (array_or o (ref_rest name)) (reference_of s name)) (sym at)
          (subst (λ (w : Option (ℕ × Variable)). AgreesPort s.unit (context p) a (array_or o (ref_rest name)) (mean.array_or w (mean_rest name))) (sym there) h)

      go : Stands s.unit name (get (symbols_of s.unit.names) name) → AgreesPort s.unit (context p) a (referent_of (context p) sc name) (reference_of s name)
      go (stands_none at none) = both_ways None None at none (rest_ports a name)
      go (stands_constant c at none there) = both_ways (Some (constant_symbol c)) None at none (constant_ports s.unit (context p) a c (ref_rest name) (mean_rest name) (rest_ports a name))
      go (stands_variable k v at there here) =
          both_ways (Some (symbol_of k v)) (Some (k, v)) at there (array_ports s.unit (context p) a k v v.kind v.bounds v.words (ref_rest name) (mean_rest name) here refl (rest_ports a name))

  -- a value with a list is one value
  value_alone : (m : Reference) (q : Scalar) → ref_type m ≡ Some (field_kind q) → Same (ref_arg m) (Some (field_kind q, 1))
  value_alone (Element i v) q e = pair_kind (sort_of_variable v) (field_kind q) 1 1 (word_sort (sort_of_variable v) q e) refl
    where
      the_kind : (a b : FieldKind) → Some a ≡ Some b → a ≡ b
      the_kind a b e = cc

      word_sort : (k : FieldKind) (q : Scalar) → word_type k ≡ Some (field_kind q) → k ≡ field_kind q
      word_sort Integer q e = the_kind Integer (field_kind q) e
      word_sort Logical q e = the_kind Logical (field_kind q) e
      word_sort (In t) q e = absurd (cc)
      word_sort (Out t) q e = absurd (cc)
  value_alone (Call n u) q e = ap alone e
  value_alone (Built f) q e = ap alone e
  value_alone Unknown q e = absurd (cc)

  -- a name with a list is a value or a port, or is refused
  abbrev IsPlain : ExprType → Type 0
  IsPlain (Value q) = Unit {0}
  IsPlain (Array q m) = ⊥
  IsPlain (Port k) = Unit {0}
  IsPlain (Ports k) = ⊥
  IsPlain Function = ⊥
  IsPlain Nothing = Unit {0}

  value_plain : (r : Option Scalar) → IsPlain (value_type r)
  value_plain None = tt
  value_plain (Some q) = tt

  result_plain : (o : Option symbols.Scope) → IsPlain (result_in o)
  result_plain None = tt
  result_plain (Some s) = value_plain s.result

  reference_plain : (c : Context) (r : Referent) (a : Arguments) → IsPlain (reference_judged c r a).expr_type
  reference_plain c (referent.Element q n) a = tt
  reference_plain c (referent.PortElement k n) a = tt
  reference_plain c (referent.Intrinsic f) a = tt
  reference_plain c (referent.Unit k) a = result_plain (slice_get c.scopes k)
  reference_plain c referent.Unknown a = tt

  reference_is : (a : Arguments) (name : List ℕ) → IsUnflagged (reference_judged (context p) (referent_of (context p) sc name) a).flags → ArgIs s.unit (reference_judged (context p) (referent_of (context p) sc name) a).expr_type (ref_arg (reference_of s name))
  reference_is a name h = go (reference_judged (context p) (referent_of (context p) sc name) a).expr_type refl (reference_plain (context p) (referent_of (context p) sc name) a)
    where
      by : (t : ExprType) → (reference_judged (context p) (referent_of (context p) sc name) a).expr_type ≡ t → IsPlain t → ArgIs s.unit t (ref_arg (reference_of s name))
      by (Value q) is plain = value_alone (reference_of s name) q (named_agrees p own s a name same q h is)
      by (Array q m) is plain = absurd plain
      by (Port k) is plain = ports_agree a name k h is
      by (Ports k) is plain = absurd plain
      by Function is plain = absurd plain
      by Nothing is plain = tt

      go : (t : ExprType) → (reference_judged (context p) (referent_of (context p) sc name) a).expr_type ≡ t → IsPlain (reference_judged (context p) (referent_of (context p) sc name) a).expr_type
          → ArgIs s.unit (reference_judged (context p) (referent_of (context p) sc name) a).expr_type (ref_arg (reference_of s name))
      go t is plain = subst (λ (t : ExprType). ArgIs s.unit t (ref_arg (reference_of s name))) (sym is) (by t is (subst IsPlain is plain))

  operated_is : (o : Op) (a b : Judgement) → ArgIs s.unit (operated (operator_kind o) a b).expr_type (alone (Some (given_by (is_arithmetic o))))
  operated_is op.Add a b = refl
  operated_is op.Sub a b = refl
  operated_is op.Mul a b = refl
  operated_is op.Div a b = refl
  operated_is op.Pow a b = refl
  operated_is op.Eq a b = refl
  operated_is op.Ne a b = refl
  operated_is op.Lt a b = refl
  operated_is op.Le a b = refl
  operated_is op.Gt a b = refl
  operated_is op.Ge a b = refl
  operated_is op.And a b = refl
  operated_is op.Or a b = refl
  operated_is op.Eqv a b = refl
  operated_is op.Neqv a b = refl
  operated_is op.Not a b = refl

  paren_is : (e : Tree) (t : ExprType) (f : Flags) → (judged (context p) sc e).expr_type ≡ t → IsUnflagged (judged (context p) sc e).flags → ArgIs s.unit (in_parentheses t f).expr_type (alone (type_of s e))
  paren_is e (Value q) f is h = ap alone (value_typed p own s same e q h is)
  paren_is e (Array q m) f is h = tt
  paren_is e (Port k) f is h = tt
  paren_is e (Ports k) f is h = tt
  paren_is e Function f is h = tt
  paren_is e Nothing f is h = tt

  -- an argument has the type and the size that it is judged to have
  pub arg_typed : (t : Tree) → IsUnflagged (judged (context p) sc t).flags → ArgIs s.unit (judged (context p) sc t).expr_type (arg_type s t)
  arg_typed (Number n) h = refl
  arg_typed (Truth b) h = refl
  arg_typed (Named name) h = name_is s (context p) name sizes
  arg_typed (Ref name args) h = reference_is (arguments_judged (context p) sc (referent_of (context p) sc name) 0 args) name h
  arg_typed (Paren e) h = paren_is e (judged (context p) sc e).expr_type (judged (context p) sc e).flags refl (in_parentheses_unflagged p own (judged (context p) sc e).expr_type (judged (context p) sc e).flags h)
  arg_typed (Signed o e) h = refl
  arg_typed (Not e) h = refl
  arg_typed (Binary o a b) h = operated_is o (judged (context p) sc a) (judged (context p) sc b)
