-- An expression comes to a value of its type.
use Rattle.std.proofs.Common.{◌≡◌, ℕ, ℤ, pos, ◌+◌, Bool, Option, Some, None, List, Result, Ok, Err, unwrap_or, slice_get, subst}
use Rattle.fm_base.specs.declared.fault.Fault.{Fault}
use Rattle.fm_base.specs.declared.token.Op.{Op}
use Rattle.fm_base.specs.declared.token.Op.TheVariants as op
use Rattle.fm_tree.specs.Tree.{Tree, Number, Truth, Named, Ref, Paren, Signed, Not, Binary}
use Rattle.fm_tree.specs.PortFields.{FieldKind, Integer, Logical}
use Rattle.fm_tree.specs.PortReading as reading
use Rattle.fm_tree.specs.declared.port_type.Kind.{Kind}
use Rattle.fm_tree.specs.declared.port_type.Kind.TheVariants as kind
use Rattle.fm_values.specs.declared.value.Value.{Value}
use Rattle.fm_values.specs.declared.value.Value.TheVariants as value
use Rattle.fm_values.specs.Values.{sum, difference, product, quotient, power, word_of}
use Rattle.fm_values.specs.Operations.{number, applied, with_sign, is_arithmetic}
use Rattle.fm_values.specs.Intrinsics.{intrinsic_value}
use Rattle.fm_values.specs.Places.{element_place}
use Rattle.fm_symbols.specs.declared.names.Constant.{Constant}
use Rattle.fm_symbols.specs.declared.names.Constant.TheVariants as constant
use Rattle.fm_symbols.specs.declared.names.Variable.{Variable}
use Rattle.fm_mean.specs.Operands.{◌>>=◌}
use Rattle.fm_mean.specs.Names.{variable_of, constant_of, result_variable}
use Rattle.fm_mean.specs.Evaluate.{Scope, Reference, Element, Call, Built, Unknown, reference_of, refs_in, refs_in_all, value_by, element_value, constant_by, named_by, result_by, result_of, ref_value, value_of, numbers_of}
use Rattle.fm_mean.specs.Fits.{IsBit}
use Rattle.fm_mean.specs.ValueTypes.{IsOf, word_type, constant_type, named_type, result_type, ref_type, given_by, type_of}
use Rattle.fm_mean.proofs.Sorts.{parts}
use Rattle.fm_mean.proofs.TypedLanguage.{truth_bit}

the_value : (x y : Value) → ◌≡◌ {A = Result Value Fault} (Ok x) (Ok y) → x ≡ y
the_value x y e = cc

the_type : (a b : FieldKind) → Some a ≡ Some b → a ≡ b
the_type a b e = cc

-- a number that comes of an operation
numeric : (r : Result ℤ Fault) (x : Value) → r >>= (λ n. Ok (value.Number n)) ≡ Ok x → IsOf Integer x
numeric (Ok n) x e = subst (IsOf Integer) (the_value (value.Number n) x e) tt
numeric (Err fault) x e = absurd (cc e)

numbered : (r : Result ℤ Fault) (x : Value) → number r ≡ Ok x → IsOf Integer x
numbered (Ok n) x e = subst (IsOf Integer) (the_value (value.Number n) x e) tt
numbered (Err fault) x e = absurd (cc e)

truth_is : (b : Bool) (x : Value) → ◌≡◌ {A = Result Value Fault} (Ok (value.Truth b)) (Ok x) → IsOf Logical x
truth_is b x e = subst (IsOf Logical) (the_value (value.Truth b) x e) tt

applied_sound : (o : Op) (a b x : Value) → applied o a b ≡ Ok x → IsOf (given_by (is_arithmetic o)) x
applied_sound op.Add a b x e = numbered (sum (word_of a) (word_of b)) x e
applied_sound op.Sub a b x e = numbered (difference (word_of a) (word_of b)) x e
applied_sound op.Mul a b x e = numbered (product (word_of a) (word_of b)) x e
applied_sound op.Div a b x e = numbered (quotient (word_of a) (word_of b)) x e
applied_sound op.Pow a b x e = numbered (power (word_of a) (word_of b)) x e
applied_sound op.Eq a b x e = truth_is _ x e
applied_sound op.Ne a b x e = truth_is _ x e
applied_sound op.Lt a b x e = truth_is _ x e
applied_sound op.Le a b x e = truth_is _ x e
applied_sound op.Gt a b x e = truth_is _ x e
applied_sound op.Ge a b x e = truth_is _ x e
applied_sound op.Eqv a b x e = truth_is _ x e
applied_sound op.Neqv a b x e = truth_is _ x e
applied_sound op.Or a b x e = truth_is _ x e
applied_sound op.And a b x e = truth_is _ x e
applied_sound op.Not a b x e = truth_is _ x e

by_kind : (k : Kind) (r : FieldKind) (n : ℤ) → word_type (reading.kind_of k) ≡ Some r → IsOf r (value_by k n)
by_kind kind.Integer r n e = subst (λ r. IsOf r (value_by kind.Integer n)) (the_type Integer r e) tt
by_kind kind.Logical r n e = subst (λ r. IsOf r (value_by kind.Logical n)) (the_type Logical r e) tt
by_kind (kind.In t) r n e = absurd (cc e)
by_kind (kind.Out t) r n e = absurd (cc e)

by_constant : (o : Option Constant) (r : FieldKind) → Some (constant_type o) ≡ Some r → IsOf r (constant_by o)
by_constant None r e = subst (λ r. IsOf r (constant_by None)) (the_type Integer r e) tt
by_constant (Some (constant.Integer n)) r e = subst (λ r. IsOf r (value.Number n)) (the_type Integer r e) tt
by_constant (Some (constant.Logical b)) r e = subst (λ r. IsOf r (value.Truth b)) (the_type Logical r e) tt

pub by_name : (s : Scope) (name : List ℕ) (o : Option (ℕ × Variable)) (r : FieldKind) → named_type s name o ≡ Some r → IsOf r (named_by s name o)
by_name s name None r e = by_constant (constant_of s.unit name) r e
by_name s name (Some v) r e = by_kind v.1.kind r _ e

by_result : (o : Option (ℕ × Variable)) (n : ℤ) (r : FieldKind) → result_type o ≡ Some r → IsOf r (result_by o n)
by_result None n r e = subst (λ r. IsOf r (value.Number n)) (the_type Integer r e) tt
by_result (Some v) n r e = by_kind v.1.kind r n e

by_reference : (s : Scope) (g : Reference) (ks : Result (List ℤ) Fault) (n : ℕ) (x : Value) (r : FieldKind) → ref_type g ≡ Some r → ref_value s g ks n ≡ Ok x → IsOf r x
by_reference s (Element i v) ks n x r e is =
    let a = parts ks _ x is in
    let b = parts (element_place v.bounds a.0) _ x a.2 in
    subst (IsOf r) (the_value (element_value s i v b.0) x b.2) (by_kind v.kind r _ e)
by_reference s (Call m u) ks n x r e is = subst (IsOf r) (the_value (result_of s u n) x is) (by_result (result_variable u) (unwrap_or (slice_get s.results n) (pos 0)) r e)
by_reference s (Built f) ks n x r e is =
    let a = parts ks _ x is in
    subst (λ r. IsOf r x) (the_type Integer r e) (numeric (intrinsic_value f a.0) x a.2)
by_reference s Unknown ks n x r e is = absurd (cc e)

pub sound : (s : Scope) (t : Tree) (n : ℕ) (x : Value) (r : FieldKind) → type_of s t ≡ Some r → value_of s t n ≡ Ok x → IsOf r x
sound s (Number k) n x r e v = subst (λ r. IsOf r x) (the_type Integer r e) (subst (IsOf Integer) (the_value (value.Number k) x v) tt)
sound s (Truth b) n x r e v = subst (λ r. IsOf r x) (the_type Logical r e) (truth_is b x v)
sound s (Named name) n x r e v = subst (IsOf r) (the_value (named_by s name (variable_of s.unit name)) x v) (by_name s name (variable_of s.unit name) r e)
sound s (Ref name args) n x r e v = by_reference s (reference_of s name) (numbers_of s args n) (n + refs_in_all s args) x r e v
sound s (Paren t) n x r e v = sound s t n x r e v
sound s (Signed o t) n x r e v =
    let a = parts (value_of s t n) _ x v in
    subst (λ r. IsOf r x) (the_type Integer r e) (numeric (with_sign o (word_of a.0)) x a.2)
sound s (Not t) n x r e v =
    let a = parts (value_of s t n) _ x v in
    subst (λ r. IsOf r x) (the_type Logical r e) (truth_is _ x a.2)
sound s (Binary o a b) n x r e v =
    let y = parts (value_of s a n) _ x v in
    let z = parts (value_of s b (n + refs_in s a)) _ x y.2 in
    subst (λ r. IsOf r x) (the_type (given_by (is_arithmetic o)) r e) (applied_sound o y.0 z.0 x z.2)

-- so what a logical variable is given is 0 or 1
pub logical_bit : (x : Value) → IsOf Logical x → IsBit (word_of x)
logical_bit (value.Number n) h = absurd h
logical_bit (value.Truth b) h = truth_bit b

pub logical_value : (s : Scope) (t : Tree) (n : ℕ) (x : Value) → type_of s t ≡ Some Logical → value_of s t n ≡ Ok x → IsBit (word_of x)
logical_value s t n x e v = logical_bit x (sound s t n x Logical e v)
