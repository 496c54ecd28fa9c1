-- Equality of expressions, of bounds and of the types of ports, as tests. Each test holds exactly of equal values.
-- Source: this profile.
use Rattle.std.specs.Prelude.{ℕ, ◌≡◌, nat_eq, ◌&&◌, Bool, true, false, List, refl}
use Rattle.std.specs.Bool.{Decides}
use Rattle.std.specs.Cmp.{IsPartialEquivalence, IsEquivalence, partial_equiv_from_equiv, first_so, second_so}
use Rattle.std.specs.Cmp.Lexicographic.{pointwise, pointwise_decides, bytes_decides}
use Rattle.std.specs.Option.{option_eq}
use Rattle.std.specs.Ordering.{int_eq}
use Rattle.std.proofs.Common.{ap, sym, ◌∙◌, subst, Option, Some, None}
use Rattle.std.proofs.lemmas.Bool.Decides.{Decides-eqb, Decides-int_eq, same_from_decides}
use Rattle.fm_base.specs.declared.token.Op.{Op}
use Rattle.fm_tree.specs.Tree.{Tree, Trees, Number, Truth, Named, Ref, Paren, Signed, Not, Binary, NoTrees, More}
use Rattle.fm_tree.specs.TreeCode.{op_number, op_at, op_back}
use Rattle.fm_tree.specs.declared.port_type.Bound.{Bound}
use Rattle.fm_tree.specs.PortFields.{PortFields, FieldKind, NoFields, FieldThen, Integer, Logical, In, Out}

-- Expressions.

abbrev pub same_truth : Bool → Bool → Bool
same_truth true b = b
same_truth false true = false
same_truth false false = true

abbrev pub same_name : List ℕ → List ℕ → Bool
same_name a b = pointwise nat_eq a b

abbrev pub same_op : Op → Op → Bool
same_op o p = nat_eq (op_number o) (op_number p)

abbrev mutual
  pub same_tree : Tree → Tree → Bool
  same_tree (Number a) (Number b) = int_eq a b
  same_tree (Truth a) (Truth b) = same_truth a b
  same_tree (Named a) (Named b) = same_name a b
  same_tree (Ref a ts) (Ref b us) = same_name a b && same_trees ts us
  same_tree (Paren a) (Paren b) = same_tree a b
  same_tree (Signed o a) (Signed p b) = same_op o p && same_tree a b
  same_tree (Not a) (Not b) = same_tree a b
  same_tree (Binary o a c) (Binary p b d) = same_op o p && (same_tree a b && same_tree c d)
  same_tree a b = false

  pub same_trees : Trees → Trees → Bool
  same_trees NoTrees NoTrees = true
  same_trees (More a ts) (More b us) = same_tree a b && same_trees ts us
  same_trees ts us = false

true_not_false : false ≡ true → ⊥
true_not_false e = cc

truth_sound : (a b : Bool) → same_truth a b ≡ true → a ≡ b
truth_sound true b e = sym e
truth_sound false true e = e
truth_sound false false e = refl

op_sound : (o p : Op) → same_op o p ≡ true → o ≡ p
op_sound o p e = sym (op_back o) ∙ ap op_at ((Decides-eqb (op_number o) (op_number p)).0 e) ∙ op_back p

mutual
  tree_sound : (a b : Tree) → same_tree a b ≡ true → a ≡ b
  tree_sound (Number a) (Number b) e = ap Number ((Decides-int_eq a b).0 e)
  tree_sound (Truth a) (Truth b) e = ap Truth (truth_sound a b e)
  tree_sound (Named a) (Named b) e = ap Named ((bytes_decides a b).0 e)
  tree_sound (Ref a ts) (Ref b us) e =
      let n = (bytes_decides a b).0 (first_so (same_name a b) (same_trees ts us) e) in
      let l = trees_sound ts us (second_so (same_name a b) (same_trees ts us) e) in
      cc
  tree_sound (Paren a) (Paren b) e = ap Paren (tree_sound a b e)
  tree_sound (Signed o a) (Signed p b) e =
      let n = op_sound o p (first_so (same_op o p) (same_tree a b) e) in
      let l = tree_sound a b (second_so (same_op o p) (same_tree a b) e) in
      cc
  tree_sound (Not a) (Not b) e = ap Not (tree_sound a b e)
  tree_sound (Binary o a c) (Binary p b d) e =
      let both = second_so (same_op o p) (same_tree a b && same_tree c d) e in
      let n = op_sound o p (first_so (same_op o p) (same_tree a b && same_tree c d) e) in
      let l = tree_sound a b (first_so (same_tree a b) (same_tree c d) both) in
      let r = tree_sound c d (second_so (same_tree a b) (same_tree c d) both) in
      cc
  tree_sound a b e = absurd (true_not_false e)

  trees_sound : (ts us : Trees) → same_trees ts us ≡ true → ts ≡ us
  trees_sound NoTrees NoTrees e = refl
  trees_sound (More a ts) (More b us) e =
      let n = tree_sound a b (first_so (same_tree a b) (same_trees ts us) e) in
      let l = trees_sound ts us (second_so (same_tree a b) (same_trees ts us) e) in
      cc
  trees_sound ts us e = absurd (true_not_false e)

truth_self : (a : Bool) → same_truth a a ≡ true
truth_self true = refl
truth_self false = refl

both_true : (s t : Bool) → s ≡ true → t ≡ true → (s && t) ≡ true
both_true true t e f = f
both_true false t e f = e

mutual
  tree_self : (a : Tree) → same_tree a a ≡ true
  tree_self (Number a) = (Decides-int_eq a a).1 refl
  tree_self (Truth a) = truth_self a
  tree_self (Named a) = (bytes_decides a a).1 refl
  tree_self (Ref a ts) = both_true (same_name a a) (same_trees ts ts) ((bytes_decides a a).1 refl) (trees_self ts)
  tree_self (Paren a) = tree_self a
  tree_self (Signed o a) = both_true (same_op o o) (same_tree a a) ((Decides-eqb (op_number o) (op_number o)).1 refl) (tree_self a)
  tree_self (Not a) = tree_self a
  tree_self (Binary o a c) =
      both_true (same_op o o) (same_tree a a && same_tree c c) ((Decides-eqb (op_number o) (op_number o)).1 refl)
      (both_true (same_tree a a) (same_tree c c) (tree_self a) (tree_self c))

  trees_self : (ts : Trees) → same_trees ts ts ≡ true
  trees_self NoTrees = refl
  trees_self (More a ts) = both_true (same_tree a a) (same_trees ts ts) (tree_self a) (trees_self ts)

pub same_tree_decides : (a b : Tree) → Decides (same_tree a b) (a ≡ b)
same_tree_decides a b = (tree_sound a b, λ e. subst (λ t. same_tree a t ≡ true) e (tree_self a))

-- what decides equality is an equivalence
pub equivalence_of : {K : Type 0} (E : K → K → Bool) → ((x y : K) → Decides (E x y) (x ≡ y)) → IsEquivalence E
equivalence_of E exact = record {
  refl = λ x. (exact x x).1 refl;
  symm = λ x y. same_from_decides (E x y) (E y x) (exact x y) ((λ e. sym ((exact y x).0 e)), (λ e. (exact y x).1 (sym e)));
  congr = λ x y z e. ap (λ w. E w z) ((exact x y).0 e);
}

pub tree_equivalence : IsEquivalence same_tree
tree_equivalence = equivalence_of same_tree same_tree_decides

pub tree_partial_equivalence : IsPartialEquivalence same_tree
tree_partial_equivalence = partial_equiv_from_equiv tree_equivalence

-- Bounds.

abbrev pub same_bound : Bound → Bound → Bool
same_bound a b = option_eq same_tree a.low b.low && same_tree a.high b.high

option_sound : {X : Type 0} (E : X → X → Bool) → ((x y : X) → Decides (E x y) (x ≡ y)) → (a b : Option X) → option_eq E a b ≡ true → a ≡ b
option_sound E exact None None e = refl
option_sound E exact None (Some y) e = absurd (true_not_false e)
option_sound E exact (Some x) None e = absurd (true_not_false e)
option_sound E exact (Some x) (Some y) e = ap Some ((exact x y).0 e)

option_self : {X : Type 0} (E : X → X → Bool) → ((x y : X) → Decides (E x y) (x ≡ y)) → (a : Option X) → option_eq E a a ≡ true
option_self E exact None = refl
option_self E exact (Some x) = (exact x x).1 refl

pub option_decides : {X : Type 0} (E : X → X → Bool) → ((x y : X) → Decides (E x y) (x ≡ y)) → (a b : Option X) → Decides (option_eq E a b) (a ≡ b)
option_decides E exact a b = (option_sound E exact a b, λ e. subst (λ o. option_eq E a o ≡ true) e (option_self E exact a))

bound_sound : (a b : Bound) → same_bound a b ≡ true → a ≡ b
bound_sound a b e = λ i. record {
  low = option_sound same_tree same_tree_decides a.low b.low (first_so (option_eq same_tree a.low b.low) (same_tree a.high b.high) e) i;
  high = tree_sound a.high b.high (second_so (option_eq same_tree a.low b.low) (same_tree a.high b.high) e) i;
}

bound_self : (a : Bound) → same_bound a a ≡ true
bound_self a = both_true (option_eq same_tree a.low a.low) (same_tree a.high a.high) (option_self same_tree same_tree_decides a.low) (tree_self a.high)

pub same_bound_decides : (a b : Bound) → Decides (same_bound a b) (a ≡ b)
same_bound_decides a b = (bound_sound a b, λ e. subst (λ x. same_bound a x ≡ true) e (bound_self a))

pub bound_equivalence : IsEquivalence same_bound
bound_equivalence = equivalence_of same_bound same_bound_decides

pub bound_partial_equivalence : IsPartialEquivalence same_bound
bound_partial_equivalence = partial_equiv_from_equiv bound_equivalence

-- The types of ports.

abbrev pub same_field_name : Option (List ℕ) → Option (List ℕ) → Bool
same_field_name a b = option_eq same_name a b

abbrev pub same_bounds : List Bound → List Bound → Bool
same_bounds a b = pointwise same_bound a b

abbrev mutual
  pub same_fields : PortFields → PortFields → Bool
  same_fields NoFields NoFields = true
  same_fields (FieldThen k n bs rest) (FieldThen l m cs more) =
      same_kind k l && (same_field_name n m && (same_bounds bs cs && same_fields rest more))
  same_fields p q = false

  pub same_kind : FieldKind → FieldKind → Bool
  same_kind Integer Integer = true
  same_kind Logical Logical = true
  same_kind (In p) (In q) = same_fields p q
  same_kind (Out p) (Out q) = same_fields p q
  same_kind k l = false

mutual
  fields_sound : (p q : PortFields) → same_fields p q ≡ true → p ≡ q
  fields_sound NoFields NoFields e = refl
  fields_sound (FieldThen k n bs rest) (FieldThen l m cs more) e =
      let tail = second_so (same_kind k l) (same_field_name n m && (same_bounds bs cs && same_fields rest more)) e in
      let last = second_so (same_field_name n m) (same_bounds bs cs && same_fields rest more) tail in
      let a = kind_sound k l (first_so (same_kind k l) (same_field_name n m && (same_bounds bs cs && same_fields rest more)) e) in
      let b = option_sound same_name bytes_decides n m (first_so (same_field_name n m) (same_bounds bs cs && same_fields rest more) tail) in
      let c = (pointwise_decides same_bound_decides bs cs).0 (first_so (same_bounds bs cs) (same_fields rest more) last) in
      let d = fields_sound rest more (second_so (same_bounds bs cs) (same_fields rest more) last) in
      cc
  fields_sound p q e = absurd (true_not_false e)

  kind_sound : (k l : FieldKind) → same_kind k l ≡ true → k ≡ l
  kind_sound Integer Integer e = refl
  kind_sound Logical Logical e = refl
  kind_sound (In p) (In q) e = ap In (fields_sound p q e)
  kind_sound (Out p) (Out q) e = ap Out (fields_sound p q e)
  kind_sound k l e = absurd (true_not_false e)

mutual
  fields_self : (p : PortFields) → same_fields p p ≡ true
  fields_self NoFields = refl
  fields_self (FieldThen k n bs rest) =
      both_true (same_kind k k) (same_field_name n n && (same_bounds bs bs && same_fields rest rest)) (kind_self k)
      (both_true (same_field_name n n) (same_bounds bs bs && same_fields rest rest) (option_self same_name bytes_decides n)
      (both_true (same_bounds bs bs) (same_fields rest rest) ((pointwise_decides same_bound_decides bs bs).1 refl) (fields_self rest)))

  kind_self : (k : FieldKind) → same_kind k k ≡ true
  kind_self Integer = refl
  kind_self Logical = refl
  kind_self (In p) = fields_self p
  kind_self (Out p) = fields_self p

pub same_fields_decides : (p q : PortFields) → Decides (same_fields p q) (p ≡ q)
same_fields_decides p q = (fields_sound p q, λ e. subst (λ r. same_fields p r ≡ true) e (fields_self p))

pub fields_equivalence : IsEquivalence same_fields
fields_equivalence = equivalence_of same_fields same_fields_decides

pub fields_partial_equivalence : IsPartialEquivalence same_fields
fields_partial_equivalence = partial_equiv_from_equiv fields_equivalence
