-- One pair more on a chain; and what two walks back in step say of the order of two lists.
use Rattle.std.proofs.Common.{◌≡◌, arith, ℕ, zero, suc, ◌+◌, ◌-◌, ◌≤◌, ◌<◌, ◌⊎◌, inl, inr, List, [], ◌∷◌, ◌++◌, length, take, refl, sym, ◌∙◌, ap, append_assoc}
use Rattle.std.proofs.Math.Seq.{take-length}
use Rattle.std.proofs.lemmas.List.{append-nil, length-append, length-take-le, take-append-le, reverse-append}
use mathlib.Core.List.{reverse}
use Rattle.std.specs.declared.cmp.Ordering.{Ordering}
use Rattle.std.proofs.Common.{Less, Equal, Greater, Option, Some, None}
use Rattle.std.specs.declared.sync.Arc.{Arc}
use Rattle.std.specs.declared.alloc.Global.{Global}
use Rattle.std.specs.Arc.{arc_value}
use mathlib.Core.Path.{subst}
use Rattle.std.specs.Ordering.{ordering_then}
use Rattle.fm_base.specs.declared.chain.Link.{Link, Link', Held-Link-starter, None', Some', out-Link}
use Rattle.fm_base.specs.Chains.{pairs_of, pairs_to}
use Rattle.fm_base.specs.PathOrder.{pair_cmp, path_cmp}
use Rattle.fm_base.specs.InStep.{IsInStep}

-- the pairs of a link
pub back : (l : Link) → pairs_to l ≡ pairs_of (out-Link l).starter ++ (out-Link l).pair ∷ []
unfolding out-Link denote.Hole.Carrier.out
back (Link' None' pair) = refl
back (Link' (Some' p link) pair) = refl

-- ---- the pairs gathered

pub gathered_more : (before passed : List (ℕ × ℕ)) (p : ℕ × ℕ) → before ++ reverse (passed ++ p ∷ []) ≡ (before ++ p ∷ []) ++ reverse passed
gathered_more before passed p = ap (λ z. before ++ z) (reverse-append passed (p ∷ [])) ∙ sym (append_assoc before (p ∷ []) (reverse passed))

-- ---- the front

front_lengths : (m n : ℕ) → m + 1 - (n + 1) ≡ m - n
front_lengths m n = omega arith

monus_within : (m n : ℕ) → m - n ≤ m
monus_within m n = omega arith

pub front_less : (x y : List (ℕ × ℕ)) (p q : ℕ × ℕ) → take (length (x ++ p ∷ []) - length (y ++ q ∷ [])) (x ++ p ∷ []) ≡ take (length x - length y) x
front_less x y p q =
    ap (λ n. take n (x ++ p ∷ [])) ((λ i. length-append x (p ∷ []) i - length-append y (q ∷ []) i) ∙ front_lengths (length x) (length y))
    ∙ take-append-le (length x - length y) x (p ∷ []) (monus_within (length x) (length y))

whole_length : (n : ℕ) → n - 0 ≡ n
whole_length n = omega arith

pub front_whole : (x : List (ℕ × ℕ)) → take (length x - 0) x ≡ x
front_whole x = ap (λ n. take n x) (whole_length (length x)) ∙ take-length x

pub front_none : (n : ℕ) → take {A = ℕ × ℕ} n [] ≡ []
front_none zero = refl
front_none (suc n) = refl

-- ---- in step

pub in_step_first : (x y : List (ℕ × ℕ)) → IsInStep x y x y Equal
in_step_first x y = record { left_passed = []; right_passed = []; left_is = sym (append-nil x); right_is = sym (append-nil y); as_many = refl; order_is = refl }

pub in_step_more : {a b : List (ℕ × ℕ)} (x y : List (ℕ × ℕ)) (p q : ℕ × ℕ) (o : Ordering) → IsInStep a b (x ++ p ∷ []) (y ++ q ∷ []) o → IsInStep a b x y (ordering_then (pair_cmp p q) o)
in_step_more x y p q o s =
    record {
      left_passed = p ∷ s.left_passed;
      right_passed = q ∷ s.right_passed;
      left_is = s.left_is ∙ append_assoc x (p ∷ []) s.left_passed;
      right_is = s.right_is ∙ append_assoc y (q ∷ []) s.right_passed;
      as_many = ap (λ (n : ℕ). suc n) s.as_many;
      order_is = ap (ordering_then (pair_cmp p q)) s.order_is;
    }

left_length : {a b x y : List (ℕ × ℕ)} {o : Ordering} (s : IsInStep a b x y o) → length a ≡ length x + length s.left_passed
left_length {x = x} s = ap length s.left_is ∙ length-append x s.left_passed

right_length : {a b x y : List (ℕ × ℕ)} {o : Ordering} (s : IsInStep a b x y o) → length b ≡ length y + length s.right_passed
right_length {y = y} s = ap length s.right_is ∙ length-append y s.right_passed

-- both at main
pub whole : {a b x y : List (ℕ × ℕ)} {o : Ordering} → IsInStep a b x y o → x ≡ [] → y ≡ [] → o ≡ path_cmp a b
whole s e f =
    let left = s.left_is ∙ ap (λ z. z ++ s.left_passed) e in
    let right = s.right_is ∙ ap (λ z. z ++ s.right_passed) f in
    s.order_is ∙ (λ i. path_cmp (sym left i) (sym right i))

no_pairs : (x : List (ℕ × ℕ)) → length x ≡ 0 → x ≡ []
no_pairs [] e = refl
no_pairs (p ∷ x) e = absurd (omega (arith, e))

rests_alike : (x y l r : ℕ) → x + l ≡ y + r → l ≡ r → x ≡ y
rests_alike x y l r e f = omega (arith, e, f)

-- two lists of one length
pub level : {a b x y : List (ℕ × ℕ)} {o : Ordering} → IsInStep a b x y o → (x ≡ []) ⊎ (y ≡ []) → length a ≡ length b → o ≡ path_cmp a b
level {a} {b} {x} {y} {o} s ended alike = go ended
  where
    same : length x ≡ length y
    same = rests_alike (length x) (length y) (length s.left_passed) (length s.right_passed) (sym (left_length s) ∙ alike ∙ right_length s) s.as_many

    go : (x ≡ []) ⊎ (y ≡ []) → o ≡ path_cmp a b
    go (inl e) = whole s e (no_pairs y (sym same ∙ ap length e))
    go (inr f) = whole s (no_pairs x (same ∙ ap length f)) f

-- ---- the longer one

then_assoc : (o p q : Ordering) → ordering_then o (ordering_then p q) ≡ ordering_then (ordering_then o p) q
then_assoc Less p q = refl
then_assoc Equal p q = refl
then_assoc Greater p q = refl

pub shorter_first : (a b : List (ℕ × ℕ)) → length a < length b → path_cmp a b ≡ ordering_then (path_cmp a (take (length a) b)) Less
shorter_first [] [] h = absurd (omega (arith, h))
shorter_first [] (q ∷ b) h = refl
shorter_first (p ∷ a) [] h = absurd (omega (arith, h))
shorter_first (p ∷ a) (q ∷ b) h = ap (ordering_then (pair_cmp p q)) (shorter_first a b (omega (arith, h))) ∙ then_assoc (pair_cmp p q) (path_cmp a (take (length a) b)) Less

pub longer_last : (a b : List (ℕ × ℕ)) → length b < length a → path_cmp a b ≡ ordering_then (path_cmp (take (length b) a) b) Greater
longer_last [] [] h = absurd (omega (arith, h))
longer_last (p ∷ a) [] h = refl
longer_last [] (q ∷ b) h = absurd (omega (arith, h))
longer_last (p ∷ a) (q ∷ b) h = ap (ordering_then (pair_cmp p q)) (longer_last a b (omega (arith, h))) ∙ then_assoc (pair_cmp p q) (path_cmp (take (length b) a) b) Greater

pub some_pair : (x : List (ℕ × ℕ)) (p : ℕ × ℕ) → 0 < length (x ++ p ∷ [])
some_pair x p = omega (arith, length-append x (p ∷ []))

longer_by : (a b y l r : ℕ) → a ≡ 0 + l → b ≡ y + r → l ≡ r → 0 < y → a < b
longer_by a b y l r e f g h = omega (arith, e, f, g, h)

front_is : (a b y l r : ℕ) → a ≡ 0 + l → b ≡ y + r → l ≡ r → b - y ≡ a
front_is a b y l r e f g = omega (arith, e, f, g)

-- the right one is longer
pub less : {a b x y f v w : List (ℕ × ℕ)} {o r : Ordering} → IsInStep a b x y o → x ≡ [] → 0 < length y
    → f ≡ take (length b - length y) b → IsInStep a f v w r → (v ≡ []) ⊎ (w ≡ []) → ordering_then r Less ≡ path_cmp a b
less {a} {b} {x} {y} {f} s e some is t ended =
    let left = left_length s ∙ ap (λ (z : List (ℕ × ℕ)). length z + length s.left_passed) e in
    let longer = longer_by (length a) (length b) (length y) _ _ left (right_length s) s.as_many some in
    let front = is ∙ ap (λ n. take n b) (front_is (length a) (length b) (length y) _ _ left (right_length s) s.as_many) in
    let alike = sym (ap length front ∙ length-take-le (length a) b (omega (arith, longer))) in
    ap (λ (z : Ordering). ordering_then z Less) (level t ended alike ∙ ap (path_cmp a) front) ∙ sym (shorter_first a b longer)

-- the left one is longer
pub greater : {a b x y f v w : List (ℕ × ℕ)} {o r : Ordering} → IsInStep a b x y o → y ≡ [] → 0 < length x
    → f ≡ take (length a - length x) a → IsInStep f b v w r → (v ≡ []) ⊎ (w ≡ []) → ordering_then r Greater ≡ path_cmp a b
greater {a} {b} {x} {y} {f} s e some is t ended =
    let right = right_length s ∙ ap (λ (z : List (ℕ × ℕ)). length z + length s.right_passed) e in
    let longer = longer_by (length b) (length a) (length x) _ _ right (left_length s) (sym s.as_many) some in
    let front = is ∙ ap (λ n. take n a) (front_is (length b) (length a) (length x) _ _ right (left_length s) (sym s.as_many)) in
    let alike = ap length front ∙ length-take-le (length b) a (omega (arith, longer)) in
    ap (λ (z : Ordering). ordering_then z Greater) (level t ended alike ∙ ap (λ z. path_cmp z b) front) ∙ sym (longer_last a b longer)

-- ---- one step of each loop

pub one_back : (at : Option (Arc Link Global)) (last : Arc Link Global) (d e : Link) → at ≡ Some last → d ≡ arc_value last → e ≡ arc_value last
    → pairs_of (out-Link e).starter ++ (out-Link d).pair ∷ [] ≡ pairs_of at
one_back at last d e is f g = (λ i. pairs_of (out-Link (g i)).starter ++ (out-Link (f i)).pair ∷ []) ∙ sym (back (arc_value last)) ∙ ap pairs_of (sym is)

pub gather_step : {all : List (ℕ × ℕ)} (before at passed more : List (ℕ × ℕ)) (p : ℕ × ℕ) → before ++ p ∷ [] ≡ at → more ≡ passed ++ p ∷ [] → at ++ reverse passed ≡ all → before ++ reverse more ≡ all
gather_step before at passed more p one is s = ap (λ z. before ++ reverse z) is ∙ gathered_more before passed p ∙ ap (λ z. z ++ reverse passed) one ∙ s

pub front_step : {rest left right : List (ℕ × ℕ)} (x y : List (ℕ × ℕ)) (p q : ℕ × ℕ) → x ++ p ∷ [] ≡ left → y ++ q ∷ [] ≡ right → take (length left - length right) left ≡ rest → take (length x - length y) x ≡ rest
front_step x y p q l r s = sym (front_less x y p q) ∙ (λ i. take (length (l i) - length (r i)) (l i)) ∙ s

pub in_step_step : {a b x y left right : List (ℕ × ℕ)} (p q : ℕ × ℕ) {o r t : Ordering} → x ++ p ∷ [] ≡ left → y ++ q ∷ [] ≡ right → r ≡ pair_cmp p q → t ≡ ordering_then r o
    → IsInStep a b left right o → IsInStep a b x y t
in_step_step {a} {b} {x} {y} {left} {right} p q {o} {r} {t} l m e f s =
    subst (λ (z : Ordering). IsInStep a b x y z) (sym (f ∙ ap (λ (z : Ordering). ordering_then z o) e))
    (in_step_more x y p q o (subst (λ (z : List (ℕ × ℕ)). IsInStep a b z (y ++ q ∷ []) o) (sym l) (subst (λ (z : List (ℕ × ℕ)). IsInStep a b left z o) (sym m) s)))

pub some_of : (at : Option (Arc Link Global)) (last : Arc Link Global) → at ≡ Some last → 0 < length (pairs_of at)
some_of at last is =
    let one = one_back at last (arc_value last) (arc_value last) is refl refl in
    subst (λ (z : List (ℕ × ℕ)). 0 < length z) one (some_pair (pairs_of (out-Link (arc_value last)).starter) (out-Link (arc_value last)).pair)

pub right_ended : {x y : List (ℕ × ℕ)} → (x ≡ []) ⊎ (y ≡ []) → 0 < length x → y ≡ []
right_ended (inl e) some = absurd (omega (arith, some, ap length e))
right_ended (inr f) some = f
