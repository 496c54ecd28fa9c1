-- What the reader has found stays, or something longer comes.
use Rattle.std.proofs.Common.{◌≡◌, ℕ, ◌+◌, ◌<◌, ◌≤◌, Bool, true, false, cond, Option, Some, None, List, [], ◌∷◌, refl, sym, ◌∙◌, ap, subst, arith}
use Rattle.std.proofs.lemmas.Bool.{ltb-true}
use Rattle.std.proofs.Math.Dec.{ltb, leb}
use Rattle.fm_base.specs.declared.token.Op.{Op}
use Rattle.fm_base.specs.declared.token.Op.TheVariants as ops
use Rattle.fm_base.specs.declared.token.Token.{Token}
use Rattle.fm_base.specs.declared.token.Token.TheVariants as tokens
use Rattle.fm_tree.specs.Tree.{Tree, Named, Ref, Signed, Not, Binary, NoTrees}
use Rattle.fm_tree.specs.Shape.{levels, grade}
use Rattle.fm_expr.specs.declared.reader.Frame.{Frame}
use Rattle.fm_expr.specs.declared.reader.Frame.TheVariants.{Joins, Negates, Signs, Opens, Calls}
use Rattle.fm_expr.specs.Reading.{need, demand, operation, reduction, close_step, comma_step, call_step, behind_step, operand_step, empty_call, prefix_step, step, Progress, onward, whole_around, at_place, last_whole, run}

abbrev pub AtLeast : ℕ → Option (Tree × ℕ) → Type 0
AtLeast k None = ⊥
AtLeast k (Some x) = k ≤ x.1

pub lifts : (fs : List Frame) (o : Option (Tree × ℕ)) (t : Tree) (n k : ℕ) → k ≤ n → AtLeast k (last_whole fs o) → AtLeast k (last_whole fs (Some (t, n)))
lifts [] o t n k h a = h
lifts (Joins left op at ∷ fs) None t n k h a = lifts fs (Some (left, at)) (Binary op left t) n k h a
lifts (Joins left op at ∷ fs) (Some x) t n k h a = lifts fs (Some (Binary op left x.0, x.1)) (Binary op left t) n k h a
lifts (Negates ∷ fs) None t n k h a = lifts fs None (Not t) n k h a
lifts (Negates ∷ fs) (Some x) t n k h a = lifts fs (Some (Not x.0, x.1)) (Not t) n k h a
lifts (Signs op ∷ fs) None t n k h a = lifts fs None (Signed op t) n k h a
lifts (Signs op ∷ fs) (Some x) t n k h a = lifts fs (Some (Signed op x.0, x.1)) (Signed op t) n k h a
lifts (Opens ∷ fs) o t n k h a = a
lifts (Calls name args at ∷ fs) o t n k h a = a

around_operation : (f : Frame) (t : Tree) (n : ℕ) → 0 < need f → whole_around f (Some (t, n)) ≡ Some (operation f t, n)
around_operation (Joins left op at) t n p = refl
around_operation Negates t n p = refl
around_operation (Signs op) t n p = refl
around_operation Opens t n p = absurd (omega arith)
around_operation (Calls name args at) t n p = absurd (omega arith)

pub reduction_whole : (m : ℕ) (fs : List Frame) (t : Tree) (n : ℕ) → last_whole (reduction m fs t).0 (Some ((reduction m fs t).1, n)) ≡ last_whole fs (Some (t, n))
reduction_whole m [] t n = refl
reduction_whole m (f ∷ fs) t n =
    (elim (ltb m (need f)) as (λ b. ltb m (need f) ≡ b
    → last_whole (cond b (reduction m fs (operation f t)) (f ∷ fs, t)).0 (Some ((cond b (reduction m fs (operation f t)) (f ∷ fs, t)).1, n)) ≡ last_whole (f ∷ fs) (Some (t, n))) [
      | true ↦ λ h. let p : 0 < need f = omega (arith, ltb-true m (need f) h) in
          reduction_whole m fs (operation f t) n ∙ ap (last_whole fs) (sym (around_operation f t n p))
      | false ↦ λ h. refl
    ]) refl

-- what one token does
abbrev Lasts : ℕ → ℕ → Progress → Type 0
Lasts k n (true, fs, o) = AtLeast k (last_whole fs (at_place o (n + 1)))
Lasts k n (false, fs, o) = AtLeast k (last_whole fs (at_place o n))

none_lasts : (fs : List Frame) (n k : ℕ) → k ≤ n → AtLeast k (last_whole fs None) → Lasts k n (empty_call fs)
none_lasts [] n k h a = a
none_lasts (Joins left op at ∷ fs) n k h a = a
none_lasts (Negates ∷ fs) n k h a = a
none_lasts (Signs op ∷ fs) n k h a = a
none_lasts (Opens ∷ fs) n k h a = a
none_lasts (Calls name [] at ∷ fs) n k h a = lifts fs (Some (Named name, at)) (Ref name NoTrees) (n + 1) k (omega arith) a
none_lasts (Calls name (t ∷ ts) at ∷ fs) n k h a = a

choice_lasts : (b : Bool) (x y : Progress) (k n : ℕ) → Lasts k n x → Lasts k n y → Lasts k n (cond b x y)
choice_lasts true x y k n a c = a
choice_lasts false x y k n a c = c

prefix_lasts : (op : Op) (fs : List Frame) (n k : ℕ) → AtLeast k (last_whole fs None) → Lasts k n (prefix_step op fs)
prefix_lasts ops.Not fs n k a = choice_lasts (leb (demand fs) 4) _ _ k n a a
prefix_lasts ops.Add fs n k a = choice_lasts (leb (demand fs) 6) _ _ k n a a
prefix_lasts ops.Sub fs n k a = choice_lasts (leb (demand fs) 6) _ _ k n a a
prefix_lasts op fs n k a = a

operand_lasts : (token : Token) (fs : List Frame) (n k : ℕ) → k ≤ n → AtLeast k (last_whole fs None) → Lasts k n (operand_step token fs)
operand_lasts (tokens.Named name) fs n k h a = lifts fs None _ (n + 1) k (omega arith) a
operand_lasts (tokens.Number x) fs n k h a = lifts fs None _ (n + 1) k (omega arith) a
operand_lasts tokens.True fs n k h a = lifts fs None _ (n + 1) k (omega arith) a
operand_lasts tokens.False fs n k h a = lifts fs None _ (n + 1) k (omega arith) a
operand_lasts tokens.Open fs n k h a = a
operand_lasts tokens.Close fs n k h a = none_lasts fs n k h a
operand_lasts (tokens.Sign op) fs n k h a = prefix_lasts op fs n k a
operand_lasts token fs n k h a = a

call_lasts : (t : Tree) (fs : List Frame) (n k : ℕ) → AtLeast k (last_whole fs (Some (t, n))) → Lasts k n (call_step t fs n)
call_lasts (Named name) fs n k a = a
call_lasts t fs n k a = a

close_lasts : (fs : List Frame) (t : Tree) (n k : ℕ) → k ≤ n → AtLeast k (last_whole fs (Some (t, n))) → Lasts k n (close_step fs t)
close_lasts (Opens ∷ fs) t n k h a = lifts fs None _ (n + 1) k (omega arith) a
close_lasts (Calls name args at ∷ fs) t n k h a = lifts fs (Some (Named name, at)) _ (n + 1) k (omega arith) a
close_lasts fs t n k h a = a

comma_lasts : (fs : List Frame) (t : Tree) (n k : ℕ) → AtLeast k (last_whole fs (Some (t, n))) → Lasts k n (comma_step fs t)
comma_lasts (Calls name args at ∷ fs) t n k a = a
comma_lasts fs t n k a = a

after_reduction : (m : ℕ) (fs : List Frame) (t : Tree) (n k : ℕ) → AtLeast k (last_whole fs (Some (t, n))) → AtLeast k (last_whole (reduction m fs t).0 (Some ((reduction m fs t).1, n)))
after_reduction m fs t n k a = subst (AtLeast k) (sym (reduction_whole m fs t n)) a

behind_lasts : (token : Token) (fs : List Frame) (t : Tree) (n k : ℕ) → k ≤ n → AtLeast k (last_whole fs (Some (t, n))) → Lasts k n (behind_step token fs t n)
behind_lasts tokens.Open fs t n k h a = call_lasts t fs n k a
behind_lasts tokens.Close fs t n k h a = close_lasts (reduction 0 fs t).0 (reduction 0 fs t).1 n k h (after_reduction 0 fs t n k a)
behind_lasts tokens.Comma fs t n k h a = comma_lasts (reduction 0 fs t).0 (reduction 0 fs t).1 n k (after_reduction 0 fs t n k a)
behind_lasts (tokens.Sign op) fs t n k h a =
    let r : List Frame × Tree = reduction (levels op).own fs t in
    choice_lasts (leb (levels op).left (grade r.1)) (true, Joins r.1 op n ∷ r.0, None) (false, r.0, Some r.1) k n
    (after_reduction (levels op).own fs t n k a) (after_reduction (levels op).own fs t n k a)
behind_lasts token fs t n k h a = a

step_lasts : (token : Token) (fs : List Frame) (o : Option Tree) (n k : ℕ) → k ≤ n → AtLeast k (last_whole fs (at_place o n)) → Lasts k n (step token fs o n)
step_lasts token fs None n k h a = operand_lasts token fs n k h a
step_lasts token fs (Some t) n k h a = behind_lasts token fs t n k h a

pub run_lasts : (ts : List Token) (fs : List Frame) (o : Option Tree) (n k : ℕ) → k ≤ n → AtLeast k (last_whole fs (at_place o n)) → AtLeast k (run ts fs o n)
run_lasts [] fs o n k h a = a
run_lasts (token ∷ ts) fs o n k h a =
    go (step token fs o n) (step_lasts token fs o n k h a) (λ gs u. run_lasts ts gs u (n + 1) k (omega arith))
  where
    go : (r : Progress) → Lasts k n r → ((gs : List Frame) (u : Option Tree) → AtLeast k (last_whole gs (at_place u (n + 1))) → AtLeast k (run ts gs u (n + 1)))
        → AtLeast k (onward r (λ gs u. run ts gs u (n + 1)) n)
    go (true, gs, u) b on = on gs u b
    go (false, gs, u) b on = b
