-- What a node reaches: a step, and the end.
use Rattle.std.proofs.Common.{◌≡◌, ℕ, suc, zero, ◌+◌, ◌<◌, ◌≤◌, ◌⊎◌, inl, inr, ⊎_elim, IsTrue, List, [], ◌∷◌, ◌++◌, length, get_or, set, Bool, true, false, refl, sym, ap, ◌∙◌, subst, arith}
use Rattle.std.specs.Prelude.{Contains}
use Rattle.std.proofs.lemmas.Bool.{cases_Bool, cases_eq, cases_lt, cond-true, cond-false}
use Rattle.std.proofs.lemmas.List.{get_or_default, get_or_past, get_or-set_same, get_or-set_other, length-append, length-set, length_push}
use Rattle.std.proofs.lemmas.List.Elements.{Contains-append_cases, Contains-append_left, Contains-append_right}
use Rattle.fm_graph.specs.Graph.{IsEdge, IsReached, Reaches, edges_of}
use Rattle.fm_graph.specs.Flags.{IsReaching, flag_at, flags_after, load, load_of, pending_after}
use Rattle.fm_graph.proofs.Reach.{reach_closed, reach_edge, reach_join}

in_one : (v x : ℕ) → Contains (v ∷ []) x → v ≡ x
in_one v x c = of c.0 c.1 c.2
  where
    of : (k : ℕ) → k < length (v ∷ []) → get_or (v ∷ []) k x ≡ x → v ≡ x
    of zero l e = e
    of (suc k) l e = absurd (omega (arith, l))

pub one : (v : ℕ) → Contains (v ∷ []) v
one v = (0, omega arith, refl)

unflagged_within : (flags : List Bool) (v : ℕ) → flag_at flags v ≡ false → v < length flags
unflagged_within flags v e = ⊎_elim (λ x. x) (λ x. let p : flag_at flags v ≡ true = get_or_past flags v true x in let q : true ≡ false = sym p ∙ e in absurd (cc)) (cases_lt v (length flags))

load_set : (flags : List Bool) (g : List (List ℕ)) (v : ℕ) → length flags ≡ length g → v < length flags → flag_at flags v ≡ false
    → load (set flags v true) g + length (get_or g v []) + 1 ≡ load flags g
load_set [] g v e l is = absurd (omega (arith, l))
load_set (b ∷ bs) [] v e l is = absurd (omega (arith, e))
load_set (b ∷ bs) (es ∷ g) zero e l is = let w : load_of b (length es) ≡ length es + 1 = ap (λ k. load_of k (length es)) is in omega (arith, w)
load_set (b ∷ bs) (es ∷ g) (suc v) e l is = let r = load_set bs g v (omega (arith, e)) (omega (arith, l)) is in omega (arith, r)

module _ (g : List (List ℕ)) (from : ℕ) (flags : List Bool) (pending : List ℕ) (v : ℕ) where
  -- a node that was seen
  seen_again : flag_at flags v ≡ true → IsReaching g from flags (pending ++ v ∷ []) → IsReaching g from flags pending
  seen_again is h = record {
    sized = h.sized;
    sound = h.sound;
    reached = λ x c. h.reached x (Contains-append_left pending (v ∷ []) x c);
    shut = λ w x l f e. left x (h.shut w x l f e);
    begun = left from h.begun;
  }
    where
      left : (x : ℕ) → (flag_at flags x ≡ true) ⊎ Contains (pending ++ v ∷ []) x → (flag_at flags x ≡ true) ⊎ Contains pending x
      left x (inl f) = inl f
      left x (inr c) = ⊎_elim (λ (d : Contains pending x). inr d) (λ (d : Contains (v ∷ []) x). inl (ap (flag_at flags) (sym (in_one v x d)) ∙ is)) (Contains-append_cases pending (v ∷ []) x c)

  abbrev flags' : List Bool
  flags' = set flags v true

  flag_kept : (x : ℕ) → flag_at flags x ≡ true → flag_at flags' x ≡ true
  flag_kept x e =
      ⊎_elim (λ (f : x ≡ v). ⊎_elim (λ (l : v < length flags). ap (flag_at flags') f ∙ get_or-set_same flags v true true l)
      (λ (l : length flags ≤ v). let n = length-set flags v true in get_or_past flags' x true (omega (arith, f, l, n))) (cases_lt v (length flags)))
      (λ (f : x ≡ v → ⊥). get_or-set_other flags v x true true f ∙ e) (cases_eq x v)

  flag_back : (x : ℕ) → (x ≡ v → ⊥) → flag_at flags' x ≡ true → flag_at flags x ≡ true
  flag_back x f e = sym (get_or-set_other flags v x true true f) ∙ e

  -- a new one
  seen_first : flag_at flags v ≡ false → IsReaching g from flags (pending ++ v ∷ []) → IsReaching g from flags' (pending ++ edges_of g v)
  seen_first is h = record {
    sized = length-set flags v true ∙ h.sized;
    sound = λ w l e. ⊎_elim (λ (f : w ≡ v). subst (λ (x : ℕ). Reaches g from x) (sym f) here)
        (λ (f : w ≡ v → ⊥). let n = length-set flags v true in h.sound w (omega (arith, n, l)) (flag_back w f e)) (cases_eq w v);
    reached = λ x c. ⊎_elim (λ (d : Contains pending x). h.reached x (Contains-append_left pending (v ∷ []) x d))
        (λ (d : Contains (edges_of g v) x). reach_join g from v x here (reach_edge g v x d)) (Contains-append_cases pending (edges_of g v) x c);
    shut = λ w x l e t. ⊎_elim (λ (f : w ≡ v). inr (Contains-append_right pending (edges_of g v) x (subst (λ (y : ℕ). IsEdge g y x) f t)))
        (λ (f : w ≡ v → ⊥). let n = length-set flags v true in on x (h.shut w x (omega (arith, n, l)) (flag_back w f e) t)) (cases_eq w v);
    begun = on from h.begun;
  }
    where
      here : Reaches g from v
      here = h.reached v (Contains-append_right pending (v ∷ []) v (one v))

      now : flag_at flags' v ≡ true
      now = get_or-set_same flags v true true (unflagged_within flags v is)

      on : (x : ℕ) → (flag_at flags x ≡ true) ⊎ Contains (pending ++ v ∷ []) x → (flag_at flags' x ≡ true) ⊎ Contains (pending ++ edges_of g v) x
      on x (inl f) = inl (flag_kept x f)
      on x (inr c) = ⊎_elim (λ (d : Contains pending x). inr (Contains-append_left pending (edges_of g v) x d))
          (λ (d : Contains (v ∷ []) x). inl (ap (flag_at flags') (sym (in_one v x d)) ∙ now)) (Contains-append_cases pending (v ∷ []) x c)

  pub reaching_more : IsReaching g from flags (pending ++ v ∷ []) → IsReaching g from (flags_after flags v) (pending_after g flags v pending)
  reaching_more h =
      ⊎_elim (λ (is : flag_at flags v ≡ true).
      subst (λ (fs : List Bool). IsReaching g from fs (pending_after g flags v pending)) (sym (cond-true (flag_at flags v) flags flags' is))
      (subst (λ (ps : List ℕ). IsReaching g from flags ps) (sym (cond-true (flag_at flags v) pending (pending ++ edges_of g v) is)) (seen_again is h)))
      (λ (is : flag_at flags v ≡ false).
      subst (λ (fs : List Bool). IsReaching g from fs (pending_after g flags v pending)) (sym (cond-false (flag_at flags v) flags flags' is))
      (subst (λ (ps : List ℕ). IsReaching g from flags' ps) (sym (cond-false (flag_at flags v) pending (pending ++ edges_of g v) is)) (seen_first is h))) (cases_Bool (flag_at flags v))

  pub load_less : length flags ≡ length g → load (flags_after flags v) g + length (pending_after g flags v pending) < load flags g + length (pending ++ v ∷ [])
  load_less sized =
      let n = length_push pending v in
      ⊎_elim (λ (is : flag_at flags v ≡ true).
      let a = ap (λ fs. load fs g) (cond-true (flag_at flags v) flags flags' is) in
      let b = ap length (cond-true (flag_at flags v) pending (pending ++ edges_of g v) is) in
      omega (arith, n, a, b))
      (λ (is : flag_at flags v ≡ false).
      let a = ap (λ fs. load fs g) (cond-false (flag_at flags v) flags flags' is) in
      let b = ap length (cond-false (flag_at flags v) pending (pending ++ edges_of g v) is) in
      let d = load_set flags g v sized (unflagged_within flags v is) is in
      let e = length-append pending (edges_of g v) in
      omega (arith, n, a, b, d, e)) (cases_Bool (flag_at flags v))

pub reaching_all : (g : List (List ℕ)) (from : ℕ) (flags : List Bool) → IsReaching g from flags [] → IsReached g from flags
reaching_all g from flags h = record {
  sized = h.sized;
  reached = λ v l. (
    λ e. h.sound v (within v l) (get_or_default flags v true false (within v l) ∙ is_true (get_or flags v false) e),
    λ r. from_true (get_or flags v false) (get_or_default flags v false true (within v l) ∙ reach_closed g (λ x. flag_at flags x ≡ true) (λ w x e t. next w x e t) from v r (left from h.begun)),
  );
}
  where
    within : (v : ℕ) → v < length g → v < length flags
    within v l = let s = h.sized in omega (arith, s, l)

    left : (x : ℕ) → (flag_at flags x ≡ true) ⊎ Contains [] x → flag_at flags x ≡ true
    left x (inl e) = e
    left x (inr c) = let l = c.1 in absurd (omega (arith, l))

    next : (w x : ℕ) → flag_at flags w ≡ true → IsEdge g w x → flag_at flags x ≡ true
    next w x e t = ⊎_elim (λ (l : w < length flags). left x (h.shut w x l e t))
        (λ (l : length flags ≤ w). let s = h.sized in let n = ap length (get_or_past g w [] (omega (arith, s, l))) in let m = t.1 in absurd (omega (arith, n, m))) (cases_lt w (length flags))

    is_true : (b : Bool) → IsTrue b → b ≡ true
    is_true b e = e

    from_true : (b : Bool) → b ≡ true → IsTrue b
    from_true b e = e

pub reaching_step : (g : List (List ℕ)) (from : ℕ) (flags flags' : List Bool) (old rest pending' : List ℕ) (v : ℕ) → old ≡ rest ++ v ∷ [] → flags' ≡ flags_after flags v → pending' ≡ pending_after g flags v rest
    → IsReaching g from flags old → IsReaching g from flags' pending'
reaching_step g from flags flags' old rest pending' v e a b h =
    subst (λ (fs : List Bool). IsReaching g from fs pending') (sym a)
    (subst (λ (ps : List ℕ). IsReaching g from (flags_after flags v) ps) (sym b) (reaching_more g from flags rest v (subst (λ (ps : List ℕ). IsReaching g from flags ps) e h)))

pub load_step : (g : List (List ℕ)) (flags flags' : List Bool) (old rest pending' : List ℕ) (v : ℕ) → old ≡ rest ++ v ∷ [] → flags' ≡ flags_after flags v → pending' ≡ pending_after g flags v rest
    → length flags ≡ length g → load flags' g + length pending' < load flags g + length old
load_step g flags flags' old rest pending' v e a b sized =
    let l = load_less g 0 flags rest v sized in
    let x = ap (λ fs. load fs g) a in
    let y = ap length b in
    let z = ap length e in
    omega (arith, l, x, y, z)
