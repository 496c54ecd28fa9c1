-- What a map answers after an insertion or a removal, and in which order they may be made.
use Rattle.std.proofs.Common.{◌≡◌, ◌≢◌, ◌⊎◌, inl, inr, Option, Some, None, Bool, true, false, cond, refl, sym, ap, ◌∙◌}
use Rattle.std.specs.FinMap.{FinMap, get, insert, remove, get-insert, get-remove}
use Rattle.std.specs.Ordering.{eq_by_cmp}
use Rattle.std.specs.declared.cmp.Ordering.{Ordering}
use Rattle.fm_finmap.specs.Keys.{IsKeyOrder}
use Rattle.fm_finmap.specs.Changes.{put}
use Rattle.fm_finmap.proofs.Keys.{decide, tie, tie_self, tie_not, same, crossed, once_more}

module _ {K X : Type 0} {R : K → K → Ordering} (o : IsKeyOrder R) where
  pub get-put : (m : FinMap R X) (k : K) (v : Option X) (q : K) → get (put m k v) q ≡ cond (eq_by_cmp R q k) v (get m q)
  get-put m k None q = get-remove o.total m k q
  get-put m k (Some x) q = get-insert o.total m k x q

  pub put_here : (m : FinMap R X) (k : K) (v : Option X) → get (put m k v) k ≡ v
  put_here m k v = get-put m k v k ∙ ap (λ b. cond b v (get m k)) (tie_self o k)

  pub put_there : (m : FinMap R X) (k : K) (v : Option X) (q : K) → (q ≢ k) → get (put m k v) q ≡ get m q
  put_there m k v q n = get-put m k v q ∙ ap (λ b. cond b v (get m q)) (tie_not o q k n)

  -- of two at one key the later holds
  pub put_again : (m : FinMap R X) (k : K) (v w : Option X) → put (put m k v) k w ≡ put m k w
  put_again m k v w = same o _ _ (λ q.
      get-put (put m k v) k w q ∙ ap (cond (eq_by_cmp R q k) w) (get-put m k v q)
      ∙ once_more (eq_by_cmp R q k) _ _ _ ∙ sym (get-put m k w q))

  -- at two keys the order doesn't matter
  pub put_swap : (m : FinMap R X) (k j : K) (v w : Option X) → (k ≢ j) → put (put m k v) j w ≡ put (put m j w) k v
  put_swap m k j v w n = same o _ _ (λ q.
      get-put (put m k v) j w q ∙ ap (cond (eq_by_cmp R q j) w) (get-put m k v q)
      ∙ crossed _ _ _ _ _ (λ a b. n (sym (tie o q k b) ∙ tie o q j a))
      ∙ sym (get-put (put m j w) k v q ∙ ap (cond (eq_by_cmp R q k) v) (get-put m j w q)))

  -- to put what is there changes nothing
  pub put_same : (m : FinMap R X) (k : K) (v : Option X) → get m k ≡ v → put m k v ≡ m
  put_same m k v is = same o _ _ (λ q. get-put m k v q ∙ go q (eq_by_cmp R q k) refl)
    where
      go : (q : K) (b : Bool) → eq_by_cmp R q k ≡ b → cond b v (get m q) ≡ get m q
      go q true e = sym is ∙ ap (get m) (sym (tie o q k e))
      go q false e = refl

  -- ---- the same of insertions and removals

  pub insert_here : (m : FinMap R X) (k : K) (v : X) → get (insert m k v) k ≡ Some v
  insert_here m k v = put_here m k (Some v)

  pub insert_there : (m : FinMap R X) (k : K) (v : X) (q : K) → (q ≢ k) → get (insert m k v) q ≡ get m q
  insert_there m k v q n = put_there m k (Some v) q n

  pub remove_here : (m : FinMap R X) (k : K) → get (remove m k) k ≡ None
  remove_here m k = put_here m k None

  pub remove_there : (m : FinMap R X) (k q : K) → (q ≢ k) → get (remove m k) q ≡ get m q
  remove_there m k q n = put_there m k None q n

  -- what is found after an insertion was inserted there or was there at another key
  pub insert_cases : (m : FinMap R X) (k : K) (v : X) (q : K) (x : X) → get (insert m k v) q ≡ Some x → ((q ≡ k) × (v ≡ x)) ⊎ ((q ≢ k) × (get m q ≡ Some x))
  insert_cases m k v q x is = elim (decide o q k) [
    | yes e ↦ inl (e, cc (sym (ap (get (insert m k v)) e ∙ insert_here m k v) ∙ is))
    | no n ↦ inr (n, sym (insert_there m k v q n) ∙ is)
  ]

  pub insert_again : (m : FinMap R X) (k : K) (v w : X) → insert (insert m k v) k w ≡ insert m k w
  insert_again m k v w = put_again m k (Some v) (Some w)

  pub insert_swap : (m : FinMap R X) (k j : K) (v w : X) → (k ≢ j) → insert (insert m k v) j w ≡ insert (insert m j w) k v
  insert_swap m k j v w n = put_swap m k j (Some v) (Some w) n

  pub insert_same : (m : FinMap R X) (k : K) (v : X) → get m k ≡ Some v → insert m k v ≡ m
  insert_same m k v is = put_same m k (Some v) is

  pub remove_absent : (m : FinMap R X) (k : K) → get m k ≡ None → remove m k ≡ m
  remove_absent m k is = put_same m k None is

  pub insert_back : (m : FinMap R X) (k : K) (v : X) → get m k ≡ Some v → insert (remove m k) k v ≡ m
  insert_back m k v is = put_again m k None (Some v) ∙ put_same m k (Some v) is

  pub remove_back : (m : FinMap R X) (k : K) (v : X) → get m k ≡ None → remove (insert m k v) k ≡ m
  remove_back m k v is = put_again m k (Some v) None ∙ put_same m k None is
