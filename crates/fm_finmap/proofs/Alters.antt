-- Changes of what a map has at a key, be it a value or none, and lists of such changes.
use Rattle.std.proofs.Common.{◌≡◌, ◌≢◌, Option, List, [], ◌∷◌, ◌++◌, Bool, true, false, cond, refl, sym, ap, ◌∙◌}
use Rattle.std.specs.FinMap.{FinMap, get}
use Rattle.std.specs.Ordering.{eq_by_cmp}
use Rattle.std.specs.declared.cmp.Ordering.{Ordering}
use Rattle.fm_finmap.specs.Keys.{IsKeyOrder}
use Rattle.fm_finmap.specs.Changes.{Change, alter, alters, put, Off, Apart, EachOnce}
use Rattle.fm_finmap.proofs.Keys.{tie, same}
use Rattle.fm_finmap.proofs.Inserts.{get-put, put_again, put_same, put_swap, put_here, put_there}

-- ---- which keys change

module _ {K X : Type 0} where
  pub Off-append : (k : K) (ws vs : List (Change K X)) → Off k ws → Off k vs → Off k (ws ++ vs)
  Off-append k [] vs h g = g
  Off-append k (w ∷ ws) vs h g = (h.0, Off-append k ws vs h.1 g)

  pub Apart-append : (ws us vs : List (Change K X)) → Apart ws vs → Apart us vs → Apart (ws ++ us) vs
  Apart-append [] us vs h g = g
  Apart-append (w ∷ ws) us vs h g = (h.0, Apart-append ws us vs h.1 g)

  pub Apart-nil : (ws : List (Change K X)) → Apart ws []
  Apart-nil [] = tt
  Apart-nil (w ∷ ws) = (tt, Apart-nil ws)

  pub Apart-cons : (ws : List (Change K X)) (v : Change K X) (vs : List (Change K X)) → Off v.0 ws → Apart ws vs → Apart ws (v ∷ vs)
  Apart-cons [] v vs off apart = tt
  Apart-cons (w ∷ ws) v vs off apart = ((λ e. off.0 (sym e), apart.0), Apart-cons ws v vs off.1 apart.1)

  pub Apart-sym : (ws vs : List (Change K X)) → Apart ws vs → Apart vs ws
  Apart-sym [] vs apart = Apart-nil vs
  Apart-sym (w ∷ ws) vs apart = Apart-cons vs w ws apart.0 (Apart-sym ws vs apart.1)

-- ---- one change

module _ {K X : Type 0} {R : K → K → Ordering} (o : IsKeyOrder R) where
  pub get-alter : (m : FinMap R X) (k : K) (f : Option X → Option X) (q : K) → get (alter m k f) q ≡ cond (eq_by_cmp R q k) (f (get m q)) (get m q)
  unfolding alter
  get-alter m k f q = get-put o m k (f (get m k)) q ∙ go (eq_by_cmp R q k) refl
    where
      go : (b : Bool) → eq_by_cmp R q k ≡ b → cond b (f (get m k)) (get m q) ≡ cond b (f (get m q)) (get m q)
      go true e = ap (λ z. f (get m z)) (sym (tie o q k e))
      go false e = refl

  pub alter_here : (m : FinMap R X) (k : K) (f : Option X → Option X) → get (alter m k f) k ≡ f (get m k)
  unfolding alter
  alter_here m k f = put_here o m k (f (get m k))

  pub alter_there : (m : FinMap R X) (k : K) (f : Option X → Option X) (q : K) → (q ≢ k) → get (alter m k f) q ≡ get m q
  unfolding alter
  alter_there m k f q n = put_there o m k (f (get m k)) q n

  -- a change counts only at what the map has there
  pub alter_alike : (m : FinMap R X) (k : K) (f g : Option X → Option X) → f (get m k) ≡ g (get m k) → alter m k f ≡ alter m k g
  unfolding alter
  alter_alike m k f g e = ap (put m k) e

  pub alter-put : (m : FinMap R X) (k : K) (f : Option X → Option X) (v : Option X) → f (get m k) ≡ v → alter m k f ≡ put m k v
  unfolding alter
  alter-put m k f v e = ap (put m k) e

  pub alter_same : (m : FinMap R X) (k : K) (f : Option X → Option X) → f (get m k) ≡ get m k → alter m k f ≡ m
  alter_same m k f e = alter-put m k f (get m k) e ∙ put_same o m k (get m k) refl

  -- two changes at one key are one
  pub alter_again : (m : FinMap R X) (k : K) (f g : Option X → Option X) → alter (alter m k g) k f ≡ alter m k (λ v. f (g v))
  alter_again m k f g =
      alter-put (alter m k g) k f (f (g (get m k))) (ap f (alter_here m k g)) ∙ ap (λ z. put z k (f (g (get m k)))) (alter-put m k g (g (get m k)) refl)
      ∙ put_again o m k (g (get m k)) (f (g (get m k))) ∙ sym (alter-put m k (λ v. f (g v)) (f (g (get m k))) refl)

  -- a change past what is put at another key
  pub alter_past_put : (m : FinMap R X) (c k : K) (f : Option X → Option X) (v : Option X) → (c ≢ k) → alter (put m k v) c f ≡ put (alter m c f) k v
  alter_past_put m c k f v n =
      alter-put (put m k v) c f (f (get m c)) (ap f (put_there o m k v c n)) ∙ put_swap o m k c v (f (get m c)) (λ e. n (sym e))
      ∙ ap (λ z. put z k v) (sym (alter-put m c f (f (get m c)) refl))

  -- two changes commute, if they do at what the map has where the keys are one
  pub alter_swap : (m : FinMap R X) (k j : K) (f g : Option X → Option X) → (k ≡ j → f (g (get m k)) ≡ g (f (get m k))) → alter (alter m j g) k f ≡ alter (alter m k f) j g
  alter_swap m k j f g meets = same o _ _ (λ q.
      get-alter (alter m j g) k f q ∙ ap (λ v. cond (eq_by_cmp R q k) (f v) v) (get-alter m j g q)
      ∙ go q (eq_by_cmp R q k) (eq_by_cmp R q j) refl refl
      ∙ sym (get-alter (alter m k f) j g q ∙ ap (λ v. cond (eq_by_cmp R q j) (g v) v) (get-alter m k f q)))
    where
      go : (q : K) (a b : Bool) → eq_by_cmp R q k ≡ a → eq_by_cmp R q j ≡ b
          → cond a (f (cond b (g (get m q)) (get m q))) (cond b (g (get m q)) (get m q)) ≡ cond b (g (cond a (f (get m q)) (get m q))) (cond a (f (get m q)) (get m q))
      go q true true e h = ap (λ z. f (g (get m z))) (tie o q k e) ∙ meets (sym (tie o q k e) ∙ tie o q j h) ∙ sym (ap (λ z. g (f (get m z))) (tie o q k e))
      go q true false e h = refl
      go q false true e h = refl
      go q false false e h = refl

  -- ---- lists of changes

  pub alters-append : (ws vs : List (Change K X)) (m : FinMap R X) → alters (ws ++ vs) m ≡ alters ws (alters vs m)
  alters-append [] vs m = refl
  alters-append (w ∷ ws) vs m = ap (λ z. alter z w.0 w.1) (alters-append ws vs m)

  pub alters_there : (ws : List (Change K X)) (m : FinMap R X) (q : K) → Off q ws → get (alters ws m) q ≡ get m q
  alters_there [] m q off = refl
  alters_there (w ∷ ws) m q off = alter_there (alters ws m) w.0 w.1 q off.0 ∙ alters_there ws m q off.1

  -- where one change alone is at the key, the key has what it gives
  pub alters_here : (ws vs : List (Change K X)) (k : K) (f : Option X → Option X) (m : FinMap R X) → Off k ws → Off k vs → get (alters (ws ++ (k, f) ∷ vs) m) k ≡ f (get m k)
  alters_here ws vs k f m before behind =
      ap (λ z. get z k) (alters-append ws ((k, f) ∷ vs) m) ∙ alters_there ws (alters ((k, f) ∷ vs) m) k before
      ∙ alter_here (alters vs m) k f ∙ ap f (alters_there vs m k behind)

  -- a change at a key that no change of the list has may be made before them
  pub alters_past : (vs : List (Change K X)) (m : FinMap R X) (k : K) (f : Option X → Option X) → Off k vs → alter (alters vs m) k f ≡ alters vs (alter m k f)
  alters_past [] m k f off = refl
  alters_past (v ∷ vs) m k f off = alter_swap (alters vs m) k v.0 f v.1 (λ e. absurd (off.0 e)) ∙ ap (λ z. alter z v.0 v.1) (alters_past vs m k f off.1)

  pub alters_swap : (ws vs : List (Change K X)) (m : FinMap R X) → Apart ws vs → alters ws (alters vs m) ≡ alters vs (alters ws m)
  alters_swap [] vs m apart = refl
  alters_swap (w ∷ ws) vs m apart = ap (λ z. alter z w.0 w.1) (alters_swap ws vs m apart.1) ∙ alters_past vs (alters ws m) w.0 w.1 apart.0

  -- changes of which no two are at one key: the one made last may be made first
  pub alters_turn : (w : Change K X) (ws : List (Change K X)) (m : FinMap R X) → EachOnce (w ∷ ws) → alters (w ∷ ws) m ≡ alters (ws ++ w ∷ []) m
  alters_turn w ws m once = alters_past ws m w.0 w.1 once.0 ∙ sym (alters-append ws (w ∷ []) m)
