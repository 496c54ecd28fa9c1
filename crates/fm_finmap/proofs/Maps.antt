-- Lists of entries, as an ordered map keeps them, and the finite maps of them.
use Rattle.std.proofs.Common.{Bor, ◌≡◌, Bool, true, false, cond, List, [], ◌∷◌, map, length, Option, Some, None, refl, sym, ap, subst, arith, ◌∙◌}
use Rattle.std.specs.Prelude.{T, ◌&&◌, IsSome, is_some}
use Rattle.std.specs.Option.{option_map, option_copied, MatchOption}
use Rattle.std.specs.FinMap as finite
use Rattle.std.specs.FinMap.{FinMap, find, is_sorted}
use Rattle.std.specs.FinMap.Entries.{below_all}
use Rattle.std.specs.Cmp.{IsTotalOrder, eq_by_cmp_equiv}
use Rattle.std.specs.Ordering.{eq_by_cmp, is_lt}
use Rattle.std.specs.BTreeMap.{is_at}
use Rattle.std.specs.Map.{lookup}
use Rattle.std.specs.List.{AllByRecursion}
use Rattle.std.specs.List.Sorted.{IsStrictlySortedBy}
use Rattle.std.specs.declared.cmp.Ordering.{Ordering}
use Rattle.std.specs.declared.cmp.Ordering.TheVariants.{Less}
use Rattle.fm_finmap.specs.Keys.{IsKeyOrder}
use Rattle.fm_finmap.specs.Map.{map_of, map_values}
use Rattle.fm_finmap.specs.Changes.{adjust}
use Rattle.fm_finmap.proofs.Keys.{same}
use Rattle.fm_finmap.proofs.Adjusts.{adjust-insert, adjust_absent}
use Rattle.fm_finmap.proofs.Inserts.{insert_same}

both : (a b : Bool) → T a → T b → T (a && b)
both true b p q = q
both false b p q = absurd p

no_length : {A : Type 0} (xs : List A) → length xs ≡ 0 → xs ≡ []
no_length [] e = refl
no_length (x ∷ xs) e = absurd (omega (arith, e))

module _ {K X : Type 0} (R : K → K → Ordering) where
  -- what the entries have at a key
  abbrev pub at : List (K × X) → K → Option X
  at es q = lookup (is_at (R q)) es

  pub find-lookup : (es : List (K × X)) (q : K) → find R q es ≡ at es q
  find-lookup [] q = refl
  find-lookup (e ∷ es) q = elim (is_at (R q) e.0) as (λ b. cond b (Some e.1) (find R q es) ≡ cond b (Some e.1) (at es q)) [
    | true ↦ refl
    | false ↦ find-lookup es q
  ]

  pub map_of-nil : (es : List (K × X)) → es ≡ [] → map_of R es ≡ finite.empty
  unfolding map_of
  map_of-nil es e = ap (λ fs. finite.from_entries {R = R} fs) e

  -- entries in which one key has this, or nothing, and other keys have what they had
  abbrev pub Puts : List (K × X) → List (K × X) → K → Option X → Type 0
  Puts es fs k v = (q : K) → at fs q ≡ cond (is_at (R k) q) v (at es q)

  below : (k : K) (es : List (K × X)) → AllByRecursion (λ y. R k y ≡ Less) (map (λ e. e.0) es) → T (below_all R k es)
  below k [] all = tt
  below k (e ∷ es) all = both (is_lt (R k e.0)) (below_all R k es) (subst (λ (r : Ordering). T (is_lt r)) (sym all.0) tt) (below k es all.1)

  in_order : (es : List (K × X)) → IsStrictlySortedBy R (map (λ e. e.0) es) → T (is_sorted R es)
  unfolding IsStrictlySortedBy
  in_order [] sorted = tt
  in_order (e ∷ es) sorted = both (below_all R e.0 es) (is_sorted R es) (below e.0 es sorted.0) (in_order es sorted.1)

module _ {K X : Type 0} {R : K → K → Ordering} (o : IsKeyOrder R) where
  pub get-map_of : (es : List (K × X)) (q : K) → finite.get (map_of R es) q ≡ at R es q
  unfolding map_of
  get-map_of es q = finite.get-from_entries o.total es q ∙ find-lookup R es q

  -- what the finite map has where the entries have it
  pub get_at : (es fs : List (K × X)) (q : K) (v : Option X) → es ≡ fs → v ≡ at R es q → v ≡ finite.get (map_of R fs) q
  get_at es fs q v e is = is ∙ sym (get-map_of es q) ∙ ap (λ gs. finite.get (map_of R gs) q) e

  pub some_at : (es fs : List (K × X)) (q : K) → es ≡ fs → is_some (at R es q) ≡ finite.contains_key (map_of R fs) q
  some_at es fs q e = ap is_some (get_at es fs q (at R es q) e refl)

  inserts : (es fs : List (K × X)) (k : K) (x : X) → Puts R es fs k (Some x) → map_of R fs ≡ finite.insert (map_of R es) k x
  inserts es fs k x puts = same o _ _ (λ q.
      get-map_of fs q ∙ puts q
      ∙ ap (λ (b : Bool). cond b (Some x) (at R es q)) ((eq_by_cmp_equiv o.total).symm k q)
      ∙ sym (finite.get-insert o.total (map_of R es) k x q ∙ ap (cond (eq_by_cmp R q k) (Some x)) (get-map_of es q)))

  pub map_of-insert : (es old fs : List (K × X)) (k : K) (x : X) → es ≡ old → Puts R es fs k (Some x) → map_of R fs ≡ finite.insert (map_of R old) k x
  map_of-insert es old fs k x e puts = inserts es fs k x puts ∙ ap (λ gs. finite.insert (map_of R gs) k x) e

  removes : (es fs : List (K × X)) (k : K) → Puts R es fs k None → map_of R fs ≡ finite.remove (map_of R es) k
  removes es fs k puts = same o _ _ (λ q.
      get-map_of fs q ∙ puts q
      ∙ ap (λ (b : Bool). cond b None (at R es q)) ((eq_by_cmp_equiv o.total).symm k q)
      ∙ sym (finite.get-remove o.total (map_of R es) k q ∙ ap (cond (eq_by_cmp R q k) None) (get-map_of es q)))

  pub map_of-remove : (es old fs : List (K × X)) (k : K) → es ≡ old → Puts R es fs k None → map_of R fs ≡ finite.remove (map_of R old) k
  map_of-remove es old fs k e puts = removes es fs k puts ∙ ap (λ gs. finite.remove (map_of R gs) k) e

  -- entries in the order of their keys are those of the finite map
  sorted_entries : (es : List (K × X)) → IsStrictlySortedBy R (map (λ e. e.0) es) → finite.entries (map_of R es) ≡ es
  unfolding map_of
  sorted_entries es sorted =
      let h = in_order R es sorted in
      ap finite.entries (same o (finite.from_entries es) (finite.from_sorted es) (λ q. finite.get-from_entries o.total es q ∙ sym (finite.get-from_sorted R es q h)))
      ∙ finite.entries-from_sorted R es h

  pub entries-map_of : (es old : List (K × X)) → es ≡ old → IsStrictlySortedBy R (map (λ e. e.0) es) → es ≡ finite.entries (map_of R old)
  entries-map_of es old e sorted = sym (sorted_entries es sorted) ∙ ap (λ fs. finite.entries (map_of R fs)) e

  pub len-map_of : (es old : List (K × X)) → es ≡ old → IsStrictlySortedBy R (map (λ e. e.0) es) → length es ≡ finite.len (map_of R old)
  len-map_of es old e sorted = ap length (entries-map_of es old e sorted) ∙ sym (finite.len-entries (map_of R old))

-- ---- values read through a function

-- the entries, each value read
abbrev read : {K X Y : Type 0} → (X → Y) → List (K × X) → List (K × Y)
read f es = map (λ e. (e.0, f e.1)) es

module _ {K X Y : Type 0} (R : K → K → Ordering) (f : X → Y) where
  read_below : (k : K) (es : List (K × X)) → T (below_all R k es) → T (below_all R k (read f es))
  read_below k [] h = tt
  read_below k (e ∷ es) h = go (is_lt (R k e.0)) (read_below k es) h
    where
      go : (b : Bool) → (T (below_all R k es) → T (below_all R k (read f es))) → T (b && below_all R k es) → T (b && below_all R k (read f es))
      go true rest p = rest p
      go false rest p = absurd p

  read_sorted : (es : List (K × X)) → T (is_sorted R es) → T (is_sorted R (read f es))
  read_sorted [] h = tt
  read_sorted (e ∷ es) h = go (below_all R e.0 es) (read_below e.0 es) (read_sorted es) h
    where
      go : (b : Bool) → (T b → T (below_all R e.0 (read f es))) → (T (is_sorted R es) → T (is_sorted R (read f es))) → T (b && is_sorted R es) → T (below_all R e.0 (read f es) && is_sorted R (read f es))
      go true p rest q = both _ _ (p tt) (rest q)
      go false p rest q = absurd q

  read_find : (q : K) (es : List (K × X)) → find R q (read f es) ≡ option_map f (find R q es)
  read_find q [] = refl
  read_find q (e ∷ es) = elim (eq_by_cmp R q e.0) as (λ b. cond b (Some (f e.1)) (find R q (read f es)) ≡ option_map f (cond b (Some e.1) (find R q es))) [
    | true ↦ refl
    | false ↦ read_find q es
  ]

module _ {K X Y : Type 0} {R : K → K → Ordering} (f : X → Y) where
  -- the entries are those of the map, each value read
  pub entries-map_values : (m : FinMap R X) → finite.entries (map_values f m) ≡ map (λ e. (e.0, f e.1)) (finite.entries m)
  unfolding map_values
  entries-map_values m = finite.entries-from_sorted R (read f (finite.entries m)) (read_sorted R f (finite.entries m) (finite.entries_sorted m))

  pub get-map_values : (m : FinMap R X) (q : K) → finite.get (map_values f m) q ≡ option_map f (finite.get m q)
  get-map_values m q =
      finite.get-entries (map_values f m) q ∙ ap (find R q) (entries-map_values m) ∙ read_find R f q (finite.entries m)
      ∙ ap (option_map f) (sym (finite.get-entries m q))

  pub map_values-empty : map_values f (finite.empty {R = R}) ≡ finite.empty
  map_values-empty =
      finite.empty_of_len _ (
      finite.len-entries (map_values f (finite.empty {R = R})) ∙ ap length (entries-map_values finite.empty)
      ∙ ap (λ es. length (read f es)) (no_length (finite.entries (finite.empty {X = X} {R = R})) (sym (finite.len-entries finite.empty) ∙ finite.len-empty R X)))

  module _ (o : IsKeyOrder R) where
    chosen : (b : Bool) (v w : Option X) → option_map f (cond b v w) ≡ cond b (option_map f v) (option_map f w)
    chosen true v w = refl
    chosen false v w = refl

    pub map_values-insert : (m : FinMap R X) (k : K) (x : X) → map_values f (finite.insert m k x) ≡ finite.insert (map_values f m) k (f x)
    map_values-insert m k x = same o _ _ (λ q.
        get-map_values (finite.insert m k x) q ∙ ap (option_map f) (finite.get-insert o.total m k x q)
        ∙ chosen (eq_by_cmp R q k) (Some x) (finite.get m q)
        ∙ ap (cond (eq_by_cmp R q k) (Some (f x))) (sym (get-map_values m q))
        ∙ sym (finite.get-insert o.total (map_values f m) k (f x) q))

    pub map_values-remove : (m : FinMap R X) (k : K) → map_values f (finite.remove m k) ≡ finite.remove (map_values f m) k
    map_values-remove m k = same o _ _ (λ q.
        get-map_values (finite.remove m k) q ∙ ap (option_map f) (finite.get-remove o.total m k q)
        ∙ chosen (eq_by_cmp R q k) None (finite.get m q)
        ∙ ap (cond (eq_by_cmp R q k) None) (sym (get-map_values m q))
        ∙ sym (finite.get-remove o.total (map_values f m) k q))

-- ---- what the answers of `Map` use

pub key_order : {K : Type 0} {R : K → K → Ordering} → IsTotalOrder R → finite.IsAntisymmetric R → IsKeyOrder R
key_order t e = record { total = t; exact = e }

-- a change through a lent value
pub lent_insert : {K X : Type 0} {R : K → K → Ordering} → IsKeyOrder R → (es old fs : List (K × X)) (k : K) (x : X) → es ≡ old → (IsSome (at R es k) → Puts R es fs k (Some x))
    → IsSome (finite.get (map_of R old) k) → map_of R fs ≡ finite.insert (map_of R old) k x
lent_insert {R = R} o es old fs k x e puts is =
    map_of-insert o es old fs k x e (puts (subst (λ (v : Option _). IsSome v) (sym (get_at o es old k (at R es k) e refl)) is))

-- values read through a function, after a change of one of them
module _ {K X Y : Type 0} {R : K → K → Ordering} (o : IsKeyOrder R) (f : X → Y) (m : FinMap R X) (k : K) where
  get_read : (v : Option X) → v ≡ finite.get m k → finite.get (map_values f m) k ≡ option_map f v
  get_read v is = get-map_values f m k ∙ ap (option_map f) (sym is)

  pub map_values-adjust : (h : Y → Y) (x y : X) → Some x ≡ finite.get m k → f y ≡ h (f x) → map_values f (finite.insert m k y) ≡ adjust (map_values f m) k h
  map_values-adjust h x y is e =
      map_values-insert f o m k y ∙ ap (finite.insert (map_values f m) k) e ∙ sym (adjust-insert o (map_values f m) k h (f x) (get_read (Some x) is))

  pub map_values-adjust_absent : (h : Y → Y) → None ≡ finite.get m k → map_values f m ≡ adjust (map_values f m) k h
  map_values-adjust_absent h is = sym (adjust_absent o (map_values f m) k h (get_read None is))

  -- a value that is read as the one before it changes nothing
  pub map_values-same : (x y : X) → Some x ≡ finite.get m k → f y ≡ f x → map_values f (finite.insert m k y) ≡ map_values f m
  map_values-same x y is e =
      map_values-insert f o m k y ∙ ap (finite.insert (map_values f m) k) e ∙ insert_same o (map_values f m) k (f x) (get_read (Some x) is)

-- what was lent is what is there
pub lent : {X : Type 0} (o : Option (Bor X)) (v : Option X) → option_copied o ≡ v → MatchOption o (v ≡ None) (λ (b : Bor X). v ≡ Some b.now)
lent None v is = sym is
lent (Some b) v is = sym is

-- and where it is read through a function, what that gives
module _ {X Y : Type 0} (f : X → Y) where
  pub lent_read : (o : Option (Bor X)) (v : Option X) → option_copied o ≡ v → MatchOption o (option_map f v ≡ None) (λ (b : Bor X). option_map f v ≡ Some (f b.now))
  lent_read None v is = ap (option_map f) (sym is)
  lent_read (Some b) v is = ap (option_map f) (sym is)
