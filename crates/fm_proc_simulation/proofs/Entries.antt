-- What two maps with the same keys list, where each key has the same in both.
use Rattle.std.proofs.Common.{◌≡◌, ℕ, zero, Bool, true, false, T, ◌&&◌, Option, Some, None, option_map, is_some, List, [], ◌∷◌, ◌++◌, map, refl, sym, ap, ◌∙◌}
use Rattle.std.specs.List.{flat_map}
use Rattle.std.specs.FinMap.{FinMap, get, entries, entries_sorted, get-entries}
use Rattle.std.specs.FinMap.Entries.{find, is_sorted, below_all}
use Rattle.std.specs.declared.cmp.Ordering.{Ordering}
use Rattle.fm_finmap.specs.Keys.{IsKeyOrder}
use Rattle.fm_finmap.specs.Map.{map_values}
use Rattle.fm_finmap.proofs.Keys.{same}
use Rattle.fm_finmap.proofs.Entries.{find_first, find_later}
use Rattle.fm_finmap.proofs.Maps.{entries-map_values, get-map_values}

second : (a b : Bool) → T (a && b) → T b
second true b h = h
second false b h = absurd h

abbrev pub keys_of : {K X : Type 0} → List (K × X) → List K
keys_of es = map (λ e. e.0) es

-- Lists of entries.

read_keys : {K X Y : Type 0} (f : X → Y) (es : List (K × X)) → keys_of (map (λ (e : K × X). (e.0, f e.1)) es) ≡ keys_of es
read_keys f [] = refl
read_keys f (e ∷ es) = ap (λ l. e.0 ∷ l) (read_keys f es)

first_key : {K : Type 0} (a b : K) (js ks : List K) → a ∷ js ≡ b ∷ ks → (a ≡ b) × (js ≡ ks)
first_key a b js ks e = (cc, cc)

no_key : {K : Type 0} (b : K) (bs : List K) → ◌≡◌ {A = List K} [] (b ∷ bs) → ⊥
no_key b bs e = cc

module _ {K X Y Z : Type 0} {R : K → K → Ordering} (o : IsKeyOrder R) (f : K × X → List Z) (g : K × Y → List Z) where
  listed_alike : (es : List (K × X)) (ds : List (K × Y)) → T (is_sorted R es) → T (is_sorted R ds) → keys_of es ≡ keys_of ds
      → ((k : K) (x : X) (y : Y) → find R k es ≡ Some x → find R k ds ≡ Some y → f (k, x) ≡ g (k, y)) → flat_map f es ≡ flat_map g ds
  listed_alike [] [] sorted rising keys each = refl
  listed_alike [] (d ∷ ds) sorted rising keys each = absurd (no_key d.0 (keys_of ds) keys)
  listed_alike (e ∷ es) [] sorted rising keys each = absurd (no_key e.0 (keys_of es) (sym keys))
  listed_alike (e ∷ es) (d ∷ ds) sorted rising keys each =
      let parts = first_key e.0 d.0 (keys_of es) (keys_of ds) keys in
      let there : find R e.0 (d ∷ ds) ≡ Some d.1 = ap (λ k. find R k (d ∷ ds)) parts.0 ∙ find_first o d ds in
      let here : f e ≡ g d = each e.0 e.1 d.1 (find_first o e es) there ∙ ap (λ k. g (k, d.1)) parts.0 in
      let later = listed_alike es ds (second (below_all R e.0 es) (is_sorted R es) sorted) (second (below_all R d.0 ds) (is_sorted R ds) rising) parts.1
      (λ k x y is are. each k x y (find_later o e es sorted k x is) (find_later o d ds rising k y are)) in
      λ i. here i ++ later i

-- Maps.

abbrev mark : {Z : Type 0} → Z → ℕ
mark z = zero

module _ {K X Y : Type 0} {R : K → K → Ordering} (o : IsKeyOrder R) (m : FinMap R X) (n : FinMap R Y) (there : (k : K) → is_some (get m k) ≡ is_some (get n k)) where
  both : (v : Option X) (w : Option Y) → is_some v ≡ is_some w → option_map mark v ≡ option_map mark w
  both None None e = refl
  both None (Some y) e = absurd (cc)
  both (Some x) None e = absurd (cc)
  both (Some x) (Some y) e = refl

  marks : map_values (mark {Z = X}) m ≡ map_values (mark {Z = Y}) n
  marks = same o (map_values mark m) (map_values mark n) (λ k. get-map_values mark m k ∙ both (get m k) (get n k) (there k) ∙ sym (get-map_values mark n k))

  same_keys : keys_of (entries m) ≡ keys_of (entries n)
  same_keys =
      sym (read_keys mark (entries m)) ∙ ap keys_of (sym (entries-map_values mark m) ∙ ap entries marks ∙ entries-map_values mark n) ∙ read_keys mark (entries n)

  pub lists_alike : {Z : Type 0} (f : K × X → List Z) (g : K × Y → List Z) → ((k : K) (x : X) (y : Y) → get m k ≡ Some x → get n k ≡ Some y → f (k, x) ≡ g (k, y))
      → flat_map f (entries m) ≡ flat_map g (entries n)
  lists_alike f g each =
      listed_alike o f g (entries m) (entries n) (entries_sorted m) (entries_sorted n) same_keys
      (λ k x y is are. each k x y (get-entries m k ∙ is) (get-entries n k ∙ are))
