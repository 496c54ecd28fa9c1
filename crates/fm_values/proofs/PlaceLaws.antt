-- Places, found from the last dimension to the first, and held below 2^64.
use Rattle.std.proofs.Common.{◌≡◌, ◌⊎◌, ℕ, zero, suc, ◌+◌, ◌*◌, ◌-◌, ◌<◌, ◌≤◌, min, List, [], ◌∷◌, length, drop, get_or, Bool, true, false, ◌&&◌, cond, Option, Some, None, refl, sym, ap, subst, ◌∙◌, arith, pos, negsuc, ℤ, inl, inr, ⊎_elim, suc-mul, mul-suc, mul-le-mul_left, true≢false}
use Rattle.std.specs.Prelude.{unsigned_abs, ◌+ℤ◌, ◌-ℤ◌, ◌≤ℤ◌, int_le, int_lt}
use Rattle.std.specs.Option.{option_map}
use Rattle.std.proofs.lemmas.Int.{ints}
use Rattle.std.proofs.lemmas.Bool.{cases_lt}
use Rattle.std.proofs.lemmas.Option.{cond_some}
use Rattle.std.proofs.Math.Seq.{drop-cons, drop-length}
use Rattle.fm_values.specs.Trips.{natural}
use Rattle.fm_values.specs.Places.{Bounds, extent, size, are_within, column_place, place_of, at_most}

natural_abs : (z : ℤ) → pos 0 ≤ℤ z → natural z ≡ unsigned_abs z
natural_abs (pos n) h = refl
natural_abs (negsuc n) h = absurd (omega (arith, ints, h))

natural_next : (z : ℤ) → pos 0 ≤ℤ z → natural (z +ℤ pos 1) ≡ suc (unsigned_abs z)
natural_next (pos n) h = omega arith
natural_next (negsuc n) h = absurd (omega (arith, ints, h))

sums_held : (a b c : ℕ) → min (min (min a 18446744073709551615 + b) 18446744073709551615 + c) 18446744073709551615 ≡ min ((a + b) + c) 18446744073709551615
sums_held a b c = omega arith

-- one dimension more
pub in_front : (low high k : ℤ) (behind offset last a b r : ℕ) → low ≤ℤ k → k ≤ℤ high → offset ≡ unsigned_abs (k -ℤ low) → last ≡ unsigned_abs (high -ℤ low)
    → a ≡ min (last * behind) 18446744073709551615 → b ≡ min (a + behind) 18446744073709551615 → r ≡ min (b + offset) 18446744073709551615
    → r ≡ at_most (natural (k -ℤ low) + extent (low, high) * behind)
in_front low high k behind offset last a b r p q e f g h i =
    let d : natural (k -ℤ low) ≡ offset = natural_abs (k -ℤ low) (omega (arith, ints, p)) ∙ sym e in
    let w : extent (low, high) ≡ suc last = natural_next (high -ℤ low) (omega (arith, ints, p, q)) ∙ ap suc (sym f) in
    let m : extent (low, high) * behind ≡ last * behind + behind = ap (λ n. n * behind) w ∙ suc-mul last behind in
    omega (arith, d, m, g, h, i)

and_false : (t : Bool) → (t && false) ≡ false
and_false true = refl
and_false false = refl

-- a place that is held and multiplied
held : (x e y : ℕ) → 1 ≤ e → at_most (x + e * at_most y) ≡ at_most (x + e * y)
held x e y h =
    ⊎_elim
    (λ (l : y < 18446744073709551616). ap (λ n. at_most (x + e * n)) (omega (arith, l)))
    (λ (l : 18446744073709551616 ≤ y).
    let m : at_most y ≡ 18446744073709551615 = omega (arith, l) in
    let n : e * at_most y ≡ e * 18446744073709551615 = ap (λ j. e * j) m in
    omega (arith, n, times e 18446744073709551615 h, times e y h, l))
    (cases_lt y 18446744073709551616)
  where
    times : (e y : ℕ) → 1 ≤ e → y ≤ e * y
    times (suc e) y h = omega (arith, suc-mul e y)
    times zero y h = absurd (omega (arith, h))

extent_some : (b : ℤ × ℤ) (k : ℤ) → b.0 ≤ℤ k → k ≤ℤ b.1 → 1 ≤ extent b
extent_some b k p q = omega (arith, natural_next (b.1 -ℤ b.0) (omega (arith, ints, p, q)))

within_tests : (b : ℤ × ℤ) (k : ℤ) → b.0 ≤ℤ k → k ≤ℤ b.1 → (int_le b.0 k && int_le k b.1) ≡ true
within_tests b k p q = grind (arith, ints)

outside_tests : (b : ℤ × ℤ) (k : ℤ) → (int_lt k b.0 ≡ true) ⊎ (int_lt b.1 k ≡ true) → (int_le b.0 k && int_le k b.1) ≡ false
outside_tests b k (inl p) = grind (arith, ints)
outside_tests b k (inr q) = grind (arith, ints)

-- from one dimension on
front_of : {X : Type 0} (xs : List X) (i j : ℕ) (default : X) → i < length xs → j ≡ i + 1 → drop i xs ≡ get_or xs i default ∷ drop j xs
front_of xs i j default p f = let g : suc i ≡ j = omega (arith, f) in drop-cons xs i default p ∙ ap (λ n. get_or xs i default ∷ drop n xs) g

-- what is known of the dimensions from i on
pub record IsDone (bs : Bounds) (ks : List ℤ) (i place : ℕ) : Type 0 where
  pub inside : i ≤ length bs
  pub within : are_within (drop i bs) (drop i ks) ≡ true
  pub column : place ≡ at_most (column_place (drop i bs) (drop i ks))

pub none_done : (bs : Bounds) (ks : List ℤ) (i : ℕ) → length bs ≡ length ks → i ≡ length bs → IsDone bs ks i 0
none_done bs ks i e f = record {
  inside = omega (arith, f);
  within = ap (λ (xs : Bounds). are_within xs (drop i ks)) (drop_all bs i f) ∙ ap (are_within []) (drop_all ks i (f ∙ e));
  column = ap (λ (xs : Bounds). at_most (column_place xs (drop i ks))) (sym (drop_all bs i f));
}
  where
    drop_all : {X : Type 0} (xs : List X) (i : ℕ) → i ≡ length xs → drop i xs ≡ []
    drop_all xs i e = ap (λ n. drop n xs) e ∙ drop-length xs

-- the bounds and the subscript of a dimension
abbrev pub bounds_at : Bounds → ℕ → ℤ × ℤ
bounds_at bs i = get_or bs i (pos 0, pos 0)

abbrev pub subscript_at : List ℤ → ℕ → ℤ
subscript_at ks i = get_or ks i (pos 0)

next_down : (d : ℕ) → 0 < d → d ≡ (d - 1) + 1
next_down d p = omega (arith, p)

pub one_more : (bs : Bounds) (ks : List ℤ) (d place next : ℕ) → length bs ≡ length ks → 0 < d → IsDone bs ks d place
    → int_lt (subscript_at ks (d - 1)) (bounds_at bs (d - 1)).0 ≡ false → int_lt (bounds_at bs (d - 1)).1 (subscript_at ks (d - 1)) ≡ false
    → next ≡ at_most (natural (subscript_at ks (d - 1) -ℤ (bounds_at bs (d - 1)).0) + extent (bounds_at bs (d - 1)) * place) → IsDone bs ks (d - 1) next
one_more bs ks d place next e p done low high n =
    let b = bounds_at bs (d - 1) in
    let k = subscript_at ks (d - 1) in
    let down : b.0 ≤ℤ k = grind (arith, ints) in
    let up : k ≤ℤ b.1 = grind (arith, ints) in
    let x = front_of bs (d - 1) d (pos 0, pos 0) (omega (arith, done.inside, p)) (next_down d p) in
    let y = front_of ks (d - 1) d (pos 0) (omega (arith, done.inside, e, p)) (next_down d p) in
    record {
      inside = omega (arith, done.inside);
      within = (λ t. are_within (x t) (y t)) ∙ (λ t. within_tests b k down up t && done.within t);
      column =
          n ∙ ap (λ m. at_most (natural (k -ℤ b.0) + extent b * m)) done.column ∙ held (natural (k -ℤ b.0)) (extent b) (column_place (drop d bs) (drop d ks)) (extent_some b k down up)
          ∙ sym (λ t. at_most (column_place (x t) (y t)));
    }

-- no element
pub none_at : (bs : Bounds) (ks : List ℤ) → are_within bs ks ≡ false → None ≡ option_map at_most (place_of bs ks)
none_at bs ks h = sym (ap (λ t. option_map at_most (cond t (Some (column_place bs ks)) None)) h)

pub unlike_lengths : (bs : Bounds) (ks : List ℤ) → (length bs ≡ length ks → ⊥) → are_within bs ks ≡ false
unlike_lengths [] [] h = absurd (h refl)
unlike_lengths [] (k ∷ ks) h = refl
unlike_lengths (b ∷ bs) [] h = refl
unlike_lengths (b ∷ bs) (k ∷ ks) h = ap (λ t. (int_le b.0 k && int_le k b.1) && t) (unlike_lengths bs ks (λ e. h (ap suc e))) ∙ and_false (int_le b.0 k && int_le k b.1)

false_behind : (bs : Bounds) (ks : List ℤ) (i : ℕ) → are_within (drop i bs) (drop i ks) ≡ false → are_within bs ks ≡ false
false_behind bs ks zero h = h
false_behind [] [] (suc i) h = h
false_behind [] (k ∷ ks) (suc i) h = refl
false_behind (b ∷ bs) [] (suc i) h = refl
false_behind (b ∷ bs) (k ∷ ks) (suc i) h = ap (λ t. (int_le b.0 k && int_le k b.1) && t) (false_behind bs ks i h) ∙ and_false (int_le b.0 k && int_le k b.1)

pub outside_at : (bs : Bounds) (ks : List ℤ) (d place : ℕ) → length bs ≡ length ks → 0 < d → IsDone bs ks d place
    → (int_lt (subscript_at ks (d - 1)) (bounds_at bs (d - 1)).0 ≡ true) ⊎ (int_lt (bounds_at bs (d - 1)).1 (subscript_at ks (d - 1)) ≡ true) → None ≡ option_map at_most (place_of bs ks)
outside_at bs ks d place e p done o =
    let b = bounds_at bs (d - 1) in
    let k = subscript_at ks (d - 1) in
    let x = front_of bs (d - 1) d (pos 0, pos 0) (omega (arith, done.inside, p)) (next_down d p) in
    let y = front_of ks (d - 1) d (pos 0) (omega (arith, done.inside, e, p)) (next_down d p) in
    none_at bs ks (false_behind bs ks (d - 1) ((λ t. are_within (x t) (y t)) ∙ ap (λ t. t && are_within (drop d bs) (drop d ks)) (outside_tests b k o)))

pub all_done : (bs : Bounds) (ks : List ℤ) (i place : ℕ) → i ≡ 0 → IsDone bs ks i place → Some place ≡ option_map at_most (place_of bs ks)
all_done bs ks i place e d =
    let w : are_within bs ks ≡ true = subst (λ n. are_within (drop n bs) (drop n ks) ≡ true) e d.within in
    let c : place ≡ at_most (column_place bs ks) = subst (λ n. place ≡ at_most (column_place (drop n bs) (drop n ks))) e d.column in
    ap Some c ∙ sym (ap (λ t. option_map at_most (cond t (Some (column_place bs ks)) None)) w)

both_true : (a b : Bool) → (a && b) ≡ true → (a ≡ true) × (b ≡ true)
both_true true b e = (refl, e)
both_true false b e = cc

offset_below : (b : ℤ × ℤ) (k : ℤ) → (int_le b.0 k && int_le k b.1) ≡ true → natural (k -ℤ b.0) + 1 ≤ extent b
offset_below b k h =
    let p = both_true (int_le b.0 k) (int_le k b.1) h in
    let down : b.0 ≤ℤ k = let e = p.0 in grind (arith, ints) in
    let up : k ≤ℤ b.1 = let e = p.1 in grind (arith, ints) in
    let far : unsigned_abs (k -ℤ b.0) ≤ unsigned_abs (b.1 -ℤ b.0) = omega (arith, ints, down, up) in
    omega (arith, far, natural_abs (k -ℤ b.0) (omega (arith, ints, down)), natural_next (b.1 -ℤ b.0) (omega (arith, ints, down, up)))

column_below : (bs : Bounds) (ks : List ℤ) → are_within bs ks ≡ true → column_place bs ks + 1 ≤ size bs
column_below [] ks h = omega arith
column_below (b ∷ bs) [] h = absurd (false_is_true h)
  where
    false_is_true : false ≡ true → ⊥
    false_is_true e = true≢false (sym e)
column_below (b ∷ bs) (k ∷ ks) h =
    let p = both_true (int_le b.0 k && int_le k b.1) (are_within bs ks) h in
    let row : extent b * suc (column_place bs ks) ≤ extent b * size bs = mul-le-mul_left (extent b) (omega (arith, column_below bs ks p.1)) in
    omega (arith, row, mul-suc (extent b) (column_place bs ks), offset_below b k p.0)

-- an element stands among the elements
pub place_below : (bs : Bounds) (ks : List ℤ) (place : ℕ) → place_of bs ks ≡ Some place → place < size bs
place_below bs ks place e = let p = cond_some (are_within bs ks) (column_place bs ks) place e in omega (arith, column_below bs ks p.0, p.1)

-- the place itself, of an array of no more elements than 2^64
pub exact_place : (bs : Bounds) (ks : List ℤ) → size bs ≤ 18446744073709551616 → option_map at_most (place_of bs ks) ≡ place_of bs ks
exact_place bs ks h = exact (place_of bs ks) (λ place e. place_below bs ks place e)
  where
    exact : (o : Option ℕ) → ((place : ℕ) → o ≡ Some place → place < size bs) → option_map at_most o ≡ o
    exact None below = refl
    exact (Some place) below = let l = below place refl in ap Some (omega (arith, l, h))
