-- The numbers of writers, which ascend.
use Rattle.std.proofs.Common.{◌≡◌, ℕ, zero, suc, ◌+◌, ◌<◌, ◌==◌, not, Bool, true, false, cond, List, [], ◌∷◌, ◌++◌, refl, sym, ap, arith, ◌∙◌}
use Rattle.std.proofs.lemmas.Bool.Decides.{nat_tests}
use Rattle.std.specs.Ordering.{nat_cmp, is_eq, match_ordering}
use Rattle.std.specs.Cmp.{ranked, nat_cmp_is}
use Rattle.std.specs.BTreeMap.{is_at}
use Rattle.std.specs.BTreeSet.{insert_key}
use Rattle.std.specs.Set.{remove_key}
use Rattle.std.specs.List.{AllByRecursion}
use Rattle.std.specs.List.Sorted.{IsStrictlySortedBy}
use Rattle.std.specs.declared.cmp.Ordering.{Ordering}
use Rattle.std.specs.declared.cmp.Ordering.TheVariants.{Less, Equal, Greater}
use Rattle.fm_base.specs.Channels.{numbers_from, without}

below_differs : (w x : ℕ) → w < x → (x == w) ≡ false
below_differs w x less = grind (arith, nat_tests)

above_differs : (w x : ℕ) → x < w → (x == w) ≡ false
above_differs w x less = grind (arith, nat_tests)

equals : (w x : ℕ) → w ≡ x → (x == w) ≡ true
equals w x e = grind (arith, nat_tests)

-- of numbers above w none is w
without-above : (w : ℕ) (xs : List ℕ) → AllByRecursion (λ y. nat_cmp w y ≡ Less) xs → without w xs ≡ xs
without-above w [] above = refl
without-above w (x ∷ xs) above =
    ap (λ b. cond (not b) (x ∷ without w xs) (without w xs)) (below_differs w x (ranked w x Less (sym above.0))) ∙ ap (λ ys. x ∷ ys) (without-above w xs above.1)

same_above : (w x : ℕ) (xs : List ℕ) → w ≡ x → AllByRecursion (λ y. nat_cmp x y ≡ Less) xs → without w xs ≡ xs
same_above w x xs e above = ap (λ v. without v xs) e ∙ without-above x xs above

other : (b : Bool) (w x : ℕ) (xs : List ℕ) → b ≡ false → cond (not b) (x ∷ without w xs) (without w xs) ≡ x ∷ without w xs
other true w x xs e = absurd (cc e)
other false w x xs e = refl

same : (b : Bool) (w x : ℕ) (xs : List ℕ) → b ≡ true → cond (not b) (x ∷ without w xs) (without w xs) ≡ without w xs
same true w x xs e = refl
same false w x xs e = absurd (cc e)

step : (w x : ℕ) (xs : List ℕ) (r : Ordering) → r ≡ nat_cmp w x → AllByRecursion (λ y. nat_cmp x y ≡ Less) xs → remove_key (is_at (nat_cmp w)) xs ≡ without w xs
    → cond (is_eq r) xs (x ∷ remove_key (is_at (nat_cmp w)) xs) ≡ cond (not (x == w)) (x ∷ without w xs) (without w xs)
step w x xs Less e above rest = ap (λ ys. x ∷ ys) rest ∙ sym (other (x == w) w x xs (below_differs w x (ranked w x Less e)))
step w x xs Equal e above rest = sym (same (x == w) w x xs (equals w x (ranked w x Equal e)) ∙ same_above w x xs (ranked w x Equal e) above)
step w x xs Greater e above rest = ap (λ ys. x ∷ ys) rest ∙ sym (other (x == w) w x xs (above_differs w x (ranked w x Greater e)))

-- the one writer goes
pub remove-without : (w : ℕ) (xs : List ℕ) → IsStrictlySortedBy nat_cmp xs → remove_key (is_at (nat_cmp w)) xs ≡ without w xs
unfolding IsStrictlySortedBy
remove-without w [] sorted = refl
remove-without w (x ∷ xs) sorted = step w x xs (nat_cmp w x) refl sorted.0 (remove-without w xs sorted.1)

-- a number above all comes last
insert-numbers : (i m : ℕ) → insert_key nat_cmp (numbers_from i m) (i + m) ≡ numbers_from i m ++ (i + m) ∷ []
insert-numbers i zero = refl
insert-numbers i (suc m) =
    let later : i + suc m ≡ suc i + m = omega arith in
    let behind : Greater ≡ nat_cmp (i + suc m) i = nat_cmp_is (i + suc m) i Greater (omega arith) in
    ap (λ r. match_ordering r ((i + suc m) ∷ i ∷ numbers_from (suc i) m) (i ∷ numbers_from (suc i) m) (i ∷ insert_key nat_cmp (numbers_from (suc i) m) (i + suc m))) (sym behind)
    ∙ ap (λ k. i ∷ insert_key nat_cmp (numbers_from (suc i) m) k) later
    ∙ ap (λ ns. i ∷ ns) (insert-numbers (suc i) m)
    ∙ ap (λ k. i ∷ (numbers_from (suc i) m ++ k ∷ [])) (sym later)

pub insert-next : (n : ℕ) → insert_key nat_cmp (numbers_from 0 n) n ≡ numbers_from 0 n ++ n ∷ []
insert-next n =
    let same_number : n ≡ 0 + n = omega arith in
    ap (insert_key nat_cmp (numbers_from 0 n)) same_number ∙ insert-numbers 0 n ∙ ap (λ k. numbers_from 0 n ++ k ∷ []) (sym same_number)
