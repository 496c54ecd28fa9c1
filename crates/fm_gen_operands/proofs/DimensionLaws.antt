-- Subscripts give way to the place of their element, or to the fault.
use Rattle.std.proofs.Common.{◌≡◌, ℕ, zero, suc, ◌+◌, ◌*◌, ◌<◌, ◌≤◌, Bool, true, false, ◌&&◌, ◌==◌, cond, Option, Some, None, List, [], ◌∷◌, ◌++◌, length, reverse, refl, sym, ap, subst, ◌∙◌, arith, pos, negsuc, ℤ, append_assoc, suc-mul, Ok, Err}
use Rattle.std.specs.Prelude.{nat_lt, ◌+ℤ◌, ◌-ℤ◌, ◌≤ℤ◌, ◌<ℤ◌, int_le, int_lt}
use Rattle.std.specs.Option.{ok_or}
use Rattle.std.proofs.lemmas.Int.{ints}
use Rattle.std.proofs.lemmas.Bool.Decides.{nat_tests}
use Rattle.std.proofs.lemmas.List.{reverse-append}
use Rattle.fm_base.specs.declared.fault.Fault.TheVariants.{Subscript}
use Rattle.fm_values.specs.Trips.{natural}
use Rattle.fm_values.specs.Values.{in_range, product, sum}
use Rattle.fm_values.specs.Places.{Bounds, extent, size, are_within, column_place, place_of, element_place}
use Rattle.fm_values.proofs.PlaceLaws.{place_below, unlike_lengths}
use Rattle.fm_symbols.specs.declared.names.Variable.{Variable}
use Rattle.fm_mean.specs.Evaluate.{is_array}
use Rattle.fm_code.specs.declared.body.Frame.{Frame}
use Rattle.fm_code.specs.declared.instr.Instr.{Instr}
use Rattle.fm_code.specs.declared.instr.Instr.TheVariants as instr
use Rattle.fm_code.specs.declared.instr.Eval.TheVariants as eval
use Rattle.fm_code.specs.declared.scratch.Scratch.{Scratch}
use Rattle.fm_code.specs.Acts.{StatementEnd, On, gives, distance, then_work, work, Fails}
use Rattle.fm_gen_operands.specs.Code.{dimension_code, dimensions_code, no_element, place_code}
use Rattle.fm_gen_operands.specs.Keeps.{then}

-- Tests of one subscript.

lt_true : (x y : ℤ) → int_lt x y ≡ true → x <ℤ y
lt_true x y e = grind (arith, ints)

lt_false : (x y : ℤ) → int_lt x y ≡ false → y ≤ℤ x
lt_false x y e = grind (arith, ints)

le_true : (x y : ℤ) → int_le x y ≡ true → x ≤ℤ y
le_true x y e = grind (arith, ints)

le_false : (x y : ℤ) → int_le x y ≡ false → y <ℤ x
le_false x y e = grind (arith, ints)

natural_pos : (z : ℤ) → pos 0 ≤ℤ z → z ≡ pos (natural z)
natural_pos (pos n) h = refl
natural_pos (negsuc n) h = absurd (omega (arith, ints, h))

-- below the extent from the lower bound on is not over the upper bound
below_extent : (low high x z : ℤ) → z ≡ (high -ℤ low) +ℤ pos 1 → low ≤ℤ x → (x -ℤ low) <ℤ pos (natural z) → x ≤ℤ high
below_extent low high x (pos n) e h k = omega (arith, ints, e, h, k)
below_extent low high x (negsuc n) e h k = absurd (omega (arith, ints, e, h, k))

not_below : (low high x z : ℤ) → z ≡ (high -ℤ low) +ℤ pos 1 → low ≤ℤ x → pos (natural z) ≤ℤ (x -ℤ low) → high <ℤ x
not_below low high x (pos n) e h k = omega (arith, ints, e, h, k)
not_below low high x (negsuc n) e h k = omega (arith, ints, e, h, k)

same_tests : (b : ℤ × ℤ) (x : ℤ) → b.0 ≤ℤ x → int_lt (x -ℤ b.0) (pos (extent b)) ≡ int_le x b.1
same_tests b x h = go (int_lt (x -ℤ b.0) (pos (extent b))) (int_le x b.1) refl refl
  where
    go : (c d : Bool) → int_lt (x -ℤ b.0) (pos (extent b)) ≡ c → int_le x b.1 ≡ d → c ≡ d
    go true true e f = refl
    go false false e f = refl
    go true false e f = absurd (omega (arith, ints, below_extent b.0 b.1 x ((b.1 -ℤ b.0) +ℤ pos 1) refl h (lt_true (x -ℤ b.0) (pos (extent b)) e), le_false x b.1 f))
    go false true e f = absurd (omega (arith, ints, not_below b.0 b.1 x ((b.1 -ℤ b.0) +ℤ pos 1) refl h (lt_false (x -ℤ b.0) (pos (extent b)) e), le_true x b.1 f))

abbrev is_in : ℤ × ℤ → ℤ → Bool
is_in b x = int_le b.0 x && int_le x b.1

-- a subscript as the code tests it
distance_is : (b : ℤ × ℤ) (x : ℤ) → distance b.0 (extent b) x ≡ cond (is_in b x) (Ok (pos (natural (x -ℤ b.0)))) (Err Subscript)
distance_is b x = go (int_le b.0 x) refl
  where
    go : (c : Bool) → int_le b.0 x ≡ c → cond (c && int_lt (x -ℤ b.0) (pos (extent b))) (Ok (x -ℤ b.0)) (Err Subscript) ≡ cond (c && int_le x b.1) (Ok (pos (natural (x -ℤ b.0)))) (Err Subscript)
    go false e = refl
    go true e =
        let h : b.0 ≤ℤ x = le_true b.0 x e in
        let up : pos 0 ≤ℤ (x -ℤ b.0) = omega (arith, ints, h) in
        λ i. cond (same_tests b x h i) (Ok (natural_pos (x -ℤ b.0) up i)) (Err Subscript)

-- Places.

element_is : (bs : Bounds) (xs : List ℤ) (w : Bool) → are_within bs xs ≡ w → element_place bs xs ≡ cond w (Ok (column_place bs xs)) (Err Subscript)
element_is bs xs true e = ap (λ t. ok_or (cond t (Some (column_place bs xs)) None) Subscript) e
element_is bs xs false e = ap (λ t. ok_or (cond t (Some (column_place bs xs)) None) Subscript) e

within_below : (bs : Bounds) (xs : List ℤ) → are_within bs xs ≡ true → column_place bs xs < size bs
within_below bs xs e = place_below bs xs (column_place bs xs) (ap (λ t. cond t (Some (column_place bs xs)) None) e)

-- an array has a dimension
pub array_some : (bs : Bounds) → is_array bs ≡ true → bs ≡ [] → ⊥
array_some [] e f = absurd (cc)
array_some (b ∷ bs) e f = absurd (cc)

-- an element stands among the elements
pub within_place : (bs : Bounds) (xs : List ℤ) (k : ℕ) → element_place bs xs ≡ Ok k → k < size bs
within_place bs xs k e = go (place_of bs xs) refl e
  where
    go : (o : Option ℕ) → place_of bs xs ≡ o → ok_or o Subscript ≡ Ok k → k < size bs
    go None f e = absurd (cc)
    go (Some j) f e = let same : j ≡ k = cc in subst (λ i. i < size bs) same (place_below bs xs j f)

small_range : (n : ℕ) → n ≤ 65536 → in_range (pos n) ≡ Ok (pos n)
small_range n h = grind (arith, nat_tests)

factor_small : (a b : ℕ) → 0 < a * b → (0 < b) × (b ≤ a * b)
factor_small zero b h = absurd (omega (arith, h))
factor_small (suc a) b h = (positive b h, omega (arith, suc-mul a b))
  where
    positive : (b : ℕ) → 0 < suc a * b → 0 < b
    positive zero h = absurd (omega (arith, h))
    positive (suc b) h = omega arith

pub reverse-cons : (x : ℤ) (xs stack : List ℤ) → reverse (x ∷ xs) ++ stack ≡ reverse xs ++ (x ∷ stack)
reverse-cons x xs stack = ap (λ l. l ++ stack) (reverse-append (x ∷ []) xs) ∙ append_assoc (reverse xs) (x ∷ []) stack

module _ (m : Frame) (b : Scratch) where
  -- one dimension alone
  one_follows : (d : ℤ × ℤ) (x : ℤ) (is : List Instr) (s : List ℤ) → work (dimension_code [] d ∷ is) (x ∷ s) b m ≡ then (element_place (d ∷ []) (x ∷ [])) (λ k. work is (pos k ∷ s) b m)
  one_follows d x is s =
      ap (λ r. then_work (gives r (λ d. On (d ∷ s) b)) (λ s b. work is s b m)) (distance_is d x) ∙ go (is_in d x) refl
    where
      go : (t : Bool) → is_in d x ≡ t
          → then_work (gives (cond t (Ok (pos (natural (x -ℤ d.0)))) (Err Subscript)) (λ d. On (d ∷ s) b)) (λ s b. work is s b m) ≡ then (element_place (d ∷ []) (x ∷ [])) (λ k. work is (pos k ∷ s) b m)
      go true e =
          let same : natural (x -ℤ d.0) ≡ natural (x -ℤ d.0) + extent d * 0 = omega arith in
          ap (λ n. work is (pos n ∷ s) b m) same ∙ sym (ap (λ r. then r (λ k. work is (pos k ∷ s) b m)) (element_is (d ∷ []) (x ∷ []) true (ap (λ t. t && true) e)))
      go false e = sym (ap (λ r. then r (λ k. work is (pos k ∷ s) b m)) (element_is (d ∷ []) (x ∷ []) false (ap (λ t. t && true) e)))

  -- one more dimension in front
  more_follows : (d : ℤ × ℤ) (ds : Bounds) (x : ℤ) (xs : List ℤ) → size (d ∷ ds) ≤ 65536 → (is : List Instr) (s : List ℤ)
      → then (element_place ds xs) (λ k. work (instr.Eval (eval.Dimension d.0 (extent d)) ∷ is) (pos k ∷ x ∷ s) b m) ≡ then (element_place (d ∷ ds) (x ∷ xs)) (λ k. work is (pos k ∷ s) b m)
  more_follows d ds x xs small is s = go (are_within ds xs) (is_in d x) refl refl
    where
      goes : ℕ → StatementEnd
      goes k = work is (pos k ∷ s) b m

      steps : ℕ → StatementEnd
      steps k = work (instr.Eval (eval.Dimension d.0 (extent d)) ∷ is) (pos k ∷ x ∷ s) b m

      go : (w t : Bool) → are_within ds xs ≡ w → is_in d x ≡ t
          → then (element_place ds xs) (λ k. work (instr.Eval (eval.Dimension d.0 (extent d)) ∷ is) (pos k ∷ x ∷ s) b m) ≡ then (element_place (d ∷ ds) (x ∷ xs)) (λ k. work is (pos k ∷ s) b m)
      go false t e f =
          ap (λ r. then r (λ k. work (instr.Eval (eval.Dimension d.0 (extent d)) ∷ is) (pos k ∷ x ∷ s) b m)) (element_is ds xs false e)
          ∙ sym (ap (λ r. then r (λ k. work is (pos k ∷ s) b m)) (element_is (d ∷ ds) (x ∷ xs) false (ap (λ w. is_in d x && w) e ∙ never (is_in d x))))
        where
          never : (t : Bool) → (t && false) ≡ false
          never true = refl
          never false = refl
      go true false e f =
          ap (λ r. then r (λ k. work (instr.Eval (eval.Dimension d.0 (extent d)) ∷ is) (pos k ∷ x ∷ s) b m)) (element_is ds xs true e)
          ∙ ap (λ r. then_work (gives r (λ n. gives (product (pos (extent d)) (pos (column_place ds xs))) (λ p. gives (sum n p) (λ n. On (n ∷ s) b)))) (λ s b. work is s b m))
          (distance_is d x ∙ ap (λ t. cond t (Ok (pos (natural (x -ℤ d.0)))) (Err Subscript)) f)
          ∙ sym (ap (λ r. then r (λ k. work is (pos k ∷ s) b m)) (element_is (d ∷ ds) (x ∷ xs) false (ap (λ t. t && are_within ds xs) f)))
      go true true e f =
          let both : are_within (d ∷ ds) (x ∷ xs) ≡ true = ap (λ t. t && are_within ds xs) f ∙ e in
          let less = within_below (d ∷ ds) (x ∷ xs) both in
          let n = natural (x -ℤ d.0) in
          let c = extent d * column_place ds xs in
          ap (λ r. then r (λ k. work (instr.Eval (eval.Dimension d.0 (extent d)) ∷ is) (pos k ∷ x ∷ s) b m)) (element_is ds xs true e)
          ∙ ap (λ r. then_work (gives r (λ n. gives (product (pos (extent d)) (pos (column_place ds xs))) (λ p. gives (sum n p) (λ n. On (n ∷ s) b)))) (λ s b. work is s b m))
          (distance_is d x ∙ ap (λ t. cond t (Ok (pos (natural (x -ℤ d.0)))) (Err Subscript)) f)
          ∙ ap (λ r. then_work (gives r (λ p. gives (sum (pos n) p) (λ n. On (n ∷ s) b))) (λ s b. work is s b m)) (small_range c (omega (arith, less, small)))
          ∙ ap (λ r. then_work (gives r (λ n. On (n ∷ s) b)) (λ s b. work is s b m)) (small_range (n + c) (omega (arith, less, small)))
          ∙ sym (ap (λ r. then r (λ k. work is (pos k ∷ s) b m)) (element_is (d ∷ ds) (x ∷ xs) true both))

  dimensions_follow : (d : ℤ × ℤ) (ds : Bounds) (xs : List ℤ) → length xs ≡ length (d ∷ ds) → 0 < size (d ∷ ds) → size (d ∷ ds) ≤ 65536 → (is : List Instr) (s : List ℤ)
      → work (dimensions_code (d ∷ ds) ++ is) (reverse xs ++ s) b m ≡ then (element_place (d ∷ ds) xs) (λ k. work is (pos k ∷ s) b m)
  dimensions_follow d [] [] e some small is s = absurd (omega (arith, e))
  dimensions_follow d [] (x ∷ []) e some small is s = one_follows d x is s
  dimensions_follow d [] (x ∷ y ∷ xs) e some small is s = absurd (omega (arith, e))
  dimensions_follow d (c ∷ ds) [] e some small is s = absurd (omega (arith, e))
  dimensions_follow d (c ∷ ds) (x ∷ xs) e some small is s =
      let less = factor_small (extent d) (size (c ∷ ds)) some in
      ap (λ l. work l (reverse (x ∷ xs) ++ s) b m) (append_assoc (dimensions_code (c ∷ ds)) (dimension_code (c ∷ ds) d ∷ []) is)
      ∙ ap (λ l. work (dimensions_code (c ∷ ds) ++ (dimension_code (c ∷ ds) d ∷ is)) l b m) (reverse-cons x xs s)
      ∙ dimensions_follow c ds xs (omega (arith, e)) less.0 (omega (arith, less.1, small)) (dimension_code (c ∷ ds) d ∷ is) (x ∷ s)
      ∙ more_follows d (c ∷ ds) x xs small is s

  no_element_follows : (is : List Instr) (s : List ℤ) → work (no_element ++ is) s b m ≡ Fails Subscript
  no_element_follows is s = refl

  -- the place of an element of a variable
  pub place_follows : (v : Variable) (n : ℕ) (xs : List ℤ) → (v.bounds ≡ [] → n ≡ 0 → ⊥) → v.words ≡ size v.bounds → size v.bounds ≤ 65536 → n ≡ length xs → (then_do is : List Instr) (s : List ℤ)
      → work (place_code v n then_do ++ is) (reverse xs ++ s) b m ≡ then (element_place v.bounds xs) (λ k. work (then_do ++ is) (pos k ∷ s) b m)
  place_follows v n xs array sized small count then_do is s = go (n == length v.bounds) (nat_lt 0 v.words) refl refl
    where
      whole : (bs : Bounds) → (bs ≡ [] → n ≡ 0 → ⊥) → length xs ≡ length bs → 0 < size bs → size bs ≤ 65536
          → work ((dimensions_code bs ++ then_do) ++ is) (reverse xs ++ s) b m ≡ then (element_place bs xs) (λ k. work (then_do ++ is) (pos k ∷ s) b m)
      whole [] a e some small = absurd (a refl (count ∙ e))
      whole (d ∷ ds) a e some small = ap (λ l. work l (reverse xs ++ s) b m) (append_assoc (dimensions_code (d ∷ ds)) then_do is) ∙ dimensions_follow d ds xs e some small (then_do ++ is) s

      none : are_within v.bounds xs ≡ false → Fails Subscript ≡ then (element_place v.bounds xs) (λ k. work (then_do ++ is) (pos k ∷ s) b m)
      none e = sym (ap (λ r. then r (λ k. work (then_do ++ is) (pos k ∷ s) b m)) (element_is v.bounds xs false e))

      empty : (w : Bool) → are_within v.bounds xs ≡ w → v.words ≡ 0 → are_within v.bounds xs ≡ false
      empty true e z = absurd (omega (arith, within_below v.bounds xs e, sized, z))
      empty false e z = e

      go : (c d : Bool) → (n == length v.bounds) ≡ c → nat_lt 0 v.words ≡ d
          → work (cond (c && d) (dimensions_code v.bounds ++ then_do) no_element ++ is) (reverse xs ++ s) b m ≡ then (element_place v.bounds xs) (λ k. work (then_do ++ is) (pos k ∷ s) b m)
      go false d e f = no_element_follows is (reverse xs ++ s) ∙ none (unlike_lengths v.bounds xs (λ same. unlike e (sym same)))
        where
          unlike : (n == length v.bounds) ≡ false → length xs ≡ length v.bounds → ⊥
          unlike e same = let z : n ≡ length v.bounds = count ∙ same in grind (arith, nat_tests)
      go true false e f = no_element_follows is (reverse xs ++ s) ∙ none (empty (are_within v.bounds xs) refl (grind (arith, nat_tests)))
      go true true e f =
          let same : n ≡ length v.bounds = grind (arith, nat_tests) in
          let some : 0 < v.words = grind (arith, nat_tests) in
          whole v.bounds array (sym count ∙ same) (omega (arith, some, sized)) small
