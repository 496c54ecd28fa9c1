-- What words of a frame weigh where some of them are laid over others.
use Rattle.std.proofs.Common.{◌≡◌, ℕ, zero, suc, ◌+◌, ◌≤◌, ◌<◌, ℤ, pos, Bool, true, false, cond, List, [], ◌∷◌, ◌++◌, length, take, drop, set, get_or, refl, sym, ap, ◌∙◌, arith}
use Rattle.std.proofs.lemmas.List.{take-append-drop, length-take, length-set, drop-set-lt, take-set-le}
use Rattle.std.proofs.Common.{length-append, length-drop}
use Rattle.std.proofs.Math.Seq.{drop-nil}
use Rattle.fm_code.specs.Passing.{is_port, live, nulls, spliced}
use Rattle.fm_code_preserves.specs.Weights.{weight, heavy, masked}

-- all words weigh
abbrev pub full : (ℤ → ℕ) → List ℤ → ℕ
full g [] = 0
full g (w ∷ ws) = heavy g w + full g ws

pub weight-append : (g : ℤ → ℕ) (xs ys : List ℤ) → weight g (xs ++ ys) ≡ weight g xs + weight g ys
weight-append g [] ys = omega arith
weight-append g (x ∷ xs) ys = omega (arith, weight-append g xs ys)

pub full-append : (g : ℤ → ℕ) (xs ys : List ℤ) → full g (xs ++ ys) ≡ full g xs + full g ys
full-append g [] ys = omega arith
full-append g (x ∷ xs) ys = omega (arith, full-append g xs ys)

-- the live words weigh what all do
pub live_weighs : (g : ℤ → ℕ) (ws : List ℤ) → weight g (live ws) ≡ full g ws
live_weighs g [] = refl
live_weighs g (w ∷ ws) = go (is_port w) (live_weighs g ws)
  where
    go : (b : Bool) → weight g (live ws) ≡ full g ws → weight g (cond b (w ∷ live ws) (live ws)) ≡ cond b (g w) 0 + full g ws
    go true h = omega (arith, h)
    go false h = omega (arith, h)

pub null_weighs : (g : ℤ → ℕ) → heavy g (pos 0) ≡ 0
null_weighs g = refl

pub nulls_weigh : (g : ℤ → ℕ) (n : ℕ) → full g (nulls n) ≡ 0
nulls_weigh g zero = refl
nulls_weigh g (suc n) = omega (arith, nulls_weigh g n, null_weighs g)

module _ (mask : ℕ → Bool) (g : ℤ → ℕ) where
  pub masked-append : (n : ℕ) (xs ys : List ℤ) → masked mask g n (xs ++ ys) ≡ masked mask g n xs + masked mask g (n + length xs) ys
  masked-append n [] ys = let e : n + 0 ≡ n = omega arith in omega (arith, ap (λ k. masked mask g k ys) e)
  masked-append n (x ∷ xs) ys =
      let e : suc n + length xs ≡ n + suc (length xs) = omega arith in
      omega (arith, masked-append (suc n) xs ys, ap (λ k. masked mask g k ys) e)

  pub masked_all : (n : ℕ) (ws : List ℤ) → ((k : ℕ) → n ≤ k → k < n + length ws → mask k ≡ true) → masked mask g n ws ≡ full g ws
  masked_all n [] h = refl
  masked_all n (w ∷ ws) h =
      let here : mask n ≡ true = h n (omega arith) (omega arith) in
      let more : masked mask g (suc n) ws ≡ full g ws = masked_all (suc n) ws (λ k low high. h k (omega arith) (omega arith)) in
      omega (arith, ap (λ (b : Bool). cond b (heavy g w) 0) here, more)

  pub masked_none : (n : ℕ) (ws : List ℤ) → ((k : ℕ) → n ≤ k → k < n + length ws → mask k ≡ false) → masked mask g n ws ≡ 0
  masked_none n [] h = refl
  masked_none n (w ∷ ws) h =
      let here : mask n ≡ false = h n (omega arith) (omega arith) in
      let more : masked mask g (suc n) ws ≡ 0 = masked_none (suc n) ws (λ k low high. h k (omega arith) (omega arith)) in
      omega (arith, ap (λ (b : Bool). cond b (heavy g w) 0) here, more)

  pub masked_small : (n : ℕ) (ws : List ℤ) → masked mask g n ws ≤ full g ws
  masked_small n [] = omega arith
  masked_small n (w ∷ ws) = go (mask n) (masked_small (suc n) ws)
    where
      go : (b : Bool) → masked mask g (suc n) ws ≤ full g ws → cond b (heavy g w) 0 + masked mask g (suc n) ws ≤ heavy g w + full g ws
      go true h = omega (arith, h)
      go false h = omega (arith, h)

  -- one word gives way to another
  pub masked_set : (n : ℕ) (ws : List ℤ) (k : ℕ) (v : ℤ) → k < length ws
      → masked mask g n (set ws k v) + cond (mask (n + k)) (heavy g (get_or ws k (pos 0))) 0 ≡ masked mask g n ws + cond (mask (n + k)) (heavy g v) 0
  masked_set n [] k v low = absurd (omega (arith, low))
  masked_set n (w ∷ ws) zero v low =
      let e : n + 0 ≡ n = omega arith in
      omega (arith, ap (λ k. cond (mask k) (heavy g w) 0) e, ap (λ k. cond (mask k) (heavy g v) 0) e)
  masked_set n (w ∷ ws) (suc k) v low =
      let e : suc n + k ≡ n + suc k = omega arith in
      let more = masked_set (suc n) ws k v (omega (arith, low)) in
      omega (arith, more, ap (λ k. cond (mask k) (heavy g v) 0) e, ap (λ j. cond (mask j) (heavy g (get_or ws k (pos 0))) 0) e)

  -- words before, between and behind
  parts : (n : ℕ) (xs ys zs : List ℤ) → masked mask g n (xs ++ (ys ++ zs)) ≡ masked mask g n xs + masked mask g (n + length xs) ys + masked mask g (n + length xs + length ys) zs
  parts n xs ys zs = omega (arith, masked-append n xs (ys ++ zs), masked-append (n + length xs) ys zs)

-- the words of a span that others are laid over
abbrev pub under : List ℤ → (at count : ℕ) → List ℤ
under ws at n = take n (drop at ws)

pub under_length : (ws : List ℤ) (at n : ℕ) → at + n ≤ length ws → length (under ws at n) ≡ n
under_length ws at n le = omega (arith, length-take n (drop at ws), length-drop at ws)

split_drop : (at n : ℕ) (ws : List ℤ) → drop n (drop at ws) ≡ drop (at + n) ws
split_drop zero n ws = let e : n ≡ zero + n = omega arith in ap (λ k. drop k ws) e
split_drop (suc at) n [] = drop-nil n ∙ sym (drop-nil (suc at + n))
split_drop (suc at) n (w ∷ ws) = let e : suc (at + n) ≡ suc at + n = omega arith in split_drop at n ws ∙ ap (λ k. drop k (w ∷ ws)) e

-- a span, and what is behind it
pub drop_two : (ws : List ℤ) (at n : ℕ) → under ws at n ++ drop (at + n) ws ≡ drop at ws
drop_two ws at n = ap (λ l. under ws at n ++ l) (sym (split_drop at n ws)) ∙ take-append-drop n (drop at ws)

pub in_three : (ws : List ℤ) (at n : ℕ) → take at ws ++ (under ws at n ++ drop (at + n) ws) ≡ ws
in_three ws at n =
    ap (λ l. take at ws ++ l) (drop_two ws at n) ∙ take-append-drop at ws

module _ (mask : ℕ → Bool) (g : ℤ → ℕ) (ws : List ℤ) (at : ℕ) (ns : List ℤ) (le : at + length ns ≤ length ws) where
  front : length (take at ws) ≡ at
  front = omega (arith, length-take at ws, le)

  laid : masked mask g 0 (spliced ws at ns) ≡ masked mask g 0 (take at ws) + masked mask g at ns + masked mask g (at + length ns) (drop (at + length ns) ws)
  laid =
      let e : 0 + length (take at ws) ≡ at = omega (arith, front) in
      parts mask g 0 (take at ws) ns (drop (at + length ns) ws)
      ∙ ap (λ k. masked mask g 0 (take at ws) + masked mask g k ns + masked mask g (k + length ns) (drop (at + length ns) ws)) e

  stood : masked mask g 0 ws ≡ masked mask g 0 (take at ws) + masked mask g at (under ws at (length ns)) + masked mask g (at + length ns) (drop (at + length ns) ws)
  stood =
      let e : 0 + length (take at ws) ≡ at = omega (arith, front) in
      let f : length (under ws at (length ns)) ≡ length ns = under_length ws at (length ns) le in
      ap (masked mask g 0) (sym (in_three ws at (length ns)))
      ∙ parts mask g 0 (take at ws) (under ws at (length ns)) (drop (at + length ns) ws)
      ∙ ap (λ k. masked mask g 0 (take at ws) + masked mask g k (under ws at (length ns)) + masked mask g (k + length (under ws at (length ns))) (drop (at + length ns) ws)) e
      ∙ ap (λ k. masked mask g 0 (take at ws) + masked mask g at (under ws at (length ns)) + masked mask g (at + k) (drop (at + length ns) ws)) f

  -- over port words
  pub over_ports : ((k : ℕ) → at ≤ k → k < at + length ns → mask k ≡ true) → masked mask g 0 (spliced ws at ns) + full g (under ws at (length ns)) ≡ masked mask g 0 ws + full g ns
  over_ports h =
      let f = under_length ws at (length ns) le in
      let new : masked mask g at ns ≡ full g ns = masked_all mask g at ns h in
      let old : masked mask g at (under ws at (length ns)) ≡ full g (under ws at (length ns)) = masked_all mask g at (under ws at (length ns)) (λ k low high. h k low (omega (arith, f, high))) in
      omega (arith, laid, stood, new, old)

  -- over others
  pub over_plain : ((k : ℕ) → at ≤ k → k < at + length ns → mask k ≡ false) → masked mask g 0 (spliced ws at ns) ≡ masked mask g 0 ws
  over_plain h =
      let f = under_length ws at (length ns) le in
      let new : masked mask g at ns ≡ 0 = masked_none mask g at ns h in
      let old : masked mask g at (under ws at (length ns)) ≡ 0 = masked_none mask g at (under ws at (length ns)) (λ k low high. h k low (omega (arith, f, high))) in
      omega (arith, laid, stood, new, old)

  pub over_length : length (spliced ws at ns) ≡ length ws
  over_length = omega (arith, length-append (take at ws) (ns ++ drop (at + length ns) ws), length-append ns (drop (at + length ns) ws), length-drop (at + length ns) ws, front, le)

-- two tests that tell the same words from a place on
pub masked_same : (mask other : ℕ → Bool) (g : ℤ → ℕ) (n : ℕ) (ws : List ℤ) → ((k : ℕ) → n ≤ k → mask k ≡ other k) → masked mask g n ws ≡ masked other g n ws
masked_same mask other g n [] h = refl
masked_same mask other g n (w ∷ ws) h =
    let here : mask n ≡ other n = h n (omega arith) in
    let more : masked mask g (suc n) ws ≡ masked other g (suc n) ws = masked_same mask other g (suc n) ws (λ k low. h k (omega (arith, low))) in
    omega (arith, ap (λ (b : Bool). cond b (heavy g w) 0) here, more)

-- ---- words laid over others, one after the other

spliced_next : (w : ℤ) (ws : List ℤ) (k : ℕ) (ns : List ℤ) → spliced (w ∷ ws) (suc k) ns ≡ w ∷ spliced ws k ns
spliced_next w ws k ns = let e : suc k + length ns ≡ suc (k + length ns) = omega arith in ap (λ m. w ∷ (take k ws ++ (ns ++ drop m (w ∷ ws)))) e

spliced_first : (w : ℤ) (ws : List ℤ) (n : ℤ) (ns : List ℤ) → spliced (w ∷ ws) 0 (n ∷ ns) ≡ n ∷ spliced ws 0 ns
spliced_first w ws n ns = let e : 0 + suc (length ns) ≡ suc (0 + length ns) = omega arith in ap (λ m. n ∷ (ns ++ drop m (w ∷ ws))) e

spliced_none : (ws : List ℤ) (k : ℕ) → spliced ws k [] ≡ ws
spliced_none ws k = let e : k + 0 ≡ k = omega arith in ap (λ m. take k ws ++ drop m ws) e ∙ take-append-drop k ws

pub spliced_more : (ws : List ℤ) (k : ℕ) (n : ℤ) (ns : List ℤ) → k < length ws → spliced ws k (n ∷ ns) ≡ spliced (set ws k n) (suc k) ns
spliced_more [] k n ns less = absurd (omega (arith, less))
spliced_more (w ∷ ws) zero n ns less = spliced_first w ws n ns ∙ sym (spliced_next n ws 0 ns)
spliced_more (w ∷ ws) (suc k) n ns less =
    spliced_next w ws k (n ∷ ns) ∙ ap (λ l. w ∷ l) (spliced_more ws k n ns (omega (arith, less))) ∙ sym (spliced_next w (set ws k n) (suc k) ns)

take-drop-set : (n f : ℕ) (ws : List ℤ) (k : ℕ) (w : ℤ) → f + n ≤ k → take n (drop f (set ws k w)) ≡ take n (drop f ws)
take-drop-set n zero ws k w le = take-set-le n ws k w (omega (arith, le))
take-drop-set n (suc f) [] k w le = refl
take-drop-set n (suc f) (x ∷ ws) zero w le = absurd (omega (arith, le))
take-drop-set n (suc f) (x ∷ ws) (suc k) w le = take-drop-set n f ws k w (omega (arith, le))

-- what stands before them, and behind
pub over_before : (ws : List ℤ) (k : ℕ) (ns : List ℤ) (j m : ℕ) → k + length ns ≤ length ws → j + m ≤ k → under (spliced ws k ns) j m ≡ under ws j m
over_before ws k [] j m le ahead = ap (λ l. take m (drop j l)) (spliced_none ws k)
over_before ws k (n ∷ ns) j m le ahead =
    ap (λ l. take m (drop j l)) (spliced_more ws k n ns (omega (arith, le)))
    ∙ over_before (set ws k n) (suc k) ns j m (omega (arith, le, length-set ws k n)) (omega (arith, ahead))
    ∙ take-drop-set m j ws k n ahead

pub over_behind : (ws : List ℤ) (k : ℕ) (ns : List ℤ) (j : ℕ) → k + length ns ≤ length ws → k + length ns ≤ j → drop j (spliced ws k ns) ≡ drop j ws
over_behind ws k [] j le past = ap (drop j) (spliced_none ws k)
over_behind ws k (n ∷ ns) j le past =
    ap (drop j) (spliced_more ws k n ns (omega (arith, le)))
    ∙ over_behind (set ws k n) (suc k) ns j (omega (arith, le, length-set ws k n)) (omega (arith, past))
    ∙ drop-set-lt j ws k n (omega (arith, past))

pub over_later : (ws : List ℤ) (k : ℕ) (ns : List ℤ) (j m : ℕ) → k + length ns ≤ length ws → k + length ns ≤ j → under (spliced ws k ns) j m ≡ under ws j m
over_later ws k ns j m le past = ap (take m) (over_behind ws k ns j le past)

-- ---- some of the words

pub some_weigh : (g : ℤ → ℕ) (ws : List ℤ) (at n : ℕ) → full g (under ws at n) ≤ full g ws
some_weigh g ws at n =
    let a : full g (take at ws) + full g (drop at ws) ≡ full g ws = sym (full-append g (take at ws) (drop at ws)) ∙ ap (full g) (take-append-drop at ws) in
    let b : full g (take n (drop at ws)) + full g (drop n (drop at ws)) ≡ full g (drop at ws) = sym (full-append g (take n (drop at ws)) (drop n (drop at ws))) ∙ ap (full g) (take-append-drop n (drop at ws)) in
    omega (arith, a, b)
