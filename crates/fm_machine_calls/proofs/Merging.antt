-- Ports that go over others, one by one.
use Rattle.std.proofs.Common.{◌≡◌, ℕ, suc, ◌+◌, length, arith, length-append, ℤ, Bool, true, false, ◌&&◌, cond, List, [], ◌∷◌, ◌++◌, sym, ap, append_assoc, ◌∙◌}
use Rattle.fm_code.specs.Passing.{is_port, merged, displaced}

one_noted : (b : Bool) (noted rest : List ℤ) (x : ℤ) → (noted ++ cond b (x ∷ []) []) ++ rest ≡ noted ++ cond b (x ∷ rest) rest
one_noted true d rest x = append_assoc d (x ∷ []) rest
one_noted false d rest x = append_assoc d [] rest

pub one_merged : (ws ws' ms ms' ts ts' r : List ℤ) (o n w : ℤ) → ws ++ merged ms ts ≡ r → ms ≡ o ∷ ms' → ts ≡ n ∷ ts' → w ≡ cond (is_port n) n o → ws' ≡ ws ++ w ∷ [] → ws' ++ merged ms' ts' ≡ r
one_merged ws ws' ms ms' ts ts' r o n w e f g h i =
    ap (λ l. l ++ merged ms' ts') i ∙ (append_assoc ws (w ∷ []) (merged ms' ts') ∙ (ap (λ x. ws ++ (x ∷ merged ms' ts')) h ∙ (ap (λ l. ws ++ merged l (n ∷ ts')) (sym f) ∙ (ap (λ l. ws ++ merged ms l) (sym g) ∙ e))))

pub one_displaced : (ds ds' ms ms' ts ts' r : List ℤ) (o n : ℤ) → ds ++ displaced ms ts ≡ r → ms ≡ o ∷ ms' → ts ≡ n ∷ ts' → ds' ≡ ds ++ cond (is_port n && is_port o) (o ∷ []) [] → ds' ++ displaced ms' ts' ≡ r
one_displaced ds ds' ms ms' ts ts' r o n e f g i =
    ap (λ l. l ++ displaced ms' ts') i ∙ (one_noted (is_port n && is_port o) ds (displaced ms' ts') o ∙ (ap (λ l. ds ++ displaced l (n ∷ ts')) (sym f) ∙ (ap (λ l. ds ++ displaced ms l) (sym g) ∙ e)))

pub one_counted : (ws ws' ms ms' : List ℤ) (n : ℕ) (o w : ℤ) → length ws + length ms ≡ n → ms ≡ o ∷ ms' → ws' ≡ ws ++ w ∷ [] → length ws' + length ms' ≡ n
one_counted ws ws' ms ms' n o w e f i =
    let more : length ws' ≡ length ws + 1 = ap length i ∙ length-append ws (w ∷ []) in
    let less : length ms ≡ suc (length ms') = ap length f in
    omega (arith, e, more, less)

pub same_rest : (ms ms' ts ts' : List ℤ) (o n : ℤ) → length ms ≡ length ts → ms ≡ o ∷ ms' → ts ≡ n ∷ ts' → length ms' ≡ length ts'
same_rest ms ms' ts ts' o n e f g =
    let less : length ms ≡ suc (length ms') = ap length f in
    let short : length ts ≡ suc (length ts') = ap length g in
    omega (arith, e, less, short)
