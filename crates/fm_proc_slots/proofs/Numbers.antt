-- The numbers of words, seen from the last.
use Rattle.std.proofs.Common.{◌≡◌, ℕ, zero, suc, ◌+◌, List, [], ◌∷◌, ◌++◌, ap, sym, arith, append_assoc, ◌∙◌}
use Rattle.fm_proc_language.specs.Frames.{words_from}

last_word : (k n a : ℕ) → a ≡ k + n → words_from k (suc n) ≡ words_from k n ++ a ∷ []
last_word k zero a e =
    let first : k ≡ a = omega arith in
    ap (λ (x : ℕ). x ∷ []) first
last_word k (suc n) a e = ap (λ (l : List ℕ). k ∷ l) (last_word (suc k) n a (omega arith))

pub one_number : (ns ns' ms : List ℕ) (k n a : ℕ) → ns ≡ ms ++ words_from k n → ns' ≡ ns ++ a ∷ [] → a ≡ k + n → ns' ≡ ms ++ words_from k (n + 1)
one_number ns ns' ms k n a e f g =
    let next : suc n ≡ n + 1 = omega arith in
    f ∙ (ap (λ (l : List ℕ). l ++ a ∷ []) e ∙ (append_assoc ms (words_from k n) (a ∷ []) ∙ (ap (λ (l : List ℕ). ms ++ l) (sym (last_word k n a g)) ∙ ap (λ (x : ℕ). ms ++ words_from k x) next)))
