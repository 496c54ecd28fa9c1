-- Maps to which names are added one after the other.
use Rattle.std.proofs.Common.{◌≡◌, ℕ, ◌+◌, ◌<◌, List, ◌∷◌, ◌++◌, drop, length, get_or, sym, ap, ◌∙◌}
use Rattle.std.proofs.lemmas.List.{drop_more}
use Rattle.fm_symbols.specs.ByName.{ByName, with_all}
use Rattle.fm_symbols.proofs.Maps.{with_all_append}

-- the next item of a list, whose entries may depend on its place
pub all_more : {A V : Type 0} (f : ℕ → A → List (List ℕ × V)) (g : ℕ → List A → List (List ℕ × V)) → ((i : ℕ) (x : A) (xs : List A) → g i (x ∷ xs) ≡ f i x ++ g (i + 1) xs)
    → (xs : List A) (i : ℕ) (x : A) (n m whole : ByName V) → i < length xs → x ≡ get_or xs i x → m ≡ with_all n (f i x)
    → with_all n (g i (drop i xs)) ≡ whole → with_all m (g (i + 1) (drop (i + 1) xs)) ≡ whole
all_more f g cons xs i x n m whole below is more rest =
    ap (λ s. with_all s (g (i + 1) (drop (i + 1) xs))) more
    ∙ sym (with_all_append n (f i x) (g (i + 1) (drop (i + 1) xs)))
    ∙ ap (with_all n) (sym (cons i x (drop (i + 1) xs)) ∙ ap (λ y. g i (y ∷ drop (i + 1) xs)) is ∙ ap (g i) (sym (drop_more xs i x below)))
    ∙ rest
