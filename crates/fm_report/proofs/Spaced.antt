-- Texts with a blank between.
use Rattle.std.proofs.Common.{◌≡◌, ℕ, List, ◌∷◌, ◌++◌, map, ap, sym, ◌∙◌, append_assoc}
use Rattle.std.specs.Prelude.{codes}
use Rattle.std.specs.List.{flat_map}
use Rattle.std.proofs.lemmas.List.Folds.{flat_map-map}
use Rattle.fm_report.specs.Report.{spaced}

spaced_from : {X : Type 0} (f : X → List ℕ) (x : X) (xs : List X) → spaced (map f (x ∷ xs)) ≡ f x ++ flat_map (λ y. 32 ∷ f y) xs
spaced_from f x xs = ap (λ l. f x ++ l) (flat_map-map (λ u. codes " " ++ u) f xs)

-- the first text, and then the others
pub spaced_more : {X : Type 0} (f : X → List ℕ) (items : List X) (x : X) (xs : List X) (old first whole : List ℕ) → items ≡ x ∷ xs → first ≡ old ++ f x → whole ≡ first ++ flat_map (λ y. 32 ∷ f y) xs → whole ≡ old ++ spaced (map f items)
spaced_more f items x xs old first whole is e h =
    h ∙ ap (λ l. l ++ flat_map (λ y. 32 ∷ f y) xs) e ∙ append_assoc old (f x) (flat_map (λ y. 32 ∷ f y) xs)
    ∙ sym (ap (λ l. old ++ l) (spaced_from f x xs)) ∙ sym (ap (λ l. old ++ spaced (map f l)) is)
