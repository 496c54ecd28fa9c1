-- The last of a list is the first of it in reverse.
use Rattle.std.proofs.Common.{◌≡◌, List, [], ◌∷◌, ◌++◌, reverse, ap, ◌∙◌}
use Rattle.std.proofs.lemmas.List.{reverse-append}

pub last_first : {A : Type 0} → (l xs : List A) (x : A) → l ≡ xs ++ x ∷ [] → reverse l ≡ x ∷ reverse xs
last_first l xs x e = ap reverse e ∙ reverse-append xs (x ∷ [])
