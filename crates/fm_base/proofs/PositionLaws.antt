-- One byte more before a position.
use Rattle.std.proofs.Common.{◌≡◌, ℕ, suc, Bool, true, false, not, cond, List, [], ◌∷◌, ◌++◌, refl, sym, ◌∙◌, ap, append_assoc}
use Rattle.std.proofs.Math.Dec.{eqb}
use Rattle.std.proofs.lemmas.List.{append-nil}
use Rattle.fm_base.specs.Positions.{Position, positions_behind, positions, apostrophes, is_odd, is_inside}

apostrophes_push : (before : List ℕ) (b : ℕ) → apostrophes (before ++ b ∷ []) ≡ cond (eqb b 39) (suc (apostrophes before)) (apostrophes before)
apostrophes_push [] b = refl
apostrophes_push (x ∷ xs) b = go (eqb x 39) (eqb b 39) (apostrophes_push xs b)
  where
    go : (s t : Bool) → apostrophes (xs ++ b ∷ []) ≡ cond t (suc (apostrophes xs)) (apostrophes xs)
        → cond s (suc (apostrophes (xs ++ b ∷ []))) (apostrophes (xs ++ b ∷ []))
        ≡ cond t (suc (cond s (suc (apostrophes xs)) (apostrophes xs))) (cond s (suc (apostrophes xs)) (apostrophes xs))
    go true true e = ap (λ (n : ℕ). suc n) e
    go true false e = ap (λ (n : ℕ). suc n) e
    go false true e = e
    go false false e = e

odd_cond : (t : Bool) (n : ℕ) → is_odd (cond t (suc n) n) ≡ cond t (not (is_odd n)) (is_odd n)
odd_cond true n = refl
odd_cond false n = refl

-- an apostrophe opens or closes a constant
pub inside_push : (before : List ℕ) (b : ℕ) → is_inside (before ++ b ∷ []) ≡ cond (eqb b 39) (not (is_inside before)) (is_inside before)
inside_push before b = ap is_odd (apostrophes_push before b) ∙ odd_cond (eqb b 39) (apostrophes before)

positions_push_behind : (before text : List ℕ) (b : ℕ) → positions_behind before (text ++ b ∷ []) ≡ positions_behind before text ++ record { before = before ++ text; byte = b } ∷ []
positions_push_behind before [] b = ap (λ (s : List ℕ). record { before = s; byte = b } ∷ []) (sym (append-nil before))
positions_push_behind before (x ∷ xs) b =
    ap (λ (ps : List Position). record { before = before; byte = x } ∷ ps)
    (positions_push_behind (before ++ x ∷ []) xs b
    ∙ ap (λ (s : List ℕ). positions_behind (before ++ x ∷ []) xs ++ record { before = s; byte = b } ∷ []) (append_assoc before (x ∷ []) xs))

-- the last position of a text
pub positions_push : (text : List ℕ) (b : ℕ) → positions (text ++ b ∷ []) ≡ positions text ++ record { before = text; byte = b } ∷ []
positions_push text b = positions_push_behind [] text b
