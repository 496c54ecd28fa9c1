-- The first line of a text.
use Rattle.std.proofs.Common.{◌≡◌, ℕ, suc, zero, ◌<◌, true, false, List, [], ◌∷◌, length, take, drop, get_or, refl, ap, arith}
use Rattle.std.proofs.Math.Dec.{eqb}
use Rattle.std.proofs.lemmas.Bool.{eq-eqb, eqb-true}
use Rattle.fm_cards.specs.Lines.{lines, behind_byte}

pub lines_at : (bs : List ℕ) (i : ℕ) → ((k : ℕ) → k < i → get_or bs k 0 ≡ 10 → ⊥) → i < length bs → get_or bs i 0 ≡ 10 → lines bs ≡ take i bs ∷ lines (drop (suc i) bs)
lines_at [] i h l e = absurd (omega arith)
lines_at (b ∷ bs) zero h l e = rw (eq-eqb b 10 e) refl
lines_at (b ∷ bs) (suc i) h l e =
    (elim (eqb b 10) as (λ t. eqb b 10 ≡ t → lines (b ∷ bs) ≡ take (suc i) (b ∷ bs) ∷ lines (drop (suc (suc i)) (b ∷ bs))) [
      | true ↦ λ t. absurd (h 0 (omega arith) (eqb-true b 10 t))
      | false ↦ λ t. rw t (ap (behind_byte b) (lines_at bs i (λ k p. h (suc k) (omega arith)) (omega arith) e))
    ]) refl

pub lines_whole : (b : ℕ) (bs : List ℕ) → ((k : ℕ) → k < length (b ∷ bs) → get_or (b ∷ bs) k 0 ≡ 10 → ⊥) → lines (b ∷ bs) ≡ (b ∷ bs) ∷ []
lines_whole b [] h =
    (elim (eqb b 10) as (λ t. eqb b 10 ≡ t → lines (b ∷ []) ≡ (b ∷ []) ∷ []) [
      | true ↦ λ t. absurd (h 0 (omega arith) (eqb-true b 10 t))
      | false ↦ λ t. rw t refl
    ]) refl
lines_whole b (c ∷ bs) h =
    (elim (eqb b 10) as (λ t. eqb b 10 ≡ t → lines (b ∷ c ∷ bs) ≡ (b ∷ c ∷ bs) ∷ []) [
      | true ↦ λ t. absurd (h 0 (omega arith) (eqb-true b 10 t))
      | false ↦ λ t. rw t (ap (behind_byte b) (lines_whole c bs (λ k p. h (suc k) (omega arith))))
    ]) refl

pub lines_of_all : (bs : List ℕ) → ((k : ℕ) → k < length bs → get_or bs k 0 ≡ 10 → ⊥) → 0 < length bs → lines bs ≡ bs ∷ []
lines_of_all [] h p = absurd (omega arith)
lines_of_all (b ∷ bs) h p = lines_whole b bs h
