-- Items of a list with those that stand before them, one after the other.
use Rattle.std.proofs.Common.{◌≡◌, ℕ, ◌+◌, Bool, true, false, cond, not, List, [], ◌∷◌, ◌++◌, map, take, length, refl, sym, ap, ◌∙◌, append_assoc, append-nil}
use Rattle.std.specs.Prelude.{filter}
use Rattle.std.specs.List.{enumerate_from, list_any}
use Rattle.std.proofs.lemmas.List.{length_push, take_at}
use Rattle.fm_rules.specs.declared.sheet.Occurrence.{Occurrence}
use Rattle.fm_rules.specs.Earlier.{with_earlier}
use Rattle.fm_rules.specs.Occurrences.{first_occurrences, is_first, is_of}

-- each item, with those that stand before it, the first of them behind others
abbrev pub behind : {X : Type 0} → List X → List X → List (List X × X)
behind before [] = []
behind before (x ∷ xs) = (before, x) ∷ behind (before ++ x ∷ []) xs

module _ {X : Type 0} where
  abbrev placed : List X → ℕ × X → List X × X
  placed xs at = (take at.0 xs, at.1)

  numbered_behind : (before xs : List X) (n : ℕ) → length before ≡ n → map (placed (before ++ xs)) (enumerate_from n xs) ≡ behind before xs
  numbered_behind before [] n e = refl
  numbered_behind before (x ∷ xs) n e =
      ap (λ (l : List X). (l, x) ∷ map (placed (before ++ x ∷ xs)) (enumerate_from (n + 1) xs)) (take_at before (x ∷ xs) n e)
      ∙ ap (λ (l : List X). (before, x) ∷ map (placed l) (enumerate_from (n + 1) xs)) (sym (append_assoc before (x ∷ []) xs))
      ∙ ap (λ (l : List (List X × X)). (before, x) ∷ l) (numbered_behind (before ++ x ∷ []) xs (n + 1) (length_push before x ∙ ap (λ k. k + 1) e))

  pub with_earlier_behind : (xs : List X) → with_earlier xs ≡ behind [] xs
  with_earlier_behind xs = numbered_behind [] xs 0 refl

  pub behind_append : (before xs ys : List X) → behind before (xs ++ ys) ≡ behind before xs ++ behind (before ++ xs) ys
  behind_append before [] ys = ap (λ l. behind l ys) (sym (append-nil before))
  behind_append before (x ∷ xs) ys =
      ap (λ l. (before, x) ∷ l) (behind_append (before ++ x ∷ []) xs ys ∙ ap (λ l. behind (before ++ x ∷ []) xs ++ behind l ys) (append_assoc before (x ∷ []) xs))

-- the first of each name that isn't among those before
abbrev pub firsts_behind : List Occurrence → List Occurrence → List Occurrence
firsts_behind before [] = []
firsts_behind before (o ∷ os) = cond (list_any (is_of o.name) before) (firsts_behind (before ++ o ∷ []) os) (o ∷ firsts_behind (before ++ o ∷ []) os)

abbrev second : List Occurrence × Occurrence → Occurrence
second at = at.1

chosen_behind : (before os : List Occurrence) → map second (filter is_first (behind before os)) ≡ firsts_behind before os
chosen_behind before [] = refl
chosen_behind before (o ∷ os) =
    go (list_any (is_of o.name) before) (filter is_first (behind (before ++ o ∷ []) os)) (firsts_behind (before ++ o ∷ []) os) (chosen_behind (before ++ o ∷ []) os)
  where
    go : (b : Bool) (ats : List (List Occurrence × Occurrence)) (rest : List Occurrence) → map second ats ≡ rest → map second (cond (not b) ((before, o) ∷ ats) ats) ≡ cond b rest (o ∷ rest)
    go true ats rest e = e
    go false ats rest e = ap (λ (l : List Occurrence). o ∷ l) e

pub first_occurrences_behind : (os : List Occurrence) → first_occurrences os ≡ firsts_behind [] os
first_occurrences_behind os =
    ap (λ (l : List (List Occurrence × Occurrence)). map second (filter is_first l)) (with_earlier_behind os) ∙ chosen_behind [] os
