-- What a pass over the names of a unit keeps is the first occurrence of each.
use Rattle.std.proofs.Common.{◌≡◌, ℕ, List, [], ◌∷◌, ◌++◌, ◌||◌, Bool, true, false, cond, refl, sym, ap, ◌∙◌, map, drop, length, get_or, append_assoc, append-nil, ◌<◌, ◌+◌}
use Rattle.std.specs.Prelude.{Some, None, is_some, if◌then◌else◌}
use Rattle.std.specs.List.{list_any}
use Rattle.std.proofs.lemmas.List.{drop_more, map-append}
use Rattle.std.proofs.lemmas.List.Folds.{list_any-append}
use Rattle.fm_base.specs.declared.name.Line.{Line}
use Rattle.fm_finmap.proofs.Keys.{nat_list_order, tie}
use Rattle.fm_finmap.specs.Table.{added, look_up}
use Rattle.fm_rules.specs.FunctionTitles.{same_name}
use Rattle.fm_rules.specs.declared.sheet.Occurrence.{Occurrence}
use Rattle.fm_rules.specs.Occurrences.{Names, first_occurrences, is_of, occurrence}
use Rattle.fm_rules.proofs.Earlier.{first_occurrences_behind, firsts_behind}
use Rattle.fm_names_used.specs.Seen.{Seen, occurrence_of, with_names, with_occurrences}

pub with_names_append : (line : Line) (s : Seen) (xs ys : Names) → with_names line s (xs ++ ys) ≡ with_names line (with_names line s xs) ys
with_names_append line s [] ys = refl
with_names_append line s (x ∷ xs) ys = with_names_append line (added s x line) xs ys

pub with_occurrences_append : (s : Seen) (xs ys : List Occurrence) → with_occurrences s (xs ++ ys) ≡ with_occurrences (with_occurrences s xs) ys
with_occurrences_append s [] ys = refl
with_occurrences_append s (x ∷ xs) ys = with_occurrences_append (added s x.name x.line) xs ys

-- the names of one statement
pub at_line : (line : Line) (s : Seen) (names : Names) → with_occurrences s (map (occurrence line) names) ≡ with_names line s names
at_line line s [] = refl
at_line line s (x ∷ xs) = at_line line (added s x line) xs

or-false : (b : Bool) → b ≡ (b || false)
or-false true = refl
or-false false = refl

or-one : (a b : Bool) → b ≡ true → b ≡ (b || (a || false))
or-one a true e = refl
or-one a false e = absurd (cc e)

-- the table has the names of these occurrences
abbrev Fits : Seen → List Occurrence → Type 0
Fits s before = (q : List ℕ) → is_some (look_up s q) ≡ list_any (is_of q) before

look_up_push : (q : List ℕ) (s : Seen) (name : List ℕ) (line : Line) → is_some (look_up (s ++ (name, line) ∷ []) q) ≡ (is_some (look_up s q) || (same_name q name || false))
look_up_push q [] name line = go (same_name q name)
  where
    go : (same : Bool) → is_some (cond same (Some line) None) ≡ (same || false)
    go true = refl
    go false = refl
look_up_push q (e ∷ s) name line = go (same_name q e.0) (look_up_push q s name line)
  where
    go : (same : Bool) → is_some (look_up (s ++ (name, line) ∷ []) q) ≡ (is_some (look_up s q) || (same_name q name || false)) → is_some (cond same (Some e.1) (look_up (s ++ (name, line) ∷ []) q)) ≡ (is_some (cond same (Some e.1) (look_up s q)) || (same_name q name || false))
    go true rest = refl
    go false rest = rest

module _ (o : Occurrence) (s : Seen) (before : List Occurrence) (fits : Fits s before) where
  abbrev met : Bool → Seen
  met known = if known then s else s ++ (o.name, o.line) ∷ []

  -- a name that is known
  one_known : (q : List ℕ) (same : Bool) → same_name q o.name ≡ same → is_some (look_up s o.name) ≡ true → list_any (is_of q) before ≡ (list_any (is_of q) before || (same || false))
  one_known q true e known = or-one true (list_any (is_of q) before) (ap (λ (n : List ℕ). list_any (is_of n) before) (tie nat_list_order q o.name e) ∙ sym (fits o.name) ∙ known)
  one_known q false e known = or-false (list_any (is_of q) before)

  still_fits : (known : Bool) → is_some (look_up s o.name) ≡ known → Fits (met known) (before ++ o ∷ [])
  still_fits true is q = fits q ∙ one_known q (same_name q o.name) refl is ∙ sym (list_any-append (is_of q) before (o ∷ []))
  still_fits false is q =
      look_up_push q s o.name o.line ∙ ap (λ (b : Bool). b || (same_name q o.name || false)) (fits q)
      ∙ sym (list_any-append (is_of q) before (o ∷ []))

  put_last : (known : Bool) (rest : List Occurrence) → known ≡ list_any (is_of o.name) before → map occurrence_of (met known) ++ rest ≡ map occurrence_of s ++ cond (list_any (is_of o.name) before) rest (o ∷ rest)
  put_last true rest e = ap (λ (b : Bool). map occurrence_of s ++ cond b rest (o ∷ rest)) e
  put_last false rest e =
      ap (λ (l : List Occurrence). l ++ rest) (map-append occurrence_of s ((o.name, o.line) ∷ []))
      ∙ append_assoc (map occurrence_of s) (o ∷ []) rest ∙ ap (λ (b : Bool). map occurrence_of s ++ cond b rest (o ∷ rest)) e

first_from : (s : Seen) (before os : List Occurrence) → Fits s before → map occurrence_of (with_occurrences s os) ≡ map occurrence_of s ++ firsts_behind before os
first_from s before [] fits = sym (append-nil (map occurrence_of s))
first_from s before (o ∷ os) fits =
    first_from (added s o.name o.line) (before ++ o ∷ []) os (still_fits o s before fits (is_some (look_up s o.name)) refl)
    ∙ put_last o s before fits (is_some (look_up s o.name)) (firsts_behind (before ++ o ∷ []) os) (fits o.name)

pub firsts : (os : List Occurrence) → map occurrence_of (with_occurrences [] os) ≡ first_occurrences os
firsts os = first_from [] [] os (λ q. refl) ∙ sym (first_occurrences_behind os)

-- the next item of a list
pub names_more : {X : Type 0} (f : X → Names) (g : List X → Names) → ((x : X) (xs : List X) → g (x ∷ xs) ≡ f x ++ g xs) → (line : Line) (xs : List X) (i : ℕ) (x : X) (n m whole : Seen)
    → i < length xs → x ≡ get_or xs i x → m ≡ with_names line n (f x) → with_names line n (g (drop i xs)) ≡ whole → with_names line m (g (drop (i + 1) xs)) ≡ whole
names_more f g cons line xs i x n m whole below is met rest =
    ap (λ s. with_names line s (g (drop (i + 1) xs))) met
    ∙ sym (with_names_append line n (f x) (g (drop (i + 1) xs)))
    ∙ ap (with_names line n) (sym (cons x (drop (i + 1) xs)) ∙ ap (λ y. g (y ∷ drop (i + 1) xs)) is ∙ ap g (sym (drop_more xs i x below)))
    ∙ rest

pub occurrences_more : {X : Type 0} (f : X → List Occurrence) (g : List X → List Occurrence) → ((x : X) (xs : List X) → g (x ∷ xs) ≡ f x ++ g xs) → (xs : List X) (i : ℕ) (x : X) (n m whole : Seen)
    → i < length xs → x ≡ get_or xs i x → m ≡ with_occurrences n (f x) → with_occurrences n (g (drop i xs)) ≡ whole → with_occurrences m (g (drop (i + 1) xs)) ≡ whole
occurrences_more f g cons xs i x n m whole below is met rest =
    ap (λ s. with_occurrences s (g (drop (i + 1) xs))) met
    ∙ sym (with_occurrences_append n (f x) (g (drop (i + 1) xs)))
    ∙ ap (with_occurrences n) (sym (cons x (drop (i + 1) xs)) ∙ ap (λ y. g (y ∷ drop (i + 1) xs)) is ∙ ap g (sym (drop_more xs i x below)))
    ∙ rest
