-- The least line of a walk over entries.
use Rattle.std.proofs.Common.{◌≡◌, ℕ, suc, zero, ◌⊎◌, inl, inr, ⊎_elim, Bool, true, false, Option, Some, None, List, [], ◌∷◌, ◌++◌, take, slice_get, refl, sym, ap, ◌∙◌, subst, append_assoc}
use Rattle.std.proofs.lemmas.List.{append-nil}
use Rattle.fm_base.specs.declared.name.Line.{Line}
use Rattle.fm_tree.specs.declared.program_unit.Entry.{Entry}
use Rattle.fm_rules.proofs.Lists.{some_same}
use Rattle.fm_call_graph.specs.Least.{lower_if}
use Rattle.fm_call_graph.proofs.Lowest.{IsLowest, lowest_if, lowest_same}

-- what is known goes on from entry to entry, and a test of it tells whether an entry counts
abbrev pub walk : {S : Type 0} → (test : S → Entry → Bool) (next : S → Entry → S) → S → Option Line → List Entry → Option Line
walk test next s best [] = best
walk test next s best (e ∷ es) = walk test next (next s e) (lower_if (test s e) best e.line) es

-- an entry at this line counts, by those before it
pub data HasOne (Counts : List Entry → Entry → Type 0) (before es : List Entry) (line : ℕ) : Type 0 where
  has_one : (k : ℕ) (e : Entry) → slice_get es k ≡ Some e → Counts (before ++ take k es) e → line ≡ e.line.0 → HasOne Counts before es line

-- the test is right for each entry of the body
pub record IsRight {S : Type 0} (body : List Entry) (test : S → Entry → Bool) (next : S → Entry → S) (Counts : List Entry → Entry → Type 0) (Knows : List Entry → S → Type 0) : Type 0 where
  pub more : (before : List Entry) (e : Entry) (s : S) → Knows before s → Knows (before ++ e ∷ []) (next s e)
  pub sound : (before rest : List Entry) (e : Entry) (s : S) → before ++ e ∷ rest ≡ body → Knows before s → test s e ≡ true → Counts before e
  pub whole : (before rest : List Entry) (e : Entry) (s : S) → before ++ e ∷ rest ≡ body → Knows before s → Counts before e → test s e ≡ true

module _ {S : Type 0} (body : List Entry) (test : S → Entry → Bool) (next : S → Entry → S) (Counts : List Entry → Entry → Type 0) (Knows : List Entry → S → Type 0) (right : IsRight body test next Counts Knows) where
  no_one : (before : List Entry) (line : ℕ) → HasOne Counts before [] line → ⊥
  no_one before line (has_one k e is t l) = absurd (cc is)

  abbrev Here : (ℕ → Type 0) → S → Entry → ℕ → Type 0
  Here P s e line = P line ⊎ ((test s e ≡ true) × (e.line.0 ≡ line))

  to_all : (P : ℕ → Type 0) (before es : List Entry) (e : Entry) (s : S) → before ++ e ∷ es ≡ body → Knows before s → (line : ℕ) → Here P s e line ⊎ HasOne Counts (before ++ e ∷ []) es line → P line ⊎ HasOne Counts before (e ∷ es) line
  to_all P before es e s is knows line (inl (inl p)) = inl p
  to_all P before es e s is knows line (inl (inr y)) = inr (has_one 0 e refl (subst (λ (b : List Entry). Counts b e) (sym (append-nil before)) (right.sound before es e s is knows y.0)) (sym y.1))
  to_all P before es e s is knows line (inr (has_one j d at t l)) = inr (has_one (suc j) d at (subst (λ (b : List Entry). Counts b d) (append_assoc before (e ∷ []) (take j es)) t) l)

  from_one : (P : ℕ → Type 0) (before es : List Entry) (e : Entry) (s : S) → before ++ e ∷ es ≡ body → Knows before s → (line j : ℕ) (d : Entry) → slice_get (e ∷ es) j ≡ Some d → Counts (before ++ take j (e ∷ es)) d → line ≡ d.line.0 → Here P s e line ⊎ HasOne Counts (before ++ e ∷ []) es line
  from_one P before es e s is knows line zero d at t l =
      let same : e ≡ d = some_same e d at in
      let counts : Counts before e = subst (λ (x : Entry). Counts before x) (sym same) (subst (λ (b : List Entry). Counts b d) (append-nil before) t) in
      inl (inr (right.whole before es e s is knows counts, ap (λ (x : Entry). x.line.0) same ∙ sym l))
  from_one P before es e s is knows line (suc j) d at t l = inr (has_one j d at (subst (λ (b : List Entry). Counts b d) (sym (append_assoc before (e ∷ []) (take j es))) t) l)

  from_all : (P : ℕ → Type 0) (before es : List Entry) (e : Entry) (s : S) → before ++ e ∷ es ≡ body → Knows before s → (line : ℕ) → P line ⊎ HasOne Counts before (e ∷ es) line → Here P s e line ⊎ HasOne Counts (before ++ e ∷ []) es line
  from_all P before es e s is knows line (inl p) = inl (inl p)
  from_all P before es e s is knows line (inr (has_one j d at t l)) = from_one P before es e s is knows line j d at t l

  pub lowest_walk : (P : ℕ → Type 0) (before es : List Entry) (s : S) (best : Option Line) → before ++ es ≡ body → Knows before s → IsLowest P best
      → IsLowest (λ line. P line ⊎ HasOne Counts before es line) (walk test next s best es)
  lowest_walk P before [] s best is knows h =
      lowest_same P (λ line. P line ⊎ HasOne Counts before [] line) (λ line x. inl x) (λ line x. ⊎_elim (λ (p : P line). p) (λ (y : HasOne Counts before [] line). absurd (no_one before line y)) x) best h
  lowest_walk P before (e ∷ es) s best is knows h =
      lowest_same (λ line. Here P s e line ⊎ HasOne Counts (before ++ e ∷ []) es line) (λ line. P line ⊎ HasOne Counts before (e ∷ es) line)
      (to_all P before es e s is knows) (from_all P before es e s is knows) (walk test next (next s e) (lower_if (test s e) best e.line) es)
      (lowest_walk (Here P s e) (before ++ e ∷ []) es (next s e) (lower_if (test s e) best e.line) (append_assoc before (e ∷ []) es ∙ is) (right.more before e s knows) (lowest_if P (test s e) best e.line h))
