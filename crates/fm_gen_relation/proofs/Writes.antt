-- What a word put into a frame is to the values of the variables.
use Rattle.std.proofs.Common.{◌≡◌, ℕ, zero, suc, ◌+◌, ◌<◌, ◌≤◌, ℤ, true, false, Some, None, List, [], ◌∷◌, take, drop, set, slice_get, refl, sym, ap, ◌∙◌, arith}
use Rattle.std.proofs.lemmas.List.{take-set-le, drop-set-lt, drop-set-add}
use Rattle.fm_base.specs.Channels.{Words}
use Rattle.fm_tree.specs.declared.port_type.Kind.{Kind}
use Rattle.fm_tree.specs.declared.port_type.Kind.TheVariants as kind
use Rattle.fm_symbols.specs.declared.names.Variable.{Variable}
use Rattle.fm_mean.specs.Layout.{AreLaidOut}
use Rattle.fm_mean.specs.Places.{overwritten, item_written, written_from}
use Rattle.fm_gen_relation.specs.Standing.{Slots, item_by, item_in, values_in}
use Rattle.fm_gen_relation.specs.Sound.{is_word}

pub same_variable : (v w : Variable) → Some v ≡ Some w → v ≡ w
same_variable v w e = cc

overwritten_none : (ws : List ℤ) → overwritten ws 0 [] ≡ ws
overwritten_none [] = refl
overwritten_none (w ∷ ws) = refl

overwritten_one : (ws : List ℤ) (k : ℕ) (n : ℤ) → overwritten ws k (n ∷ []) ≡ set ws k n
overwritten_one [] k n = refl
overwritten_one (w ∷ ws) zero n = ap (λ l. n ∷ l) (overwritten_none ws)
overwritten_one (w ∷ ws) (suc k) n = ap (λ l. w ∷ l) (overwritten_one ws k n)

pub take-set-all : (n : ℕ) (ws : List ℤ) (e : ℕ) (w : ℤ) → take n (set ws e w) ≡ set (take n ws) e w
take-set-all zero ws e w = refl
take-set-all (suc n) [] e w = refl
take-set-all (suc n) (x ∷ ws) zero w = refl
take-set-all (suc n) (x ∷ ws) (suc e) w = ap (λ l. x ∷ l) (take-set-all n ws e w)

pub take-drop-set : (n f : ℕ) (ws : List ℤ) (k : ℕ) (w : ℤ) → f + n ≤ k → take n (drop f (set ws k w)) ≡ take n (drop f ws)
take-drop-set n zero ws k w le = take-set-le n ws k w (omega (arith, le))
take-drop-set n (suc f) [] k w le = refl
take-drop-set n (suc f) (x ∷ ws) zero w le = absurd (omega (arith, le))
take-drop-set n (suc f) (x ∷ ws) (suc k) w le = take-drop-set n f ws k w (omega (arith, le))

module _ (slots : Slots) where
  -- a word before a variable, and one behind it
  before : (ws : List ℤ) (v : Variable) (k : ℕ) (w : ℤ) → k < v.first → item_in slots (set ws k w) v ≡ item_in slots ws v
  before ws v k w less = ap (λ l. item_by slots v.kind (take v.words l)) (drop-set-lt v.first ws k w less)

  pub behind : (ws : List ℤ) (v : Variable) (k : ℕ) (w : ℤ) → v.first + v.words ≤ k → item_in slots (set ws k w) v ≡ item_in slots ws v
  behind ws v k w le = ap (item_by slots v.kind) (take-drop-set v.words v.first ws k w le)

  pub all_before : (n : ℕ) (vs : List Variable) (ws : List ℤ) (k : ℕ) (w : ℤ) → AreLaidOut n vs → k < n → values_in slots vs (set ws k w) ≡ values_in slots vs ws
  all_before n [] ws k w laid less = refl
  all_before n (v ∷ vs) ws k w laid less =
      ap (λ x. x ∷ values_in slots vs (set ws k w)) (before ws v k w (omega (arith, laid.0, less)))
      ∙ ap (λ l. item_in slots ws v ∷ l) (all_before (n + v.words) vs ws k w laid.1 (omega (arith, less)))

  pub begins_behind : (n : ℕ) (vs : List Variable) (i : ℕ) (v : Variable) → AreLaidOut n vs → slice_get vs i ≡ Some v → n ≤ v.first
  begins_behind n [] i v laid e = absurd (cc)
  begins_behind n (w ∷ vs) zero v laid e = omega (arith, laid.0, ap (λ (x : Variable). x.first) (same_variable w v e))
  begins_behind n (w ∷ vs) (suc i) v laid e = omega (arith, begins_behind (n + w.words) vs i v laid.1 e)

  written_by : (q : Kind) (ws : List ℤ) (k : ℕ) (w : ℤ) → is_word q ≡ true → item_by slots q (set ws k w) ≡ item_written (item_by slots q ws) k (w ∷ [])
  written_by kind.Integer ws k w e = ap Words (sym (overwritten_one ws k w))
  written_by kind.Logical ws k w e = ap Words (sym (overwritten_one ws k w))
  written_by (kind.In t) ws k w e = absurd (cc)
  written_by (kind.Out t) ws k w e = absurd (cc)

  -- a word at an element of a variable
  pub writes : (n : ℕ) (vs : List Variable) (ws : List ℤ) (i k : ℕ) (w : ℤ) (v : Variable) → AreLaidOut n vs → slice_get vs i ≡ Some v → is_word v.kind ≡ true → k < v.words
      → values_in slots vs (set ws (v.first + k) w) ≡ written_from (values_in slots vs ws) i k (w ∷ [])
  writes n [] ws i k w v laid e q less = absurd (cc)
  writes n (u ∷ vs) ws zero k w v laid e q less =
      let same : u ≡ v = same_variable u v e in
      ap (λ x. item_in slots (set ws (v.first + k) w) x ∷ values_in slots vs (set ws (v.first + k) w)) same
      ∙ ap (λ x. item_by slots v.kind x ∷ values_in slots vs (set ws (v.first + k) w)) (ap (take v.words) (drop-set-add v.first ws k w) ∙ take-set-all v.words (drop v.first ws) k w)
      ∙ ap (λ x. x ∷ values_in slots vs (set ws (v.first + k) w)) (written_by v.kind (take v.words (drop v.first ws)) k w q)
      ∙ ap (λ l. item_written (item_in slots ws v) k (w ∷ []) ∷ l)
      (all_before (n + u.words) vs ws (v.first + k) w laid.1 (omega (arith, laid.0, less, ap (λ (x : Variable). x.first) same, ap (λ (x : Variable). x.words) same)))
      ∙ ap (λ x. item_written (item_in slots ws x) k (w ∷ []) ∷ values_in slots vs ws) (sym same)
  writes n (u ∷ vs) ws (suc i) k w v laid e q less =
      let later = begins_behind (n + u.words) vs i v laid.1 e in
      ap (λ x. x ∷ values_in slots vs (set ws (v.first + k) w)) (behind ws u (v.first + k) w (omega (arith, laid.0, later)))
      ∙ ap (λ l. item_in slots ws u ∷ l) (writes (n + u.words) vs ws i k w v laid.1 e q less)

  -- a port, and a variable without words, stay as they are
  unwritten_by : (q : Kind) (ws : List ℤ) (k : ℕ) (w : ℤ) → is_word q ≡ false → item_written (item_by slots q ws) k (w ∷ []) ≡ item_by slots q ws
  unwritten_by kind.Integer ws k w e = absurd (cc)
  unwritten_by kind.Logical ws k w e = absurd (cc)
  unwritten_by (kind.In t) ws k w e = refl
  unwritten_by (kind.Out t) ws k w e = refl

  pub unwritten : (vs : List Variable) (ws : List ℤ) (i k : ℕ) (w : ℤ) (v : Variable) → slice_get vs i ≡ Some v → is_word v.kind ≡ false → written_from (values_in slots vs ws) i k (w ∷ []) ≡ values_in slots vs ws
  unwritten [] ws i k w v e q = absurd (cc)
  unwritten (u ∷ vs) ws zero k w v e q =
      let same : u ≡ v = same_variable u v e in
      ap (λ x. x ∷ values_in slots vs ws) (unwritten_by u.kind (take u.words (drop u.first ws)) k w (ap (λ (x : Variable). is_word x.kind) same ∙ q))
  unwritten (u ∷ vs) ws (suc i) k w v e q = ap (λ l. item_in slots ws u ∷ l) (unwritten vs ws i k w v e q)

  empty_by : (q : Kind) (ws : List ℤ) (w : ℤ) → item_written (item_by slots q (take 0 ws)) 0 (w ∷ []) ≡ item_by slots q (take 0 ws)
  empty_by kind.Integer ws w = refl
  empty_by kind.Logical ws w = refl
  empty_by (kind.In t) ws w = refl
  empty_by (kind.Out t) ws w = refl

  pub written_without : (vs : List Variable) (ws : List ℤ) (i : ℕ) (w : ℤ) (v : Variable) → slice_get vs i ≡ Some v → v.words ≡ 0 → written_from (values_in slots vs ws) i 0 (w ∷ []) ≡ values_in slots vs ws
  written_without [] ws i w v e z = absurd (cc)
  written_without (u ∷ vs) ws zero w v e z =
      let none : u.words ≡ 0 = ap (λ (x : Variable). x.words) (same_variable u v e) ∙ z in
      ap (λ n. item_written (item_by slots u.kind (take n (drop u.first ws))) 0 (w ∷ []) ∷ values_in slots vs ws) none
      ∙ ap (λ x. x ∷ values_in slots vs ws) (empty_by u.kind (drop u.first ws) w)
      ∙ ap (λ n. item_by slots u.kind (take n (drop u.first ws)) ∷ values_in slots vs ws) (sym none)
  written_without (u ∷ vs) ws (suc i) w v e z = ap (λ l. item_in slots ws u ∷ l) (written_without vs ws i w v e z)

  pub written_nowhere : (vs : List Variable) (ws : List ℤ) (i k : ℕ) (ns : List ℤ) → slice_get vs i ≡ None → written_from (values_in slots vs ws) i k ns ≡ values_in slots vs ws
  written_nowhere [] ws i k ns e = refl
  written_nowhere (v ∷ vs) ws zero k ns e = absurd (cc)
  written_nowhere (v ∷ vs) ws (suc i) k ns e = ap (λ l. item_in slots ws v ∷ l) (written_nowhere vs ws i k ns e)
