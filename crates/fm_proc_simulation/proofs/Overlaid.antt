-- Words laid over a span: what stands before it, in it and behind it; and variables that lie behind it.
use Rattle.std.proofs.Common.{◌≡◌, ℕ, zero, suc, ◌+◌, ◌≤◌, ℤ, Bool, true, false, cond, List, [], ◌∷◌, ◌++◌, length, take, drop, set, refl, ap, ◌∙◌, arith}
use Rattle.std.specs.List.{flat_map}
use Rattle.std.proofs.lemmas.List.{take-set-le, drop-set-lt, length-set, length-take}
use Rattle.std.proofs.Math.Seq.{drop-append_seam, take-append_seam}
use Rattle.fm_symbols.specs.declared.names.Variable.{Variable}
use Rattle.fm_mean.specs.Layout.{AreLaidOut}
use Rattle.fm_code.specs.Acts.{span_of as words_at}
use Rattle.fm_code.specs.Passing.{spliced}
use Rattle.fm_gen_relation.specs.Sound.{is_word}
use Rattle.fm_gen_relation.specs.Standing.{Slots, item_by, values_in}
use Rattle.fm_gen_relation.specs.Formals.{span_of, ports_of}
use Rattle.fm_gen_relation.proofs.Spans.{spliced_none, spliced_more}

take-drop-set : (n f : ℕ) (ws : List ℤ) (k : ℕ) (w : ℤ) → f + n ≤ k → take n (drop f (set ws k w)) ≡ take n (drop f ws)
take-drop-set n zero ws k w le = take-set-le n ws k w (omega (arith, le))
take-drop-set n (suc f) [] k w le = refl
take-drop-set n (suc f) (x ∷ ws) zero w le = absurd (omega (arith, le))
take-drop-set n (suc f) (x ∷ ws) (suc k) w le = take-drop-set n f ws k w (omega (arith, le))

pub over_before : (ws : List ℤ) (k : ℕ) (ns : List ℤ) (j m : ℕ) → k + length ns ≤ length ws → j + m ≤ k → take m (drop j (spliced ws k ns)) ≡ take m (drop j ws)
over_before ws k [] j m le ahead = ap (λ l. take m (drop j l)) (spliced_none ws k)
over_before ws k (n ∷ ns) j m le ahead =
    ap (λ l. take m (drop j l)) (spliced_more ws k n ns (omega (arith, le)))
    ∙ over_before (set ws k n) (suc k) ns j m (omega (arith, le, length-set ws k n)) (omega (arith, ahead))
    ∙ take-drop-set m j ws k n ahead

pub over_behind : (ws : List ℤ) (k : ℕ) (ns : List ℤ) (j : ℕ) → k + length ns ≤ length ws → k + length ns ≤ j → drop j (spliced ws k ns) ≡ drop j ws
over_behind ws k [] j le past = ap (drop j) (spliced_none ws k)
over_behind ws k (n ∷ ns) j le past =
    ap (drop j) (spliced_more ws k n ns (omega (arith, le)))
    ∙ over_behind (set ws k n) (suc k) ns j (omega (arith, le, length-set ws k n)) (omega (arith, past))
    ∙ drop-set-lt j ws k n (omega (arith, past))

pub over_there : (ws : List ℤ) (k : ℕ) (ns : List ℤ) → k + length ns ≤ length ws → take (length ns) (drop k (spliced ws k ns)) ≡ ns
over_there ws k ns le =
    let rest = drop (k + length ns) ws in
    let e : k ≡ length (take k ws) = omega (arith, le, length-take k ws) in
    ap (λ i. take (length ns) (drop i (take k ws ++ (ns ++ rest)))) e ∙ ap (take (length ns)) (drop-append_seam (take k ws) (ns ++ rest)) ∙ take-append_seam ns rest

-- Variables behind.

-- all words from this one on are the same
abbrev pub SameBehind : ℕ → (ws others : List ℤ) → Type 0
SameBehind n ws others = (j : ℕ) → n ≤ j → drop j others ≡ drop j ws

pub spans_behind : (n : ℕ) (vs : List Variable) (ws others : List ℤ) → AreLaidOut n vs → SameBehind n ws others → flat_map (words_at others) (ports_of vs) ≡ flat_map (words_at ws) (ports_of vs)
spans_behind n [] ws others laid same = refl
spans_behind n (v ∷ vs) ws others laid same = go (is_word v.kind) (spans_behind (n + v.words) vs ws others laid.1 (λ j le. same j (omega (arith, le))))
  where
    go : (b : Bool) → flat_map (words_at others) (ports_of vs) ≡ flat_map (words_at ws) (ports_of vs)
        → flat_map (words_at others) (cond b (ports_of vs) (span_of v ∷ ports_of vs)) ≡ flat_map (words_at ws) (cond b (ports_of vs) (span_of v ∷ ports_of vs))
    go true rest = rest
    go false rest = λ i. take v.words (same v.first (omega (arith, laid.0)) i) ++ rest i

pub values_behind : (slots : Slots) (n : ℕ) (vs : List Variable) (ws others : List ℤ) → AreLaidOut n vs → SameBehind n ws others → values_in slots vs others ≡ values_in slots vs ws
values_behind slots n [] ws others laid same = refl
values_behind slots n (v ∷ vs) ws others laid same =
    λ i. item_by slots v.kind (take v.words (same v.first (omega (arith, laid.0)) i)) ∷ values_behind slots (n + v.words) vs ws others laid.1 (λ j le. same j (omega (arith, le))) i
