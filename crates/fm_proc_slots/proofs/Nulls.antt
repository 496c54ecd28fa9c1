-- Words that become NULL one after the other.
use Rattle.std.proofs.Common.{◌≡◌, ℕ, ◌+◌, ◌<◌, ℤ, pos, List, [], ◌∷◌, ◌++◌, length, take, drop, get_or, slice_set, sym, ap, ◌∙◌, arith, append_assoc, length-append, length-drop}
use Rattle.std.proofs.lemmas.List.{drop_more, length-replicate, length-take, take-append-drop}
use Rattle.std.proofs.lemmas.Grind.{replicate_next}
use Rattle.std.proofs.Math.Seq.{set-append_seam}
use Rattle.fm_code.specs.declared.code.Span.{Span}
use Rattle.fm_code.specs.Acts.{span_of}
use Rattle.fm_code.specs.Passing.{nulls, spliced}

-- a place of a span that the words have
pub within_span : (ws : List ℤ) (s : Span) (i : ℕ) → i < length (span_of ws s) → s.first + i < length ws
within_span ws s i low = omega (arith, low, length-take s.count (drop s.first ws), length-drop s.first ws)

pub null_none : (ws : List ℤ) (f : ℕ) → ws ≡ spliced ws f (nulls 0)
null_none ws f =
    let e : f ≡ f + length (nulls 0) = omega arith in
    sym (take-append-drop f ws) ∙ ap (λ (k : ℕ). take f ws ++ drop k ws) e

pub null_more : (ws : List ℤ) (f i : ℕ) → f + i < length ws → slice_set (spliced ws f (nulls i)) (f + i) (pos 0) ≡ spliced ws f (nulls (i + 1))
null_more ws f i low =
    let before = take f ws ++ nulls i in
    let behind = drop (f + i + 1) ws in
    let count : length (nulls i) ≡ i = length-replicate i (pos 0) in
    let more : length (nulls (i + 1)) ≡ i + 1 = length-replicate (i + 1) (pos 0) in
    let at : length before ≡ f + i = omega (arith, length-append (take f ws) (nulls i), length-take f ws, count) in
    let parts : spliced ws f (nulls i) ≡ before ++ get_or ws (f + i) (pos 0) ∷ behind =
    sym (append_assoc (take f ws) (nulls i) (drop (f + length (nulls i)) ws)) ∙ ap (λ (k : ℕ). before ++ drop (f + k) ws) count ∙ ap (λ (l : List ℤ). before ++ l) (drop_more ws (f + i) (pos 0) low) in
    let last : f + i + 1 ≡ f + length (nulls (i + 1)) = omega (arith, more) in
    ap (λ (l : List ℤ). slice_set l (f + i) (pos 0)) parts
    ∙ ap (λ (k : ℕ). slice_set (before ++ get_or ws (f + i) (pos 0) ∷ behind) k (pos 0)) (sym at)
    ∙ set-append_seam before (get_or ws (f + i) (pos 0)) behind (pos 0)
    ∙ append_assoc (take f ws) (nulls i) (pos 0 ∷ behind)
    ∙ ap (λ (l : List ℤ). take f ws ++ l) (sym (append_assoc (nulls i) (pos 0 ∷ []) behind))
    ∙ ap (λ (l : List ℤ). take f ws ++ (l ++ behind)) (sym (replicate_next i (pos 0)))
    ∙ ap (λ (k : ℕ). take f ws ++ (nulls (i + 1) ++ drop k ws)) last
