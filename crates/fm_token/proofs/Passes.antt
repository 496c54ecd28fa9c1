-- Top level and the parenthesis that closes, by what the code's pass counts.
use Rattle.std.proofs.Common.{◌≡◌, ℕ, suc, ◌+◌, ◌≤◌, ◌<◌, true, false, not, ◌&&◌, ◌||◌, Option, Some, List, [], ◌∷◌, ◌++◌, cond, length, arith, refl, sym, ap, ◌∙◌}
use Rattle.std.specs.Prelude.{find}
use Rattle.std.proofs.Math.Dec.{eqb}
use Rattle.std.specs.List.{list_any, count_by}
use Rattle.std.proofs.lemmas.List.Sums.{sum_by-append}
use Rattle.std.specs.Option.{option_map}
use Rattle.fm_base.specs.Positions.{Position, positions, positions_behind, is_inside}
use Rattle.fm_base.proofs.PositionLaws.{inside_push, positions_push}
use Rattle.fm_token.specs.declared.top_level.Before.{Before}
use Rattle.fm_token.specs.TopLevel.{stands_outside, count_outside, stands_at_top, has_top, closes_last, close_of}
use Rattle.fm_token.specs.Steps.{start, after_byte, has_top_behind, is_last_close, close_behind, one_if}

-- what a pass has counted behind these bytes
before_of : List ℕ → Before
before_of bytes = record { inside = is_inside bytes; opening = count_outside 40 bytes; closing = count_outside 41 bytes }

outside_push : (sign : ℕ) (bytes : List ℕ) (b : ℕ) → count_outside sign (bytes ++ b ∷ []) ≡ count_outside sign bytes + one_if ((eqb b sign) && not (is_inside bytes))
outside_push sign bytes b =
    let position : Position = record { before = bytes; byte = b } in
    let one : count_by (stands_outside sign) (positions bytes ++ position ∷ []) ≡ count_by (stands_outside sign) (positions bytes) + (0 + one_if (stands_outside sign position)) =
    sum_by-append (λ (x : Position). cond (stands_outside sign x) 1 0) (positions bytes) (position ∷ []) in
    ap (count_by (stands_outside sign)) (positions_push bytes b) ∙ omega (arith, one)

after_is : (bytes : List ℕ) (b : ℕ) → after_byte (before_of bytes) b ≡ before_of (bytes ++ b ∷ [])
unfolding before_of
after_is bytes b =
    let inside = inside_push bytes b in
    let opening = outside_push 40 bytes b in
    let closing = outside_push 41 bytes b in
    sym (λ i. record { inside = inside i; opening = opening i; closing = closing i })

top_behind : (sign : ℕ) (text bytes : List ℕ) → has_top_behind sign (before_of bytes) text ≡ list_any (stands_at_top sign) (positions_behind bytes text)
unfolding before_of
top_behind sign [] bytes = refl
top_behind sign (b ∷ bs) bytes =
    ap (λ x. stands_at_top sign (record { before = bytes; byte = b }) || x)
    (ap (λ (before : Before). has_top_behind sign before bs) (after_is bytes b) ∙ top_behind sign bs (bytes ++ b ∷ []))

pub top_by_steps : (sign : ℕ) (text : List ℕ) → has_top_behind sign start text ≡ has_top sign text
unfolding before_of
top_by_steps sign text = top_behind sign text []

-- up to and with this position
abbrev up_to : Option Position → Option ℕ
up_to found = option_map (λ (position : Position). length position.before + 1) found

length_push : (bytes : List ℕ) (b : ℕ) → length bytes + 1 ≡ length (bytes ++ b ∷ [])
length_push [] b = refl
length_push (x ∷ xs) b = omega (arith, length_push xs b)

close_is : (text bytes : List ℕ) (n : ℕ) → n ≡ length bytes → close_behind n (before_of bytes) text ≡ up_to (find closes_last (positions_behind bytes text))
unfolding before_of
close_is [] bytes n e = refl
close_is (b ∷ bs) bytes n e =
    elim (closes_last (record { before = bytes; byte = b })) as (λ t. cond t (Some (n + 1)) (close_behind (n + 1) (after_byte (before_of bytes) b) bs)
    ≡ up_to (cond t (Some (record { before = bytes; byte = b })) (find closes_last (positions_behind (bytes ++ b ∷ []) bs)))) [
      | true ↦ ap (λ (m : ℕ). Some (m + 1)) e
      | false ↦ ap (λ (before : Before). close_behind (n + 1) before bs) (after_is bytes b)
          ∙ close_is bs (bytes ++ b ∷ []) (n + 1) (ap (λ (m : ℕ). m + 1) e ∙ length_push bytes b)
    ]

pub close_by_steps : (text : List ℕ) → close_behind 0 start text ≡ close_of text
unfolding before_of
close_by_steps text = close_is text [] 0 refl

close_within_behind : (bs : List ℕ) (k : ℕ) (before : Before) (n : ℕ) → close_behind k before bs ≡ Some n → (k < n) × (n ≤ k + length bs)
close_within_behind [] k before n e = cc
close_within_behind (b ∷ bs) k before n e =
    elim (is_last_close before b) as (λ t. cond t (Some (k + 1)) (close_behind (k + 1) (after_byte before b) bs) ≡ Some n → (k < n) × (n ≤ k + suc (length bs))) [
      | true ↦ λ h. let is : k + 1 ≡ n = cc in (omega arith, omega arith)
      | false ↦ λ h. let w = close_within_behind bs (k + 1) (after_byte before b) n h in (omega (arith, w.0), omega (arith, w.1))
    ] e

pub close_within : (text : List ℕ) (n : ℕ) → close_of text ≡ Some n → (0 < n) × (n ≤ length text)
close_within text n e = let w = close_within_behind text 0 start n (close_by_steps text ∙ e) in (w.0, omega (arith, w.1))
