-- What a reader gives behind a line, with the lines that are left, is what it gives before it.
use Rattle.std.proofs.Common.{◌≡◌, ℕ, ◌+◌, Bool, true, false, not, cond, Option, Some, None, List, [], ◌∷◌, ◌++◌, map, take, drop, refl, sym, ◌∙◌, ap, append_assoc}
use Rattle.std.proofs.Math.Dec.{eqb}
use Rattle.std.proofs.lemmas.List.{append-nil}
use Rattle.std.specs.List.{flat_map}
use Rattle.fm_base.specs.declared.rule.Refusal.{Refusal}
use Rattle.fm_base.specs.declared.rule.Rule.TheVariants.{E05}
use Rattle.fm_base.specs.Positions.{positions_behind, is_inside}
use Rattle.fm_base.proofs.PositionLaws.{inside_push}
use Rattle.fm_base.specs.Verdict.{least_from, when, place}
use Rattle.fm_base.proofs.Least.{least_from_append}
use Rattle.fm_cards.specs.declared.card.Card.{Card}
use Rattle.fm_cards.specs.declared.reader.Started.{Started}
use Rattle.fm_cards.specs.declared.reader.Reader.{Reader}
use Rattle.fm_cards.specs.Lines.{columns_of, rows, is_comment, is_continuation, row_at, Row}
use Rattle.fm_cards.specs.Cards.{Parts, parts_of_rows, card_of, label_of, texts, squeezed_byte, squeezed_text}
use Rattle.fm_cards.specs.Broken.{in_initial, in_continuation, in_continuations, in_front, in_group}
use Rattle.fm_cards.specs.Scan.{squeezed_byte_if, squeezed_if, inside_after, after_end, started_at, after_initial, after_continuation, last_places, all_cards, all_places, after_row}

-- Squeezing by a flag, and by what stands before a byte.

squeezed_if-append : (b : Bool) (xs ys : List ℕ) → squeezed_if b (xs ++ ys) ≡ squeezed_if b xs ++ squeezed_if (inside_after b xs) ys
squeezed_if-append b [] ys = refl
squeezed_if-append b (x ∷ xs) ys =
    ap (λ (s : List ℕ). squeezed_byte_if b x ++ s) (squeezed_if-append (cond (eqb x 39) (not b) b) xs ys) ∙ sym (append_assoc (squeezed_byte_if b x) _ _)

inside_after-append : (b : Bool) (xs ys : List ℕ) → inside_after b (xs ++ ys) ≡ inside_after (inside_after b xs) ys
inside_after-append b [] ys = refl
inside_after-append b (x ∷ xs) ys = inside_after-append (cond (eqb x 39) (not b) b) xs ys

squeezed-behind : (bytes xs : List ℕ) → flat_map squeezed_byte (positions_behind bytes xs) ≡ squeezed_if (is_inside bytes) xs
squeezed-behind bytes [] = refl
squeezed-behind bytes (x ∷ xs) =
    ap (λ (s : List ℕ). squeezed_byte_if (is_inside bytes) x ++ s) (squeezed-behind (bytes ++ x ∷ []) xs ∙ ap (λ (b : Bool). squeezed_if b xs) (inside_push bytes x))

squeezed-if : (xs : List ℕ) → squeezed_text xs ≡ squeezed_if false xs
squeezed-if xs = squeezed-behind [] xs

inside_after-behind : (bytes xs : List ℕ) → inside_after (is_inside bytes) xs ≡ is_inside (bytes ++ xs)
inside_after-behind bytes [] = ap is_inside (sym (append-nil bytes))
inside_after-behind bytes (x ∷ xs) =
    ap (λ (b : Bool). inside_after b xs) (sym (inside_push bytes x)) ∙ inside_after-behind (bytes ++ x ∷ []) xs ∙ ap is_inside (append_assoc bytes (x ∷ []) xs)

inside-if : (xs : List ℕ) → is_inside xs ≡ inside_after false xs
inside-if xs = sym (inside_after-behind [] xs)

-- What a reader gives with the parts that are left.

abbrev Given : List Card × Option Refusal → List Card × Option Refusal → Type 0
Given x y = (x.0 ≡ y.0) × (x.1 ≡ y.1)

abbrev gives : Reader → Parts → List Card × Option Refusal
gives r parts = (all_cards r parts, all_places r parts)

abbrev with_row : Row → Parts → Parts
with_row row parts = record { front = row ∷ parts.front; groups = parts.groups }

abbrev with_group : Row → Parts → Parts
with_group row parts = record { front = []; groups = record { first = row; more = parts.front } ∷ parts.groups }

regroup : (a b c d : List Refusal) → a ++ ((b ++ c) ++ d) ≡ (a ++ b ++ c) ++ d
regroup a b c d = simp append_assoc

continuation_gives : (s : Option Started) (cards : List Card) (best : Option Refusal) (row : Row) (parts : Parts)
    → Given (gives (after_continuation (record { cards = cards; started = s; best = best }) row) parts) (gives (record { cards = cards; started = s; best = best }) (with_row row parts))
continuation_gives None cards best row parts =
    (refl, sym (least_from_append best (in_front row) (flat_map in_front parts.front ++ flat_map in_group parts.groups)) ∙ ap (least_from best) (sym (append_assoc (in_front row) (flat_map in_front parts.front) (flat_map in_group parts.groups))))
continuation_gives (Some o) cards best row parts =
    let x : List ℕ = drop 6 row.columns in
    let t : List ℕ = texts parts.front in (
      ap (λ (s : List ℕ). cards ++ record { line = o.card.line; label = o.card.label; text = s } ∷ map card_of parts.groups)
          (append_assoc o.card.text (squeezed_if o.inside x) (squeezed_if (inside_after o.inside x) t) ∙ ap (λ (s : List ℕ). o.card.text ++ s) (sym (squeezed_if-append o.inside x t))),
      sym (least_from_append best (in_continuation o.continuations row) _)
          ∙ ap (λ (b : Bool). least_from best (in_continuation o.continuations row ++ ((in_continuations (o.continuations + 1) parts.front ++ when b (place o.card.line.0 E05)) ++ flat_map in_group parts.groups))) (sym (inside_after-append o.inside x t))
          ∙ ap (least_from best) (regroup (in_continuation o.continuations row) (in_continuations (o.continuations + 1) parts.front) _ (flat_map in_group parts.groups)),
    )

initial_places : (best : Option Refusal) (row : Row) (parts : Parts)
    → least_from (least_from best (in_initial row)) (last_places (Some (started_at row)) parts.front ++ flat_map in_group parts.groups)
    ≡ least_from best (in_group (record { first = row; more = parts.front }) ++ flat_map in_group parts.groups)
initial_places best row parts =
    let x : List ℕ = drop 6 row.columns in
    let t : List ℕ = texts parts.front in
    sym (least_from_append best (in_initial row) _)
    ∙ ap (λ (b : Bool). least_from best (in_initial row ++ ((in_continuations 0 parts.front ++ when b (place row.line E05)) ++ flat_map in_group parts.groups)))
    (sym (inside_after-append false x t) ∙ sym (inside-if (x ++ t)))
    ∙ ap (least_from best) (regroup (in_initial row) (in_continuations 0 parts.front) _ (flat_map in_group parts.groups))

initial_text : (row : Row) (parts : Parts)
    → squeezed_if false (drop 6 row.columns) ++ squeezed_if (inside_after false (drop 6 row.columns)) (texts parts.front) ≡ squeezed_text (drop 6 row.columns ++ texts parts.front)
initial_text row parts = sym (squeezed_if-append false (drop 6 row.columns) (texts parts.front)) ∙ sym (squeezed-if (drop 6 row.columns ++ texts parts.front))

initial_gives : (s : Option Started) (cards : List Card) (best : Option Refusal) (row : Row) (parts : Parts)
    → Given (gives (after_initial (record { cards = cards; started = s; best = best }) row) parts) (gives (record { cards = cards; started = s; best = best }) (with_group row parts))
initial_gives None cards best row parts = (
  ap (λ (s : List ℕ). cards ++ record { line = record { 0 = row.line }; label = label_of (take 5 row.columns); text = s } ∷ map card_of parts.groups) (initial_text row parts),
  initial_places best row parts,
)
initial_gives (Some o) cards best row parts = (
  ap (λ (s : List ℕ). (cards ++ o.card ∷ []) ++ record { line = record { 0 = row.line }; label = label_of (take 5 row.columns); text = s } ∷ map card_of parts.groups) (initial_text row parts)
      ∙ append_assoc cards (o.card ∷ []) _
      ∙ ap (λ (s : List ℕ). cards ++ record { line = o.card.line; label = o.card.label; text = s } ∷ card_of (record { first = row; more = parts.front }) ∷ map card_of parts.groups) (sym (append-nil o.card.text)),
  initial_places (least_from best (when o.inside (place o.card.line.0 E05))) row parts
      ∙ sym (least_from_append best (when o.inside (place o.card.line.0 E05)) _),
)

pub end_gives : (s : Option Started) (cards : List Card) (best : Option Refusal)
    → Given (gives (record { cards = cards; started = s; best = best }) (parts_of_rows [])) ((after_end (record { cards = cards; started = s; best = best })).cards, (after_end (record { cards = cards; started = s; best = best })).best)
end_gives None cards best = (append-nil cards, refl)
end_gives (Some o) cards best = (
  ap (λ (s : List ℕ). cards ++ record { line = o.card.line; label = o.card.label; text = s } ∷ []) (append-nil o.card.text),
  ap (least_from best) (append-nil (when o.inside (place o.card.line.0 E05))),
)

pub row_gives : (r : Reader) (n : ℕ) (line : List ℕ) (more : List (List ℕ))
    → Given (gives (after_row r n (columns_of line)) (parts_of_rows (rows (n + 1) more))) (gives r (parts_of_rows (rows n (line ∷ more))))
row_gives r n line more =
    elim (is_comment (columns_of line)) as (λ b. Given (gives (cond b r (cond (is_continuation (columns_of line)) (after_continuation r (row_at n (columns_of line))) (after_initial r (row_at n (columns_of line))))) (parts_of_rows (rows (n + 1) more)))
    (gives r (parts_of_rows (cond b (rows (n + 1) more) (row_at n (columns_of line) ∷ rows (n + 1) more))))) [
      | true ↦ (refl, refl)
      | false ↦ elim (is_continuation (columns_of line)) as (λ b. Given (gives (cond b (after_continuation r (row_at n (columns_of line))) (after_initial r (row_at n (columns_of line)))) (parts_of_rows (rows (n + 1) more)))
          (gives r (cond b (with_row (row_at n (columns_of line)) (parts_of_rows (rows (n + 1) more))) (with_group (row_at n (columns_of line)) (parts_of_rows (rows (n + 1) more)))))) [
            | true ↦ continuation_gives r.started r.cards r.best (row_at n (columns_of line)) (parts_of_rows (rows (n + 1) more))
            | false ↦ initial_gives r.started r.cards r.best (row_at n (columns_of line)) (parts_of_rows (rows (n + 1) more))
          ]
    ]
