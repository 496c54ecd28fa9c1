-- What the reader of rows does step by step, and what it gives with the rows that are left. No contract of a public
-- function names this file: proofs/ScanLaws leads from here to the definitions.
-- Source: this profile, after ANSI X3.9-1978, section 3 (lines and statements).
use Rattle.std.specs.Prelude.{ℕ, ◌+◌, ◌-◌, ◌*◌, Bool, false, not, Option, Some, None, List, [], ◌∷◌, ◌++◌, map, drop, take, ◌==◌, if◌then◌else◌}
use Rattle.std.specs.List.{flat_map}
use Rattle.std.specs.Char.{to_ascii_uppercase}
use Rattle.fm_base.specs.declared.rule.Refusal.{Refusal}
use Rattle.fm_base.specs.declared.rule.Rule.TheVariants.{E05}
use Rattle.fm_base.specs.Letters.{is_digit}
use Rattle.fm_base.specs.Verdict.{place, when, least_from}
use Rattle.fm_cards.specs.declared.card.Card.{Card}
use Rattle.fm_cards.specs.declared.reader.Started.{Started}
use Rattle.fm_cards.specs.declared.reader.Reader.{Reader}
use Rattle.fm_cards.specs.Lines.{Row, row_at, is_blank, is_comment, is_continuation}
use Rattle.fm_cards.specs.Cards.{Parts, card_of, label_of, texts}
use Rattle.fm_cards.specs.Broken.{in_initial, in_continuation, in_continuations, in_front, in_group}

-- Squeezing by whether a constant is open.

abbrev pub squeezed_byte_if : Bool → ℕ → List ℕ
squeezed_byte_if inside b = if inside then b ∷ [] else if is_blank b then [] else to_ascii_uppercase b ∷ []

abbrev pub squeezed_if : Bool → List ℕ → List ℕ
squeezed_if inside [] = []
squeezed_if inside (b ∷ bs) = squeezed_byte_if inside b ++ squeezed_if (if b == 39 then not inside else inside) bs

-- the number that the digits make behind those that make n; blanks are ignored
abbrev pub number_behind : ℕ → List ℕ → ℕ
number_behind n [] = n
number_behind n (b ∷ bs) = if is_digit b then number_behind (10 * n + (b - 48)) bs else number_behind n bs

-- whether a constant is open behind the bytes
abbrev pub inside_after : Bool → List ℕ → Bool
inside_after inside [] = inside
inside_after inside (b ∷ bs) = inside_after (if b == 39 then not inside else inside) bs

-- Steps of the reader.

abbrev pub with_text : Card → List ℕ → Card
with_text card text = record { line = card.line; label = card.label; text = card.text ++ text }

-- the statement that was started ends
abbrev pub after_end_at : Option Started → List Card → Option Refusal → Reader
after_end_at None cards best = record { cards = cards; started = None; best = best }
after_end_at (Some s) cards best =
    record { cards = cards ++ s.card ∷ []; started = None; best = least_from best (when s.inside (place s.card.line.0 E05)) }

abbrev pub after_end : Reader → Reader
after_end r = after_end_at r.started r.cards r.best

-- an initial row comes
abbrev pub started_at : Row → Started
started_at row = record {
  card = record { line = record { 0 = row.line }; label = label_of (take 5 row.columns); text = squeezed_if false (drop 6 row.columns) };
  continuations = 0;
  inside = inside_after false (drop 6 row.columns);
}

abbrev pub after_initial : Reader → Row → Reader
after_initial r row = record { cards = (after_end r).cards; started = Some (started_at row); best = least_from (after_end r).best (in_initial row) }

-- a continuation row comes
abbrev pub with_continuation : Started → Row → Started
with_continuation s row = record {
  card = with_text s.card (squeezed_if s.inside (drop 6 row.columns));
  continuations = s.continuations + 1;
  inside = inside_after s.inside (drop 6 row.columns);
}

abbrev pub after_continuation_at : Option Started → List Card → Option Refusal → Row → Reader
after_continuation_at None cards best row = record { cards = cards; started = None; best = least_from best (in_front row) }
after_continuation_at (Some s) cards best row =
    record { cards = cards; started = Some (with_continuation s row); best = least_from best (in_continuation s.continuations row) }

abbrev pub after_continuation : Reader → Row → Reader
after_continuation r row = after_continuation_at r.started r.cards r.best row

-- a line comes
abbrev pub after_row : Reader → ℕ → List ℕ → Reader
after_row r number row =
    if is_comment row then r
    else if is_continuation row then after_continuation r (row_at number row)
    else after_initial r (row_at number row)

-- What comes out where the rows that are left have these parts.

abbrev pub last_cards : Option Started → List Row → List Card
last_cards None front = []
last_cards (Some s) front = with_text s.card (squeezed_if s.inside (texts front)) ∷ []

abbrev pub last_places : Option Started → List Row → List Refusal
last_places None front = flat_map in_front front
last_places (Some s) front =
    in_continuations s.continuations front ++ when (inside_after s.inside (texts front)) (place s.card.line.0 E05)

abbrev pub all_cards : Reader → Parts → List Card
all_cards r parts = r.cards ++ (last_cards r.started parts.front ++ map card_of parts.groups)

abbrev pub all_places : Reader → Parts → Option Refusal
all_places r parts = least_from r.best (last_places r.started parts.front ++ flat_map in_group parts.groups)
