use Rattle.std.proofs.Common.{arith, List, ℕ, ◌+◌, ◌∙◌, ap, sym}
use Rattle.fm_cards.specs.declared.reader.Reader.{Reader}
use Rattle.fm_cards.specs.Lines.{lines, rows}
use Rattle.fm_cards.specs.Cards.{parts_of_rows}
use Rattle.fm_cards.specs.Scan.{all_cards, all_places, after_row}
use Rattle.fm_cards.proofs.ScanLaws.{row_gives}
use Rattle.fm_cards.proofs.reader.scan.Goals as goal

pub take-requires-clause-length : goal.take-requires-clause-length
take-requires-clause-length c = rw c.deref.ensures.value c.in_ok-row.ensures.length

pub lines-preserved : goal.lines-preserved
lines-preserved c =
    let old : Reader = c.lines.reader in
    let given = row_gives old c.lines.line c.in-Some.bytes.now (lines c.in-Some.behind.now) in
    let reader = c.in_ok-take.ensures.reader ∙ ap (λ (r : List ℕ). after_row old c.lines.line r) (c.deref.ensures.value ∙ c.in_ok-row.ensures.columns) in
    record {
      cards = ap (λ (r : Reader). all_cards r (parts_of_rows (rows (c.lines.line + 1) (lines c.in-Some.behind.now)))) reader ∙ (given.0 ∙ ap (λ (ls : List (List ℕ)). all_cards old (parts_of_rows (rows c.lines.line ls))) (sym c.in-Some.ensures.0) ∙ c.lines.invariant.cards);
      places = ap (λ (r : Reader). all_places r (parts_of_rows (rows (c.lines.line + 1) (lines c.in-Some.behind.now)))) reader ∙ (given.1 ∙ ap (λ (ls : List (List ℕ)). all_places old (parts_of_rows (rows c.lines.line ls))) (sym c.in-Some.ensures.0) ∙ c.lines.invariant.places);
      few = c.in_ok-take.ensures.few;
      room = omega (arith, c.in-Some.ensures.1);
    }
