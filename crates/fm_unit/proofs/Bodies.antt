-- The entries of a body, and the unit that has them.
use Rattle.std.proofs.Common.{◌≡◌, ℕ, ◌+◌, ◌<◌, Bool, true, false, List, [], ◌∷◌, ◌++◌, length, drop, get_or, refl, sym, ap, ◌∙◌, append_assoc}
use Rattle.std.specs.Prelude.{if◌then◌else◌}
use Rattle.std.proofs.lemmas.List.{drop_more}
use Rattle.fm_tree.specs.declared.program_unit.Entry.{Entry}
use Rattle.fm_tree.specs.declared.program_unit.Placed.{Placed}
use Rattle.fm_tree.specs.declared.statement.Stmt.{Stmt}
use Rattle.fm_tree.specs.declared.entry_mark.EntryMark.{EntryMark}
use Rattle.fm_tree.specs.Structure.{form_of, is_executable}
use Rattle.fm_tree.specs.Layout.{laid_out}
use Rattle.fm_tree.specs.Units.{before_body, blank_mark, body_of, entries_from, entries_of, statement_at}
use Rattle.fm_unit.specs.Entries.{assembled, built, entries_with, entry_with}
use Rattle.fm_unit.specs.Pieces.{body_in, made, piece, pieces_in, pieces_left}
use Rattle.fm_unit.proofs.Filling.{Fills}
use Rattle.fm_unit.proofs.Laying.{at_drop, body_filled}

entries_same : (test : List ℕ → Bool) (statements : List Placed) (entries : List EntryMark) (k : ℕ) (es : List EntryMark) (ss : List Stmt) → drop k entries ≡ es → Fills statements es ss
    → entries_with test entries k es ss ≡ entries_from test statements entries k es
entries_same test statements entries k [] ss d h = refl
entries_same test statements entries k (e ∷ es) ss d h =
    let at = at_drop entries k blank_mark e es d in
    let s : piece (made e.form) ss ≡ statement_at statements (get_or entries k blank_mark) = sym h.0 ∙ ap (statement_at statements) (sym at.0) in
    ap (λ (x : Stmt). entry_with test entries k x ∷ entries_with test entries (k + 1) es (pieces_left (made e.form) ss)) s
    ∙ ap (λ (rest : List Entry). entry_with test entries k (statement_at statements (get_or entries k blank_mark)) ∷ rest)
    (entries_same test statements entries (k + 1) es (pieces_left (made e.form) ss) at.1 h.1)

-- the entries of a unit are those of its body's marks and pieces
pub unit_entries : (test : List ℕ → Bool) (statements : List Placed)
    → entries_with test (body_of (laid_out statements)) 0 (body_of (laid_out statements)) (pieces_in (body_in statements)) ≡ entries_of test statements
unit_entries test statements = entries_same test statements (body_of (laid_out statements)) 0 (body_of (laid_out statements)) (pieces_in (body_in statements)) refl (body_filled statements)

-- one entry more
pub entries_more : (test : List ℕ → Bool) (marks : List EntryMark) (entries : List Entry) (k : ℕ) (ss left : List Stmt) (s : Stmt) (e : Entry) (d : EntryMark) (z : List Entry)
    → k < length marks → e ≡ entry_with test marks k s → s ≡ piece (made (get_or marks k d).form) ss → left ≡ pieces_left (made (get_or marks k d).form) ss
    → entries ++ entries_with test marks k (drop k marks) ss ≡ z → (entries ++ e ∷ []) ++ entries_with test marks (k + 1) (drop (k + 1) marks) left ≡ z
entries_more test marks entries k ss left s e d z l is piece' left' h =
    append_assoc entries (e ∷ []) (entries_with test marks (k + 1) (drop (k + 1) marks) left)
    ∙ ap (λ (x : Entry). entries ++ x ∷ entries_with test marks (k + 1) (drop (k + 1) marks) left) (is ∙ ap (entry_with test marks k) piece')
    ∙ ap (λ (xs : List Stmt). entries ++ entry_with test marks k (piece (made (get_or marks k d).form) ss) ∷ entries_with test marks (k + 1) (drop (k + 1) marks) xs) left'
    ∙ ap (λ (es : List EntryMark). entries ++ entries_with test marks k es ss) (sym (drop_more marks k d l)) ∙ h

-- what is made of the parts of a unit is the unit
pub assembled_built : (test : List ℕ → Bool) (statements : List Placed) → assembled (before_body statements) (entries_of test statements) ≡ built test statements
assembled_built test [] = refl
assembled_built test (p ∷ ps) =
    elim (is_executable (form_of p.stmt)) as (λ (b : Bool). assembled (if b then [] else p ∷ before_body ps) (entries_of test (p ∷ ps))
    ≡ (if b then [] else record { heading = p; specs = drop 1 (if b then [] else p ∷ before_body ps); body = entries_of test (p ∷ ps) } ∷ [])) [
      | true ↦ refl
      | false ↦ refl
    ]
