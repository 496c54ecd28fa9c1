-- The units of a program, and the links between the entries of a unit.
-- Source: ANSI X3.9-1978, sections 2.4 and 3.5 (program units, END), 11.5 to 11.10 (IF-blocks, DO-loops); the Fortran M
-- report for process blocks; this profile for the entry that comes after another.
use Rattle.std.specs.Prelude.{ℕ, ◌+◌, not, Bool, true, false, if◌then◌else◌, Option, Some, None, List, [], ◌∷◌, take, drop, slice_index_or}
use Rattle.fm_tree.specs.declared.program_unit.Placed.{Placed}
use Rattle.fm_tree.specs.declared.program_unit.Entry.{Entry}
use Rattle.fm_tree.specs.declared.program_unit.Unit.{Unit}
use Rattle.fm_tree.specs.declared.statement.Stmt.{Stmt}
use Rattle.fm_tree.specs.declared.statement.Stmt.TheVariants as stmt
use Rattle.fm_tree.specs.declared.form.Form.{Form}
use Rattle.fm_tree.specs.declared.form.Form.TheVariants as form
use Rattle.fm_tree.specs.declared.form.Bracket.{Bracket}
use Rattle.fm_tree.specs.declared.form.Bracket.TheVariants.{Opens, Closes, Parts, Stays}
use Rattle.fm_tree.specs.declared.entry_mark.EntryMark.{EntryMark}
use Rattle.fm_tree.specs.declared.entry_mark.Open.{Open}
use Rattle.fm_tree.specs.Structure.{bracket_of, form_of, is_block_if, is_end, is_executable, is_separator}
use Rattle.fm_tree.specs.Blocks.{behind, head_of, innermost, mate_of}
use Rattle.fm_tree.specs.Layout.{laid_out, statement_of}
use Rattle.fm_tree.specs.References.{reference_places}

-- Units.

-- put before the first unit; where there is none, it is a unit
abbrev pub put_first : Placed → List (List Placed) → List (List Placed)
put_first p [] = (p ∷ []) ∷ []
put_first p (unit ∷ units) = (p ∷ unit) ∷ units

-- a unit ends behind END; what stands behind the last END is a unit too, if it is anything
abbrev pub cut_of : List Placed → List (List Placed)
cut_of [] = []
cut_of (p ∷ ps) = if is_end (form_of p.stmt) then (p ∷ []) ∷ cut_of ps else put_first p (cut_of ps)

-- whether the last of these statements is no END
abbrev pub lacks_end : List Placed → Bool
lacks_end [] = true
lacks_end (p ∷ []) = not (is_end (form_of p.stmt))
lacks_end (p ∷ q ∷ ps) = lacks_end (q ∷ ps)

-- Block paths.

abbrev pub blank_mark : EntryMark
blank_mark = record { line = record { 0 = 0 }; label = None; form = form.End; place = 0 }

abbrev pub mark_at : List EntryMark → ℕ → EntryMark
mark_at entries k = slice_index_or entries k blank_mark

abbrev pub form_at : List EntryMark → ℕ → Form
form_at entries k = (mark_at entries k).form

-- ELSE IF, ELSE and END IF stand outside the IF whose branch they end. An END IF that closes another block stands in it
abbrev pub stands_outside : Form → Open → Bool
stands_outside (form.ElseIf fits) o = fits
stands_outside (form.Else fits) o = fits
stands_outside form.EndIf o = is_block_if o.form
stands_outside f o = false

abbrev pub path_of : Form → List Open → List Open
path_of f [] = []
path_of f (o ∷ os) = if stands_outside f o then os else o ∷ os

-- the blocks round an entry with their branches, innermost first
abbrev pub block_path : List EntryMark → ℕ → List Open
block_path entries k = path_of (form_at entries k) (behind (take k entries))

-- Links.

abbrev pub place_in : Option Open → Option ℕ
place_in None = None
place_in (Some o) = Some o.at

abbrev pub branch_in : Option Open → ℕ
branch_in None = 0
branch_in (Some o) = o.branch

-- the opener of the innermost block round an entry, and in which branch of it the entry stands
abbrev pub parent_of : List EntryMark → ℕ → Option ℕ
parent_of entries k = place_in (head_of (block_path entries k))

abbrev pub branch_of : List EntryMark → ℕ → ℕ
branch_of entries k = branch_in (head_of (block_path entries k))

-- of an opener the end, of a closer the opener
abbrev pub other_end_by : Bracket → List EntryMark → ℕ → Option ℕ
other_end_by Opens entries k = mate_of entries k
other_end_by Closes entries k = place_in (innermost entries k)
other_end_by Parts entries k = None
other_end_by Stays entries k = None

abbrev pub other_end : List EntryMark → ℕ → Option ℕ
other_end entries k = other_end_by (bracket_of (form_at entries k)) entries k

abbrev pub or_next : Option ℕ → ℕ → ℕ
or_next None k = k + 1
or_next (Some end) k = end

-- the next one; at the end of a branch the END IF
abbrev pub after_of : List EntryMark → ℕ → ℕ
after_of entries k = if is_separator (form_at entries (k + 1)) then or_next (mate_of entries k) k else k + 1

-- Entries.

abbrev pub blank_statement : Placed
blank_statement = record { line = record { 0 = 0 }; label = None; stmt = stmt.End }

abbrev pub statement_at : List Placed → EntryMark → Stmt
statement_at statements e = statement_of e.form (slice_index_or statements e.place blank_statement).stmt

-- the k-th of these entries of a unit of these statements; the test tells which names are functions
abbrev pub entry_of : (List ℕ → Bool) → List Placed → List EntryMark → ℕ → Entry
entry_of is_function statements entries k =
    let e = mark_at entries k in
    let s = statement_at statements e in
    record {
      line = e.line;
      label = e.label;
      stmt = s;
      parent = parent_of entries k;
      branch = branch_of entries k;
      mate = other_end entries k;
      after = after_of entries k;
      refs = reference_places is_function s;
    }

abbrev pub entries_from : (List ℕ → Bool) → List Placed → List EntryMark → ℕ → List EntryMark → List Entry
entries_from is_function statements entries k [] = []
entries_from is_function statements entries k (e ∷ es) =
    entry_of is_function statements entries k ∷ entries_from is_function statements entries (k + 1) es

-- the entries from the first executable one on: their places, and those of their links, count from it
abbrev pub body_of : List EntryMark → List EntryMark
body_of [] = []
body_of (e ∷ es) = if is_executable e.form then e ∷ es else body_of es

abbrev pub entries_of : (List ℕ → Bool) → List Placed → List Entry
entries_of is_function statements = let body = body_of (laid_out statements) in entries_from is_function statements body 0 body

-- the statements before the first executable one
abbrev pub before_body : List Placed → List Placed
before_body [] = []
before_body (p ∷ ps) = if is_executable (form_of p.stmt) then [] else p ∷ before_body ps

-- the unit of these statements, the first of which is its heading
abbrev pub unit_of : (List ℕ → Bool) → List Placed → Unit
unit_of is_function statements = record {
  heading = slice_index_or statements 0 blank_statement;
  specs = drop 1 (before_body statements);
  body = entries_of is_function statements;
}
