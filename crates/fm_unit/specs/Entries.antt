-- The entries of a body, from what it is made of.
-- Source: this profile.
use Rattle.fm_unit.specs.declared.entries.Links.{Links}
use Rattle.std.specs.Prelude.{ℕ, ◌+◌, Bool, Option, None, if◌then◌else◌, List, [], ◌∷◌}
use Rattle.fm_tree.specs.declared.program_unit.Entry.{Entry}
use Rattle.fm_tree.specs.declared.program_unit.Placed.{Placed}
use Rattle.fm_tree.specs.declared.program_unit.Unit.{Unit}
use Rattle.fm_tree.specs.declared.statement.Stmt.{Stmt}
use Rattle.fm_tree.specs.declared.form.Bracket.{Bracket}
use Rattle.fm_tree.specs.declared.form.Bracket.TheVariants.{Opens, Closes, Parts, Stays}
use Rattle.fm_tree.specs.declared.entry_mark.EntryMark.{EntryMark}
use Rattle.fm_tree.specs.declared.entry_mark.Open.{Open}
use Rattle.fm_tree.specs.References.{reference_places}
use Rattle.fm_tree.specs.Structure.{form_of, is_executable}
use Rattle.fm_tree.specs.Units.{after_of, branch_of, mark_at, other_end, parent_of, place_in, unit_of}
use Rattle.fm_unit.specs.Pieces.{made, piece, pieces_left}

-- what is known of the k-th entry beside its statement
abbrev pub links_with : List EntryMark → ℕ → Links
links_with entries k = record {
  line = (mark_at entries k).line;
  label = (mark_at entries k).label;
  parent = parent_of entries k;
  branch = branch_of entries k;
  mate = other_end entries k;
  after = after_of entries k;
}

abbrev pub entry_by : Links → Stmt → List ℕ → Entry
entry_by l s refs = record {
  line = l.line;
  label = l.label;
  stmt = s;
  parent = l.parent;
  branch = l.branch;
  mate = l.mate;
  after = l.after;
  refs = refs;
}

-- the k-th entry, of this statement
abbrev pub entry_with : (List ℕ → Bool) → List EntryMark → ℕ → Stmt → Entry
entry_with is_function entries k s = entry_by (links_with entries k) s (reference_places is_function s)

-- the entries from the k-th on
abbrev pub entries_with : (List ℕ → Bool) → List EntryMark → ℕ → List EntryMark → List Stmt → List Entry
entries_with is_function entries k [] ss = []
entries_with is_function entries k (e ∷ es) ss =
    entry_with is_function entries k (piece (made e.form) ss) ∷ entries_with is_function entries (k + 1) es (pieces_left (made e.form) ss)

-- the other end of a block, where the innermost open block and the next end are known
abbrev pub end_for : Bracket → Option Open → Option ℕ → Option ℕ
end_for Opens inner end = end
end_for Closes inner end = place_in inner
end_for Parts inner end = None
end_for Stays inner end = None

-- the unit of what stands before its body, and of this body
abbrev pub assembled : List Placed → List Entry → List Unit
assembled [] body = []
assembled (p ∷ ps) body = record { heading = p; specs = ps; body = body } ∷ []

-- a unit, unless it begins with an executable statement
abbrev pub built : (List ℕ → Bool) → List Placed → List Unit
built is_function [] = []
built is_function (p ∷ ps) = if is_executable (form_of p.stmt) then [] else unit_of is_function (p ∷ ps) ∷ []
