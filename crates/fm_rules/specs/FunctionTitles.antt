-- Which names are those of FUNCTIONs.
-- Source: ANSI X3.9-1978, sections 15.5 (external functions) and 18.1.1 (global entities).
use Rattle.std.specs.Prelude.{ℕ, Bool, false, not, ◌&&◌, Option, Some, None, List, map}
use Rattle.std.specs.FinMap.{get}
use Rattle.std.specs.Ordering.{nat_cmp, eq_by_cmp}
use Rattle.std.specs.Cmp.Lexicographic.{slice_cmp}
use Rattle.fm_tree.specs.declared.program_unit.Unit.{Unit}
use Rattle.fm_tree.specs.declared.statement.Stmt.{Stmt}
use Rattle.fm_symbols.specs.ByName.{ByName}
use Rattle.fm_symbols.specs.Headings.{heading_name, heading_kind, is_function}
use Rattle.fm_symbols.specs.Titles.{heading_of, titles_by}

-- the two are the same
abbrev pub same_name : List ℕ → List ℕ → Bool
same_name a b = eq_by_cmp (slice_cmp nat_cmp) a b

abbrev pub function_told : (number : ℕ) → Stmt → Bool
function_told number h = is_function (heading_kind h)

-- of each unit's name whether it is a FUNCTION's
abbrev pub titles_of : List Unit → ByName Bool
titles_of us = titles_by function_told (map heading_of us)

abbrev pub is_function_title : Option Bool → Bool
is_function_title None = false
is_function_title (Some function) = function

abbrev pub is_own_name : Option (List ℕ) → List ℕ → Bool
is_own_name None name = false
is_own_name (Some own) name = same_name own name

-- in the unit with this heading the name is another FUNCTION's
abbrev pub is_other_function : ByName Bool → Stmt → List ℕ → Bool
is_other_function titles heading name = is_function_title (get titles name) && not (is_own_name (heading_name heading) name)
