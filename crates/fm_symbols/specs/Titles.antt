-- The units of a program by their names.
-- Source: ANSI X3.9-1978, sections 2.4 (program units) and 18.1.1 (names of program units are global to the program); this
-- profile for names that stand twice.
use Rattle.std.specs.Prelude.{ℕ, ◌+◌, Option, Some, None, List, [], ◌∷◌, ◌++◌}
use Rattle.fm_tree.specs.declared.program_unit.Unit.{Unit}
use Rattle.fm_tree.specs.declared.statement.Stmt.{Stmt}
use Rattle.fm_symbols.specs.ByName.{ByName, first_of_each}
use Rattle.fm_symbols.specs.Headings.{heading_name}

abbrev pub heading_of : Unit → Stmt
heading_of u = u.heading.stmt

-- what is told of a name, where there is one
abbrev pub title_by : {X : Type 0} → Option (List ℕ) → X → List (List ℕ × X)
title_by None x = []
title_by (Some name) x = (name, x) ∷ []

-- the names of these headings in their order, each with what is told of its number and the heading; the numbers count from one on
abbrev pub titles_from : {X : Type 0} → (ℕ → Stmt → X) → (number : ℕ) → List Stmt → List (List ℕ × X)
titles_from told number [] = []
titles_from told number (h ∷ hs) = title_by (heading_name h) (told number h) ++ titles_from told (number + 1) hs

-- what is told of the first unit with each name
abbrev pub titles_by : {X : Type 0} → (ℕ → Stmt → X) → List Stmt → ByName X
titles_by told hs = first_of_each (titles_from told 0 hs)
