-- The names of units, and what each names.
-- Source: ANSI X3.9-1978, sections 2.4 (program units), 18.1.1 (names of program units are global to the program); this profile
-- for names that stand twice.
use Rattle.std.specs.Prelude.{ℕ, Bool, false, Option, Some, None, List, [], ◌∷◌, map}
use Rattle.std.specs.FinMap.{get}
use Rattle.fm_tree.specs.declared.program_unit.Placed.{Placed}
use Rattle.fm_tree.specs.declared.statement.Stmt.{Stmt}
use Rattle.fm_tree.specs.Units.{blank_statement}
use Rattle.fm_symbols.specs.ByName.{ByName}
use Rattle.fm_symbols.specs.Headings.{heading_kind, is_function}
use Rattle.fm_symbols.specs.Titles.{titles_by}
use Rattle.fm_rules.specs.declared.titles.Title.{Title}

abbrev pub title_told : (number : ℕ) → Stmt → Title
title_told number h = record { number = number; kind = heading_kind h }

-- the first of the statements of a unit
abbrev pub first_of : List Placed → Stmt
first_of [] = blank_statement.stmt
first_of (p ∷ ps) = p.stmt

-- the first unit with each name: that of its first statement, if this is a heading
abbrev pub titles_of : List (List Placed) → ByName Title
titles_of us = titles_by title_told (map first_of us)

abbrev pub is_function_title : Option Title → Bool
is_function_title None = false
is_function_title (Some title) = is_function title.kind

-- a FUNCTION has this name
abbrev pub is_function_named : ByName Title → List ℕ → Bool
is_function_named titles name = is_function_title (get titles name)
