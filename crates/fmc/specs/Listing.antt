-- The text of a list of statements.
-- Source: this profile.
use Rattle.std.specs.Prelude.{ℕ, ◌-◌, Option, Some, None, List, [], ◌∷◌, ◌++◌, length, replicate}
use Rattle.std.specs.List.{flat_map}
use Rattle.std.specs.Fmt.{decimal}
use Rattle.fm_base.specs.declared.name.Label.{Label}
use Rattle.fm_base.specs.Tokens.{token_text}
use Rattle.fm_tree.specs.Statements.{spelling_of}
use Rattle.fm_tree.specs.declared.program_unit.Placed.{Placed}

-- to the right in so many columns, behind blanks
abbrev pub right_in : (width : ℕ) → List ℕ → List ℕ
right_in width text = replicate (width - length text) 32 ++ text

-- the label in 5 columns, or 5 blanks
abbrev pub label_text : Option Label → List ℕ
label_text None = right_in 5 []
label_text (Some label) = right_in 5 (decimal label.0)

-- the line in 6 columns, the label, and the spelling without blanks, with one blank between
abbrev pub listed_line : Placed → List ℕ
listed_line p = (right_in 6 (decimal p.line.0) ++ 32 ∷ []) ++ ((label_text p.label ++ 32 ∷ []) ++ (flat_map token_text (spelling_of p.stmt) ++ 10 ∷ []))

abbrev pub listed_text : List Placed → List ℕ
listed_text ps = flat_map listed_line ps
