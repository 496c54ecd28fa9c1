-- What a pass over the names of a unit keeps: the names that it met, each with its first line, in their order.
-- Source: this profile.
use Rattle.std.specs.Prelude.{ℕ, List, [], ◌∷◌}
use Rattle.fm_base.specs.declared.name.Line.{Line}
use Rattle.fm_finmap.specs.Table.{added}
use Rattle.fm_rules.specs.declared.sheet.Occurrence.{Occurrence}
use Rattle.fm_rules.specs.Occurrences.{Names, occurrence}

abbrev pub Seen : Type 0
Seen = List (List ℕ × Line)

-- names that stand at a line, in order
abbrev pub with_names : Line → Seen → Names → Seen
with_names line s [] = s
with_names line s (name ∷ names) = with_names line (added s name line) names

-- occurrences, in order
abbrev pub with_occurrences : Seen → List Occurrence → Seen
with_occurrences s [] = s
with_occurrences s (o ∷ os) = with_occurrences (added s o.name o.line) os

abbrev pub occurrence_of : List ℕ × Line → Occurrence
occurrence_of e = occurrence e.1 e.0
