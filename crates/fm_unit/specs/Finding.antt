-- References of functions as a walk over a statement finds them.
-- Source: this profile.
use Rattle.std.specs.Prelude.{ℕ, ◌+◌, if◌then◌else◌, List, [], ◌∷◌, ◌++◌}
use Rattle.fm_rules.specs.UnitTitles.{is_function_named}
use Rattle.fm_unit.specs.declared.references.Finding.{Finding}

-- one name more with a list in parentheses
abbrev pub with_name : Finding → List ℕ → Finding
with_name found name = record found {
  next = found.next + 1;
  places = if is_function_named found.titles.now name then found.places ++ found.next ∷ [] else found.places;
}
