-- The variables of a unit and their layout.
-- Source: ANSI X3.9-1978, sections 5.2.5 (storage of arrays), 17.1 (storage units) and 18.2 (variables); this profile for the
-- order: as the names first stand in the unit.
use Rattle.std.specs.Prelude.{ℕ, ℤ, ◌+◌, not, ◌||◌, Bool, false, if◌then◌else◌, Option, Some, None, unwrap_or, List, [], ◌∷◌}
use Rattle.std.specs.FinMap.{get, contains_key}
use Rattle.fm_tree.specs.declared.port_type.Kind.TheVariants as kind
use Rattle.fm_tree.specs.declared.statement.Stmt.{Stmt}
use Rattle.fm_symbols.specs.ByName.{ByName}
use Rattle.fm_symbols.specs.declared.names.Variable.{Variable}
use Rattle.fm_rules.specs.FunctionTitles.{is_other_function}
use Rattle.fm_rules.specs.declared.sheet.ArrayShape.{ArrayShape}
use Rattle.fm_rules.specs.declared.sheet.Occurrence.{Occurrence}
use Rattle.fm_rules.specs.declared.sheet.Sheet.{Sheet}

-- a name that stands in the unit with this heading is a variable, unless it is a constant or another FUNCTION
abbrev pub is_variable : ByName Bool → Stmt → Sheet → List ℕ → Bool
is_variable titles heading s name = not (contains_key s.known name || is_other_function titles heading name)

abbrev pub those_that : (Occurrence → Bool) → List Occurrence → List Occurrence
those_that test [] = []
those_that test (o ∷ os) = if test o then o ∷ those_that test os else those_that test os

abbrev pub names_variable : ByName Bool → Stmt → Sheet → Occurrence → Bool
names_variable titles heading s o = is_variable titles heading s o.name

-- those of these names that are variables
abbrev pub variables_among : ByName Bool → Stmt → Sheet → List Occurrence → List Occurrence
variables_among titles heading s os = those_that (names_variable titles heading s) os

abbrev pub bounds_by : Option ArrayShape → List (ℤ × ℤ)
bounds_by None = []
bounds_by (Some a) = a.bounds

abbrev pub words_by : Option ArrayShape → ℕ
words_by None = 1
words_by (Some a) = a.words

-- the words of a variable: one for each element; a port counts one word
abbrev pub words_of : Sheet → List ℕ → ℕ
words_of s name = words_by (get s.arrays name)

-- a variable whose words begin at the first one. It is an integer where no type is declared
abbrev pub variable : Sheet → (first : ℕ) → List ℕ → Variable
variable s first name = record {
  name = name;
  kind = unwrap_or (get s.kinds name) kind.Integer;
  bounds = bounds_by (get s.arrays name);
  first = first;
  words = words_of s name;
  formal = unwrap_or (get s.formals name) 0;
  input = unwrap_or (get s.inputs name) false;
}

-- one behind the other, from a first word on
abbrev pub laid_out : Sheet → (first : ℕ) → List Occurrence → List Variable
laid_out s first [] = []
laid_out s first (o ∷ os) = variable s first o.name ∷ laid_out s (first + words_of s o.name) os

-- the words of all of them
abbrev pub all_words : Sheet → List Occurrence → ℕ
all_words s [] = 0
all_words s (o ∷ os) = words_of s o.name + all_words s os
