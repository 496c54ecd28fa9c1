-- A layout that grows by one variable after the other.
-- Source: this profile.
use Rattle.std.specs.Prelude.{◌≡◌, ℕ, ◌+◌, Bool, if◌then◌else◌, List, [], ◌∷◌, ◌++◌, Option, Some, None}
use Rattle.fm_base.specs.declared.rule.Refusal.{Refusal}
use Rattle.fm_tree.specs.declared.statement.Stmt.{Stmt}
use Rattle.fm_symbols.specs.ByName.{ByName}
use Rattle.fm_symbols.specs.declared.names.UnitNames.{UnitNames}
use Rattle.fm_rules.specs.declared.sheet.Occurrence.{Occurrence}
use Rattle.fm_rules.specs.declared.sheet.Sheet.{Sheet}
use Rattle.fm_names.specs.declared.variables.Layout.{Layout}
use Rattle.fm_rules.specs.Variables.{names_variable, variable, words_of}

abbrev pub with_variable : ByName Bool → Stmt → Sheet → Layout → Occurrence → Layout
with_variable titles heading s l o =
    if names_variable titles heading s o then record { variables = l.variables ++ variable s l.words o.name ∷ []; words = l.words + words_of s o.name } else l

-- the words of a name that is a variable
abbrev pub words_if : Bool → ℕ → ℕ
words_if is words = if is then words else 0

-- the names of a unit, unless something is broken
abbrev pub names_unless : Option Refusal → UnitNames → List UnitNames
names_unless None n = n ∷ []
names_unless (Some q) n = []

-- the names are these, unless something is broken
abbrev pub IsNamed : Option Refusal → List UnitNames → List UnitNames → Type 0
IsNamed None names all = names ≡ all
IsNamed (Some q) names all = Unit {0}
