-- Programs that break no rule.
-- Source: this profile.
use Rattle.std.specs.Prelude.{◌≡◌, List, [], ◌∷◌, map, Contains}
use Rattle.fm_base.specs.Verdict.{IsClean}
use Rattle.fm_tree.specs.declared.program_unit.Placed.{Placed}
use Rattle.fm_tree.specs.declared.program_unit.Unit.{Unit}
use Rattle.fm_tree.specs.declared.program_unit.Units.{Units}
use Rattle.fm_tree.specs.Statements.{IsWellShapedStatement}
use Rattle.fm_rules.specs.declared.entry_links.EntryLinks.{EntryLinks}
use Rattle.fm_rules.specs.Links.{links_of}
use Rattle.fm_symbols.specs.declared.names.Names.{Names}
use Rattle.fm_rules.specs.Units.{units_of}
use Rattle.fm_rules.specs.BrokenStructure.{broken_structure}
use Rattle.fm_rules.specs.Names.{names_of}
use Rattle.fm_rules.specs.BrokenNames.{broken_names}
use Rattle.fm_rules.specs.Broken.{IsBrokenStatement}

-- each statement has a form of the grammar
abbrev pub AreShaped : List Placed → Type 0
AreShaped [] = Prim.Unit {0}
AreShaped (p ∷ ps) = IsWellShapedStatement p.stmt × AreShaped ps

-- the units of statements that break no rule, and the names of these units
pub record IsChecked (statements : List Placed) (units : Units) (names : Names) : Type 0 where
  pub shaped : AreShaped statements
  pub units_are : units.units ≡ units_of statements
  pub names_are : names.units ≡ names_of (units_of statements)
  pub clean : IsClean (IsBrokenStatement statements)

-- the same for some statements
abbrev pub IsLawful : Units → Names → Type 0
IsLawful units names = (statements : List Placed) × IsChecked statements units names

-- on the way there: the units of statements whose structure breaks no rule
pub record IsStructured (units : Units) : Type 0 where
  pub statements : List Placed
  pub shaped : AreShaped statements
  pub units_are : units.units ≡ units_of statements
  pub structured : IsClean (Contains (broken_structure statements))

-- and whose names break none
pub record IsNamed (units : Units) (names : Names) : Type 0 where
  pub structure : IsStructured units
  pub names_are : names.units ≡ names_of units.units
  pub named : IsClean (Contains (broken_names units.units))

-- where the entries of each unit lead to
abbrev pub all_links : List Unit → List (List EntryLinks)
all_links us = map (λ (u : Unit). links_of u.body) us
