-- A unit with all that is looked up in it, as the meaning's unit.
-- Source: this profile.
use Rattle.std.specs.Prelude.{ℕ, Option, option_map}
use Rattle.std.specs.Borrow.{Bor}
use Rattle.fm_tree.specs.declared.program_unit.Entry.{Entry}
use Rattle.fm_rules.specs.declared.entry_links.EntryLinks.{EntryLinks}
use Rattle.fm_symbols.specs.declared.names.Variable.{Variable}
use Rattle.fm_mean.specs.Names.{ProgramUnit, Point}
use Rattle.fm_plain_frame.specs.declared.unit_view.UnitView.{UnitView}

abbrev pub unit_of : UnitView → ProgramUnit
unit_of v = record { tree = v.tree.now; names = v.names.now }

-- a unit with its number
abbrev pub numbered_of : Option (ℕ × UnitView) → Option (ℕ × ProgramUnit)
numbered_of o = option_map (λ n. (n.0, unit_of n.1)) o

-- a variable with its place
abbrev pub variable_read : Option (ℕ × Bor Variable) → Option (ℕ × Variable)
variable_read o = option_map (λ v. (v.0, v.1.now)) o

-- an entry with its links
abbrev pub point_read : Option (Bor Entry × EntryLinks) → Option Point
point_read o = option_map (λ e. record { entry = e.0.now; links = e.1 }) o
