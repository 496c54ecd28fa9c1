-- What is looked through for the least line, step by step.
-- Source: this profile.
use Rattle.std.specs.Prelude.{ℕ, ◌+◌, Bool, true, false, if◌then◌else◌, Option, Some, None, List, [], ◌∷◌, slice_index_or}
use Rattle.fm_base.specs.declared.name.Line.{Line}
use Rattle.fm_tree.specs.declared.program_unit.Placed.{Placed}
use Rattle.fm_tree.specs.declared.program_unit.Unit.{Unit}
use Rattle.fm_call_graph.specs.Least.{lower_if}
use Rattle.fm_nodes_plain.specs.Carriers.{declares_carrier}

abbrev pub carriers_in : Option Line → List Placed → Option Line
carriers_in best [] = best
carriers_in best (p ∷ ps) = carriers_in (lower_if (declares_carrier p.stmt) best p.line) ps

abbrev pub carriers_in_unit : Bool → Option Line → Unit → Option Line
carriers_in_unit flag best u = if flag then carriers_in best u.specs else best

-- in this unit and those behind it that have a flag
abbrev pub carriers_from : List Bool → ℕ → Option Line → List Unit → Option Line
carriers_from flags unit best [] = best
carriers_from flags unit best (u ∷ us) = carriers_from flags (unit + 1) (carriers_in_unit (slice_index_or flags unit false) best u) us

-- the less of two lines, where there are any
abbrev pub earlier : Option Line → Option Line → Option Line
earlier first None = first
earlier first (Some line) = lower_if true first line
