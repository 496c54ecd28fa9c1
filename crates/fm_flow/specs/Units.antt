-- Which units keep an outport, or make channels or processes.
-- Source: this profile.
use Rattle.std.specs.Prelude.{◌≡◌, ◌⊎◌, ℕ, ◌+◌, Bool, true, false, cond, ◌||◌, Option, Some, None, List, [], ◌∷◌, ◌++◌, map, slice_index_or}
use Rattle.fm_tree.specs.declared.program_unit.Entry.{Entry}
use Rattle.fm_tree.specs.declared.program_unit.Unit.{Unit}
use Rattle.fm_symbols.specs.declared.names.UnitNames.{UnitNames}
use Rattle.fm_rules.specs.declared.calls.Call.{Call}
use Rattle.fm_rules.specs.declared.program.Program.{Program}
use Rattle.fm_mean.specs.Names.{ProgramUnit, unit_at}
use Rattle.fm_flow_law.specs.Flow.{Makes, is_making, keeps_outport}
use Rattle.fm_flow.specs.Arcs.{is_together}
use Rattle.fm_flow.specs.Marks.{flag_at}

abbrev pub any_making : List Entry → Bool
any_making [] = false
any_making (e ∷ es) = is_making e.stmt || any_making es

-- node 0 stands for all that makes, and the node behind its number for each unit: an arc leads to 0 from a unit that makes,
-- and from 0 to each unit. So a unit reaches one that makes where it is together with 0
abbrev pub making_arcs : ℕ → Bool → List (ℕ × ℕ)
making_arcs node makes = (0, node) ∷ cond makes ((node, 0) ∷ []) []

abbrev pub call_arc : ℕ → Call → ℕ × ℕ
call_arc node call = (node, call.target + 1)

abbrev pub unit_arcs : ℕ → Unit → List Call → List (ℕ × ℕ)
unit_arcs node u calls = making_arcs node (any_making u.body) ++ map (call_arc node) calls

-- of this unit and those behind it
abbrev pub arcs_from : List (List Call) → (number : ℕ) → List Unit → List (ℕ × ℕ)
arcs_from calls number [] = []
arcs_from calls number (u ∷ us) = unit_arcs (number + 1) u (slice_index_or calls number []) ++ arcs_from calls (number + 1) us

-- a unit keeps an outport, or it reaches one that makes
abbrev pub is_risky : List ℕ → (number : ℕ) → UnitNames → Bool
is_risky names number n = keeps_outport n.variables || is_together names 0 (number + 1)

abbrev pub risks_from : List ℕ → (number : ℕ) → List UnitNames → List Bool
risks_from names number [] = []
risks_from names number (n ∷ ns) = is_risky names number n ∷ risks_from names (number + 1) ns

abbrev pub is_risky_unit : List Bool → Option (ℕ × ProgramUnit) → Bool
is_risky_unit risks None = false
is_risky_unit risks (Some v) = flag_at risks v.0

-- the flags of units are right
pub record TellsRisks (p : Program) (risks : List Bool) : Type 0 where
  pub risky : (n : ℕ) (u : ProgramUnit) → unit_at p n ≡ Some u → flag_at risks n ≡ true → (keeps_outport u.names.variables ≡ true) ⊎ Makes p n
  pub keeps : (n : ℕ) (u : ProgramUnit) → unit_at p n ≡ Some u → keeps_outport u.names.variables ≡ true → flag_at risks n ≡ true
  pub makes : (n : ℕ) (u : ProgramUnit) → unit_at p n ≡ Some u → Makes p n → flag_at risks n ≡ true
