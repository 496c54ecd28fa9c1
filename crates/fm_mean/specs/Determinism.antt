-- Determinism: no unit that the PROGRAM reaches has a PROBE, or a MERGER that may have several writers.
-- Source: the Fortran M report (determinism without mergers and probes); this profile for mergers of one writer.
use Rattle.std.specs.Prelude.{◌≡◌, ℕ, true, Some, List}
use Rattle.fm_graph.specs.Graph.{Reaches}
use Rattle.fm_rules.specs.Calls.{call_graph}
use Rattle.fm_rules.specs.Race as race
use Rattle.fm_rules.specs.declared.program.Program.{Program}
use Rattle.fm_mean.specs.Names.{context, main_number}

abbrev pub IsDeterministic : Program → Type 0
IsDeterministic p = race.IsDeterministic p.units.units (context p)

-- for each unit the units that it calls
abbrev pub calls_among : Program → List (List ℕ)
calls_among p = call_graph true p.units.units (context p)

-- a chain of calls leads from the PROGRAM to the unit of this number
pub record IsReached (p : Program) (number : ℕ) : Type 0 where
  pub main : ℕ
  pub starts : main_number p ≡ Some main
  pub leads : Reaches (calls_among p) main number
