-- Two evaluations, one after the other, that the meaning has as parts of longer ones.
-- Source: ANSI X3.9-1978, section 5.4 (subscripts); the Fortran M report (LOCATION, SUBMACHINE, PROCESSORS).
use Rattle.std.specs.Prelude.{ℕ, List, Option, Result}
use Rattle.fm_base.specs.declared.fault.Fault.{Fault}
use Rattle.fm_base.specs.declared.schedule.Machine.{Machine}
use Rattle.fm_tree.specs.Tree.{Trees}
use Rattle.fm_tree.specs.declared.statement.Where.{Where}
use Rattle.fm_symbols.specs.declared.names.Variable.{Variable}
use Rattle.fm_values.specs.Places.{element_place}
use Rattle.fm_mean.specs.Operands.{◌>>=◌}
use Rattle.fm_mean.specs.Evaluate.{Scope, numbers_of}
use Rattle.fm_map.specs.Placement.{Seat, fitted}
use Rattle.fm_mean.specs.Actions.{seat_at}

-- the place of an element, all of whose subscripts are evaluated before one is tested
abbrev pub element_of : Scope → Variable → Trees → ℕ → Result ℕ Fault
element_of s v ks n = numbers_of s ks n >>= λ xs. element_place v.bounds xs

-- where a child is put whose unit has these extents
abbrev pub seated : Scope → Machine → Seat → List ℕ → Option Where → ℕ → Result Seat Fault
seated s m here extents place n = seat_at s m here place n >>= λ there. fitted extents there
