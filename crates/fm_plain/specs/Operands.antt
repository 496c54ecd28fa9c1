-- Operands of statements that are evaluated together, the first fault from left to right.
-- Source: ANSI X3.9-1978, section 6.6 (evaluation of expressions); this profile for the order and for faults.
use Rattle.std.specs.Prelude.{ℕ, Option, List, Result, Ok}
use Rattle.fm_base.specs.declared.fault.Fault.{Fault}
use Rattle.fm_base.specs.declared.schedule.Machine.{Machine}
use Rattle.fm_values.specs.declared.value.Value.{Value}
use Rattle.fm_tree.specs.Tree.{Tree, trees_from}
use Rattle.fm_tree.specs.declared.statement.Var.{Var}
use Rattle.fm_tree.specs.declared.statement.Where.{Where}
use Rattle.fm_mean.specs.Operands.{◌>>=◌}
use Rattle.fm_mean.specs.declared.place.Actual.{Actual}
use Rattle.fm_mean.specs.declared.place.Span.{Span}
use Rattle.fm_mean.specs.Actions.{seat_at}
use Rattle.fm_mean.specs.Evaluate.{Scope, actuals_of, place_of, refs_in_all, refs_in_var, value_of}
use Rattle.fm_map.specs.Placement.{Seat, fitted}

-- of an assignment
abbrev pub target_and_value : Scope → Var → Tree → Result (Span × Value) Fault
target_and_value s v t = place_of s v 0 >>= λ p. value_of s t (refs_in_var s v) >>= λ x. Ok (p, x)

-- of a SEND
abbrev pub port_and_items : Scope → Var → List Tree → Result (Span × List Actual) Fault
port_and_items s q items = place_of s q 0 >>= λ p. actuals_of s (trees_from items) (refs_in_var s q) >>= λ xs. Ok (p, xs)

-- of a process call, which is made on a machine and a node, to a unit with these extents
abbrev pub arguments_and_seat : Scope → Machine → ℕ → List ℕ → List Tree → Option Where → Result (List Actual × Seat) Fault
arguments_and_seat s m node extents args at =
    actuals_of s (trees_from args) 0 >>= λ actuals. seat_at s m (m, node) at (refs_in_all s (trees_from args)) >>= λ seat. fitted extents seat >>= λ there. Ok (actuals, there)
