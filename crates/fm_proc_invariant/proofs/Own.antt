-- A statement of its own costs a turn.
use Rattle.std.proofs.Common.{◌≡◌, ℕ, ◌≤◌, ℤ, Bool, true, false, cond, Option, Some, None, Result, Ok, Err, List, [], ◌∷◌, length, subst, arith}
use Rattle.fm_base.specs.declared.fault.Fault.{Fault}
use Rattle.fm_map.specs.Placement.{Seat}
use Rattle.fm_code.specs.declared.ask.Operand.{Operand}
use Rattle.fm_code.specs.declared.body.Body.{Body}
use Rattle.fm_code.specs.declared.body.Frame.{Frame}
use Rattle.fm_code.specs.declared.scratch.Place.{Place}
use Rattle.fm_code.specs.Acts.{StatementEnd}
use Rattle.fm_code.specs.Acts as acts
use Rattle.fm_code.specs.Passing.{backs_fit}
use Rattle.fm_code.specs.Statements as code
use Rattle.fm_code.specs.Statements.{Action, CodeUnit, action_by, action_of, calls, fitted_in, gives_back, is_passed, refers, results_in, seat_of, starts, starts_at, statement_end_of, unit_at}

abbrev Costs : Action → Type 0
Costs code.Stuck = Unit {0}
Costs (code.Own after lines drops cost) = 1 ≤ cost
Costs (code.Meets k) = Unit {0}

costs_if : (t : Bool) (a : Action) → Costs a → Costs (cond t a code.Stuck)
costs_if true a h = h
costs_if false a h = tt

module _ (b : Body) where
  calls_cost : (n : ℕ) (o : Option CodeUnit) (to : ℕ) (os : List Operand) → Costs (calls n o b to os)
  calls_cost n None to os = tt
  calls_cost n (Some u) to os = costs_if (is_passed u b os) _ (omega arith)

  refers_cost : (n : ℕ) (o : Option CodeUnit) (to : ℕ) (os : List Operand) → Costs (refers n o b to os)
  refers_cost n None to os = tt
  refers_cost n (Some u) to os = costs_if (is_passed u b os) _ (omega arith)

  starts_cost : (n : ℕ) (o : Option CodeUnit) (to : ℕ) (os : List Operand) (place : Place) → Costs (starts n o b to os place)
  starts_cost n None to os place = tt
  starts_cost n (Some u) to os place = go (fitted_in u (seat_of b place))
    where
      go : (r : Result Seat Fault) → Costs (starts_at n u b to os r)
      go (Err fault) = tt
      go (Ok seat) = costs_if (is_passed u b os) _ (omega arith)

  returns_cost : (below : List Frame) → Costs (gives_back b below)
  returns_cost [] = tt
  returns_cost (c ∷ below) = costs_if (backs_fit (length c.words) (length b.frame.words) b.frame.backs) _ (omega arith)

  results_cost : (v : ℤ) (below : List Frame) → Costs (results_in b v below)
  results_cost v [] = tt
  results_cost v (c ∷ below) = omega arith

  ends_cost : (t : StatementEnd) → Costs (action_by b t)
  ends_cost (acts.Goes to n) = omega arith
  ends_cost (acts.Prints to line) = omega arith
  ends_cost (acts.Calls n to os) = calls_cost n (unit_at b n) to os
  ends_cost (acts.Refers n to os) = refers_cost n (unit_at b n) to os
  ends_cost acts.Returns = returns_cost b.below
  ends_cost (acts.ReturnsValue v) = results_cost v b.below
  ends_cost (acts.Starts n to os place) = starts_cost n (unit_at b n) to os place
  ends_cost (acts.Closes k to) = omega arith
  ends_cost (acts.Moves from into to) = omega arith
  ends_cost (acts.Fails fault) = tt
  ends_cost (acts.Asks a) = tt
  ends_cost acts.Stuck = tt

  pub own_costs : (after : Body) (lines : List (List ℕ)) (drops : List ℤ) (cost : ℕ) → action_of b ≡ code.Own after lines drops cost → 1 ≤ cost
  own_costs after lines drops cost e = subst Costs e (ends_cost (statement_end_of b))
