use Rattle.std.proofs.Common.{◌≡◌, map, take}
use Rattle.fm_rules.specs.Calls.{calls_of}
use Rattle.fm_call_graph.proofs.calls.all_calls.Given as goal

abbrev pub invariant-units : goal.invariant-units
invariant-units l = l.all ≡ map (calls_of l.processes l.context) (take l.unit-index l.units)
