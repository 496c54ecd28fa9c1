use Rattle.std.proofs.Common.{◌≡◌, ◌++◌, map, take}
use Rattle.fm_flow.specs.Units.{call_arc}
use Rattle.fm_flow.proofs.units.add_calls.Given as goal

abbrev pub invariant-calls : goal.invariant-calls
invariant-calls l = l.arcs ≡ l.fn.arcs ++ map (call_arc l.from) (take l.call-index l.calls)
