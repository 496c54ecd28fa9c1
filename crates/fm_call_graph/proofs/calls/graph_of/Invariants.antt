use Rattle.std.proofs.Common.{◌≡◌, map, take}
use Rattle.fm_rules.specs.Calls.{target_of}
use Rattle.fm_call_graph.proofs.calls.graph_of.Given as goal

abbrev pub invariant-units : goal.invariant-units
invariant-units l = l.graph ≡ map (map target_of) (take l.calls-index l.calls)
