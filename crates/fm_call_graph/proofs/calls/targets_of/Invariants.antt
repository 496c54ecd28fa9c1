use Rattle.std.proofs.Common.{◌≡◌, map, take}
use Rattle.fm_rules.specs.Calls.{target_of}
use Rattle.fm_call_graph.proofs.calls.targets_of.Given as goal

abbrev pub invariant-calls : goal.invariant-calls
invariant-calls l = l.targets ≡ map target_of (take l.call-index l.calls)
