use Rattle.std.proofs.Common.{◌≡◌, take}
use Rattle.std.specs.List.{flat_map}
use Rattle.fm_rules.specs.Calls.{calls_in}
use Rattle.fm_call_graph.proofs.calls.calls_of.Given as goal

abbrev pub invariant-entries : goal.invariant-entries
invariant-entries l = l.calls ≡ flat_map (calls_in l.processes l.context) (take l.entry-index l.entry-items)
