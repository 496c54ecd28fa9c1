use Rattle.std.proofs.Common.{◌≡◌, ◌++◌, drop}
use Rattle.fm_rules.specs.Calls.{referring}
use Rattle.fm_call_graph.proofs.calls.add_references.Given as goal

abbrev pub invariant-places : goal.invariant-places
invariant-places l = l.calls ++ referring l.units l.line l.names (drop l.place-index l.places) ≡ l.fn.calls ++ referring l.units l.line l.names l.places
