use Rattle.std.proofs.Common.{◌≡◌, ◌++◌}
use Rattle.fm_symbols.specs.Context.{scopes_of}
use Rattle.fm_symbols.proofs.context.scopes.Given as goal

abbrev pub invariant-units : goal.invariant-units
invariant-units l = l.scopes ++ scopes_of l.unit-iterator.a.rest.now l.unit-iterator.b.rest.now ≡ scopes_of l.units l.names
