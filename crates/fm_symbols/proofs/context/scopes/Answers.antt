use Rattle.fm_symbols.specs.Context.{scopes_of}
use Rattle.fm_symbols.proofs.Scopes.{scopes_done}
use Rattle.fm_symbols.proofs.context.scopes.Goals as goal

pub returns : goal.returns
returns c = scopes_done c.units.unit-iterator.a.rest.now c.units.unit-iterator.b.rest.now c.units.scopes (scopes_of c.args.units.now c.args.names.now) c.units.invariant c.in-None.ensures.steps
