use Rattle.std.proofs.Common.{◌≡◌, drop}
use Rattle.fm_flow.specs.Walks.{wide_from}
use Rattle.fm_flow.proofs.declarations.wide_from.Given as goal

abbrev pub invariant-declarations : goal.invariant-declarations
invariant-declarations l = wide_from l.ports l.best (drop l.declaration-index l.declarations) ≡ wide_from l.ports l.fn.best l.declarations
