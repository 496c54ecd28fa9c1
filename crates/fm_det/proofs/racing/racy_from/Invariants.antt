use Rattle.std.proofs.Common.{◌≡◌, None, drop}
use Rattle.fm_det.specs.Search.{racy_from}
use Rattle.fm_det.proofs.racing.racy_from.Given as goal

abbrev pub invariant-units : goal.invariant-units
invariant-units l = racy_from l.context.scopes l.flags l.unit l.best (drop l.unit l.units) ≡ racy_from l.context.scopes l.flags 0 None l.units
