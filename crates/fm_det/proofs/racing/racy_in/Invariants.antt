use Rattle.std.proofs.Common.{◌≡◌, drop}
use Rattle.std.specs.List.{slice_get}
use Rattle.fm_det.specs.Search.{racy_in}
use Rattle.fm_det.proofs.racing.racy_in.Given as goal

abbrev pub invariant-entries : goal.invariant-entries
invariant-entries l = racy_in (slice_get l.context.scopes l.unit) l.best (drop l.entry-index l.entries) ≡ racy_in (slice_get l.context.scopes l.unit) l.fn.best l.entries
