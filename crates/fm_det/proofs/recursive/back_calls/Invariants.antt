use Rattle.std.proofs.Common.{◌≡◌, drop}
use Rattle.fm_base.specs.Verdict.{least_from}
use Rattle.fm_det.specs.Search.{back_calls}
use Rattle.fm_det.proofs.recursive.back_calls.Given as goal

abbrev pub invariant-calls : goal.invariant-calls
invariant-calls l = least_from l.best (back_calls l.names l.unit (drop l.call-index l.calls)) ≡ least_from l.fn.best (back_calls l.names l.unit l.calls)
