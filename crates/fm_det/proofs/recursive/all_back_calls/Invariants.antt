use Rattle.std.proofs.Common.{◌≡◌, None, drop}
use Rattle.fm_base.specs.Verdict.{least_from}
use Rattle.fm_det.specs.Search.{all_back_calls}
use Rattle.fm_det.proofs.recursive.all_back_calls.Given as goal

abbrev pub invariant-units : goal.invariant-units
invariant-units l = least_from l.best (all_back_calls l.names l.unit (drop l.unit l.calls)) ≡ least_from None (all_back_calls l.names 0 l.calls)
