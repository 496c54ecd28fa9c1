use Rattle.std.proofs.Common.{◌≡◌}
use Rattle.crossbeam_deque.specs.Handles.{view, IsPassOf, stealer_deque}
use Rattle.fm_steal.proofs.lanes.stolen.Given as goal

abbrev pub invariant-tries : goal.invariant-tries
invariant-tries g l = IsPassOf (stealer_deque l.stealer) l.pass × (view l.pass ≡ view l.initial.pass)
