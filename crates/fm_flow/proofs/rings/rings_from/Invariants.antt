use Rattle.std.proofs.Common.{◌≡◌, length, drop}
use Rattle.fm_plain_frame.specs.Units.{unit_of}
use Rattle.fm_flow.specs.Walks.{rings_from}
use Rattle.fm_flow.proofs.rings.rings_from.Given as goal

abbrev pub invariant-places : goal.invariant-places
invariant-places l = rings_from (unit_of l.unit) l.names (length l.body) l.place l.best (drop l.place l.body) ≡ rings_from (unit_of l.unit) l.names (length l.body) 0 l.fn.best l.body
