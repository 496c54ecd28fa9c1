use Rattle.std.proofs.Common.{◌≡◌, ◌++◌, drop}
use Rattle.fm_plain_frame.specs.Units.{unit_of}
use Rattle.fm_flow.specs.Walks.{body_arcs}
use Rattle.fm_flow.proofs.rings.body_arcs.Given as goal

abbrev pub invariant-places : goal.invariant-places
invariant-places l = l.arcs ++ body_arcs (unit_of l.unit) l.bases.outs l.bases.ins l.place (drop l.place l.body) ≡ body_arcs (unit_of l.unit) l.bases.outs l.bases.ins 0 l.body
