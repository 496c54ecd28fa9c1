use Rattle.std.proofs.Common.{refl, ap}
use Rattle.fm_finmap.proofs.Keys.{nat_order}
use Rattle.fm_finmap.proofs.Maps.{map_of-insert}
use Rattle.fm_plain_frame.specs.Frames.{frame_of}
use Rattle.fm_plain_frame.proofs.ProcessLaws.{set_loops}
use Rattle.fm_plain_frame.proofs.frame.Frame.set_trips.Goals as goal

pub returns-clause-ok : goal.returns-clause-ok
returns-clause-ok c = λ p.
    let old = c.args.self.now.loops in
    let new = c.insert.new.self in
    ap (λ l. record (frame_of p c.args.self.now) { loops = l })
    (set_loops old new c.args.opener c.args.trips (map_of-insert nat_order old.entries old.entries new.entries c.args.opener c.args.trips refl (λ q. c.in_ok-insert.ensures.updates.0 q)))
