use Rattle.std.proofs.Common.{refl, length, ap, arith}
use Rattle.fm_plain_frame.specs.Frames.{frames_of}
use Rattle.fm_plain_frame.specs.Leaving.{row_ports}
use Rattle.fm_plain_frame.proofs.LeavingLaws.{nothing_opens, frame_opens, row_made}
use Rattle.fm_plain_frame.proofs.leaving.Leaving.open_frame.Goals as goal

pub returns-in-None-clause-opens : goal.returns-in-None-clause-opens
returns-in-None-clause-opens c = λ p.
    let old = c.args.self.now in
    let new = c.next_frame.new in (
      nothing_opens p old.starts.items (frames_of p old.top old.below.items) c.requires (c.in-None.ensures.frames p).0,
      nothing_opens p old.starts.items (frames_of p new.top new.below.items) c.requires (c.in-None.ensures.frames p).1,
      refl,
    )

pub returns-in-Some-clause-opens : goal.returns-in-Some-clause-opens
returns-in-Some-clause-opens c = λ p.
    let old = c.args.self.now in
    let new = c.next_frame.new in
    let f = c.in-Some.frame in (
      frame_opens p f (row_ports p c.new.result) old.starts.items c.from_vec-in-Some.result.items (frames_of p old.top old.below.items) (frames_of p new.top new.below.items) c.requires c.from_vec-in-Some.ensures.items
          (c.in-Some.ensures.frames p) (row_made p c.new.result f.unit c.from_vec.result.items f.memory.items c.new.ensures.unit c.new.ensures.ports c.from_vec.ensures.items),
      omega (arith, ap length c.requires, ap length c.from_vec-in-Some.ensures.items, c.in-Some.ensures.count),
    )
