use Rattle.std.proofs.Common.{◌++◌, refl, map, length, sym, ap, arith, ◌∙◌}
use Rattle.fm_mean.specs.Process.{started_ports, frames_ports}
use Rattle.fm_plain_frame.specs.Frames.{frames_of, start_of}
use Rattle.fm_plain_frame.specs.Leaving.{row_ports}
use Rattle.fm_plain_frame.proofs.LeavingLaws.{none_popped, start_opens, row_made}
use Rattle.fm_plain_frame.proofs.leaving.Leaving.open.Goals as goal

pub returns-in-None-clause-opens : goal.returns-in-None-clause-opens
returns-in-None-clause-opens c = λ p.
    let old = c.args.self.now in
    let none = c.in-None.ensures.0 ∙ sym c.in-None.ensures.1 in
    none_popped p old (record old { starts = c.pop.new.items }) c.open_frame.new.self c.open_frame.result (ap (λ ss. started_ports (map (start_of p) ss) ++ frames_ports (frames_of p old.top old.below.items)) none)
    (omega (arith, ap length none)) refl (c.open_frame.ensures.opens p)

pub returns-in-Some-clause-opens : goal.returns-in-Some-clause-opens
returns-in-Some-clause-opens c = λ p.
    let old = c.args.self.now in
    let s = c.in-Some.start in (
      start_opens p s c.pop.new.items.items old.starts.items (frames_ports (frames_of p old.top old.below.items)) (row_ports p c.new.result) c.in-Some.ensures
          (row_made p c.new.result s.unit c.from_vec.result.items s.memory.items c.new.ensures.unit c.new.ensures.ports c.from_vec.ensures.items),
      omega (arith, ap length c.in-Some.ensures),
    )
