use Rattle.fm_run.proofs.Queueing.{grown_marked}
use Rattle.fm_run.proofs.orders.Queue.grow.Goals as goal

pub returns-clause-marks : goal.returns-clause-marks
returns-clause-marks c = λ before more within are.
    let old = c.args.self.now in
    grown_marked before c.args.count _ old.marks.items c.resize.new.self.items old.numbers.items more within are old.marks.ok.0 c.in_ok-resize.ensures.items
