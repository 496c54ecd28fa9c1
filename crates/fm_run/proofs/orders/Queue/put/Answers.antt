use Rattle.fm_run.proofs.Numbers.{put_marked}
use Rattle.fm_run.proofs.orders.Queue.put.Goals as goal

pub returns-clause-marks : goal.returns-clause-marks
returns-clause-marks c = λ count before.
    put_marked count c.args.self.now.marks.items c.mark.new.marks.items c.args.self.now.numbers.items c.push_back.new.self.items c.args.number before c.mark.ensures.length c.mark.ensures.marked c.in_ok-push_back.ensures.items
