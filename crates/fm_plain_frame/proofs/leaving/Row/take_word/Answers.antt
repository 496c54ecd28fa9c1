use Rattle.fm_plain_frame.proofs.LeavingLaws.{run_out}
use Rattle.fm_plain_frame.proofs.leaving.Row.take_word.Goals as goal

pub returns-in-None-clause-ports : goal.returns-in-None-clause-ports
returns-in-None-clause-ports c = λ vs.
    let r = c.args.self.now in
    (run_out vs r.are_ports r.at_hand r.words.items r.next c.in-None.ensures.0, run_out vs r.are_ports r.at_hand c.pop.new.items.items r.next c.in-None.ensures.1)
