use Rattle.fm_plain_frame.specs.Frames.{proc_of}
use Rattle.fm_plain.proofs.LocalLaws.{joins_event, joins_rest}
use Rattle.fm_plain.proofs.local.act.Goals.{in-None, in-Some}
use Rattle.fm_plain.proofs.local.act.Goals as goal

pub returns-after-process-2-clause-acts : goal.returns-after-process-2-clause-acts
returns-after-process-2-clause-acts c =
    let p = c.args.program.now in
    let x = proc_of p c.args.process.now in
    elim c.match-process-2.branch [
      | in-None w ↦ joins_rest p x c.raise.new.process c.match-process-2.process c.in-Joining.block c.in-Joining.kids c.match-process-2.result (c.raise.ensures.process p) w.process-is w.result-is c.in-Joining.is w.in-None.is c.raise.ensures.raised
      | in-Some w ↦ joins_event p x c.raise.new.process c.match-process-2.process w.in-Some.top c.in-Joining.block w.len.result w.after_at.result c.in-Joining.kids c.match-process-2.result (c.raise.ensures.process p) w.process-is w.result-is c.in-Joining.is w.in-Some.is w.len.ensures w.after_at.ensures
    ]
