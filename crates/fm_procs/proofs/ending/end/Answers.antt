use Rattle.std.proofs.Common.{ap, ◌∙◌}
use Rattle.fm_chan.specs.Bodies.{chans_of}
use Rattle.fm_chan.proofs.Waking.{wakes_all_then}
use Rattle.fm_proc_events.specs.Discards.{all_discarded}
use Rattle.fm_proc_events.specs.Phases.{proc_of}
use Rattle.fm_procs.proofs.Endings.{body_left, ended_so, frame_gone}
use Rattle.fm_procs.proofs.ending.end.Goals as goal

pub returns-clause-performs : goal.returns-clause-performs
returns-clause-performs c =
    let b = c.in-Some.body in
    let calls = c.end_calls in
    let ended = c.end_frame in
    let slots = calls.new.slots in
    let cs = chans_of calls.new.channels in
    ended_so _ (proc_of c.args.process.now) (chans_of c.args.channels.now) (chans_of ended.new.channels) b ended.new.body ended.new.slots c.requires.look c.requires.running c.in-Some.is
    (ended.ensures.body ∙ body_left b calls.new.body calls.ensures.body calls.ensures.frame)
    (ended.ensures.gone ∙ (ap (all_discarded slots cs) (frame_gone b calls.new.body calls.ensures.body) ∙ calls.ensures.gone))

pub returns-clause-waking : goal.returns-clause-waking
returns-clause-waking c = wakes_all_then c.args.channels.now c.end_calls.new.channels c.end_frame.new.channels c.end_calls.ensures.waking c.end_frame.ensures.waking
