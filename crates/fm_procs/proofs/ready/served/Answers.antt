use Rattle.std.proofs.Common.{◌≡◌, ◌&&◌, false, rules, sym, ◌∙◌}
use Rattle.fm_chan.specs.Bodies.{chans_of}
use Rattle.fm_proc_events.specs.Phases.{proc_of}
use Rattle.fm_proc_events.specs.Told.{is_joining}
use Rattle.fm_procs.specs.Waiting.{is_join}
use Rattle.fm_procs.proofs.Served.{running_served, unserved}
use Rattle.fm_procs.proofs.ready.served.Goals as goal

pub returns-then-is_running-clause-channels : goal.returns-then-is_running-clause-channels
returns-then-is_running-clause-channels c = λ told m q.
    let y = proc_of c.args.process.now in
    let running = sym c.is_running.ensures ∙ c.if-is_running.true in
    c.is_free.ensures told running ∙ sym (running_served m (chans_of c.args.channels.now) q y running)

pub returns-clause-channels : goal.returns-clause-channels
returns-clause-channels c = λ told m q.
    let both : (is_joining (proc_of c.args.process.now) && is_join c.args.ask.now) ≡ false = search rules in
    sym (unserved m (chans_of c.args.channels.now) q (proc_of c.args.process.now) c.args.ask.now told (sym c.is_running.ensures ∙ c.if-is_running.false) both)
