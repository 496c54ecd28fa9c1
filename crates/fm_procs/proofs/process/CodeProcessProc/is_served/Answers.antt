use Rattle.std.proofs.Common.{ap, sym, ◌∙◌}
use Rattle.fm_base.specs.Channels.{Chans}
use Rattle.fm_chan.specs.Bodies.{chans_of}
use Rattle.fm_proc_events.specs.declared.process.Process.{Process}
use Rattle.fm_proc_events.specs.Phases.{proc_of}
use Rattle.fm_proc_events.specs.Told.{is_joining, look_of}
use Rattle.fm_procs.specs.Readings.{code_of}
use Rattle.fm_procs.specs.Waiting.{is_served}
use Rattle.fm_procs.proofs.Served.{steps_served}
use Rattle.fm_procs.proofs.Table.{if_none, if_some, joins_block}
use Rattle.fm_procs.proofs.process.CodeProcessProc.is_served.Goals as goal

pub returns-clause-served : goal.returns-clause-served
returns-clause-served c = if_some c.served.result (λ r told p s q is chans fits meets.
    let y = code_of c.args.self.now in
    let same = c.deref.ensures in
    told (ap (λ (v : Process). look_of (proc_of v)) same ∙ meets) s.procs q
    ∙ ap (λ (v : Process). is_served s.procs (chans_of c.args.channels.now) q (proc_of v)) same ∙ ap (λ (cs : Chans). is_served s.procs cs q y) (sym chans)
    ∙ sym (steps_served s q y is)) c.served.ensures.channels

pub returns-clause-joins : goal.returns-clause-joins
returns-clause-joins c = if_none c.served.result (λ both p meets.
    joins_block (code_of c.args.self.now) c.args.event.now meets (sym (ap (λ (v : Process). is_joining (proc_of v)) c.deref.ensures) ∙ both.0) both.1) c.served.ensures.joins
