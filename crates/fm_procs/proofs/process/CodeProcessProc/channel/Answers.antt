use Rattle.std.proofs.Common.{ap, sym, ◌∙◌}
use Rattle.fm_proc_events.specs.declared.process.Process.{Process}
use Rattle.fm_proc_events.specs.Phases.{proc_of}
use Rattle.fm_proc_events.specs.Told.{look_of}
use Rattle.fm_procs.specs.Readings.{code_of}
use Rattle.fm_procs.specs.Waiting.{channel_waited}
use Rattle.fm_procs.proofs.Table.{waited}
use Rattle.fm_procs.proofs.process.CodeProcessProc.channel.Goals as goal

pub returns : goal.returns
returns c = λ p told.
    let same = c.deref.ensures in
    c.waited_channel.ensures (told ∙ sym (ap (λ (v : Process). look_of (proc_of v)) same)) ∙ ap (λ (v : Process). channel_waited (proc_of v)) same ∙ sym (waited (code_of c.args.self.now))
