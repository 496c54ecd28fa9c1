use Rattle.std.proofs.Common.{ap, sym, ◌∙◌}
use Rattle.fm_proc_events.specs.declared.process.Process.{Process}
use Rattle.fm_proc_events.specs.Phases.{proc_of}
use Rattle.fm_proc_events.specs.Told.{is_running}
use Rattle.fm_procs.specs.Readings.{code_of}
use Rattle.fm_procs.specs.Waiting.{event_in}
use Rattle.fm_procs.proofs.Served.{goes_served, steps_served, stuck_served}
use Rattle.fm_procs.proofs.process.CodeProcessProc.can_go.Goals as goal

pub returns-in-Goes : goal.returns-in-Goes
returns-in-Goes c = λ p w s q is fits told none.
    let y = code_of c.args.self.now in
    c.is_running.ensures ∙ ap (λ (v : Process). is_running (proc_of v)) c.deref.ensures ∙ sym (steps_served s q y is ∙ goes_served s.procs s.chans q y (sym told ∙ c.in-Goes.is))

pub returns-in-Asks : goal.returns-in-Asks
returns-in-Asks c = λ p w s q is fits told none. absurd (cc (sym (ap event_in c.in-Asks.is) ∙ none))

pub returns-in-Stuck : goal.returns-in-Stuck
returns-in-Stuck c = λ p w s q is fits told none.
    let y = code_of c.args.self.now in
    sym (steps_served s q y is ∙ stuck_served s.procs s.chans q y (sym told ∙ c.in-Stuck.is))
