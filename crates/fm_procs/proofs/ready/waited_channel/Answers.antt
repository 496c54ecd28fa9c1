use Rattle.std.proofs.Common.{sym, ◌∙◌}
use Rattle.fm_proc_events.specs.Phases.{proc_of}
use Rattle.fm_procs.proofs.Served.{goes_waits, stuck_waits, waits_not}
use Rattle.fm_procs.proofs.ready.waited_channel.Goals as goal

pub returns-then-not-is_running : goal.returns-then-not-is_running
returns-then-not-is_running c = λ told. sym (waits_not (proc_of c.args.process.now) (sym c.is_running.ensures ∙ c.if-not-is_running.true))

pub returns-in-Goes : goal.returns-in-Goes
returns-in-Goes c = λ told. sym (goes_waits (proc_of c.args.process.now) (sym told ∙ c.in-Goes.is))

pub returns-in-Stuck : goal.returns-in-Stuck
returns-in-Stuck c = λ told. sym (stuck_waits (proc_of c.args.process.now) (sym told ∙ c.in-Stuck.is))

pub returns-in-Asks : goal.returns-in-Asks
returns-in-Asks c = λ told. c.received_channel.ensures (sym told ∙ c.in-Asks.is) (sym c.is_running.ensures ∙ c.if-not-is_running.false)
