use Rattle.std.proofs.Common.{Some, ap, sym, ◌∙◌}
use Rattle.std.specs.Prelude.{option_map}
use Rattle.std.specs.Option.{option_copied}
use Rattle.fm_proc_events.specs.declared.process.Process.{Process}
use Rattle.fm_proc_events.specs.Phases.{proc_of}
use Rattle.fm_procs.specs.Readings.{code_of}
use Rattle.fm_shown.proofs.gathering.process_of.Goals as goal

pub returns-in-Some : goal.returns-in-Some
returns-in-Some c = λ q at. ap (λ (v : Process). Some (proc_of v)) c.deref-held.ensures ∙ sym (ap (λ o. option_map code_of (option_copied o)) c.in-Some.is) ∙ c.process.ensures tt q at

pub returns-in-None : goal.returns-in-None
returns-in-None c = λ q at. sym (ap (λ o. option_map code_of (option_copied o)) c.in-None.is) ∙ c.process.ensures tt q at
