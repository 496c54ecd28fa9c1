use Rattle.std.proofs.Common.{◌≡◌, Some, ap, sym, ◌∙◌}
use Rattle.std.specs.Prelude.{option_map}
use Rattle.std.specs.Option.{option_copied}
use Rattle.fm_proc_language.specs.Processes.{CodeProc}
use Rattle.fm_proc_events.specs.declared.process.Process.{Process}
use Rattle.fm_proc_events.specs.Phases.{proc_of}
use Rattle.fm_procs.specs.Readings.{code_of}
use Rattle.fm_run_code.proofs.net.CodeNet.body_of.Goals as goal

pub returns-in-Some : goal.returns-in-Some
returns-in-Some g c = λ q y at is.
    let held = c.deref-held.result.now in
    let there : Some (proc_of held) ≡ Some y =
    ap (λ (v : Process). Some (proc_of v)) c.deref-held.ensures ∙ sym (ap (λ o. option_map code_of (option_copied o)) c.in-Some.is) ∙ c.process.ensures tt q at ∙ is in
    let same : proc_of held ≡ y = cc there in
    c.as_ref.ensures.value ∙ ap (λ (z : CodeProc). z.body) same

pub returns-in-None : goal.returns-in-None
returns-in-None g c = λ q y at is. absurd (cc (sym (ap (λ o. option_map code_of (option_copied o)) c.in-None.is) ∙ c.process.ensures tt q at ∙ is))
