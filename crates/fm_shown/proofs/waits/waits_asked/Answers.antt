use Rattle.std.proofs.Common.{ℕ, ap, sym, subst, ◌∙◌}
use Rattle.std.proofs.lemmas.List.{length-map}
use Rattle.std.proofs.lemmas.Result.{IfOk-weaker}
use Rattle.fm_proc_language.specs.Processes.{Phase}
use Rattle.fm_proc_events.specs.declared.process.Process.{Process}
use Rattle.fm_proc_events.specs.Phases.{kid_of, phase_of}
use Rattle.fm_procs.specs.Kept.{AreChildren}
use Rattle.fm_procs.specs.Readings.{awaited_in, order_of, procs_of}
use Rattle.fm_shown.specs.Waits.{asked_by, joined_by}
use Rattle.fm_shown.proofs.waits.waits_asked.Goals as goal

pub returns-in-Joining : goal.returns-in-Joining
returns-in-Joining c =
    let m = procs_of c.args.processes.now in
    let block = c.in-Joining.block in
    let e = ap (λ (v : Process). phase_of v.phase) (sym c.deref-process.ensures) ∙ ap phase_of c.in-Joining.is in
    let count_is = c.len.ensures ∙ sym (length-map c.in-Joining.kids kid_of) in
    IfOk-weaker c.joined.result _ _ (λ o told q family.
    told q block (subst (λ (n : ℕ). AreChildren (order_of c.args.processes.now) c.args.entry.now.first_child q block n) (sym count_is) (family block _ (ap awaited_in e)))
    ∙ ap (λ (n : ℕ). joined_by m q block n c.args.ask.now) count_is
    ∙ ap (λ (phase : Phase). asked_by m q phase c.args.entry.now.process.held.value.slots c.args.ask.now) (sym e)) c.joined.ensures
