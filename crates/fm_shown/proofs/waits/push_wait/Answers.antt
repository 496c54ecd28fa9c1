use Rattle.std.proofs.Common.{ap, refl, sym, ◌∙◌}
use Rattle.fm_proc_events.specs.declared.process.Process.{Process}
use Rattle.fm_procs.specs.Readings.{procs_of}
use Rattle.fm_shown.specs.Outcome.{line_in}
use Rattle.fm_shown.proofs.Needed.{wait_more, wait_none}
use Rattle.fm_shown.proofs.waits.push_wait.Goals as goal

pub returns-in_ok-push-in-Some : goal.returns-in_ok-push-in-Some
returns-in_ok-push-in-Some c =
    let q = c.args.path.now in
    wait_more (procs_of c.args.processes.now) q c.args.entry.now c.requires.told c.args.all.now.items c.push.new.self.items c.in-Some.at c.in_ok-path-in-Some.path c.line_at-line.result.0
    c.in_ok-path-in-Some.ensures (sym c.in-Some.is ∙ c.in_ok-at.ensures q c.requires.family) (c.line_at-line.ensures ∙ ap (λ (p : Process). line_in p.body) c.deref-process.ensures) c.in_ok-push-in-Some.ensures.items

pub returns-in-None : goal.returns-in-None
returns-in-None c =
    let q = c.args.path.now in
    wait_none (procs_of c.args.processes.now) q c.args.entry.now c.requires.told c.args.all.now.items c.args.all.now.items
    (sym c.in-None.is ∙ c.in_ok-at.ensures q c.requires.family) refl
