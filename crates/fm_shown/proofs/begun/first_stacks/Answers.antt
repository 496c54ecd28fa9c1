use Rattle.std.proofs.Common.{[], ap, ap₂, ◌∙◌}
use Rattle.std.specs.Arc.{arc_value}
use Rattle.std.specs.FinMap.{empty, get, get-empty, insert}
use Rattle.fm_base.specs.Channels.{Chans}
use Rattle.fm_base.specs.PathOrder.{path_cmp}
use Rattle.fm_net.specs.Machine.{Place, Procs}
use Rattle.fm_proc_language.specs.Processes.{CodeProc}
use Rattle.fm_procs.specs.Readings.{awaits, code_of, order_of, proc_in}
use Rattle.fm_net_procs.proofs.Families.{all_families, awaits_nobody, families_but}
use Rattle.fm_net_procs.proofs.Maps.{absent, told_but, told_own}
use Rattle.fm_procs.specs.Kept.{IsNext}
use Rattle.fm_shown.proofs.begun.first_stacks.Goals as goal

pub push-requires : goal.push-requires
push-requires c =
    let q = arc_value c.in_ok-path.path in
    absent code_of c.no_procs-stacks.result.entries q (ap (λ (m : Procs CodeProc). get m q) c.no_procs-stacks.ensures.processes ∙ get-empty {X = CodeProc} path_cmp q)

pub returns-clause-kept : goal.returns-clause-kept
returns-clause-kept c =
    let q = arc_value c.in_ok-path.path in
    let old = c.no_procs-stacks.result.entries in
    let new = c.push.new.self in
    let entry = c.in_ok-entry.entry in
    record {
      told = told_own code_of IsNext q old new entry c.in_ok-push.ensures.entries c.in_ok-entry.ensures.told (told_but code_of IsNext q old c.no_procs-stacks.ensures.kept.told);
      families = all_families code_of awaits new (λ own.
          c.in_ok-push.ensures.families tt own (awaits_nobody (order_of new) q (awaits (proc_in entry)) entry.first_child (ap awaits c.in_ok-entry.ensures.process))
          (families_but code_of awaits own old c.no_procs-stacks.ensures.kept.families));
    }

pub returns-clause-state : goal.returns-clause-state
returns-clause-state c =
    let x = proc_in c.in_ok-entry.entry in
    let q = arc_value c.in_ok-path.path in
    let processes = c.in_ok-push.ensures.processes tt ∙ ap (λ (m : Procs CodeProc). insert m q x) c.no_procs-stacks.ensures.processes
    ∙ ap (λ (k : Place). insert (empty {X = CodeProc} {R = path_cmp}) k x) (c.in_ok-path.ensures.ok ∙ c.main.ensures) ∙ ap (insert (empty {X = CodeProc} {R = path_cmp}) []) c.in_ok-entry.ensures.process in
    ap₂ (λ (m : Procs CodeProc) (cs : Chans). record { procs = m; chans = cs }) processes c.no_procs-stacks.ensures.channels
