use Rattle.std.proofs.Common.{◌++◌, map, take, ap, sym, ◌∙◌}
use Rattle.std.specs.List.{flat_map}
use Rattle.std.specs.Map.Iter.{deref_pair}
use Rattle.fm_base.specs.declared.path.Path.{Path}
use Rattle.fm_net.specs.Machine.{Place}
use Rattle.fm_proc_language.specs.Processes.{CodeProc}
use Rattle.fm_procs.specs.Readings.{code_of, Entry, proc_in, procs_of}
use Rattle.fm_shown.specs.Outcome.{lines_at, fault_at, wait_at}
use Rattle.fm_shown.specs.declared.rows.Part.TheVariants as part
use Rattle.fm_net_procs.proofs.Listed.{entries_more, flat_more}
use Rattle.fm_shown.proofs.Listed.{entries_all, entries_of, no_fault, no_lines, no_wait, row_listed}
use Rattle.fm_shown.proofs.gathering.gather.Goals as goal

pub add_process-requires-clause-told : goal.add_process-requires-clause-told
add_process-requires-clause-told c =
    let rows = c.deref-row-items.result.now in
    let all = ap (map (deref_pair {K = Path} {X = Entry})) c.deref-row-items.ensures.value ∙ c.in_ok-rows.ensures in
    (row_listed rows c.entries.row-index c.row-item.result c.entries-test.true c.row-item.is part.Shown c.args.processes.now c.requires all).0

pub add_process-requires-clause-family : goal.add_process-requires-clause-family
add_process-requires-clause-family c =
    let rows = c.deref-row-items.result.now in
    let all = ap (map (deref_pair {K = Path} {X = Entry})) c.deref-row-items.ensures.value ∙ c.in_ok-rows.ensures in
    (row_listed rows c.entries.row-index c.row-item.result c.entries-test.true c.row-item.is part.Shown c.args.processes.now c.requires all).1

pub entries-preserved : goal.entries-preserved
entries-preserved c =
    let rows = c.deref-row-items.result.now in
    let i = c.entries.row-index in
    let row = c.row-item.result in
    let e : Place × CodeProc = (row.0.now, proc_in row.1.now) in
    let before = entries_of (map (deref_pair {K = Path} {X = Entry}) (take i rows)) in
    let more = entries_more code_of rows i row c.entries-test.true c.row-item.is in
    let m = procs_of c.args.processes.now in
    record {
      lines = c.in_ok-add_process.ensures.lines ∙ ap (λ ls. ls ++ lines_at e) c.entries.invariant.lines ∙ sym (flat_more lines_at before e) ∙ ap (flat_map lines_at) (sym more);
      faults = c.in_ok-add_process.ensures.faults ∙ ap (λ ls. ls ++ fault_at e) c.entries.invariant.faults ∙ sym (flat_more fault_at before e) ∙ ap (flat_map fault_at) (sym more);
      waits = c.in_ok-add_process.ensures.waits ∙ ap (λ ls. ls ++ wait_at m e) c.entries.invariant.waits ∙ sym (flat_more (wait_at m) before e) ∙ ap (flat_map (wait_at m)) (sym more);
    }

pub returns-clause-lines : goal.returns-clause-lines
returns-clause-lines c =
    let all = ap (map (deref_pair {K = Path} {X = Entry})) c.deref-row-items.ensures.value ∙ c.in_ok-rows.ensures in
    c.entries.invariant.lines ∙ entries_all lines_at part.Shown no_lines c.args.processes.now c.deref-row-items.result.now c.entries.row-index c.entries-test.false all

pub returns-clause-faults : goal.returns-clause-faults
returns-clause-faults c =
    let all = ap (map (deref_pair {K = Path} {X = Entry})) c.deref-row-items.ensures.value ∙ c.in_ok-rows.ensures in
    c.entries.invariant.faults ∙ entries_all fault_at part.Shown no_fault c.args.processes.now c.deref-row-items.result.now c.entries.row-index c.entries-test.false all

pub returns-clause-waits : goal.returns-clause-waits
returns-clause-waits c =
    let all = ap (map (deref_pair {K = Path} {X = Entry})) c.deref-row-items.ensures.value ∙ c.in_ok-rows.ensures in
    c.entries.invariant.waits ∙ entries_all (wait_at (procs_of c.args.processes.now)) part.Shown (no_wait (procs_of c.args.processes.now)) c.args.processes.now c.deref-row-items.result.now c.entries.row-index c.entries-test.false all
