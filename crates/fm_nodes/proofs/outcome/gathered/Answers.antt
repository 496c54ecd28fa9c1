use Rattle.std.proofs.Common.{◌++◌, map, take, ap, sym, ◌∙◌}
use Rattle.std.specs.List.{flat_map}
use Rattle.std.specs.Map.Iter.{deref_pair}
use Rattle.fm_base.specs.declared.path.Path.{Path}
use Rattle.fm_net.specs.Machine.{Place}
use Rattle.fm_mean.specs.Outcome.{lines_at, fault_at, wait_at}
use Rattle.fm_mean.specs.Process.{Proc}
use Rattle.fm_plain_frame.specs.Frames.{proc_of}
use Rattle.fm_plain_frame.specs.declared.process.PlainProc.{PlainProc}
use Rattle.fm_nodes_procs.specs.Processes.{procs_of}
use Rattle.fm_nodes.proofs.Listed.{flat_more, seen_all, seen_in, seen_more}
use Rattle.fm_nodes.proofs.outcome.gathered.Goals as goal

pub processes-preserved : goal.processes-preserved
processes-preserved c =
    let P = c.args.program.now in
    let rows = c.deref-row-items.result.now in
    let i = c.processes.row-index in
    let row = c.row-item.result in
    let e : Place × Proc = (row.0.now, proc_of P row.1.now) in
    let before = seen_in (proc_of P) (map (deref_pair {K = Path} {X = PlainProc}) (take i rows)) in
    let more = seen_more (proc_of P) rows i row c.processes-test.true c.row-item.is in
    let m = procs_of (proc_of P) c.args.processes.now in
    record {
      lines = c.in_ok-add_process.ensures.lines ∙ ap (λ ls. ls ++ lines_at e) c.processes.invariant.lines ∙ sym (flat_more lines_at before e) ∙ ap (flat_map lines_at) (sym more);
      faults = c.in_ok-add_process.ensures.faults ∙ ap (λ ls. ls ++ fault_at e) c.processes.invariant.faults ∙ sym (flat_more fault_at before e) ∙ ap (flat_map fault_at) (sym more);
      waits = c.in_ok-add_process.ensures.waits ∙ ap (λ ls. ls ++ wait_at P m e) c.processes.invariant.waits ∙ sym (flat_more (wait_at P m) before e) ∙ ap (flat_map (wait_at P m)) (sym more);
    }

pub returns-clause-lines : goal.returns-clause-lines
returns-clause-lines c =
    let P = c.args.program.now in
    let all = ap (map (deref_pair {K = Path} {X = PlainProc})) c.deref-row-items.ensures.value ∙ c.in_ok-rows.ensures in
    c.processes.invariant.lines ∙ ap (flat_map lines_at) (seen_all (proc_of P) c.deref-row-items.result.now c.processes.row-index c.args.processes.now c.processes-test.false all)

pub returns-clause-faults : goal.returns-clause-faults
returns-clause-faults c =
    let P = c.args.program.now in
    let all = ap (map (deref_pair {K = Path} {X = PlainProc})) c.deref-row-items.ensures.value ∙ c.in_ok-rows.ensures in
    c.processes.invariant.faults ∙ ap (flat_map fault_at) (seen_all (proc_of P) c.deref-row-items.result.now c.processes.row-index c.args.processes.now c.processes-test.false all)

pub returns-clause-waits : goal.returns-clause-waits
returns-clause-waits c =
    let P = c.args.program.now in
    let all = ap (map (deref_pair {K = Path} {X = PlainProc})) c.deref-row-items.ensures.value ∙ c.in_ok-rows.ensures in
    c.processes.invariant.waits ∙ ap (flat_map (wait_at P (procs_of (proc_of P) c.args.processes.now))) (seen_all (proc_of P) c.deref-row-items.result.now c.processes.row-index c.args.processes.now c.processes-test.false all)
