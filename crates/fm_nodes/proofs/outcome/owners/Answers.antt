use Rattle.std.proofs.Common.{List, map, take, ap, refl, sym, ◌∙◌}
use Rattle.std.specs.List.{flat_map}
use Rattle.std.specs.FinMap.{empty}
use Rattle.std.specs.Map.Iter.{deref_pair}
use Rattle.fm_base.specs.declared.path.Path.{Path}
use Rattle.fm_net.specs.Machine.{Place}
use Rattle.fm_mean.specs.Holders.{holdings, holdings_at}
use Rattle.fm_mean.specs.Outports.{outport_cmp}
use Rattle.fm_mean.specs.Process.{Proc}
use Rattle.fm_run.specs.Gathered.{Owners, with_holders}
use Rattle.fm_run.proofs.Holding.{from_none, with_both}
use Rattle.fm_plain_frame.specs.Frames.{proc_of}
use Rattle.fm_plain_frame.specs.declared.process.PlainProc.{PlainProc}
use Rattle.fm_nodes_procs.specs.Processes.{procs_of}
use Rattle.fm_nodes.proofs.Listed.{flat_more, seen_all, seen_in, seen_more}
use Rattle.fm_nodes.proofs.outcome.owners.Goals as goal

pub processes-preserved : goal.processes-preserved
processes-preserved c =
    let P = c.args.program.now in
    let rows = c.deref-row-items.result.now in
    let i = c.processes.row-index in
    let row = c.row-item.result in
    let e : Place × Proc = (row.0.now, proc_of P row.1.now) in
    let before = seen_in (proc_of P) (map (deref_pair {K = Path} {X = PlainProc}) (take i rows)) in
    c.in_ok-put_process.ensures ∙ ap (λ (m : Owners). with_holders m (holdings_at e)) c.processes.invariant ∙ sym (with_both (empty {R = outport_cmp}) (flat_map holdings_at before) (holdings_at e))
    ∙ ap (with_holders (empty {R = outport_cmp})) (sym (flat_more holdings_at before e) ∙ ap (flat_map holdings_at) (sym (seen_more (proc_of P) rows i row c.processes-test.true c.row-item.is)))

pub returns : goal.returns
returns c =
    let P = c.args.program.now in
    let all = ap (map (deref_pair {K = Path} {X = PlainProc})) c.deref-row-items.ensures.value ∙ c.in_ok-rows.ensures in
    c.processes.invariant ∙ ap (λ (es : List (Place × Proc)). with_holders (empty {R = outport_cmp}) (flat_map holdings_at es)) (seen_all (proc_of P) c.deref-row-items.result.now c.processes.row-index c.args.processes.now c.processes-test.false all)
    ∙ from_none (empty {R = outport_cmp}) (holdings (procs_of (proc_of P) c.args.processes.now)) refl
