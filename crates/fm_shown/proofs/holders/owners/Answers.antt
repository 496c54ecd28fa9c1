use Rattle.std.proofs.Common.{map, take, ap, refl, sym, ◌∙◌}
use Rattle.std.specs.List.{flat_map}
use Rattle.std.specs.FinMap.{empty}
use Rattle.std.specs.Map.Iter.{deref_pair}
use Rattle.fm_base.specs.declared.path.Path.{Path}
use Rattle.fm_net.specs.Machine.{Place}
use Rattle.fm_mean.specs.Outports.{outport_cmp}
use Rattle.fm_proc_language.specs.Processes.{CodeProc}
use Rattle.fm_procs.specs.Readings.{code_of, Entry, proc_in, procs_of}
use Rattle.fm_shown.specs.Outcome.{holdings, holdings_at}
use Rattle.fm_run.specs.Gathered.{Owners, with_holders}
use Rattle.fm_run.proofs.Holding.{from_none, with_both}
use Rattle.fm_shown.specs.declared.rows.Part.TheVariants as part
use Rattle.fm_net_procs.proofs.Listed.{entries_more, flat_more}
use Rattle.fm_shown.proofs.Listed.{entries_all, entries_of, no_holding}
use Rattle.fm_shown.proofs.holders.owners.Goals as goal

pub entries-preserved : goal.entries-preserved
entries-preserved c =
    let rows = c.deref-row-items.result.now in
    let i = c.entries.row-index in
    let row = c.row-item.result in
    let e : Place × CodeProc = (row.0.now, proc_in row.1.now) in
    let before = entries_of (map (deref_pair {K = Path} {X = Entry}) (take i rows)) in
    c.in_ok-put_process.ensures ∙ ap (λ (m : Owners). with_holders m (holdings_at e)) c.entries.invariant ∙ sym (with_both (empty {R = outport_cmp}) (flat_map holdings_at before) (holdings_at e))
    ∙ ap (with_holders (empty {R = outport_cmp})) (sym (flat_more holdings_at before e) ∙ ap (flat_map holdings_at) (sym (entries_more code_of rows i row c.entries-test.true c.row-item.is)))

pub returns : goal.returns
returns c =
    let all = ap (map (deref_pair {K = Path} {X = Entry})) c.deref-row-items.ensures.value ∙ c.in_ok-rows.ensures in
    c.entries.invariant ∙ ap (with_holders (empty {R = outport_cmp})) (entries_all holdings_at part.Held no_holding c.args.processes.now c.deref-row-items.result.now c.entries.row-index c.entries-test.false all)
    ∙ from_none (empty {R = outport_cmp}) (holdings (procs_of c.args.processes.now)) refl
