use Rattle.std.proofs.Common.{arith, rules, Bor, List, [], ◌∷◌, ◌++◌, map, ap, ap₂, sym, subst, ◌∙◌}
use Rattle.std.specs.Map.Iter.{deref_pair}
use Rattle.std.proofs.lemmas.Fn.{always_returns_same}
use Rattle.std.proofs.lemmas.List.{map-append}
use Rattle.fm_base.specs.declared.path.Path.{Path}
use Rattle.fm_finmap.specs.Rows.{AreDistinct, Place}
use Rattle.fm_finmap.proofs.Sorted.{sorted_entries}
use Rattle.fm_nodes_procs.specs.Processes.{rows_in}
use Rattle.fm_nodes_procs.proofs.Kept.{all_rows, places_kept, row_more}
use Rattle.fm_nodes_procs.proofs.processes.Processes.in_path_order.Goals as goal

pub rows-preserved : goal.rows-preserved
rows-preserved g c =
    let me = c.args.self.now in
    let show = deref_pair {K = Path} {X = g.row.X.Denot} in
    let pair : Bor Path × Bor g.row.X.Denot = (c.deref-path.result, c.index-in-rows.result) in
    ap (map show) c.in_ok-push.ensures.items ∙ map-append show c.rows.rows.items (pair ∷ [])
    ∙ ap₂ (λ (rs : List (Place × g.row.X.Denot)) (p : Place). rs ++ (p, c.index-in-rows.result.now) ∷ []) c.rows.invariant c.deref-path.ensures
    ∙ sym (row_more me.paths.items me.values.items me.rows c.rows.number c.index.result.now c.index-in-rows.result.now (omega (arith, c.len-number-end.ensures, me.paths.ok.0)) c.index.ensures c.index-in-rows.ensures)

pub returns : goal.returns
returns g c =
    let me = c.args.self.now in
    let all = c.rows.invariant ∙ all_rows me.paths.items me.values.items me.rows c.rows.number (omega (arith, c.len-number-end.ensures, me.paths.ok.0)) in
    sorted_entries (rows_in me.paths.items me.values.items) c.rows.rows.items c.sort_by_key.new.self.items (subst AreDistinct (sym (places_kept me.paths.items me.values.items me.rows)) me.rows.once) all c.in_ok-sort_by_key.ensures.permutation
    (c.in_ok-sort_by_key.ensures.sorted (λ (row : Bor Path × Bor g.row.X.Denot). row.0) (always_returns_same _ _ _ (λ a r q k. search rules)))
