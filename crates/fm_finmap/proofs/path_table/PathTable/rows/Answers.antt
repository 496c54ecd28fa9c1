use Rattle.std.proofs.Common.{arith, Bor, List, [], ◌∷◌, ◌++◌, map, ap, ap₂, sym, ◌∙◌}
use Rattle.std.specs.Map.Iter.{deref_pair}
use Rattle.std.proofs.lemmas.List.{map-append}
use Rattle.fm_base.specs.declared.path.Path.{Path}
use Rattle.fm_finmap.specs.Rows.{Place}
use Rattle.fm_finmap.proofs.Kept.{all_rows, are_once, row_more}
use Rattle.fm_finmap.proofs.path_table.PathTable.rows.Goals as goal

pub rows-preserved : goal.rows-preserved
rows-preserved g c =
    let show = deref_pair {K = Path} {X = g.row.T.Denot} in
    let paths = c.self.inside.paths.items in
    let values = c.self.inside.values.items in
    let pair : Bor Path × Bor g.row.T.Denot = (c.deref-path.result, c.index-in-rows.result) in
    ap (map show) c.in_ok-push.ensures.items ∙ map-append show c.rows.rows.items (pair ∷ [])
    ∙ ap₂ (λ (rs : List (Place × g.row.T.Denot)) (p : Place). rs ++ (p, c.index-in-rows.result.now) ∷ []) c.rows.invariant c.deref-path.ensures
    ∙ sym (row_more paths values c.args.self.now c.self.invariant c.self.view_is c.rows.number c.index.result.now c.index-in-rows.result.now (omega (arith, c.len-number-end.ensures, c.self.inside.paths.ok.0)) c.index.ensures c.index-in-rows.ensures)

pub returns-clause-rows : goal.returns-clause-rows
returns-clause-rows g c = c.rows.invariant ∙ all_rows c.self.inside.paths.items c.self.inside.values.items c.args.self.now c.self.invariant c.self.view_is c.rows.number (omega (arith, c.len-number-end.ensures, c.self.inside.paths.ok.0))

pub returns-clause-once : goal.returns-clause-once
returns-clause-once g c = are_once c.self.inside.paths.items c.self.inside.values.items c.args.self.now c.self.invariant c.self.view_is
