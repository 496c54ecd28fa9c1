use Rattle.std.proofs.Common.{Bor, rules}
use Rattle.std.proofs.lemmas.Fn.{always_returns_same}
use Rattle.fm_base.specs.declared.path.Path.{Path}
use Rattle.fm_finmap.proofs.Sorted.{sorted_entries}
use Rattle.fm_finmap.proofs.path_table.PathTable.in_path_order.Goals as goal

pub returns : goal.returns
returns g c =
    sorted_entries c.args.self.now c.in_ok-rows.rows.items c.sort_by_key.new.self.items c.in_ok-rows.ensures.once c.in_ok-rows.ensures.rows c.in_ok-sort_by_key.ensures.permutation
    (c.in_ok-sort_by_key.ensures.sorted (λ (row : Bor Path × Bor g.row.T.Denot). row.0) (always_returns_same _ _ _ (λ a r q k. search rules)))
