use Rattle.std.proofs.Common.{Bor, ◌∙◌, rules}
use Rattle.std.specs.Prelude.{filter}
use Rattle.std.proofs.lemmas.Fn.{always_returns_same}
use Rattle.fm_base.specs.declared.path.Path.{Path}
use Rattle.fm_finmap.proofs.Chosen.{chosen_entries, distinct_left}
use Rattle.fm_finmap.proofs.Keys.{path_order}
use Rattle.fm_finmap.proofs.Sorted.{sorted_entries}
use Rattle.fm_shown.specs.Parts.{row_gives}
use Rattle.fm_procs.specs.Readings.{Entry}
use Rattle.fm_shown.proofs.rows.in_path_order.Goals as goal

pub returns : goal.returns
returns c =
    let keep = row_gives c.args.part in
    let rows = c.args.processes.now.rows in
    sorted_entries (filter keep rows) c.in_ok-rows.rows.items c.sort_by_key.new.self.items (distinct_left path_order keep rows c.in_ok-rows.ensures.once) c.in_ok-rows.ensures.rows c.in_ok-sort_by_key.ensures.permutation
    (c.in_ok-sort_by_key.ensures.sorted (λ (row : Bor Path × Bor Entry). row.0) (always_returns_same _ _ _ (λ a r q k. search rules)))
    ∙ chosen_entries keep rows c.in_ok-rows.ensures.once
