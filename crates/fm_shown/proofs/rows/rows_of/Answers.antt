use Rattle.std.proofs.Common.{◌≡◌, ◌++◌, [], ◌∷◌, List, Bor, ◌+◌, map, take, ap, sym, ◌∙◌}
use Rattle.std.specs.Prelude.{filter}
use Rattle.std.specs.Map.Iter.{deref_pair}
use Rattle.std.proofs.lemmas.List.{map-append, take_all, take_more}
use Rattle.std.proofs.lemmas.List.Elements.{filter-append}
use Rattle.fm_base.specs.declared.path.Path.{Path}
use Rattle.fm_net.specs.Machine.{Place}
use Rattle.fm_shown.specs.Parts.{row_gives}
use Rattle.fm_procs.specs.Readings.{Entry}
use Rattle.fm_shown.proofs.rows.rows_of.Goals as goal

pub rows-preserved : goal.rows-preserved
rows-preserved c =
    let show = deref_pair {K = Path} {X = Entry} in
    let all = c.deref-row-items.result.now in
    let i = c.rows.row-index in
    let row = c.row-item.result in
    let keep = row_gives c.args.part in
    let more : map show (take (i + 1) all) ≡ map show (take i all) ++ (row.0.now, row.1.now) ∷ [] =
    ap (map show) (take_more all i row c.rows-test.true ∙ ap (λ (r : Bor Path × Bor Entry). take i all ++ r ∷ []) (sym c.row-item.is)) ∙ map-append show (take i all) (row ∷ []) in
    c.in_ok-push_if.ensures ∙ ap (λ (l : List (Place × Entry)). l ++ filter keep ((row.0.now, row.1.now) ∷ [])) c.rows.invariant
    ∙ sym (ap (filter keep) more ∙ filter-append keep (map show (take i all)) ((row.0.now, row.1.now) ∷ []))

pub returns-clause-rows : goal.returns-clause-rows
returns-clause-rows c =
    let show = deref_pair {K = Path} {X = Entry} in
    c.rows.invariant
    ∙ ap (filter (row_gives c.args.part)) (ap (map show) (take_all c.rows.row-index c.deref-row-items.result.now c.rows-test.false ∙ c.deref-row-items.ensures.value) ∙ c.in_ok-all.ensures.rows)
