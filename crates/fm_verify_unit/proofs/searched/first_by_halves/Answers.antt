use Rattle.std.specs.Prelude.{nat_le}
use Rattle.std.proofs.Common.{rules, sym, ◌∙◌}
use Rattle.std.proofs.lemmas.List.Sorted.{IsPartitionedBy-leb, IsPartitionPoint-from_clause}
use Rattle.fm_code_kinds.specs.declared.sorts.Cell.{Cell}
use Rattle.fm_verify_unit.specs.Ends.{cell_end}
use Rattle.fm_verify_unit.proofs.Ends.{past_at, rises}
use Rattle.fm_verify_unit.proofs.searched.first_by_halves.Goals as goal

pub returns : goal.returns
returns c =
    let cells = c.args.cells.now in
    let first = c.args.first in
    let point = IsPartitionPoint-from_clause (λ (y : Cell). nat_le (cell_end y) first) cells c.partition_point-at.result c.partition_point-at.ensures.partitioned (IsPartitionedBy-leb cell_end cells first (rises 0 cells c.requires)) (λ a r q k. search rules) in
    c.cell_at.ensures ∙ sym (past_at cells first c.partition_point-at.result point c.partition_point-at.ensures.bound)
