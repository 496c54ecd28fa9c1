use Rattle.std.proofs.Common.{◌≡◌, ◌++◌, drop}
use Rattle.fm_plain_frame.specs.Units.{unit_of}
use Rattle.fm_gen.specs.Statements.{items_code}
use Rattle.fm_gen.proofs.printing.show_items.Given as goal

abbrev pub invariant-items : goal.invariant-items
invariant-items l =
    let p = l.unit.program.now in
    let u = unit_of l.unit in
    l.out ++ items_code p u (drop l.item-index l.items) l.next ≡ l.fn.out ++ items_code p u l.items 0
