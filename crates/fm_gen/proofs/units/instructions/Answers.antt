use Rattle.std.proofs.Common.{ap, ◌∙◌, length}
use Rattle.fm_plain_frame.specs.Units.{unit_of}
use Rattle.fm_tree.specs.declared.program_unit.Unit as tree
use Rattle.fm_gen.specs.Statements.{Addresses}
use Rattle.fm_gen.specs.Entries.{entries_code}
use Rattle.fm_gen.specs.Tables.{address_by}
use Rattle.fm_gen.specs.Units.{entries_at}
use Rattle.fm_gen.proofs.UnitLaws.{second_pass}
use Rattle.fm_gen.proofs.units.instructions.Goals as goal

pub returns-clause-code : goal.returns-clause-code
returns-clause-code c =
    let p = c.args.unit.now.program.now in
    let u = unit_of c.args.unit.now in
    let placed = second_pass p u (address_by c.nowhere-unplaced.result) (address_by c.in_ok-placed.placed) c.in_ok-first.first.code c.in_ok-first.first.starts c.nowhere-unplaced.ensures c.in_ok-first.ensures.code c.in_ok-first.ensures.starts c.in_ok-placed.ensures in
    c.in_ok-second.ensures.code ∙ ap (λ (a : Addresses). entries_code p u a (length u.tree.body)) placed

pub returns-clause-entries : goal.returns-clause-entries
returns-clause-entries c =
    let p = c.args.unit.now.program.now in
    let u = unit_of c.args.unit.now in
    let placed = second_pass p u (address_by c.nowhere-unplaced.result) (address_by c.in_ok-placed.placed) c.in_ok-first.first.code c.in_ok-first.first.starts c.nowhere-unplaced.ensures c.in_ok-first.ensures.code c.in_ok-first.ensures.starts c.in_ok-placed.ensures in
    c.in_ok-entries.ensures ∙ (λ i. entries_at (placed i) 0 ((c.as_slice-2.ensures ∙ ap (λ (t : tree.Unit). t.body) c.tree.ensures) i))
