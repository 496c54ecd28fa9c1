use Rattle.std.proofs.lemmas.Result.{on_ok_weaker}
use Rattle.fm_plain_frame.specs.Units.{unit_of}
use Rattle.fm_gen.specs.Tables.{address_by}
use Rattle.fm_gen.proofs.ReferenceLaws.{entry_added}
use Rattle.fm_mean.specs.Names.{point_at}
use Rattle.fm_gen.proofs.units.entry.Goals as goal

pub returns-in_ok-here-in-Some : goal.returns-in_ok-here-in-Some
returns-in_ok-here-in-Some c =
    let p = c.args.unit.now.program.now in
    let u = unit_of c.args.unit.now in
    on_ok_weaker c.statement.result
    (entry_added p u (address_by c.args.addresses) c.args.number c.of-begin.result c.in_ok-here-in-Some.here (record { entry = c.in-Some.entry.now; links = c.in-Some.links }) (point_at u c.args.number)
    c.as_slice.result.now c.args.out.now c.references.new.out c.statement.new.out
    c.in-Some.ensures c.as_slice.ensures c.of-begin.ensures c.in_ok-here-in-Some.ensures.code c.in_ok-here-in-Some.ensures.next)
    c.statement.ensures
