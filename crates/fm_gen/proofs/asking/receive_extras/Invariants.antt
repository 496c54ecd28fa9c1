use Rattle.std.proofs.Common.{◌≡◌, ◌++◌, drop}
use Rattle.fm_plain_frame.specs.Units.{unit_of}
use Rattle.fm_mean.specs.Referring.{names_in}
use Rattle.fm_gen.specs.Statements.{extras_code, refs_behind}
use Rattle.fm_gen.proofs.asking.receive_extras.Given as goal

abbrev pub invariant-extras : goal.invariant-extras
invariant-extras l =
    let p = l.unit.program.now in
    let u = unit_of l.unit in
    record {
      code : l.out ++ extras_code p u (drop l.extra-index l.extras) l.next ≡ l.fn.out ++ extras_code p u l.extras l.fn.next;
      next : refs_behind (names_in p u) (drop l.extra-index l.extras) l.next ≡ refs_behind (names_in p u) l.extras l.fn.next;
    }
