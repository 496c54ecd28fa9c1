use Rattle.std.proofs.Common.{◌≡◌, ◌+◌, ◌++◌, drop, length}
use Rattle.fm_plain_frame.specs.Units.{unit_of}
use Rattle.fm_gen.specs.Entries.{references_code}
use Rattle.fm_gen.proofs.referring.references.Given as goal

abbrev pub invariant-places : goal.invariant-places
invariant-places l =
    let p = l.unit.program.now in
    let u = unit_of l.unit in
    record {
      code : l.out ++ references_code p u l.stmt l.here l.number (drop l.place-index l.places) ≡ l.fn.out ++ references_code p u l.stmt l.fn.here 0 l.places;
      next : l.here + length (references_code p u l.stmt l.here l.number (drop l.place-index l.places)) ≡ l.fn.here + length (references_code p u l.stmt l.fn.here 0 l.places);
    }
