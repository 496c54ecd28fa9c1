use Rattle.std.proofs.Common.{◌≡◌}
use Rattle.fm_plain_frame.specs.Units.{unit_of}
use Rattle.fm_gen.specs.Entries.{entries_code, starts_of}
use Rattle.fm_gen.specs.Tables.{address_by}
use Rattle.fm_gen.proofs.units.pass.Given as goal

abbrev pub invariant-entries : goal.invariant-entries
invariant-entries l = record {
  code : l.code ≡ entries_code l.unit.program.now (unit_of l.unit) (address_by l.addresses) l.number;
  starts : l.starts ≡ starts_of l.unit.program.now (unit_of l.unit) (address_by l.addresses) l.number;
}
