use Rattle.std.proofs.Common.{◌≡◌, ◌++◌, drop}
use Rattle.fm_gen.specs.Tables.{address_by}
use Rattle.fm_gen.specs.Units.{entries_at}
use Rattle.fm_gen.proofs.describing.entries_at.Given as goal

abbrev pub invariant-entries : goal.invariant-entries
invariant-entries l = l.entries ++ entries_at (address_by l.addresses) l.number (drop l.entry-index l.body) ≡ entries_at (address_by l.addresses) 0 l.body
