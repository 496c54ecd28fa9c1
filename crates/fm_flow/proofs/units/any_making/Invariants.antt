use Rattle.std.proofs.Common.{◌≡◌, drop}
use Rattle.fm_flow.specs.Units.{any_making}
use Rattle.fm_flow.proofs.units.any_making.Given as goal

abbrev pub invariant-entries : goal.invariant-entries
invariant-entries l = any_making (drop l.entry-index l.body) ≡ any_making l.body
