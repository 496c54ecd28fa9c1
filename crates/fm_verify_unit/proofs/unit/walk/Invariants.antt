use Rattle.std.proofs.Common.{◌≡◌}
use Rattle.fm_verify_unit.specs.Along.{AllFound, AreMarks, kinds_at}
use Rattle.fm_verify_unit.proofs.unit.walk.Given as goal

abbrev pub invariant-code : goal.invariant-code
invariant-code l = record {
  here : l.held ≡ kinds_at l.shapes l.shape l.own.loops l.code l.at;
  found : AllFound l.shapes l.shape l.own.loops l.code l.at;
  marks : AreMarks l.shapes l.shape l.own.loops l.code l.marks.items l.lefts.items l.at;
}
