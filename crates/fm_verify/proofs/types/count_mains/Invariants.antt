use Rattle.std.proofs.Common.{◌≡◌, ◌+◌, ◌≤◌, drop}
use Rattle.fm_image_typed.specs.Typed.{how_many, is_main}
use Rattle.fm_verify.proofs.types.count_mains.Given as goal

-- those before are counted
abbrev pub invariant-units : goal.invariant-units
invariant-units l = record {
  same : l.count + how_many is_main (drop l.unit-index l.units) ≡ how_many is_main l.units;
  low : l.count ≤ l.unit-index;
}
