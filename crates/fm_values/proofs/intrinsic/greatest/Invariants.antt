use Rattle.std.proofs.Common.{◌≡◌, take}
use Rattle.std.specs.Int.{int_max}
use Rattle.std.specs.List.{fold}
use Rattle.fm_values.specs.Intrinsics.{argument}
use Rattle.fm_values.proofs.intrinsic.greatest.Given as goal

abbrev pub invariant-loop-value : goal.invariant-loop-value
invariant-loop-value l = l.greatest ≡ fold int_max (argument 0 l.arguments) (take l.value-index l.arguments)
