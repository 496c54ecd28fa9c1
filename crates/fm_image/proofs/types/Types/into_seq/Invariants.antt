use Rattle.std.proofs.Common.{◌≡◌, ◌++◌}
use Rattle.fm_image.proofs.types.Types.into_seq.Given as goal

abbrev pub invariant-types : goal.invariant-types
invariant-types l = l.all ++ l.fields-iterator ≡ l.fn.self
