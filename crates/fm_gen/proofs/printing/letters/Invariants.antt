use Rattle.std.proofs.Common.{◌≡◌, ◌++◌, take}
use Rattle.fm_gen.specs.Statements.{letters}
use Rattle.fm_gen.proofs.printing.letters.Given as goal

abbrev pub invariant-bytes : goal.invariant-bytes
invariant-bytes l = l.out ≡ l.fn.out ++ letters (take l.byte-index l.bytes)
