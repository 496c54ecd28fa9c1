use Rattle.std.proofs.Common.{◌≡◌}
use Rattle.std.specs.List.{range_with_len}
use Rattle.fm_pool.proofs.pool.numbers.Given as goal

abbrev pub invariant-workers : goal.invariant-workers
invariant-workers l = l.numbers.items ≡ range_with_len 0 l.number
