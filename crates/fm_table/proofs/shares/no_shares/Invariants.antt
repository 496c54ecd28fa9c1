use Rattle.std.proofs.Common.{◌≡◌, [], replicate}
use Rattle.fm_table.specs.Inside.{shares_of}
use Rattle.fm_table.proofs.shares.no_shares.Given as goal

-- so many have nothing
abbrev pub invariant-workers : goal.invariant-workers
invariant-workers l = shares_of l.lists.items ≡ replicate l.worker []
