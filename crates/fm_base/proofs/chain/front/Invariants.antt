use Rattle.std.proofs.Common.{◌≡◌, ◌-◌, length, take}
use Rattle.fm_base.specs.Chains.{pairs_of}
use Rattle.fm_base.proofs.chain.front.Given as goal

abbrev pub invariant-links : goal.invariant-links
invariant-links l =
    take (length (pairs_of l.front) - length (pairs_of l.left)) (pairs_of l.front)
    ≡ take (length (pairs_of l.chain) - length (pairs_of l.other)) (pairs_of l.chain)
