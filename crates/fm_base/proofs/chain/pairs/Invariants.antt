use Rattle.std.proofs.Common.{◌≡◌, ◌++◌}
use mathlib.Core.List.{reverse}
use Rattle.fm_base.specs.Chains.{pairs_of}
use Rattle.fm_base.proofs.chain.pairs.Given as goal

abbrev pub invariant-links : goal.invariant-links
invariant-links l = pairs_of l.before ++ reverse l.pairs.items ≡ pairs_of l.chain
