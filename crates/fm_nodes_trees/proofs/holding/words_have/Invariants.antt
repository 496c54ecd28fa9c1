use Rattle.std.proofs.Common.{◌≡◌, drop, map}
use Rattle.std.specs.Prelude.{nat_lt}
use Rattle.fm_net.specs.Owned.{count}
use Rattle.fm_mean.specs.Places.{live}
use Rattle.fm_plain_frame.specs.Memory.{port_in}
use Rattle.fm_nodes_trees.proofs.holding.words_have.Given as goal

-- it is among what is left where it is among all
abbrev pub invariant-words : goal.invariant-words
invariant-words l = nat_lt 0 (count l.port (live (map port_in (drop l.word-index l.words)))) ≡ nat_lt 0 (count l.port (live (map port_in l.words)))
