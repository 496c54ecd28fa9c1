use Rattle.std.proofs.Common.{◌≡◌, drop}
use Rattle.std.specs.Prelude.{nat_lt}
use Rattle.fm_net.specs.Owned.{count}
use Rattle.fm_base.specs.Channels.{message_ports}
use Rattle.fm_plain_frame.specs.Memory.{values_of}
use Rattle.fm_nodes_trees.proofs.holding.memory_has.Given as goal

-- it is among what is left where it is among all
abbrev pub invariant-variables : goal.invariant-variables
invariant-variables l = nat_lt 0 (count l.port (message_ports (values_of (drop l.variable-index l.variables) l.memory))) ≡ nat_lt 0 (count l.port (message_ports (values_of l.variables l.memory)))
