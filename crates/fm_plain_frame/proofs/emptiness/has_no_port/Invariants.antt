use Rattle.std.proofs.Common.{◌≡◌, drop}
use Rattle.fm_base.specs.Channels.{message_ports}
use Rattle.fm_plain_frame.specs.Memory.{values_of}
use Rattle.fm_plain_frame.proofs.emptiness.has_no_port.Given as goal

abbrev pub invariant-variables : goal.invariant-variables
invariant-variables l = message_ports (values_of (drop l.variable-index l.variables) l.memory) ≡ message_ports (values_of l.variables l.memory)
