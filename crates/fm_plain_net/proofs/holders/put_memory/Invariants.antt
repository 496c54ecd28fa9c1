use Rattle.std.proofs.Common.{◌≡◌, take}
use Rattle.fm_base.specs.Channels.{message_ports}
use Rattle.fm_finmap.specs.Map.{map_of}
use Rattle.fm_mean.specs.Outports.{outport_cmp}
use Rattle.fm_plain_frame.specs.Memory.{values_of}
use Rattle.fm_run.specs.Gathered.{with_held}
use Rattle.fm_plain_net.proofs.holders.put_memory.Given as goal

abbrev pub invariant-variables : goal.invariant-variables
invariant-variables l = map_of outport_cmp l.all ≡ with_held (map_of outport_cmp l.fn.all) l.path (message_ports (values_of (take l.variable-index l.variables) l.memory))
