use Rattle.fm_base.specs.Channels.{item_ports}
use Rattle.fm_finmap.specs.Map.{map_of}
use Rattle.fm_mean.specs.Outports.{outport_cmp}
use Rattle.fm_plain_frame.specs.Memory.{item_in}
use Rattle.fm_plain_net.proofs.Holding.{held_next}
use Rattle.fm_plain_net.proofs.holders.put_memory.Goals as goal

pub variables-preserved : goal.variables-preserved
variables-preserved c =
    held_next item_ports (item_in c.args.memory.now) (map_of outport_cmp c.args.all.now) (map_of outport_cmp c.variables.all) (map_of outport_cmp c.put_variable.new.all) c.args.path.now c.args.variables.now c.variables.variable-index c.variable-item.result
    c.variables-test.true c.variable-item.is c.variables.invariant c.in_ok-put_variable.ensures
