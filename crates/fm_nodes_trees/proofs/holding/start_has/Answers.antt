use Rattle.std.proofs.Common.{◌∙◌}
use Rattle.fm_base.specs.Channels.{message_ports}
use Rattle.fm_plain_frame.specs.Memory.{values_of}
use Rattle.fm_nodes_trees.proofs.HoldLaws.{among}
use Rattle.fm_nodes_trees.proofs.holding.start_has.Goals as goal

pub returns : goal.returns
returns c = c.memory_has.ensures ∙ (λ i. among c.args.port.now (message_ports (values_of (c.variables_of.ensures.variables i) (c.as_slice.ensures.value i))))
