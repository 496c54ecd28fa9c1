use Rattle.std.proofs.Common.{◌≡◌, ◌≤◌, ◌+◌, ◌++◌, length, vec_capacity, vec_len}
use Rattle.fm_base.specs.Channels.{Ports, item_ports}
use Rattle.fm_proc_slots.proofs.storing.push_ports.Given as goal

abbrev pub invariant-ports : goal.invariant-ports
invariant-ports l = record {
  ports : l.drops.items ++ item_ports (Ports l.rest.items) ≡ l.fn.drops.items ++ item_ports (Ports l.fn.ports.items);
  len : vec_len l.drops + length l.rest.items ≤ vec_len l.fn.drops + length l.fn.ports.items;
  capacity : vec_capacity l.fn.drops ≤ vec_capacity l.drops;
}

abbrev pub decreases-ports : goal.decreases-ports
decreases-ports l = length l.rest.items
