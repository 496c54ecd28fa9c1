use Rattle.std.proofs.Common.{◌≡◌, drop}
use Rattle.fm_tree.specs.PortReading.{fields_of}
use Rattle.fm_nodes_plain.specs.Carriers.{carries_ports}
use Rattle.fm_nodes_plain.proofs.carriers.carries_ports.Given as goal

abbrev pub invariant-fields : goal.invariant-fields
invariant-fields l = carries_ports (fields_of (drop l.field-index l.field-items)) ≡ carries_ports l.port_type
