use Rattle.std.proofs.Common.{◌≡◌, drop}
use Rattle.fm_tree.specs.PortReading.{fields_of}
use Rattle.fm_flow_law.specs.Flow.{sends_ports}
use Rattle.fm_flow.proofs.declarations.any_field_port.Given as goal

abbrev pub invariant-fields : goal.invariant-fields
invariant-fields l = sends_ports (fields_of (drop l.field-index l.fields)) ≡ sends_ports (fields_of l.fields)
