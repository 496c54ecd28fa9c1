use Rattle.std.proofs.Common.{◌≡◌, take}
use Rattle.std.specs.List.{flat_map}
use Rattle.fm_plain_frame.specs.Units.{unit_of}
use Rattle.fm_flow_law.specs.Flow.{port_in}
use Rattle.fm_flow.proofs.ports.ports_in.Given as goal

abbrev pub invariant-arguments : goal.invariant-arguments
invariant-arguments l = l.ports ≡ flat_map (port_in (unit_of l.unit)) (take l.argument-index l.arguments)
