use Rattle.std.proofs.Common.{take, drop}
use Rattle.fm_tree.specs.PortReading.{fields_of}
use Rattle.fm_rules.specs.SizedFields.{sizes_of}
use Rattle.fm_names_constants.proofs.Shapes.{AddsUp}
use Rattle.fm_names_constants.proofs.port_types.is_long.Given as goal

abbrev pub invariant-fields : goal.invariant-fields
invariant-fields l = AddsUp l.known l.place l.words (sizes_of (take l.index l.fields)) (drop l.index l.fields) (fields_of l.fields)
