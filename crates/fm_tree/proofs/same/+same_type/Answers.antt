use Rattle.std.proofs.Common.{List, arith, ap}
use Rattle.fm_tree.specs.PortFields.{fields_count}
use Rattle.fm_tree.specs.PortReading.{fields_of}
use Rattle.fm_tree.specs.declared.port_type.Field.{Field}
use Rattle.fm_tree.proofs.Nodes.{some_field}
use Rattle.fm_tree.proofs.same.+same_type.Goals as goal

pub same_fields-same_kind-requires : goal.same_fields-same_kind-requires
same_fields-same_kind-requires t c =
    let split = ap (λ (fs : List Field). fields_count (fields_of fs)) c.in-Some-Some.ensures.cases.0 in
    let some = some_field (fields_of c.in-Some-Some.lefts.now) in
    (omega (arith, split, some, c.decreases), tt)
