use Rattle.std.proofs.Common.{◌≡◌, ◌+◌, ◌*◌, ◌++◌, [], take, drop}
use Rattle.fm_tree.specs.PortFields.{fields_count, kind_count}
use Rattle.fm_tree.specs.PortReading.{kind_of}
use Rattle.fm_rules.specs.SizedFields.{sizes_of}
use Rattle.fm_names_constants.proofs.Fields.{kept_normals}
use Rattle.fm_names_constants.proofs.port_types.+normal_port_type.Given as goal

abbrev pub decreases-normal_port_type : goal.decreases-normal_port_type
decreases-normal_port_type l = 2 * fields_count l.port_type.now

abbrev pub decreases-normal_field : goal.decreases-normal_field
decreases-normal_field l = 2 * kind_count (kind_of l.field.now.kind) + 1

abbrev pub decreases-normal_kind : goal.decreases-normal_kind
decreases-normal_kind l = 2 * kind_count (kind_of l.kind.now)

abbrev pub invariant-normal_port_type-fields : goal.invariant-normal_port_type-fields
invariant-normal_port_type-fields l =
    l.normal.items ++ kept_normals l.known l.place (sizes_of (take l.index l.fields)) (drop l.index l.fields) ≡ kept_normals l.known l.place [] l.fields
