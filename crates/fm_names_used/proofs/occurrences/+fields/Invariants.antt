use Rattle.std.proofs.Common.{◌≡◌, ◌*◌, ◌+◌, [], take, drop}
use Rattle.fm_tree.specs.PortFields.{fields_count, kind_count}
use Rattle.fm_tree.specs.PortReading.{fields_of, kind_of}
use Rattle.fm_rules.specs.Arrays.{is_array}
use Rattle.fm_rules.specs.Occurrences.{in_fields}
use Rattle.fm_rules.specs.SizedFields.{sizes_of}
use Rattle.fm_names_used.specs.Seen.{with_names}
use Rattle.fm_names_used.proofs.occurrences.+fields.Given as goal

abbrev pub decreases-meet_fields : goal.decreases-meet_fields
decreases-meet_fields l = 3 * fields_count (fields_of l.fields.now)

abbrev pub decreases-meet_field : goal.decreases-meet_field
decreases-meet_field l = 3 * kind_count (kind_of l.field.now.kind) + 1

abbrev pub decreases-meet_kind : goal.decreases-meet_kind
decreases-meet_kind l = 3 * kind_count (kind_of l.kind.now)

abbrev pub decreases-meet_port_type : goal.decreases-meet_port_type
decreases-meet_port_type l = 3 * fields_count l.port_type.now + 1

abbrev pub invariant-meet_fields-fields : goal.invariant-meet_fields-fields
invariant-meet_fields-fields l =
    with_names l.line l.seen (in_fields (is_array l.arrays) (sizes_of (take l.index l.fields)) (fields_of (drop l.index l.fields)))
    ≡ with_names l.line l.fn.seen (in_fields (is_array l.arrays) [] (fields_of l.fields))
