use Rattle.std.proofs.Common.{◌+◌, ◌*◌}
use Rattle.fm_tree.specs.PortFields.{fields_count, kind_count}
use Rattle.fm_tree.specs.PortReading.{kind_of, fields_of}
use Rattle.fm_tree.proofs.same.+same_type.Given as goal

abbrev pub decreases-same_fields : goal.decreases-same_fields
decreases-same_fields l = 2 * fields_count (fields_of l.left.now)

abbrev pub decreases-same_kind : goal.decreases-same_kind
decreases-same_kind l = 2 * kind_count (kind_of l.left.now)

abbrev pub decreases-same_type : goal.decreases-same_type
decreases-same_type l = 2 * fields_count l.left.now + 1
