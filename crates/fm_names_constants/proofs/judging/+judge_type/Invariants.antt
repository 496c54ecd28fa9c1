use Rattle.std.proofs.Common.{◌≡◌, ◌+◌, ◌*◌, take, drop}
use Rattle.fm_base.specs.Verdict.{least_from}
use Rattle.fm_tree.specs.PortFields.{fields_count, kind_count}
use Rattle.fm_tree.specs.PortReading.{kind_of, fields_of}
use Rattle.fm_rules.specs.BrokenConstants.{broken_fields, broken_type}
use Rattle.fm_rules.specs.SizedFields.{sizes_of}
use Rattle.fm_names_constants.proofs.judging.+judge_type.Given as goal

abbrev pub decreases-judge_type : goal.decreases-judge_type
decreases-judge_type l = 2 * fields_count l.port_type.now

abbrev pub decreases-judge_field : goal.decreases-judge_field
decreases-judge_field l = 2 * kind_count (kind_of l.field.now.kind) + 1

abbrev pub decreases-judge_kind : goal.decreases-judge_kind
decreases-judge_kind l = 2 * kind_count (kind_of l.kind.now)

abbrev pub invariant-judge_type-fields : goal.invariant-judge_type-fields
invariant-judge_type-fields l =
    least_from l.best (broken_fields l.known l.at l.line.0 (sizes_of (take l.index l.fields)) (fields_of (drop l.index l.fields)))
    ≡ least_from l.fn.best (broken_type l.known l.at l.line.0 l.port_type)
