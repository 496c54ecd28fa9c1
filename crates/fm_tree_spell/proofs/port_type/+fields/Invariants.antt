use Rattle.std.proofs.Common.{◌≡◌, ◌++◌, ◌+◌, ◌*◌, drop}
use Rattle.fm_tree.specs.PortFields.{fields_count, kind_count}
use Rattle.fm_tree.specs.PortReading.{kind_of, fields_of}
use Rattle.fm_tree.specs.Parts.{more_fields_spelled}
use Rattle.fm_tree_spell.proofs.port_type.+fields.Given as goal

abbrev pub decreases-push_fields : goal.decreases-push_fields
decreases-push_fields l = 2 * fields_count l.port_type.now

abbrev pub decreases-push_field : goal.decreases-push_field
decreases-push_field l = 2 * kind_count (kind_of l.field.now.kind) + 1

abbrev pub decreases-push_kind : goal.decreases-push_kind
decreases-push_kind l = 2 * kind_count (kind_of l.kind.now)

-- what is written so far and the spelling of what is left are the whole
abbrev pub invariant-push_fields-loop-field : goal.invariant-push_fields-loop-field
invariant-push_fields-loop-field l =
    l.out.items ++ more_fields_spelled (fields_of (drop l.field-index l.rest)) ≡ l.initial.out.items ++ more_fields_spelled (fields_of l.rest)
