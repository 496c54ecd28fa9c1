use Rattle.std.proofs.Common.{◌≡◌, ◌-◌, ◌*◌, ◌+◌, length}
use Rattle.fm_stmt_parts.specs.Reading.{items_read, more_read, after_items}
use Rattle.fm_stmt_parts.specs.Fields.{field_read, fields_read}
use Rattle.fm_stmt_parts.proofs.fields.+fields.Given as goal

abbrev pub decreases-fields : goal.decreases-fields
decreases-fields l = 7 * l.depth

abbrev pub decreases-a_port_head : goal.decreases-a_port_head
decreases-a_port_head l = 7 * l.depth + 1

abbrev pub decreases-a_head : goal.decreases-a_head
decreases-a_head l = 7 * l.depth + 2

abbrev pub decreases-a_field : goal.decreases-a_field
decreases-a_field l = 7 * l.depth + 3

abbrev pub decreases-grow : goal.decreases-grow
decreases-grow l = 7 * l.depth + 4

abbrev pub decreases-some_fields : goal.decreases-some_fields
decreases-some_fields l = 7 * l.depth + 5

abbrev pub decreases-listed_fields : goal.decreases-listed_fields
decreases-listed_fields l = 7 * l.depth + 6

-- what has been read, before what the rest gives, is what the whole gives
abbrev pub invariant-grow-fields : goal.invariant-grow-fields
invariant-grow-fields l =
    (after_items l.fields.items (items_read (field_read (fields_read l.depth)) (l.end - l.counter) l.rest) ≡ after_items l.initial.fields.items (more_read (field_read (fields_read l.depth)) l.tokens)) × (l.end ≡ length l.tokens)
