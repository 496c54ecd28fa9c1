use Rattle.std.proofs.Common.{◌≡◌, ◌-◌, length}
use Rattle.fm_stmt_parts.specs.Reading.{items_read, more_read, after_items}
use Rattle.fm_stmt_parts.proofs.list.grow.Given as goal

-- what has been read, before what the rest gives, is what the whole gives
abbrev pub invariant-items : goal.invariant-items
invariant-items g l =
    (after_items l.items.items (items_read g.F.Form.reads (l.end - l.counter) l.rest) ≡ after_items l.initial.items.items (more_read g.F.Form.reads l.tokens)) × (l.end ≡ length l.tokens)
