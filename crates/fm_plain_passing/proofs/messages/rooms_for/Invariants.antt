use Rattle.std.proofs.Common.{◌≡◌, ◌++◌, drop, map, vec_items}
use Rattle.fm_plain_passing.specs.Rooms.{rooms_for}
use Rattle.fm_plain_passing.proofs.messages.rooms_for.Given as goal

abbrev pub invariant-items : goal.invariant-items
invariant-items l = map vec_items l.rooms.items ++ rooms_for (drop l.item-index l.items) ≡ rooms_for l.items
