use Rattle.std.proofs.Common.{◌≡◌, drop}
use Rattle.std.specs.List.{flat_map}
use Rattle.fm_stmt.specs.Names.{has_long}
use Rattle.fm_stmt.proofs.names.any_long.Given as goal

-- what is left decides
abbrev pub invariant-items : goal.invariant-items
invariant-items g l = has_long (flat_map g.T.Named.names (drop l.item-index l.items)) ≡ has_long (flat_map g.T.Named.names l.items)
