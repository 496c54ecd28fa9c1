-- Long names of two lists.
use Rattle.std.proofs.Common.{◌≡◌, ◌++◌}
use Rattle.std.proofs.lemmas.List.Folds.{list_any-append}
use Rattle.std.specs.Prelude.{◌||◌}
use Rattle.fm_stmt.specs.Names.{Names, is_long, has_long}

pub long_append : (xs ys : Names) → has_long (xs ++ ys) ≡ (has_long xs || has_long ys)
long_append xs ys = list_any-append is_long xs ys
