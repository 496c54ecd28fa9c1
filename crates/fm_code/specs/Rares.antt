-- Lists that are empty most of the time, in a box where they aren't.
-- Source: this profile.
use Rattle.std.specs.Prelude.{Box, List, [], Option, Some, None, Vec}
use Rattle.std.specs.declared.alloc.Global.{Global}

module _ {T : Type 0} where
  -- the items of the list in a box, if there is one
  abbrev pub items_in : Option (Box (Vec T Global) Global) → List T
  items_in None = []
  items_in (Some b) = b.value.items
