-- How histories begin.
-- Source: this profile.
use Rattle.std.specs.Prelude.{◌≡◌, true, List, [], length, take, Option, None, Some, is_some}
use Rattle.fm_base.specs.declared.schedule.Turn.{Turn}

-- the history that was held, and none where none was
abbrev pub start_in : Option (List Turn) → List Turn
start_in None = []
start_in (Some log) = log

-- a history was held, and this one begins with it
abbrev pub Began : Option (List Turn) → List Turn → Type 0
Began held log = (is_some held ≡ true) × (take (length (start_in held)) log ≡ start_in held)
