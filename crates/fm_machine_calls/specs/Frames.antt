-- Frames, as functions hold them.
-- Source: this profile.
use Rattle.std.specs.Prelude.{ℤ, List}
use Rattle.fm_code.specs.declared.body.Back.{Back}
use Rattle.fm_code.specs.Passing.{Passed, Given}

abbrev pub passed : (mine theirs : List ℤ) → List Back → Passed
passed mine theirs backs = record { mine = mine; theirs = theirs; backs = backs }

abbrev pub given : (mine theirs drops : List ℤ) → Given
given mine theirs drops = record { mine = mine; theirs = theirs; drops = drops }
