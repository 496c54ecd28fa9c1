use Rattle.std.proofs.Common.{◌≡◌, map, take}
use Rattle.std.specs.Prelude.{filter}
use Rattle.std.specs.Map.Iter.{deref_pair}
use Rattle.fm_base.specs.declared.path.Path.{Path}
use Rattle.fm_shown.specs.Parts.{row_gives}
use Rattle.fm_procs.specs.Readings.{Entry}
use Rattle.fm_shown.proofs.rows.rows_of.Given as goal

-- those of the rows so far
abbrev pub invariant-rows : goal.invariant-rows
invariant-rows l = map (deref_pair {K = Path} {X = Entry}) l.rows.items ≡ filter (row_gives l.part) (map (deref_pair {K = Path} {X = Entry}) (take l.row-index l.row-items))
