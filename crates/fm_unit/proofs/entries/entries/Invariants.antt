use Rattle.std.proofs.Common.{◌≡◌, ◌++◌, drop, reverse}
use Rattle.fm_unit.specs.Entries.{entries_with}
use Rattle.fm_rules.specs.UnitTitles.{is_function_named}
use Rattle.fm_unit.proofs.entries.entries.Given as goal

abbrev pub invariant-entries : goal.invariant-entries
invariant-entries l = l.entries.items ++ entries_with (is_function_named l.titles) l.marks l.place (drop l.place l.marks) (reverse l.pieces.items)
    ≡ entries_with (is_function_named l.titles) l.marks 0 l.marks l.fn.pieces.items
