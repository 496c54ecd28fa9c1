use Rattle.std.proofs.Common.{◌≡◌, ◌++◌, map, drop}
use Rattle.fm_rules.specs.Links.{mark_of, marks_of}
use Rattle.fm_unit.proofs.entry_links.marks.Given as goal

abbrev pub invariant-entries : goal.invariant-entries
invariant-entries l = l.marks.items ++ map mark_of (drop l.entry-index l.body) ≡ marks_of l.body
