use Rattle.std.proofs.Common.{◌≡◌, ◌++◌, drop}
use Rattle.fm_rules.specs.Links.{links_from, links_of}
use Rattle.fm_unit.proofs.entry_links.links.Given as goal

abbrev pub invariant-entries : goal.invariant-entries
invariant-entries l = l.links ++ links_from l.body l.marks.items l.k (drop l.k l.marks.items) ≡ links_of l.body
