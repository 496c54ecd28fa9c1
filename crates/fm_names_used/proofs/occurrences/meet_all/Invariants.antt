use Rattle.std.proofs.Common.{◌≡◌, drop}
use Rattle.std.specs.List.{flat_map}
use Rattle.fm_rules.specs.Arrays.{is_array}
use Rattle.fm_names_used.specs.Seen.{with_names}
use Rattle.fm_names_used.proofs.occurrences.meet_all.Given as goal

abbrev pub invariant-items : goal.invariant-items
invariant-items g l =
    with_names l.line l.seen (flat_map (g.T.Standing.names (is_array l.arrays)) (drop l.item-index l.items))
    ≡ with_names l.line l.fn.seen (flat_map (g.T.Standing.names (is_array l.arrays)) l.items)
