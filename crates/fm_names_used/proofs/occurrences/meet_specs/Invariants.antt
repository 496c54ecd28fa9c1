use Rattle.std.proofs.Common.{◌≡◌, drop}
use Rattle.std.specs.List.{flat_map}
use Rattle.fm_rules.specs.Arrays.{is_array}
use Rattle.fm_rules.specs.Occurrences.{in_placed}
use Rattle.fm_names_used.specs.Seen.{with_occurrences}
use Rattle.fm_names_used.proofs.occurrences.meet_specs.Given as goal

abbrev pub invariant-specs : goal.invariant-specs
invariant-specs l =
    with_occurrences l.seen (flat_map (in_placed (is_array l.arrays)) (drop l.placed-index l.specs))
    ≡ with_occurrences l.fn.seen (flat_map (in_placed (is_array l.arrays)) l.specs)
