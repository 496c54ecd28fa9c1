use Rattle.std.proofs.Common.{◌≡◌, drop}
use Rattle.std.specs.List.{flat_map}
use Rattle.fm_rules.specs.Arrays.{is_array}
use Rattle.fm_rules.specs.Occurrences.{in_entry}
use Rattle.fm_names_used.specs.Seen.{with_occurrences}
use Rattle.fm_names_used.proofs.occurrences.meet_body.Given as goal

abbrev pub invariant-body : goal.invariant-body
invariant-body l =
    with_occurrences l.seen (flat_map (in_entry (is_array l.arrays)) (drop l.entry-index l.body))
    ≡ with_occurrences l.fn.seen (flat_map (in_entry (is_array l.arrays)) l.body)
