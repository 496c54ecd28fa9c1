use Rattle.std.proofs.Common.{refl}
use Rattle.std.specs.List.{flat_map}
use Rattle.fm_rules.specs.Arrays.{is_array}
use Rattle.fm_rules.specs.Occurrences.{in_entry}
use Rattle.fm_names_used.proofs.Meetings.{occurrences_more}
use Rattle.fm_names_used.proofs.occurrences.meet_body.Goals as goal

pub body-preserved : goal.body-preserved
body-preserved c =
    let f = in_entry (is_array c.args.arrays.now) in
    occurrences_more f (flat_map f) (λ x xs. refl) c.args.body.now c.body.entry-index c.entry-item.result c.body.seen c.meet_entry.new.seen _ c.body-test.true c.entry-item.is c.in_ok-meet_entry.ensures c.body.invariant
