use Rattle.std.proofs.Common.{refl}
use Rattle.std.specs.List.{flat_map}
use Rattle.fm_rules.specs.Arrays.{is_array}
use Rattle.fm_rules.specs.Occurrences.{in_placed}
use Rattle.fm_names_used.proofs.Meetings.{occurrences_more}
use Rattle.fm_names_used.proofs.occurrences.meet_specs.Goals as goal

pub specs-preserved : goal.specs-preserved
specs-preserved c =
    let f = in_placed (is_array c.args.arrays.now) in
    occurrences_more f (flat_map f) (λ x xs. refl) c.args.specs.now c.specs.placed-index c.placed-item.result c.specs.seen c.meet_placed.new.seen _ c.specs-test.true c.placed-item.is c.in_ok-meet_placed.ensures c.specs.invariant
