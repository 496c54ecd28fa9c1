use Rattle.std.proofs.Common.{refl}
use Rattle.std.specs.List.{flat_map}
use Rattle.fm_rules.specs.Arrays.{is_array}
use Rattle.fm_names_used.proofs.Meetings.{names_more}
use Rattle.fm_names_used.proofs.occurrences.meet_all.Goals as goal

pub items-preserved : goal.items-preserved
items-preserved g c =
    let f = g.T.Standing.names (is_array c.args.arrays.now) in
    names_more f (flat_map f) (λ x xs. refl) c.args.line c.args.items.now c.items.item-index c.item-item.result c.items.seen c.meet.new.seen _ c.items-test.true c.item-item.is c.in_ok-meet.ensures c.items.invariant
