use Rattle.std.proofs.lemmas.Int.{to_z-of_z}
use Rattle.fm_values.proofs.PlaceLaws.{in_front}
use Rattle.fm_values.proofs.place.place_in_front.Goals as goal

pub returns : goal.returns
returns c =
    let low = c.ranges.low in
    let high = c.ranges.high in
    let subscript = c.ranges.subscript in
    in_front c.args.low c.args.high c.args.subscript c.args.behind _ _ _ _ _ c.requires.within_low c.requires.within_high
    (simp to_z-of_z at c.abs_diff-offset.ensures) (simp to_z-of_z at c.abs_diff-last.ensures) c.saturating_mul.ensures c.saturating_add.ensures c.saturating_add-2.ensures
