use Rattle.std.proofs.Common.{◌-◌, inl, inr, rules}
use Rattle.std.specs.Int.{w64}
use Rattle.std.specs.Prelude.{FitsSigned}
use Rattle.std.proofs.lemmas.Int.{to_z-of_z}
use Rattle.fm_values.proofs.PlaceLaws.{bounds_at, subscript_at, none_at, unlike_lengths, one_more, outside_at}
use Rattle.fm_values.proofs.place.held_place.Goals.{then-subscript-low-via-then-subscript-low, then-subscript-low-via-else-subscript-low+then-high-subscript}
use Rattle.fm_values.proofs.place.held_place.Goals as goal

pub returns-then-bounds-subscripts : goal.returns-then-bounds-subscripts
returns-then-bounds-subscripts c = none_at c.args.bounds.now c.args.subscripts.now (unlike_lengths c.args.bounds.now c.args.subscripts.now c.if-bounds-subscripts.true)

pub returns-then-subscript-low : goal.returns-then-subscript-low
returns-then-subscript-low c =
    let low : FitsSigned w64 (bounds_at c.args.bounds.now (c.dimensions.dimension - 1)).0 = search rules in
    let high : FitsSigned w64 (bounds_at c.args.bounds.now (c.dimensions.dimension - 1)).1 = search rules in
    let subscript : FitsSigned w64 (subscript_at c.args.subscripts.now (c.dimensions.dimension - 1)) = search rules in
    outside_at c.args.bounds.now c.args.subscripts.now c.dimensions.dimension c.dimensions.place c.if-bounds-subscripts.false c.dimensions-test.true c.dimensions.invariant
    (elim c.then-subscript-low.branch [
      | then-subscript-low-via-then-subscript-low w ↦ inl (simp to_z-of_z at w.if-subscript-low.true)
      | then-subscript-low-via-else-subscript-low+then-high-subscript w ↦ inr (simp to_z-of_z at w.if-high-subscript.true)
    ])

pub dimensions-preserved : goal.dimensions-preserved
dimensions-preserved c =
    let low : FitsSigned w64 (bounds_at c.args.bounds.now (c.dimensions.dimension - 1)).0 = search rules in
    let high : FitsSigned w64 (bounds_at c.args.bounds.now (c.dimensions.dimension - 1)).1 = search rules in
    let subscript : FitsSigned w64 (subscript_at c.args.subscripts.now (c.dimensions.dimension - 1)) = search rules in
    one_more c.args.bounds.now c.args.subscripts.now c.dimensions.dimension c.dimensions.place c.place_in_front-place.result c.if-bounds-subscripts.false c.dimensions-test.true
    c.dimensions.invariant (simp to_z-of_z at c.if-subscript-low.false) (simp to_z-of_z at c.if-high-subscript.false) (simp to_z-of_z at c.place_in_front-place.ensures)
