use Rattle.std.proofs.Common.{◌≡◌, length}
use Rattle.fm_rules.specs.SizedFields.{size_place, sizes_of}
use Rattle.fm_rules.proofs.sized_fields.size_place.Given as goal

abbrev pub invariant-fields : goal.invariant-fields
invariant-fields l = size_place (sizes_of l.fn.earlier) l.fn.name ≡ size_place (sizes_of l.rest) l.fn.name

abbrev pub decreases-fields : goal.decreases-fields
decreases-fields l = length l.rest
