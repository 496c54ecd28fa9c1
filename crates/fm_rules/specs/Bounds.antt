-- Bounds of arrays, and the extents of PROCESSORS.
-- Source: ANSI X3.9-1978, sections 5.1.1 (dimension declarators) and 5.2.3 (size of an array); the Fortran M report for
-- PROCESSORS. The greatest number of elements is this profile's.
use Rattle.std.specs.Prelude.{ℕ, ◌+◌, ℤ, pos, length, int_lt, Bool, false, is_some, Option, Some, None, List, [], ◌∷◌, map}
use Rattle.std.specs.List.{list_any}
use Rattle.fm_values.specs.Places.{Bounds, extent, size}
use Rattle.fm_tree.specs.Tree.{Tree}
use Rattle.fm_tree.specs.declared.port_type.Bound.{Bound}
use Rattle.fm_tree.specs.declared.program_unit.Placed.{Placed}
use Rattle.fm_symbols.specs.ByName.{ByName}
use Rattle.fm_rules.specs.declared.constants.Shape.{Shape}
use Rattle.fm_rules.specs.declared.constants.Known.{Known}
use Rattle.fm_rules.specs.ConstantParts.{machine_in}
use Rattle.fm_rules.specs.Constants.{constants_of}
use Rattle.fm_rules.specs.ConstantValues.{integer_of}

-- what the lower and the upper bound of a dimension are, where both are known
abbrev pub Dimension : Type 0
Dimension = Option (ℤ × ℤ)

abbrev pub both : Option ℤ → Option ℤ → Dimension
both None high = None
both (Some low) None = None
both (Some low) (Some high) = Some (low, high)

-- a lower bound that is not written is 1
abbrev pub low_of : ByName Known → (place : ℕ) → Option Tree → Option ℤ
low_of known place None = Some (pos 1)
low_of known place (Some e) = integer_of known place e

abbrev pub dimension_of : ByName Known → (place : ℕ) → Bound → Dimension
dimension_of known place b = both (low_of known place b.low) (integer_of known place b.high)

-- the nodes of one dimension of a machine count from 1
abbrev pub machine_dimension : ByName Known → (place : ℕ) → Tree → Dimension
machine_dimension known place e = both (Some (pos 1)) (integer_of known place e)

abbrev pub then_known : Dimension → Option Bounds → Option Bounds
then_known None bs = None
then_known (Some b) None = None
then_known (Some b) (Some bs) = Some (b ∷ bs)

abbrev pub all_known : List Dimension → Option Bounds
all_known [] = Some []
all_known (d ∷ ds) = then_known d (all_known ds)

-- the bounds of an array, where all are known; none where it is no array
abbrev pub bounds_of : ByName Known → (place : ℕ) → List Bound → Option Bounds
bounds_of known place bounds = all_known (map (dimension_of known place) bounds)

-- an upper bound under its lower
abbrev pub is_inverted : Dimension → Bool
is_inverted None = false
is_inverted (Some b) = int_lt b.1 b.0

-- how many elements; bounds that are not known make none
abbrev pub count : Option Bounds → ℕ
count None = 0
count (Some bs) = size bs

-- the elements in a dimension
abbrev pub node_count : Dimension → ℕ
node_count None = 0
node_count (Some b) = extent b

-- what a list of dimensions is as an array
abbrev pub shape_by : List Dimension → Shape
shape_by ds = record {
  dimensions = length ds;
  known = is_some (all_known ds);
  inverted = list_any is_inverted ds;
  elements = count (all_known ds);
}

abbrev pub shape_of : ByName Known → (place : ℕ) → List Bound → Shape
shape_of known place bounds = shape_by (map (dimension_of known place) bounds)

abbrev pub machine_shape : ByName Known → (place : ℕ) → List Tree → Shape
machine_shape known place extents = shape_by (map (machine_dimension known place) extents)

-- the elements, and so the words, of what is declared with bounds: 1 where there are no bounds, 0 where they are not known or
-- one is under its lower
abbrev pub elements : ByName Known → (place : ℕ) → List Bound → ℕ
elements known place bounds = count (bounds_of known place bounds)

-- the extents of the first PROCESSORS; one that is not known counts 0
abbrev pub extents_or : ByName Known → (place : ℕ) → List Tree → List ℕ → List ℕ
extents_or known place [] others = others
extents_or known place (e ∷ es) others = map (λ x. node_count (machine_dimension known place x)) (e ∷ es)

abbrev pub extents_from : ByName Known → (place : ℕ) → List Placed → List ℕ
extents_from known place [] = []
extents_from known place (p ∷ ps) = extents_or known place (machine_in p.stmt) (extents_from known (place + 1) ps)

abbrev pub extents_of : List Placed → List ℕ
extents_of specs = extents_from (constants_of specs) 0 specs
