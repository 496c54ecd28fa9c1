-- Fields of messages that an earlier field sizes: an INTEGER or LOGICAL field whose one bound, without a lower part, is the bare name
-- of an earlier scalar INTEGER field of the same list. The nearest such field gives the size, also where a constant has that name.
-- Source: the Fortran M report (ports whose messages hold arrays sized by an earlier INTEGER); this profile.
use Rattle.std.specs.Prelude.{ℕ, cond, Option, Some, None, option_and_then, List, [], ◌∷◌, length, map, reverse}
use Rattle.std.specs.Option.{option_eq}
use Rattle.fm_tree.specs.Tree.{Tree, Number, Truth, Named, Ref, Paren, Signed, Not, Binary}
use Rattle.fm_tree.specs.PortFields.{FieldKind, Integer, Logical, In, Out}
use Rattle.fm_tree.specs.PortReading.{kind_of}
use Rattle.fm_tree.specs.Same.{same_name}
use Rattle.fm_tree.specs.declared.port_type.Bound.{Bound}
use Rattle.fm_tree.specs.declared.port_type.Field.{Field}

-- the names that the fields before a field give as sizes, the nearest first: a scalar INTEGER field gives its name, another none
abbrev pub Sizes : Type 0
Sizes = List (Option (List ℕ))

abbrev pub scalar_name : Option (List ℕ) → List Bound → Option (List ℕ)
scalar_name name [] = name
scalar_name name (b ∷ bs) = None

abbrev pub size_given : FieldKind → Option (List ℕ) → List Bound → Option (List ℕ)
size_given Integer name bounds = scalar_name name bounds
size_given Logical name bounds = None
size_given (In p) name bounds = None
size_given (Out p) name bounds = None

-- of a field in memory
abbrev pub field_size : Field → Option (List ℕ)
field_size f = size_given (kind_of f.kind) f.name f.bounds

abbrev pub sizes_of : List Field → Sizes
sizes_of fs = reverse (map field_size fs)

-- a bare name
abbrev pub bare_name : Tree → Option (List ℕ)
bare_name (Named name) = Some name
bare_name (Number n) = None
bare_name (Truth b) = None
bare_name (Ref name args) = None
bare_name (Paren e) = None
bare_name (Signed op e) = None
bare_name (Not e) = None
bare_name (Binary op a b) = None

abbrev pub upper_name : Option Tree → Tree → Option (List ℕ)
upper_name None high = bare_name high
upper_name (Some low) high = None

-- the one bound of an array, where it is a bare name without a lower part
abbrev pub only_name : List Bound → Option (List ℕ)
only_name [] = None
only_name (b ∷ []) = upper_name b.low b.high
only_name (b ∷ c ∷ bs) = None

-- the name by which a field may have a size: ports have none
abbrev pub size_wanted : FieldKind → List Bound → Option (List ℕ)
size_wanted Integer bounds = only_name bounds
size_wanted Logical bounds = only_name bounds
size_wanted (In p) bounds = None
size_wanted (Out p) bounds = None

-- the place in its list of the nearest field that gives this name as a size, from 0
abbrev pub size_place : Sizes → List ℕ → Option ℕ
size_place [] name = None
size_place (n ∷ earlier) name = cond (option_eq same_name n (Some name)) (Some (length earlier)) (size_place earlier name)

-- the place of the field that sizes a field behind these, where one does
abbrev pub sized_by : Sizes → FieldKind → List Bound → Option ℕ
sized_by earlier kind bounds = option_and_then (size_place earlier) (size_wanted kind bounds)
