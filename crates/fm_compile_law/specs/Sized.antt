-- What is known of the sizes in the type of a port: a field that an earlier one sizes holds words, and that one is an integer alone.
-- Source: the Fortran M report (ports whose messages hold arrays sized by an earlier INTEGER); this profile.
use Rattle.std.specs.Prelude.{ℕ, Bool, true, false, ◌&&◌, Option, Some, None, List, [], ◌∷◌, ◌++◌, slice_get}
use Rattle.fm_tree.specs.PortFields.{PortFields, FieldKind, NoFields, FieldThen, Integer, Logical, In, Out}
use Rattle.fm_tree.specs.declared.port_type.Bound.{Bound}
use Rattle.fm_rules.specs.PortTypes.{sizing_place}

abbrev pub is_one_integer : FieldKind → List Bound → Bool
is_one_integer Integer [] = true
is_one_integer Integer (b ∷ bs) = false
is_one_integer Logical bounds = false
is_one_integer (In p) bounds = false
is_one_integer (Out p) bounds = false

abbrev pub holds_words : FieldKind → Bool
holds_words Integer = true
holds_words Logical = true
holds_words (In p) = false
holds_words (Out p) = false

abbrev pub is_true_at : Option Bool → Bool
is_true_at None = false
is_true_at (Some b) = b

-- which of the earlier fields are integers alone is given, the first first
abbrev pub size_stands : List Bool → FieldKind → Option ℕ → Bool
size_stands earlier k None = true
size_stands earlier k (Some place) = holds_words k && is_true_at (slice_get earlier place)

abbrev pub sizes_stand : (earlier : List Bool) → PortFields → Bool
sizes_stand earlier NoFields = true
sizes_stand earlier (FieldThen k name bounds rest) = size_stands earlier k (sizing_place bounds) && sizes_stand (earlier ++ is_one_integer k bounds ∷ []) rest
