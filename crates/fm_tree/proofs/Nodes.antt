-- Each expression of a list has fewer nodes than the list, and each field fewer than the type.
use Rattle.std.proofs.Common.{ℕ, zero, suc, ◌<◌, List, [], ◌∷◌, length, arith, slice_index_or}
use Rattle.fm_tree.specs.Tree.{Tree, node_count, node_counts, trees_from}
use Rattle.fm_tree.specs.PortFields.{PortFields, NoFields, FieldThen, fields_count, kind_count}
use Rattle.fm_tree.specs.PortReading.{kind_of, fields_of}
use Rattle.fm_tree.specs.declared.port_type.Field.{Field}

pub in_list : (ts : List Tree) (i : ℕ) (d : Tree) → i < length ts → node_count (slice_index_or ts i d) < node_counts (trees_from ts)
in_list [] i d h = absurd (omega arith)
in_list (t ∷ ts) zero d h = omega arith
in_list (t ∷ ts) (suc i) d h = omega (arith, in_list ts i d (omega arith))

pub some_field : (p : PortFields) → 0 < fields_count p
some_field NoFields = omega arith
some_field (FieldThen kind name bounds rest) = omega (arith, some_field rest)

-- the kind of each field has fewer fields than the list
pub in_fields : (fs : List Field) (i : ℕ) (d : Field) → i < length fs → kind_count (kind_of (slice_index_or fs i d).kind) < fields_count (fields_of fs)
in_fields [] i d h = absurd (omega arith)
in_fields (f ∷ fs) zero d h = omega (arith, some_field (fields_of fs))
in_fields (f ∷ fs) (suc i) d h = omega (arith, in_fields fs i d (omega arith))
