-- The sizes that the fields of a message give, field by field.
use Rattle.std.proofs.Common.{◌≡◌, ℕ, List, [], ◌∷◌, ◌++◌, map, take, length, get_or, sym, ap, ◌∙◌, ◌<◌, ◌+◌}
use Rattle.std.specs.Prelude.{reverse}
use Rattle.std.proofs.lemmas.List.{map-append, reverse-append, take_more}
use Rattle.fm_tree.specs.declared.port_type.Field.{Field}
use Rattle.fm_rules.specs.SizedFields.{field_size, sizes_of}

-- the sizes that the fields before the next one give, and its own
pub sizes_more : (fs : List Field) (i : ℕ) (f : Field) → i < length fs → f ≡ get_or fs i f → sizes_of (take (i + 1) fs) ≡ field_size f ∷ sizes_of (take i fs)
sizes_more fs i f below is =
    ap sizes_of (take_more fs i f below ∙ ap (λ x. take i fs ++ x ∷ []) (sym is))
    ∙ ap reverse (map-append field_size (take i fs) (f ∷ []))
    ∙ reverse-append (map field_size (take i fs)) (field_size f ∷ [])
