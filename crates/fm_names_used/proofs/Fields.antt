-- The names in the bounds of fields, field by field.
use Rattle.std.proofs.Common.{◌≡◌, ℕ, Bool, List, ◌∷◌, take, drop, length, get_or, sym, ap, ◌∙◌, ◌<◌, ◌+◌}
use Rattle.std.proofs.lemmas.List.{drop_more}
use Rattle.fm_base.specs.declared.name.Line.{Line}
use Rattle.fm_tree.specs.PortReading.{fields_of}
use Rattle.fm_tree.specs.declared.port_type.Field.{Field}
use Rattle.fm_rules.specs.Occurrences.{in_field, in_fields}
use Rattle.fm_rules.specs.SizedFields.{field_size, sizes_of}
use Rattle.fm_rules.proofs.FieldSizes.{sizes_more}
use Rattle.fm_names_used.specs.Seen.{Seen, with_names}
use Rattle.fm_names_used.proofs.Meetings.{with_names_append}

-- the next field is met
pub fields_more : (array : List ℕ → Bool) (line : Line) (fs : List Field) (i : ℕ) (f : Field) (n m whole : Seen) → i < length fs → f ≡ get_or fs i f
    → m ≡ with_names line n (in_field array (sizes_of (take i fs)) f) → with_names line n (in_fields array (sizes_of (take i fs)) (fields_of (drop i fs))) ≡ whole
    → with_names line m (in_fields array (sizes_of (take (i + 1) fs)) (fields_of (drop (i + 1) fs))) ≡ whole
fields_more array line fs i f n m whole below is met rest =
    let one = in_field array (sizes_of (take i fs)) f in
    let behind = in_fields array (field_size f ∷ sizes_of (take i fs)) (fields_of (drop (i + 1) fs)) in
    ap (λ s. with_names line m (in_fields array s (fields_of (drop (i + 1) fs)))) (sizes_more fs i f below is)
    ∙ ap (λ s. with_names line s behind) met
    ∙ sym (with_names_append line n one behind)
    ∙ ap (λ l. with_names line n (in_fields array (sizes_of (take i fs)) (fields_of l))) (ap (λ y. y ∷ drop (i + 1) fs) is ∙ sym (drop_more fs i f below))
    ∙ rest
