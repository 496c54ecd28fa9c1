-- Fields of messages with their bounds worked out.
use Rattle.std.proofs.Common.{◌≡◌, ℕ, ◌+◌, ◌<◌, ◌≤◌, List, [], ◌∷◌, ◌++◌, length, take, drop, get_or, map, append_assoc, append-nil, refl, sym, ap, ◌∙◌, None}
use Rattle.std.proofs.lemmas.List.{drop_all}
use Rattle.fm_tree.specs.PortFields.{PortFields, FieldKind, FieldThen}
use Rattle.fm_tree.specs.PortReading.{kind_of, fields_of}
use Rattle.fm_tree.specs.declared.port_type.Field.{Field}
use Rattle.fm_tree.specs.declared.port_type.Kind.{Kind}
use Rattle.fm_tree.specs.declared.port_type.Kind.TheVariants as kind
use Rattle.fm_symbols.specs.ByName.{ByName}
use Rattle.fm_rules.specs.declared.constants.Known.{Known}
use Rattle.fm_rules.specs.PortTypes.{normal_type, normal_fields, normal_kind, normal_field, normal_field_kind, normal_bounds}
use Rattle.fm_rules.specs.SizedFields.{Sizes, field_size, sized_by, sizes_of}
use Rattle.fm_rules.proofs.FieldSizes.{sizes_more}
use Rattle.fm_names_constants.specs.Kept.{kept_bounds, kept_field, kept_field_kind, kept_kind, kept_type}
use Rattle.fm_names_constants.proofs.Shapes.{front}

normal_kinds : (known : ByName Known) (place : ℕ) (k : Kind) → kind_of (normal_field_kind known place k) ≡ normal_kind known place (kind_of k)
normal_kinds known place kind.Integer = refl
normal_kinds known place kind.Logical = refl
normal_kinds known place (kind.In p) = refl
normal_kinds known place (kind.Out p) = refl

-- the fields of a normal type, behind these
abbrev pub normals : ByName Known → (place : ℕ) → Sizes → List Field → List Field
normals known place earlier [] = []
normals known place earlier (f ∷ fs) = normal_field known place earlier f ∷ normals known place (field_size f ∷ earlier) fs

normals_type : (known : ByName Known) (place : ℕ) (earlier : Sizes) (fs : List Field) → fields_of (normals known place earlier fs) ≡ normal_fields known place earlier (fields_of fs)
normals_type known place earlier [] = refl
normals_type known place earlier (f ∷ fs) =
    let bounds = normal_bounds known place (sized_by earlier (kind_of f.kind) f.bounds) f.bounds in
    ap (λ (k : FieldKind). FieldThen k None bounds (fields_of (normals known place (field_size f ∷ earlier) fs))) (normal_kinds known place f.kind)
    ∙ ap (FieldThen (normal_kind known place (kind_of f.kind)) None bounds) (normals_type known place (field_size f ∷ earlier) fs)

-- as they are kept

kept_kinds : (k : Kind) → kind_of (kept_field_kind k) ≡ kept_kind (kind_of k)
kept_kinds kind.Integer = refl
kept_kinds kind.Logical = refl
kept_kinds (kind.In p) = refl
kept_kinds (kind.Out p) = refl

kept_fields : (fs : List Field) → fields_of (map kept_field fs) ≡ kept_type (fields_of fs)
kept_fields [] = refl
kept_fields (f ∷ fs) =
    ap (λ (k : FieldKind). FieldThen k f.name (kept_bounds f.bounds) (fields_of (map kept_field fs))) (kept_kinds f.kind)
    ∙ ap (FieldThen (kept_kind (kind_of f.kind)) f.name (kept_bounds f.bounds)) (kept_fields fs)

abbrev pub kept_normals : ByName Known → (place : ℕ) → Sizes → List Field → List Field
kept_normals known place earlier fs = map kept_field (normals known place earlier fs)

-- one field more is made
pub normals_next : (known : ByName Known) (place : ℕ) (fs made : List Field) (i : ℕ) (f : Field) → i < length fs → f ≡ get_or fs i f
    → (made ++ kept_field (normal_field known place (sizes_of (take i fs)) f) ∷ []) ++ kept_normals known place (sizes_of (take (i + 1) fs)) (drop (i + 1) fs)
    ≡ made ++ kept_normals known place (sizes_of (take i fs)) (drop i fs)
normals_next known place fs made i f h e =
    let one = kept_field (normal_field known place (sizes_of (take i fs)) f) in
    append_assoc made (one ∷ []) (kept_normals known place (sizes_of (take (i + 1) fs)) (drop (i + 1) fs))
    ∙ ap (λ s. made ++ one ∷ kept_normals known place s (drop (i + 1) fs)) (sizes_more fs i f h e)
    ∙ sym (ap (λ l. made ++ kept_normals known place (sizes_of (take i fs)) l) (front fs i f h e))

pub normal_whole : (known : ByName Known) (place : ℕ) (fs made : List Field) (i : ℕ) (p : PortFields) → length fs ≤ i
    → made ++ kept_normals known place (sizes_of (take i fs)) (drop i fs) ≡ kept_normals known place [] fs → fields_of fs ≡ p → fields_of made ≡ kept_type (normal_type known place p)
normal_whole known place fs made i p h e q =
    ap fields_of (sym (append-nil made) ∙ sym (ap (λ l. made ++ kept_normals known place (sizes_of (take i fs)) l) (drop_all i fs h)) ∙ e)
    ∙ kept_fields (normals known place [] fs)
    ∙ ap kept_type (normals_type known place [] fs)
    ∙ ap (λ p. kept_type (normal_type known place p)) q
