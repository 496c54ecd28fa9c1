-- Where no rule on bounds and messages is broken, all numbers stand in memory as they are.
use Rattle.std.proofs.Common.{◌≡◌, ℕ, false, ◌||◌, Option, Some, None, List, [], ◌∷◌, ◌++◌, refl, ap, ◌∙◌, arith}
use Rattle.std.specs.Prelude.{nat_lt, not}
use Rattle.std.proofs.lemmas.Bool.Decides.{nat_tests}
use Rattle.fm_base.specs.Verdict.{place, when}
use Rattle.fm_base.specs.declared.rule.Rule.TheVariants.{E32, E33}
use Rattle.fm_tree.specs.PortFields.{PortFields, FieldKind, NoFields, FieldThen, Integer, Logical, In, Out}
use Rattle.fm_tree.specs.declared.port_type.Bound.{Bound}
use Rattle.fm_symbols.specs.ByName.{ByName}
use Rattle.fm_rules.specs.declared.constants.Known.{Known}
use Rattle.fm_rules.specs.declared.constants.Shape.{Shape}
use Rattle.fm_rules.specs.Bounds.{elements, shape_of}
use Rattle.fm_rules.specs.BrokenConstants.{broken_bounds, broken_extent, broken_fields, broken_kind, broken_shape, broken_type, is_bad, long_message}
use Rattle.fm_rules.specs.PortTypes.{counted_bound, normal_bounds, normal_fields, normal_kind, normal_type}
use Rattle.fm_rules.specs.SizedFields.{Sizes, size_given, sized_by}
use Rattle.fm_rules.proofs.Empty.{left_empty, right_empty, not_when, or_right}
use Rattle.fm_names_constants.specs.Kept.{kept, kept_bounds, kept_kind, kept_type}

few : (n : ℕ) → nat_lt 65536 n ≡ false → kept n ≡ n
few n e = grind (arith, nat_tests)

few_elements : (limit line : ℕ) (s : Shape) → broken_shape limit line s ≡ [] → kept s.elements ≡ s.elements
few_elements limit line s e =
    let bad = when (is_bad limit s) (place line E32) in
    let unknown = when (not s.known) (place line E33) in
    let fine = not_when (is_bad limit s) (place line E32) (left_empty bad unknown e) in
    few s.elements (or_right s.inverted (nat_lt 65536 s.elements) (or_right (nat_lt limit s.dimensions) (s.inverted || nat_lt 65536 s.elements) fine))

-- of arrays
pub elements_kept : (known : ByName Known) (at line : ℕ) (bounds : List Bound) → broken_bounds known at line bounds ≡ [] → kept (elements known at bounds) ≡ elements known at bounds
elements_kept known at line bounds e = few_elements 7 line (shape_of known at bounds) e

-- of fields
bounds_kept : (known : ByName Known) (at line : ℕ) (size : Option ℕ) (bounds : List Bound) → broken_extent known at line size bounds ≡ [] → kept_bounds (normal_bounds known at size bounds) ≡ normal_bounds known at size bounds
bounds_kept known at line None [] e = refl
bounds_kept known at line None (b ∷ bs) e = ap (λ n. counted_bound n ∷ []) (elements_kept known at line (b ∷ bs) e)
bounds_kept known at line (Some place) bounds e = refl

mutual
  fields_kept : (known : ByName Known) (at line : ℕ) (earlier : Sizes) (p : PortFields) → broken_fields known at line earlier p ≡ [] → kept_type (normal_fields known at earlier p) ≡ normal_fields known at earlier p
  fields_kept known at line earlier NoFields e = refl
  fields_kept known at line earlier (FieldThen k name bounds rest) e =
      let size = sized_by earlier k bounds in
      let sizes = size_given k name bounds ∷ earlier in
      let own = broken_extent known at line size bounds in
      let its = broken_kind known at line k in
      let here = left_empty (own ++ its) (broken_fields known at line sizes rest) e in
      let more = right_empty (own ++ its) (broken_fields known at line sizes rest) e in
      let kept_rest = kept_type (normal_fields known at sizes rest) in
      ap (λ (x : FieldKind). FieldThen x None (kept_bounds (normal_bounds known at size bounds)) kept_rest) (field_kept known at line k (right_empty own its here))
      ∙ ap (λ (bs : List Bound). FieldThen (normal_kind known at k) None bs kept_rest) (bounds_kept known at line size bounds (left_empty own its here))
      ∙ ap (FieldThen (normal_kind known at k) None (normal_bounds known at size bounds)) (fields_kept known at line sizes rest more)

  field_kept : (known : ByName Known) (at line : ℕ) (k : FieldKind) → broken_kind known at line k ≡ [] → kept_kind (normal_kind known at k) ≡ normal_kind known at k
  field_kept known at line Integer e = refl
  field_kept known at line Logical e = refl
  field_kept known at line (In p) e = ap In (fields_kept known at line [] p (right_empty (long_message known at line p) (broken_fields known at line [] p) e))
  field_kept known at line (Out p) e = ap Out (fields_kept known at line [] p (right_empty (long_message known at line p) (broken_fields known at line [] p) e))

-- of types of messages
pub type_kept : (known : ByName Known) (at line : ℕ) (p : PortFields) → broken_type known at line p ≡ [] → kept_type (normal_type known at p) ≡ normal_type known at p
type_kept known at line p e = fields_kept known at line [] p (right_empty (long_message known at line p) (broken_fields known at line [] p) e)
