-- One item more of a list is judged.
use Rattle.std.proofs.Common.{◌≡◌, ℕ, ◌+◌, ◌<◌, List, ◌∷◌, length, take, drop, get_or, sym, ap, ◌∙◌, Option}
use Rattle.std.specs.List.{flat_map}
use Rattle.fm_base.proofs.Least.{least_from_append}
use Rattle.fm_base.specs.Verdict.{least_from}
use Rattle.fm_base.specs.declared.rule.Refusal.{Refusal}
use Rattle.fm_tree.specs.PortReading.{fields_of}
use Rattle.fm_tree.specs.declared.port_type.Field.{Field}
use Rattle.fm_tree.specs.declared.program_unit.Placed.{Placed}
use Rattle.fm_symbols.proofs.Maps.{with_all_append}
use Rattle.fm_symbols.specs.ByName.{ByName, with_all}
use Rattle.fm_symbols.specs.declared.symbol.Scalar.{Scalar}
use Rattle.fm_rules.specs.declared.constants.Known.{Known}
use Rattle.fm_rules.specs.declared.constants.Types.{Types}
use Rattle.fm_rules.specs.NameTypes.{entries_at}
use Rattle.fm_rules.specs.BrokenConstants.{broken_field, broken_fields, broken_statement, broken_from}
use Rattle.fm_rules.specs.SizedFields.{field_size, sizes_of}
use Rattle.fm_rules.proofs.FieldSizes.{sizes_more}
use Rattle.fm_names_constants.proofs.Shapes.{front}

pub all_next : {X : Type 0} (f : X → List Refusal) (best : Option Refusal) (xs : List X) (i : ℕ) (x : X) → i < length xs → x ≡ get_or xs i x
    → least_from (least_from best (f x)) (flat_map f (drop (i + 1) xs)) ≡ least_from best (flat_map f (drop i xs))
all_next f best xs i x h e =
    sym (ap (λ l. least_from best (flat_map f l)) (front xs i x h e) ∙ least_from_append best (f x) (flat_map f (drop (i + 1) xs)))

pub statements_next : (known : ByName Known) (types : Types) (best : Option Refusal) (ps : List Placed) (i : ℕ) (p : Placed) → i < length ps → p ≡ get_or ps i p
    → least_from (least_from best (broken_statement known types i p)) (broken_from known types (i + 1) (drop (i + 1) ps)) ≡ least_from best (broken_from known types i (drop i ps))
statements_next known types best ps i p h e =
    sym (ap (λ l. least_from best (broken_from known types i l)) (front ps i p h e) ∙ least_from_append best (broken_statement known types i p) (broken_from known types (i + 1) (drop (i + 1) ps)))

pub fields_next : (known : ByName Known) (at line : ℕ) (best : Option Refusal) (fs : List Field) (i : ℕ) (f : Field) → i < length fs → f ≡ get_or fs i f
    → least_from (least_from best (broken_field known at line (sizes_of (take i fs)) f)) (broken_fields known at line (sizes_of (take (i + 1) fs)) (fields_of (drop (i + 1) fs)))
    ≡ least_from best (broken_fields known at line (sizes_of (take i fs)) (fields_of (drop i fs)))
fields_next known at line best fs i f h e =
    let one = broken_field known at line (sizes_of (take i fs)) f in
    let behind = broken_fields known at line (field_size f ∷ sizes_of (take i fs)) (fields_of (drop (i + 1) fs)) in
    ap (λ s. least_from (least_from best one) (broken_fields known at line s (fields_of (drop (i + 1) fs)))) (sizes_more fs i f h e)
    ∙ sym (ap (λ l. least_from best (broken_fields known at line (sizes_of (take i fs)) (fields_of l))) (front fs i f h e) ∙ least_from_append best one behind)

pub types_next : (declared : ByName Scalar) (ps : List Placed) (i : ℕ) (p : Placed) → i < length ps → p ≡ get_or ps i p
    → with_all (with_all declared (entries_at p)) (flat_map entries_at (drop (i + 1) ps)) ≡ with_all declared (flat_map entries_at (drop i ps))
types_next declared ps i p h e =
    sym (ap (λ l. with_all declared (flat_map entries_at l)) (front ps i p h e) ∙ with_all_append declared (entries_at p) (flat_map entries_at (drop (i + 1) ps)))
