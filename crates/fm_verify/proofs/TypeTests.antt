-- The tests of types hold exactly where they make sense.
use Rattle.std.proofs.Common.{◌≡◌, ℕ, zero, suc, ◌-◌, ◌==◌, Bool, true, false, cond, ◌&&◌, Option, Some, None, List, [], ◌∷◌, ◌++◌, slice_get, refl, sym, ◌∙◌, arith}
use Rattle.std.specs.Prelude.{nat_lt, nat_le}
use Rattle.std.proofs.lemmas.Bool.{and_parts, and_from, eqb-true, eq-eqb, ne_eqb, leb-true, le-leb, lt-leb, ltb-true, lt-ltb}
use Rattle.fm_object.specs.declared.image.FieldImage.{FieldImage}
use Rattle.fm_object.specs.declared.image.Image.{Image}
use Rattle.fm_image_typed.specs.Typed.{HasType, IsSize, SizedBy, HasWords, FieldIsTyped, FieldsAreTyped, TypesAreTyped, WholeIsTyped, how_many, is_main}
use Rattle.fm_verify.specs.Tests.{has_type, is_size, has_words, is_field, are_fields, are_types, is_whole}

high_not : (k : ℕ) → nat_le (suc (suc (suc (suc k)))) 3 ≡ false
high_not k = lt-leb (suc (suc (suc (suc k)))) 3 (omega arith)

over_one : (k : ℕ) → nat_le (suc (suc k)) 1 ≡ false
over_one k = lt-leb (suc (suc k)) 1 (omega arith)

pub type_so : (k of n : ℕ) → has_type k of n ≡ true → HasType k of n
type_so zero of n e = eqb-true of 0 e
type_so (suc zero) of n e = eqb-true of 0 e
type_so (suc (suc zero)) of n e = ltb-true of n e
type_so (suc (suc (suc zero))) of n e = ltb-true of n e
type_so (suc (suc (suc (suc k)))) of n e = absurd (none (rw (over_one (suc (suc k))) at e))
  where
    none : (nat_le (suc (suc (suc (suc k)))) 3 && nat_lt of n) ≡ true → ⊥
    none f = let t = (and_parts (nat_le (suc (suc (suc (suc k)))) 3) (nat_lt of n) f).0 in omega (arith, leb-true (suc (suc (suc (suc k)))) 3 t)

pub type_from : (k of n : ℕ) → HasType k of n → has_type k of n ≡ true
type_from zero of n h = eq-eqb of 0 h
type_from (suc zero) of n h = eq-eqb of 0 h
type_from (suc (suc zero)) of n h = lt-ltb of n h
type_from (suc (suc (suc zero))) of n h = lt-ltb of n h
type_from (suc (suc (suc (suc k)))) of n h = absurd h

-- ---- fields

size_so : (o : Option FieldImage) → is_size o ≡ true → (f : FieldImage) × (o ≡ Some f) × IsSize f
size_so None e = absurd cc
size_so (Some f) e = let p = and_parts (f.kind == 0) (f.words == 1) e in (f, refl, record { kind = eqb-true f.kind 0 p.0; words = eqb-true f.words 1 p.1 })

size_from : (o : Option FieldImage) (f : FieldImage) → o ≡ Some f → IsSize f → is_size o ≡ true
size_from o f e h = rw e (and_from (f.kind == 0) (f.words == 1) (eq-eqb f.kind 0 h.kind) (eq-eqb f.words 1 h.words))

sized_so : (earlier : List FieldImage) (place : ℕ) (f : FieldImage) → (is_size (slice_get earlier place) && (nat_le f.kind 1 && (f.words == 0))) ≡ true → SizedBy earlier place f
sized_so earlier place f e =
    let p = and_parts (is_size (slice_get earlier place)) (nat_le f.kind 1 && (f.words == 0)) e in
    let q = and_parts (nat_le f.kind 1) (f.words == 0) p.1 in
    let s = size_so (slice_get earlier place) p.0 in
    record { size = s.0; there = s.1; fits = s.2; kind = leb-true f.kind 1 q.0; none = eqb-true f.words 0 q.1 }

sized_from : (earlier : List FieldImage) (place : ℕ) (f : FieldImage) → SizedBy earlier place f → (is_size (slice_get earlier place) && (nat_le f.kind 1 && (f.words == 0))) ≡ true
sized_from earlier place f h =
    and_from (is_size (slice_get earlier place)) (nat_le f.kind 1 && (f.words == 0)) (size_from (slice_get earlier place) h.size h.there h.fits) (and_from (nat_le f.kind 1) (f.words == 0) (le-leb f.kind 1 h.kind) (eq-eqb f.words 0 h.none))

abbrev words_by : List FieldImage → (size : ℕ) → FieldImage → Bool
words_by earlier size f = cond (size == 0) (nat_le 1 f.words) (is_size (slice_get earlier (size - 1)) && (nat_le f.kind 1 && (f.words == 0)))

-- of a field that an earlier one sizes
by_place : (earlier : List FieldImage) (place : ℕ) (f : FieldImage) → words_by earlier (suc place) f ≡ (is_size (slice_get earlier place) && (nat_le f.kind 1 && (f.words == 0)))
by_place earlier place f =
    let some : (suc place == 0) ≡ false = ne_eqb (suc place) 0 (λ e. omega (arith, e)) in
    let less : suc place - 1 ≡ place = omega arith in
    rw (some, less) refl

words_so : (earlier : List FieldImage) (size : ℕ) (f : FieldImage) → words_by earlier size f ≡ true → HasWords earlier size f
words_so earlier zero f e = leb-true 1 f.words e
words_so earlier (suc place) f e = sized_so earlier place f (sym (by_place earlier place f) ∙ e)

words_from : (earlier : List FieldImage) (size : ℕ) (f : FieldImage) → HasWords earlier size f → words_by earlier size f ≡ true
words_from earlier zero f h = le-leb 1 f.words h
words_from earlier (suc place) f h = by_place earlier place f ∙ sized_from earlier place f h

field_so : (n : ℕ) (earlier : List FieldImage) (f : FieldImage) → is_field n earlier f ≡ true → FieldIsTyped n earlier f
field_so n earlier f e = let p = and_parts (has_type f.kind f.of n) (has_words earlier f) e in record { type = type_so f.kind f.of n p.0; words = words_so earlier f.size f p.1 }

field_from : (n : ℕ) (earlier : List FieldImage) (f : FieldImage) → FieldIsTyped n earlier f → is_field n earlier f ≡ true
field_from n earlier f h = and_from (has_type f.kind f.of n) (has_words earlier f) (type_from f.kind f.of n h.type) (words_from earlier f.size f h.words)

fields_so : (n : ℕ) (earlier fs : List FieldImage) → are_fields n earlier fs ≡ true → FieldsAreTyped n earlier fs
fields_so n earlier [] e = tt
fields_so n earlier (f ∷ fs) e = let p = and_parts (is_field n earlier f) (are_fields n (earlier ++ f ∷ []) fs) e in (field_so n earlier f p.0, fields_so n (earlier ++ f ∷ []) fs p.1)

fields_from : (n : ℕ) (earlier fs : List FieldImage) → FieldsAreTyped n earlier fs → are_fields n earlier fs ≡ true
fields_from n earlier [] h = refl
fields_from n earlier (f ∷ fs) h = and_from (is_field n earlier f) (are_fields n (earlier ++ f ∷ []) fs) (field_from n earlier f h.0) (fields_from n (earlier ++ f ∷ []) fs h.1)

types_so : (n : ℕ) (ts : List (List FieldImage)) → are_types n ts ≡ true → TypesAreTyped n ts
types_so n [] e = tt
types_so n (fs ∷ ts) e = let p = and_parts (are_fields n [] fs) (are_types (suc n) ts) e in (fields_so n [] fs p.0, types_so (suc n) ts p.1)

types_from : (n : ℕ) (ts : List (List FieldImage)) → TypesAreTyped n ts → are_types n ts ≡ true
types_from n [] h = refl
types_from n (fs ∷ ts) h = and_from (are_fields n [] fs) (are_types (suc n) ts) (fields_from n [] fs h.0) (types_from (suc n) ts h.1)

-- ---- the whole

pub whole_so : (i : Image) → is_whole i ≡ true → WholeIsTyped i
whole_so i e = let p = and_parts (how_many is_main i.units == 1) (are_types 0 i.types) e in record { main = eqb-true (how_many is_main i.units) 1 p.0; types = types_so 0 i.types p.1 }

pub whole_from : (i : Image) → WholeIsTyped i → is_whole i ≡ true
whole_from i h = and_from (how_many is_main i.units == 1) (are_types 0 i.types) (eq-eqb (how_many is_main i.units) 1 h.main) (types_from 0 i.types h.types)
