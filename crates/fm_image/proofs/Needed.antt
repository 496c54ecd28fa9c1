-- Types that are needed are there, and stay at their numbers when others come behind them.
use Rattle.std.proofs.Common.{◌≡◌, zero, suc, ◌+◌, ◌<◌, ◌==◌, ◌&&◌, ◌||◌, not, Bool, true, false, cond, Some, List, [], ◌∷◌, ◌++◌, length, slice_get, refl, sym, ap, subst, ◌∙◌, append_assoc, arith}
use Rattle.std.specs.Bool.{Decides}
use Rattle.std.specs.Cmp.{first_so, second_so}
use Rattle.std.specs.Cmp.Lexicographic.{pointwise_decides}
use Rattle.std.specs.List.{list_any, position_or_len}
use Rattle.std.proofs.lemmas.Bool.Decides.{Decides-eqb}
use Rattle.std.proofs.lemmas.List.{append-nil}
use Rattle.std.proofs.lemmas.List.Folds.{list_any-append}
use Rattle.fm_tree.specs.PortFields.{PortFields, FieldKind, NoFields, FieldThen, Integer, Logical, In, Out}
use Rattle.fm_tree.specs.PortReading.{kind_of}
use Rattle.fm_symbols.specs.declared.names.UnitNames.{UnitNames}
use Rattle.fm_symbols.specs.declared.names.Variable.{Variable}
use Rattle.fm_rules.specs.PortTypes.{sizing_place}
use Rattle.fm_object.specs.declared.image.FieldImage.{FieldImage}
use Rattle.fm_image.specs.Types.{same_field, same_fields, number_of, with_type, field_with, fields_image, type_number, number_in, needed_in, needed_by, needed_among, needed_all}

-- ---- equal types

never : true ≡ false → ⊥
never e = absurd cc

field_sound : (a b : FieldImage) → same_field a b ≡ true → a ≡ b
field_sound a b e =
    let kinds = a.kind == b.kind in
    let ofs = a.of == b.of in
    let words = a.words == b.words in
    let sizes = a.size == b.size in
    let rest = second_so kinds (ofs && (words && sizes)) e in
    let last = second_so ofs (words && sizes) rest in
    λ i. record {
      kind = (Decides-eqb a.kind b.kind).0 (first_so kinds (ofs && (words && sizes)) e) i;
      of = (Decides-eqb a.of b.of).0 (first_so ofs (words && sizes) rest) i;
      words = (Decides-eqb a.words b.words).0 (first_so words sizes last) i;
      size = (Decides-eqb a.size b.size).0 (second_so words sizes last) i;
    }

all_true : (a b c d : Bool) → a ≡ true → b ≡ true → c ≡ true → d ≡ true → (a && (b && (c && d))) ≡ true
all_true true true true true e f g h = refl
all_true true true true false e f g h = h
all_true true true false d e f g h = g
all_true true false c d e f g h = f
all_true false b c d e f g h = e

field_self : (a : FieldImage) → same_field a a ≡ true
field_self a =
    all_true (a.kind == a.kind) (a.of == a.of) (a.words == a.words) (a.size == a.size) ((Decides-eqb a.kind a.kind).1 refl) ((Decides-eqb a.of a.of).1 refl) ((Decides-eqb a.words a.words).1 refl)
    ((Decides-eqb a.size a.size).1 refl)

field_decides : (a b : FieldImage) → Decides (same_field a b) (a ≡ b)
field_decides a b = (field_sound a b, λ e. subst (λ (x : FieldImage). same_field a x ≡ true) e (field_self a))

pub type_decides : (a b : List FieldImage) → Decides (same_fields a b) (a ≡ b)
type_decides a b = pointwise_decides field_decides a b

-- ---- numbers

-- a type is among these
abbrev pub Has : List (List FieldImage) → List FieldImage → Type 0
Has ts t = list_any (same_fields t) ts ≡ true

pub at_number : (ts : List (List FieldImage)) (t : List FieldImage) → Has ts t → slice_get ts (number_of ts t) ≡ Some t
at_number [] t h = absurd (never (sym h))
at_number (x ∷ ts) t h = go (same_fields t x) refl h (λ f. at_number ts t f)
  where
    go : (b : Bool) → same_fields t x ≡ b → (b || list_any (same_fields t) ts) ≡ true → (Has ts t → slice_get ts (number_of ts t) ≡ Some t) → slice_get (x ∷ ts) (cond b 0 (suc (number_of ts t))) ≡ Some t
    go true is h rest = ap Some (sym ((type_decides t x).0 is))
    go false is h rest = rest h

pub number_less : (ts : List (List FieldImage)) (t : List FieldImage) → Has ts t → number_of ts t < length ts
number_less [] t h = absurd (never (sym h))
number_less (x ∷ ts) t h = go (same_fields t x) h (λ f. number_less ts t f)
  where
    go : (b : Bool) → (b || list_any (same_fields t) ts) ≡ true → (Has ts t → number_of ts t < length ts) → cond b 0 (suc (number_of ts t)) < suc (length ts)
    go true h rest = omega arith
    go false h rest = omega (arith, rest h)

number_stays : (ts more : List (List FieldImage)) (t : List FieldImage) → Has ts t → number_of (ts ++ more) t ≡ number_of ts t
number_stays [] more t h = absurd (never (sym h))
number_stays (x ∷ ts) more t h = go (same_fields t x) h (λ f. number_stays ts more t f)
  where
    go : (b : Bool) → (b || list_any (same_fields t) ts) ≡ true → (Has ts t → number_of (ts ++ more) t ≡ number_of ts t) → cond b 0 (suc (number_of (ts ++ more) t)) ≡ cond b 0 (suc (number_of ts t))
    go true h rest = refl
    go false h rest = ap suc (rest h)

-- ---- more types

-- some types behind those that are there
abbrev pub Extends : List (List FieldImage) → List (List FieldImage) → Type 0
Extends ts us = (more : List (List FieldImage)) × (us ≡ ts ++ more)

pub extends_self : (ts : List (List FieldImage)) → Extends ts ts
extends_self ts = ([], sym (append-nil ts))

pub extends_then : (ts us vs : List (List FieldImage)) → Extends ts us → Extends us vs → Extends ts vs
extends_then ts us vs a b = (a.0 ++ b.0, b.1 ∙ ap (λ l. l ++ b.0) a.1 ∙ append_assoc ts a.0 b.0)

or_true : (b c : Bool) → b ≡ true → (b || c) ≡ true
or_true true c e = refl
or_true false c e = absurd cc

has_further : (ts us : List (List FieldImage)) (t : List FieldImage) → Extends ts us → Has ts t → Has us t
has_further ts us t x h = ap (list_any (same_fields t)) x.1 ∙ list_any-append (same_fields t) ts x.0 ∙ or_true (list_any (same_fields t) ts) (list_any (same_fields t) x.0) h

with_extends : (ts : List (List FieldImage)) (t : List FieldImage) → Extends ts (with_type ts t)
with_extends ts t = go (list_any (same_fields t) ts)
  where
    go : (b : Bool) → Extends ts (cond b ts (ts ++ t ∷ []))
    go true = extends_self ts
    go false = (t ∷ [], refl)

last_has : (ts : List (List FieldImage)) (t : List FieldImage) → Has (ts ++ t ∷ []) t
last_has ts t = list_any-append (same_fields t) ts (t ∷ []) ∙ or_last (list_any (same_fields t) ts) (same_fields t t) ((type_decides t t).1 refl)
  where
    or_last : (b c : Bool) → c ≡ true → (b || (c || false)) ≡ true
    or_last true c e = refl
    or_last false true e = refl
    or_last false false e = absurd cc

with_has : (ts : List (List FieldImage)) (t : List FieldImage) → Has (with_type ts t) t
with_has ts t = go (list_any (same_fields t) ts) refl
  where
    go : (b : Bool) → list_any (same_fields t) ts ≡ b → Has (cond b ts (ts ++ t ∷ [])) t
    go true is = is
    go false is = last_has ts t

mutual
  pub in_extends : (ts : List (List FieldImage)) (p : PortFields) → Extends ts (needed_in ts p)
  in_extends ts NoFields = extends_self ts
  in_extends ts (FieldThen k name bounds rest) = extends_then ts (needed_by ts k) (needed_in (needed_by ts k) rest) (by_extends ts k) (in_extends (needed_by ts k) rest)

  pub by_extends : (ts : List (List FieldImage)) (k : FieldKind) → Extends ts (needed_by ts k)
  by_extends ts Integer = extends_self ts
  by_extends ts Logical = extends_self ts
  by_extends ts (In p) = extends_then ts (needed_in ts p) (needed_by ts (In p)) (in_extends ts p) (with_extends (needed_in ts p) (fields_image (needed_in ts p) p))
  by_extends ts (Out p) = extends_then ts (needed_in ts p) (needed_by ts (Out p)) (in_extends ts p) (with_extends (needed_in ts p) (fields_image (needed_in ts p) p))

pub among_extends : (ts : List (List FieldImage)) (vs : List Variable) → Extends ts (needed_among ts vs)
among_extends ts [] = extends_self ts
among_extends ts (v ∷ vs) = extends_then ts (needed_by ts (kind_of v.kind)) (needed_among (needed_by ts (kind_of v.kind)) vs) (by_extends ts (kind_of v.kind)) (among_extends (needed_by ts (kind_of v.kind)) vs)

pub all_extends : (ts : List (List FieldImage)) (us : List UnitNames) → Extends ts (needed_all ts us)
all_extends ts [] = extends_self ts
all_extends ts (u ∷ us) = extends_then ts (needed_among ts u.variables) (needed_all (needed_among ts u.variables) us) (among_extends ts u.variables) (all_extends (needed_among ts u.variables) us)

-- ---- what is needed is there

-- the type of a port is among these, and those that its fields need
abbrev mutual
  pub FieldsFound : List (List FieldImage) → PortFields → Type 0
  FieldsFound ts NoFields = Unit {0}
  FieldsFound ts (FieldThen k name bounds rest) = KindFound ts k × FieldsFound ts rest

  pub KindFound : List (List FieldImage) → FieldKind → Type 0
  KindFound ts Integer = Unit {0}
  KindFound ts Logical = Unit {0}
  KindFound ts (In p) = Has ts (fields_image ts p) × FieldsFound ts p
  KindFound ts (Out p) = Has ts (fields_image ts p) × FieldsFound ts p

-- it stays there, and at its number
port_stays : (ts us : List (List FieldImage)) (p : PortFields) → Extends ts us → Has ts (fields_image ts p) → (fields_image us p ≡ fields_image ts p) × FieldsFound us p → (number_in us p ≡ number_in ts p) × (Has us (fields_image us p) × FieldsFound us p)
port_stays ts us p x h s =
    let t = fields_image ts p in (
      ap (number_of us) s.0 ∙ ap (λ (l : List (List FieldImage)). number_of l t) x.1 ∙ number_stays ts x.0 t h,
      (subst (Has us) (sym s.0) (has_further ts us t x h), s.1),
    )

mutual
  pub fields_stay : (ts us : List (List FieldImage)) (p : PortFields) → Extends ts us → FieldsFound ts p → (fields_image us p ≡ fields_image ts p) × FieldsFound us p
  fields_stay ts us NoFields x h = (refl, tt)
  fields_stay ts us (FieldThen k name bounds rest) x h =
      let one = kind_stays ts us k x h.0 in
      let more = fields_stay ts us rest x h.1 in
      (λ i. field_with k (one.0 i) bounds (sizing_place bounds) ∷ more.0 i, (one.1, more.1))

  pub kind_stays : (ts us : List (List FieldImage)) (k : FieldKind) → Extends ts us → KindFound ts k → (type_number us k ≡ type_number ts k) × KindFound us k
  kind_stays ts us Integer x h = (refl, tt)
  kind_stays ts us Logical x h = (refl, tt)
  kind_stays ts us (In p) x h = port_stays ts us p x h.0 (fields_stay ts us p x h.1)
  kind_stays ts us (Out p) x h = port_stays ts us p x h.0 (fields_stay ts us p x h.1)

port_found : (ts : List (List FieldImage)) (p : PortFields) → FieldsFound ts p → Has (with_type ts (fields_image ts p)) (fields_image (with_type ts (fields_image ts p)) p) × FieldsFound (with_type ts (fields_image ts p)) p
port_found ts p h =
    let t = fields_image ts p in
    let s = fields_stay ts (with_type ts t) p (with_extends ts t) h in
    (subst (Has (with_type ts t)) (sym s.0) (with_has ts t), s.1)

mutual
  pub in_found : (ts : List (List FieldImage)) (p : PortFields) → FieldsFound (needed_in ts p) p
  in_found ts NoFields = tt
  in_found ts (FieldThen k name bounds rest) = ((kind_stays (needed_by ts k) (needed_in (needed_by ts k) rest) k (in_extends (needed_by ts k) rest) (by_found ts k)).1, in_found (needed_by ts k) rest)

  pub by_found : (ts : List (List FieldImage)) (k : FieldKind) → KindFound (needed_by ts k) k
  by_found ts Integer = tt
  by_found ts Logical = tt
  by_found ts (In p) = port_found (needed_in ts p) p (in_found ts p)
  by_found ts (Out p) = port_found (needed_in ts p) p (in_found ts p)

-- the number at which a type is put is its number
pub number_named : (ts : List (List FieldImage)) (p : PortFields) → number_of (needed_by ts (In p)) (fields_image (needed_in ts p) p) ≡ type_number (needed_by ts (In p)) (In p)
number_named ts p =
    let us = needed_in ts p in
    let t = fields_image us p in
    ap (number_of (with_type us t)) (sym (fields_stay us (with_type us t) p (with_extends us t) (in_found ts p)).0)

-- ---- the place at which a type is put

put_at : (ts : List (List FieldImage)) (t : List FieldImage) → position_or_len (same_fields t) ts ≡ number_of ts t
put_at [] t = refl
put_at (x ∷ ts) t = go (same_fields t x) (put_at ts t)
  where
    go : (b : Bool) → position_or_len (same_fields t) ts ≡ number_of ts t → cond (not b) (1 + position_or_len (same_fields t) ts) 0 ≡ cond b 0 (suc (number_of ts t))
    go true e = refl
    go false e = omega (arith, e)

number_last : (ts : List (List FieldImage)) (t : List FieldImage) → list_any (same_fields t) ts ≡ false → number_of (ts ++ t ∷ []) t ≡ number_of ts t
number_last [] t e = go (same_fields t t) ((type_decides t t).1 refl)
  where
    go : (b : Bool) → b ≡ true → cond b 0 (suc zero) ≡ zero
    go true e = refl
    go false e = absurd cc
number_last (x ∷ ts) t e = go (same_fields t x) e (λ f. number_last ts t f)
  where
    go : (b : Bool) → (b || list_any (same_fields t) ts) ≡ false → (list_any (same_fields t) ts ≡ false → number_of (ts ++ t ∷ []) t ≡ number_of ts t) → cond b 0 (suc (number_of (ts ++ t ∷ []) t)) ≡ cond b 0 (suc (number_of ts t))
    go true e rest = refl
    go false e rest = ap suc (rest e)

pub put_there : (ts : List (List FieldImage)) (t : List FieldImage) → position_or_len (same_fields t) ts ≡ number_of (with_type ts t) t
put_there ts t = put_at ts t ∙ sym (go (list_any (same_fields t) ts) refl)
  where
    go : (b : Bool) → list_any (same_fields t) ts ≡ b → number_of (cond b ts (ts ++ t ∷ [])) t ≡ number_of ts t
    go true is = refl
    go false is = number_last ts t is
