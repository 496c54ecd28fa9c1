-- In the types of the ports of a checked program sizes are as they have to be.
use Rattle.std.proofs.Common.{◌≡◌, ℕ, zero, suc, Bool, true, false, cond, ◌&&◌, Option, Some, None, List, [], ◌∷◌, ◌++◌, length, slice_get, refl, sym, ap, ◌∙◌, subst, arith, length-append}
use Rattle.std.specs.Option.{option_and_then, option_eq}
use Rattle.std.specs.Coded.{Unit-prop}
use Rattle.std.proofs.Math.Bool.{Bool-set}
use Rattle.fm_tree.specs.PortFields.{PortFields, FieldKind, NoFields, FieldThen, Integer, Logical, In, Out}
use Rattle.fm_tree.specs.PortReading.{kind_of}
use Rattle.fm_tree.specs.Same.{same_name}
use Rattle.fm_tree.specs.declared.port_type.Bound.{Bound}
use Rattle.fm_symbols.specs.ByName.{ByName}
use Rattle.fm_symbols.specs.declared.names.Variable.{Variable}
use Rattle.fm_rules.specs.PortTypes.{counted_bounds, normal_bounds, normal_fields, normal_kind, normal_type, sizing_place}
use Rattle.fm_rules.specs.SizedFields.{Sizes, only_name, size_given, size_place, sized_by}
use Rattle.fm_rules.specs.declared.constants.Known.{Known}
use Rattle.fm_rules.specs.declared.program.Program.{Program}
use Rattle.fm_mean.specs.Names.{ProgramUnit, unit_at}
use Rattle.fm_compile_law.specs.Sized.{is_one_integer, holds_words, is_true_at, size_stands, sizes_stand}
use Rattle.fm_compile_law.proofs.Declared.{variable_holds}

the_number : (a b : ℕ) → Some a ≡ Some b → a ≡ b
the_number a b e = cc

-- ---- normal types

at_end : (es : List Bool) (b : Bool) → slice_get (es ++ b ∷ []) (length es) ≡ Some b
at_end [] b = refl
at_end (e ∷ es) b = at_end es b

further : (es : List Bool) (b : Bool) (i : ℕ) → slice_get es i ≡ Some true → slice_get (es ++ b ∷ []) i ≡ Some true
further [] b i e = absurd cc
further (x ∷ es) b zero e = e
further (x ∷ es) b (suc i) e = further es b i e

-- the names that earlier fields give as sizes are those of integers alone
record Agree (earlier : Sizes) (es : List Bool) : Type 0 where
  many : length earlier ≡ length es
  one : (name : List ℕ) (i : ℕ) → size_place earlier name ≡ Some i → slice_get es i ≡ Some true

both_true : (a b : Bool) → a ≡ true → b ≡ true → (a && b) ≡ true
both_true true b e f = f
both_true false b e f = absurd cc

module _ (known : ByName Known) (at : ℕ) where
  counted_here : (es : List Bool) (k : FieldKind) (bounds : List Bound) → size_stands es k (sizing_place (counted_bounds known at bounds)) ≡ true
  counted_here es k [] = refl
  counted_here es k (b ∷ bs) = refl

  by_place : (es : List Bool) (k : FieldKind) → holds_words k ≡ true → (o : Option ℕ) → ((i : ℕ) → o ≡ Some i → slice_get es i ≡ Some true) → (bounds : List Bound) → size_stands es k (sizing_place (normal_bounds known at o bounds)) ≡ true
  by_place es k holds None there bounds = counted_here es k bounds
  by_place es k holds (Some i) there bounds = both_true (holds_words k) (is_true_at (slice_get es i)) holds (ap is_true_at (there i refl))

  named_place : (earlier : Sizes) (es : List Bool) → Agree earlier es → (o : Option (List ℕ)) (i : ℕ) → option_and_then (size_place earlier) o ≡ Some i → slice_get es i ≡ Some true
  named_place earlier es h None i e = absurd cc
  named_place earlier es h (Some name) i e = h.one name i e

  size_here : (earlier : Sizes) (es : List Bool) → Agree earlier es → (k : FieldKind) (bounds : List Bound) → size_stands es (normal_kind known at k) (sizing_place (normal_bounds known at (sized_by earlier k bounds) bounds)) ≡ true
  size_here earlier es h Integer bounds = by_place es Integer refl (option_and_then (size_place earlier) (only_name bounds)) (named_place earlier es h (only_name bounds)) bounds
  size_here earlier es h Logical bounds = by_place es Logical refl (option_and_then (size_place earlier) (only_name bounds)) (named_place earlier es h (only_name bounds)) bounds
  size_here earlier es h (In p) bounds = counted_here es (normal_kind known at (In p)) bounds
  size_here earlier es h (Out p) bounds = counted_here es (normal_kind known at (Out p)) bounds

  -- a field that gives a name is an integer alone
  gives_one : (earlier : Sizes) (k : FieldKind) (name : Option (List ℕ)) (bounds : List Bound) (wanted : List ℕ) → option_eq same_name (size_given k name bounds) (Some wanted) ≡ true
      → is_one_integer (normal_kind known at k) (normal_bounds known at (sized_by earlier k bounds) bounds) ≡ true
  gives_one earlier Integer name [] wanted e = refl
  gives_one earlier Integer name (b ∷ bs) wanted e = absurd cc
  gives_one earlier Logical name bounds wanted e = absurd cc
  gives_one earlier (In p) name bounds wanted e = absurd cc
  gives_one earlier (Out p) name bounds wanted e = absurd cc

  -- whether a field is an integer alone in the normal type
  abbrev next_one : Sizes → FieldKind → List Bound → Bool
  next_one earlier k bounds = is_one_integer (normal_kind known at k) (normal_bounds known at (sized_by earlier k bounds) bounds)

  next_agrees : (earlier : Sizes) (es : List Bool) → Agree earlier es → (k : FieldKind) (name : Option (List ℕ)) (bounds : List Bound) → Agree (size_given k name bounds ∷ earlier) (es ++ next_one earlier k bounds ∷ [])
  next_agrees earlier es h k name bounds = record {
    many = omega (arith, h.many, length-append es (next_one earlier k bounds ∷ []));
    one = λ wanted i e. go wanted i (option_eq same_name (size_given k name bounds) (Some wanted)) refl e;
  }
    where
      go : (wanted : List ℕ) (i : ℕ) (b : Bool) → option_eq same_name (size_given k name bounds) (Some wanted) ≡ b → cond b (Some (length earlier)) (size_place earlier wanted) ≡ Some i → slice_get (es ++ next_one earlier k bounds ∷ []) i ≡ Some true
      go wanted i true is f =
          let here : length es ≡ i = sym h.many ∙ the_number (length earlier) i f in
          ap (slice_get (es ++ next_one earlier k bounds ∷ [])) (sym here) ∙ at_end es (next_one earlier k bounds) ∙ ap Some (gives_one earlier k name bounds wanted is)
      go wanted i false is f = further es (next_one earlier k bounds) i (h.one wanted i f)

  normal_stands : (earlier : Sizes) (es : List Bool) → Agree earlier es → (t : PortFields) → sizes_stand es (normal_fields known at earlier t) ≡ true
  normal_stands earlier es h NoFields = refl
  normal_stands earlier es h (FieldThen k name bounds rest) =
      let b = is_one_integer (normal_kind known at k) (normal_bounds known at (sized_by earlier k bounds) bounds) in
      both_true (size_stands es (normal_kind known at k) (sizing_place (normal_bounds known at (sized_by earlier k bounds) bounds))) (sizes_stand (es ++ b ∷ []) (normal_fields known at (size_given k name bounds ∷ earlier) rest))
      (size_here earlier es h k bounds) (normal_stands (size_given k name bounds ∷ earlier) (es ++ b ∷ []) (next_agrees earlier es h k name bounds) rest)

none_agree : Agree [] []
none_agree = record { many = refl; one = λ name i e. absurd cc }

pub normal_sized : (known : ByName Known) (at : ℕ) (t : PortFields) → sizes_stand [] (normal_type known at t) ≡ true
normal_sized known at t = normal_stands known at [] [] none_agree t

-- ---- variables

abbrev IsStanding : FieldKind → Type 0
IsStanding Integer = Unit {0}
IsStanding Logical = Unit {0}
IsStanding (In t) = sizes_stand [] t ≡ true
IsStanding (Out t) = sizes_stand [] t ≡ true

standing_prop : (r : FieldKind) → IsProp (IsStanding r)
standing_prop Integer = Unit-prop
standing_prop Logical = Unit-prop
standing_prop (In t) = hlevel Bool-set
standing_prop (Out t) = hlevel Bool-set

variable_standing : (p : Program) (n : ℕ) (u : ProgramUnit) (i : ℕ) (v : Variable) → unit_at p n ≡ Some u → slice_get u.names.variables i ≡ Some v → IsStanding (kind_of v.kind)
variable_standing p n u i v is there = variable_holds IsStanding tt tt (λ known at line t e. (normal_sized known at t, normal_sized known at t)) standing_prop p n u i v is there

-- the type of an inport, and of an outport
pub in_sizes : (p : Program) (n : ℕ) (u : ProgramUnit) (i : ℕ) (v : Variable) (t : PortFields) → unit_at p n ≡ Some u → slice_get u.names.variables i ≡ Some v → kind_of v.kind ≡ In t → sizes_stand [] t ≡ true
in_sizes p n u i v t is there e = subst IsStanding e (variable_standing p n u i v is there)

pub out_sizes : (p : Program) (n : ℕ) (u : ProgramUnit) (i : ℕ) (v : Variable) (t : PortFields) → unit_at p n ≡ Some u → slice_get u.names.variables i ≡ Some v → kind_of v.kind ≡ Out t → sizes_stand [] t ≡ true
out_sizes p n u i v t is there e = subst IsStanding e (variable_standing p n u i v is there)
