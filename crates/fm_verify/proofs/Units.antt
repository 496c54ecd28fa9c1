-- A unit makes sense exactly where the tests of it hold and its code has its kinds.
use Rattle.std.proofs.Common.{◌≡◌, ◌↔◌, ℕ, zero, suc, ◌+◌, ◌<◌, Bool, true, false, ◌&&◌, length, slice_get, Some, List, [], ◌∷◌, take, sym, ap, subst, ◌∙◌, add-one}
use Rattle.std.specs.Prelude.{IsTrue, nat_le, map, Result, Ok, Err, IfOk}
use Rattle.std.specs.List.{AllByRecursion}
use Rattle.std.proofs.lemmas.Bool.{and_parts, and_from, both_ways, leb-true, le-leb}
use Rattle.std.proofs.lemmas.Option.{slice_get_within}
use Rattle.fm_code_kinds.specs.Kinded.{Kinded}
use Rattle.fm_code_kinds.specs.declared.sorts.Shape.{Shape}
use Rattle.fm_code_kinds.specs.declared.sorts.Shapes.{Shapes}
use Rattle.fm_verify_unit.specs.Along.{coded_by}
use Rattle.fm_object.specs.declared.image.Image.{Image}
use Rattle.fm_object.specs.declared.image.UnitImage.{UnitImage}
use Rattle.fm_image_typed.specs.Shapes.{addresses_of, coded_of, loops_of, shape_of, shapes_of}
use Rattle.fm_image_typed.specs.Typed.{IsBad, Typed, UnitIsTyped}
use Rattle.fm_image_typed.specs.Typed as typed
use Rattle.fm_verify.specs.Judged.{IsFirstBad}
use Rattle.fm_verify.specs.Tests.{are_apart, are_cells, begin_at_first, have_places, is_entered, is_framed, is_machine, is_plain, is_whole, joins_stand, rise_from}
use Rattle.fm_verify.proofs.TypeTests.{whole_from, whole_so}
use Rattle.fm_verify.proofs.Frames.{apart_from, apart_so, cells_from, cells_so, machine_from, machine_so}
use Rattle.fm_verify.proofs.Places.{places_from, places_so}
use Rattle.fm_verify.proofs.Begins.{begin_from, begin_so, joins_back, joins_so, rise_back_all, rise_so}

some_is : {A : Type 0} (x y : A) → Some x ≡ Some y → x ≡ y
some_is x y e = cc

-- the parts of what is tested beside words and kinds
record Plain (u : UnitImage) : Type 0 where
  pub apart : are_apart [] u.cells ≡ true
  pub places : have_places u.cells ≡ true
  pub heading : nat_le u.heading 3 ≡ true
  pub machine : is_machine u.extents ≡ true
  pub begin : begin_at_first (addresses_of u) ≡ true
  pub rise : rise_from 0 (addresses_of u) ≡ true
  pub loops : nat_le (loops_of u.code) (length u.entries) ≡ true
  pub joins : joins_stand u.code (addresses_of u) ≡ true

plain_parts : (u : UnitImage) → is_plain u ≡ true → Plain u
plain_parts u e =
    let a = and_parts (are_apart [] u.cells) (have_places u.cells && (is_framed u && (is_entered u && joins_stand u.code (addresses_of u)))) e in
    let b = and_parts (have_places u.cells) (is_framed u && (is_entered u && joins_stand u.code (addresses_of u))) a.1 in
    let c = and_parts (is_framed u) (is_entered u && joins_stand u.code (addresses_of u)) b.1 in
    let d = and_parts (nat_le u.heading 3) (is_machine u.extents) c.0 in
    let f = and_parts (is_entered u) (joins_stand u.code (addresses_of u)) c.1 in
    let g = and_parts (begin_at_first (addresses_of u)) (rise_from 0 (addresses_of u) && nat_le (loops_of u.code) (length u.entries)) f.0 in
    let h = and_parts (rise_from 0 (addresses_of u)) (nat_le (loops_of u.code) (length u.entries)) g.1 in
    record { apart = a.0; places = b.0; heading = d.0; machine = d.1; begin = g.0; rise = h.0; loops = h.1; joins = f.1 }

pub unit_so : (i : Image) (u : UnitImage) → are_cells (length i.types) 0 u.cells ≡ true → is_plain u ≡ true → Kinded (shapes_of i) (shape_of u) (coded_of u) → UnitIsTyped i u
unit_so i u w e k =
    let p = plain_parts u e in
    record {
      heading = leb-true u.heading 3 p.heading;
      machine = machine_so u.extents p.machine;
      cells = cells_so (length i.types) 0 u.cells w;
      names = apart_so [] u.cells p.apart;
      formals = places_so u.cells p.places;
      begin = begin_so (addresses_of u) p.begin;
      rise = rise_so 0 (addresses_of u) p.rise;
      loops = leb-true (loops_of u.code) (length u.entries) p.loops;
      kinds = k;
      joins = joins_so (coded_of u) p.joins;
    }

pub cells_hold : (i : Image) (u : UnitImage) → UnitIsTyped i u → are_cells (length i.types) 0 u.cells ≡ true
cells_hold i u h = cells_from (length i.types) 0 u.cells h.cells

pub plain_holds : (i : Image) (u : UnitImage) → UnitIsTyped i u → is_plain u ≡ true
plain_holds i u h =
    and_from (are_apart [] u.cells) (have_places u.cells && (is_framed u && (is_entered u && joins_stand u.code (addresses_of u)))) (apart_from u.cells h.names)
    (and_from (have_places u.cells) (is_framed u && (is_entered u && joins_stand u.code (addresses_of u))) (places_from u.cells h.formals)
    (and_from (is_framed u) (is_entered u && joins_stand u.code (addresses_of u)) (and_from (nat_le u.heading 3) (is_machine u.extents) (le-leb u.heading 3 h.heading) (machine_from u.extents h.machine))
    (and_from (is_entered u) (joins_stand u.code (addresses_of u))
    (and_from (begin_at_first (addresses_of u)) (rise_from 0 (addresses_of u) && nat_le (loops_of u.code) (length u.entries)) (begin_from (addresses_of u) h.begin)
    (and_from (rise_from 0 (addresses_of u)) (nat_le (loops_of u.code) (length u.entries)) (rise_back_all (addresses_of u) h.rise) (le-leb (loops_of u.code) (length u.entries) h.loops)))
    (joins_back (coded_of u) h.joins))))

-- ---- refusals

pub no_cells : (i : Image) (u : UnitImage) → are_cells (length i.types) 0 u.cells ≡ false → IsTrue false ↔ UnitIsTyped i u
no_cells i u e = (λ t. absurd cc, λ h. absurd (both_ways (are_cells (length i.types) 0 u.cells) e (cells_hold i u h)))

pub not_plain : (i : Image) (u : UnitImage) → is_plain u ≡ false → IsTrue false ↔ UnitIsTyped i u
not_plain i u e = (λ t. absurd cc, λ h. absurd (both_ways (is_plain u) e (plain_holds i u h)))

pub by_kinds : (i : Image) (u : UnitImage) (b : Bool) → are_cells (length i.types) 0 u.cells ≡ true → is_plain u ≡ true → (IsTrue b ↔ Kinded (shapes_of i) (shape_of u) (coded_of u)) → IsTrue b ↔ UnitIsTyped i u
by_kinds i u b w e k = (λ t. unit_so i u w e (k.0 t), λ h. k.1 h.kinds)

-- ---- what is known of it

mapped : {X Y : Type 0} (f : X → Y) (xs : List X) (n : ℕ) (x : X) → slice_get xs n ≡ Some x → slice_get (map f xs) n ≡ Some (f x)
mapped f [] n x e = absurd cc
mapped f (y ∷ ys) zero x e = ap (λ z. Some (f z)) (some_is y x e)
mapped f (y ∷ ys) (suc n) x e = mapped f ys n x e

pub shape_there : (i : Image) (u : UnitImage) (n : ℕ) (ss : Shapes) → ss ≡ shapes_of i → slice_get i.units n ≡ Some u → slice_get ss.units n ≡ Some (shape_of u)
shape_there i u n ss same e = ap (λ (x : Shapes). slice_get x.units n) same ∙ mapped shape_of i.units n u e

pub its_shape : (i : Image) (u : UnitImage) (n : ℕ) (ss : Shapes) (s : Shape) → ss ≡ shapes_of i → slice_get i.units n ≡ Some u → Some s ≡ slice_get ss.units n → s ≡ shape_of u
its_shape i u n ss s same e f = some_is s (shape_of u) (f ∙ shape_there i u n ss same e)

pub judged : (i : Image) (u : UnitImage) (ss : Shapes) (s : Shape) (loops : ℕ) (b : Bool) → ss ≡ shapes_of i → s ≡ shape_of u → loops ≡ loops_of u.code
    → are_cells (length i.types) 0 u.cells ≡ true → is_plain u ≡ true → (IsTrue b ↔ Kinded ss s (coded_by loops u.entries u.code)) → IsTrue b ↔ UnitIsTyped i u
judged i u ss s loops b e f g w p k =
    by_kinds i u b w p
    (subst (λ (x : Shapes). IsTrue b ↔ Kinded x (shape_of u) (coded_of u)) e
    (subst (λ (x : Shape). IsTrue b ↔ Kinded ss x (coded_of u)) f
    (subst (λ (n : ℕ). IsTrue b ↔ Kinded ss s (coded_by n u.entries u.code)) g k)))

pub where_ok : {X E : Type 0} (r : Result X E) (P Q : X → Type 0) → ((x : X) → P x → Q x) → IfOk r P → IfOk r Q
where_ok (Ok x) P Q f h = f x h
where_ok (Err e) P Q f h = tt

-- ---- the first that makes no sense

more : {X : Type 0} (P : X → Type 0) (xs : List X) (n : ℕ) (x : X) → slice_get xs n ≡ Some x → AllByRecursion P (take n xs) → P x → AllByRecursion P (take (suc n) xs)
more P [] n x e all p = absurd cc
more P (y ∷ ys) zero x e all p = (subst P (sym (some_is y x e)) p, tt)
more P (y ∷ ys) (suc n) x e all p = (all.0, more P ys n x e all.1 p)

pub one_more : {X : Type 0} (P : X → Type 0) (xs : List X) (n : ℕ) (x : X) → slice_get xs n ≡ Some x → AllByRecursion P (take n xs) → P x → AllByRecursion P (take (n + 1) xs)
one_more P xs n x e all p = subst (λ (m : ℕ). AllByRecursion P (take m xs)) (sym (add-one n)) (more P xs n x e all p)

-- ---- the image

pub whole_bad : (i : Image) → is_whole i ≡ false → IsBad i 0
whole_bad i e = typed.Whole (λ w. both_ways (is_whole i) e (whole_from i w))

pub number_inside : (i : Image) (n : ℕ) → IsFirstBad i n → n < length i.units
number_inside i n b = slice_get_within i.units n b.unit b.there

pub one_bad : (i : Image) (n : ℕ) → is_whole i ≡ true → IsFirstBad i n → IsBad i (n + 1)
one_bad i n e b = subst (λ (m : ℕ). IsBad i m) (sym (add-one n)) (typed.One (whole_so i e) n b.unit b.before b.there b.bad)

pub all_typed : (i : Image) → is_whole i ≡ true → AllByRecursion (UnitIsTyped i) i.units → Typed i
all_typed i e all = record { whole = whole_so i e; each = all }
