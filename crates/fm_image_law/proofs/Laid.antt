-- The code of an image that makes sense knows the port words of its units.
use Rattle.std.proofs.Common.{◌≡◌, ℕ, zero, suc, ◌+◌, ◌≤◌, cond, Option, Some, List, [], ◌∷◌, length, map, slice_get, refl, sym, ap, subst, ◌∙◌, arith}
use Rattle.std.specs.List.{AllByRecursion}
use Rattle.fm_code.specs.declared.code.Entry.{Entry}
use Rattle.fm_code.specs.declared.code.Span.{Span}
use Rattle.fm_code.specs.declared.code.Unit as code_unit
use Rattle.fm_code_kinds.specs.declared.sorts.Cell.{Cell}
use Rattle.fm_code_kinds.specs.declared.sorts.Shape.{Shape}
use Rattle.fm_code_kinds.specs.Shapes.{cell_span, is_word}
use Rattle.fm_object.specs.declared.image.Cell as image_cell
use Rattle.fm_object.specs.declared.image.Image.{Image}
use Rattle.fm_object.specs.declared.image.UnitImage.{UnitImage}
use Rattle.fm_image_typed.specs.Codes.{code_of, ports_of, unit_of}
use Rattle.fm_image_typed.specs.Shapes.{addresses_of, cell_of, shape_of, shapes_of}
use Rattle.fm_image_typed.specs.Typed.{BeginAt, CellsAreTyped, Typed, UnitIsTyped}
use Rattle.fm_image_typed.proofs.Codes.{typed_code}
use Rattle.fm_code_preserves.specs.Rooms.{AreLaid, IsLaidCode, IsLaidUnit, port_spans}

some_is : {A : Type 0} (x y : A) → ◌≡◌ {A = Option A} (Some x) (Some y) → x ≡ y
some_is x y e = cc

-- what stands there after a change stood there before
mapped : {X Y : Type 0} (f : X → Y) (xs : List X) (n : ℕ) (y : Y) → slice_get (map f xs) n ≡ Some y → (x : X) × (slice_get xs n ≡ Some x) × (f x ≡ y)
mapped f [] n y e = absurd cc
mapped f (x ∷ xs) zero y e = (x, refl, some_is (f x) y e)
mapped f (x ∷ xs) (suc n) y e = mapped f xs n y e

pub there : {X Y : Type 0} (f : X → Y) (xs : List X) (n : ℕ) (x : X) → slice_get xs n ≡ Some x → slice_get (map f xs) n ≡ Some (f x)
there f [] n x e = absurd cc
there f (y ∷ xs) zero x e = ap (λ z. Some (f z)) (some_is y x e)
there f (y ∷ xs) (suc n) x e = there f xs n x e

pub one_of : {X : Type 0} (P : X → Type 0) (xs : List X) → AllByRecursion P xs → (n : ℕ) (x : X) → slice_get xs n ≡ Some x → P x
one_of P [] all n x e = absurd cc
one_of P (y ∷ xs) all zero x e = subst P (some_is y x e) all.0
one_of P (y ∷ xs) all (suc n) x e = one_of P xs all.1 n x e

ports_are : (cs : List Cell) → ports_of cs ≡ port_spans cs
ports_are [] = refl
ports_are (c ∷ cs) = ap (λ (l : List Span). cond (is_word c.sort) l (cell_span c ∷ l)) (ports_are cs)

cells_laid : (types w : ℕ) (cs : List image_cell.Cell) → CellsAreTyped types w cs → AreLaid w (map cell_of cs)
cells_laid types w [] t = tt
cells_laid types w (c ∷ cs) t = (t.0.first, t.0.some, cells_laid types (w + c.words) cs t.1)

begins_at : (i : Image) (u : UnitImage) → UnitIsTyped i u → 1 ≤ length u.code
begins_at i u t = go u.entries refl t.begin
  where
    go : (es : List Entry) → u.entries ≡ es → BeginAt 0 (map (λ (e : Entry). e.address) es) → 1 ≤ length u.code
    go [] e begin = absurd begin
    go (x ∷ es) e begin =
        let at : slice_get (addresses_of u) 0 ≡ Some x.address = ap (λ (l : List Entry). slice_get (map (λ (e : Entry). e.address) l) 0) e in
        omega (arith, (t.kinds.1.entries 0 x.address at).inside)

module _ (i : Image) (t : Typed i) where
  unit_laid : (u : UnitImage) → UnitIsTyped i u → IsLaidUnit (shape_of u) (unit_of u)
  unit_laid u own = record { ports = ports_are (map cell_of u.cells); laid = cells_laid (length i.types) 0 u.cells own.cells; begins = begins_at i u own }

  units_at : (n : ℕ) (u : Shape) (c : code_unit.Unit) → slice_get (shapes_of i).units n ≡ Some u → slice_get (code_of i).units n ≡ Some c → IsLaidUnit u c
  units_at n u c e f =
      let m = mapped shape_of i.units n u e in
      let same : unit_of m.0 ≡ c = some_is (unit_of m.0) c (sym (there unit_of i.units n m.0 m.1) ∙ f) in
      let own = unit_laid m.0 (one_of (UnitIsTyped i) i.units t.each n m.0 m.1) in
      subst (λ (v : Shape). IsLaidUnit v c) m.2 (subst (λ (d : code_unit.Unit). IsLaidUnit (shape_of m.0) d) same own)

  pub code_laid : IsLaidCode (shapes_of i) (code_of i)
  code_laid = record { typed = typed_code i t; units = units_at }
