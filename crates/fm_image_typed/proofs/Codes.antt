-- The code of an image that makes sense has its kinds.
use Rattle.std.proofs.Common.{◌≡◌, ℕ, zero, suc, ◌+◌, ◌≤◌, ◌<◌, Bool, true, false, cond, ◌==◌, Option, Some, None, List, [], ◌∷◌, ◌++◌, length, map, slice_get, refl, sym, ap, subst, ◌∙◌, arith}
use Rattle.std.specs.Prelude.{filter}
use Rattle.std.specs.List.{AllByRecursion}
use Rattle.std.proofs.lemmas.List.{length-map}
use Rattle.std.proofs.lemmas.Bool.{eqb-true}
use Rattle.fm_code.specs.Statements.{is_stuck}
use Rattle.fm_code.specs.declared.body.Body.{Body}
use Rattle.fm_code.specs.declared.code.Unit as code_unit
use Rattle.fm_code_kinds.specs.declared.sorts.Cell.{Cell}
use Rattle.fm_code_kinds.specs.declared.sorts.Shape.{Shape}
use Rattle.fm_code_kinds.specs.Bodies.{AreFormals, IsUnit, coded, AreWithin, IsTypedCode}
use Rattle.fm_code_kinds.specs.Kinded.{Kinded}
use Rattle.fm_code_kinds.specs.Shapes.{formal_at, words_of}
use Rattle.fm_code_kinds.proofs.NotStuck.{not_stuck}
use Rattle.fm_object.specs.declared.image.Cell as image_cell
use Rattle.fm_object.specs.declared.image.Image.{Image}
use Rattle.fm_object.specs.declared.image.UnitImage.{UnitImage}
use Rattle.fm_image_typed.specs.Shapes.{cell_of, shape_of, shapes_of}
use Rattle.fm_image_typed.specs.Typed.{CellsAreTyped, how_many, is_formal, FormalsHavePlaces, UnitIsTyped, Typed}
use Rattle.fm_image_typed.specs.Codes.{formal_in, formals_from, unit_of, code_of, RunsImage}

abbrev some : {A : Type 0} → A → Option A
some x = Some x

some_is : {A : Type 0} (x y : A) → some x ≡ some y → x ≡ y
some_is x y e = cc

-- ---- lists

-- what stands there after a change stood there before
mapped : {X Y : Type 0} (f : X → Y) (xs : List X) (n : ℕ) (y : Y) → slice_get (map f xs) n ≡ Some y → (x : X) × (slice_get xs n ≡ Some x) × (f x ≡ y)
mapped f [] n y e = absurd cc
mapped f (x ∷ xs) zero y e = (x, refl, some_is (f x) y e)
mapped f (x ∷ xs) (suc n) y e = mapped f xs n y e

there : {X Y : Type 0} (f : X → Y) (xs : List X) (n : ℕ) (x : X) → slice_get xs n ≡ Some x → slice_get (map f xs) n ≡ Some (f x)
there f [] n x e = absurd cc
there f (y ∷ xs) zero x e = ap (λ z. some (f z)) (some_is y x e)
there f (y ∷ xs) (suc n) x e = there f xs n x e

one_of : {X : Type 0} (P : X → Type 0) (xs : List X) → AllByRecursion P xs → (n : ℕ) (x : X) → slice_get xs n ≡ Some x → P x
one_of P [] all n x e = absurd cc
one_of P (y ∷ xs) all zero x e = subst P (some_is y x e) all.0
one_of P (y ∷ xs) all (suc n) x e = one_of P xs all.1 n x e

-- ---- words

ends_within : (types w n : ℕ) (cs : List image_cell.Cell) → CellsAreTyped types w cs → w + words_of (map cell_of cs) ≤ n → AllByRecursion (λ (c : Cell). c.first + c.words ≤ n) (map cell_of cs)
ends_within types w n [] t le = tt
ends_within types w n (c ∷ cs) t le = (omega (arith, t.0.first, le), ends_within types (w + c.words) n cs t.1 (omega (arith, le)))

-- ---- formals

-- where one has this place, it is found
found_one : (n : ℕ) (cs : List image_cell.Cell) → 1 ≤ how_many (λ (c : image_cell.Cell). c.formal == n) cs → (c : Cell) × (formal_at (map cell_of cs) n ≡ Some c)
found_one n [] le = absurd (omega (arith, le))
found_one n (c ∷ cs) le = go (c.formal == n) le (found_one n cs)
  where
    go : (b : Bool) → 1 ≤ length (cond b (c ∷ filter (λ (c : image_cell.Cell). c.formal == n) cs) (filter (λ (c : image_cell.Cell). c.formal == n) cs)) → (1 ≤ how_many (λ (c : image_cell.Cell). c.formal == n) cs → (d : Cell) × (formal_at (map cell_of cs) n ≡ Some d))
        → (d : Cell) × (cond b (some (cell_of c)) (formal_at (map cell_of cs) n) ≡ Some d)
    go true le more = (cell_of c, refl)
    go false le more = more le

-- where none has one so high, none is found
found_none : (n m : ℕ) (cs : List image_cell.Cell) → AllByRecursion (λ (c : image_cell.Cell). c.formal ≤ m) cs → m < n → formal_at (map cell_of cs) n ≡ None
found_none n m [] all lt = refl
found_none n m (c ∷ cs) all lt = go (c.formal == n) refl (found_none n m cs all.1 lt)
  where
    go : (b : Bool) → (c.formal == n) ≡ b → formal_at (map cell_of cs) n ≡ None → cond b (some (cell_of c)) (formal_at (map cell_of cs) n) ≡ None
    go true e more = absurd (omega (arith, eqb-true c.formal n e, all.0, lt))
    go false e more = more

-- all from a place on
formals_are : (cs : List image_cell.Cell) → FormalsHavePlaces cs → (place n : ℕ) → place + n ≡ how_many is_formal cs → AreFormals (map cell_of cs) (suc place) (formals_from (map cell_of cs) (suc place) n)
formals_are cs f place zero e = found_none (suc place) (how_many is_formal cs) cs f.low (omega (arith, e))
formals_are cs f place (suc n) e =
    let one = found_one (suc place) cs (omega (arith, f.once place (omega (arith, e)))) in
    let more = formals_are cs f (suc place) n (omega (arith, e)) in
    subst (λ (o : Option Cell). AreFormals (map cell_of cs) (suc place) (formal_in o ++ formals_from (map cell_of cs) (suc (suc place)) n)) (sym one.1) ((one.0, one.1, refl), more)

-- ---- units

module _ (i : Image) (t : Typed i) where
  typed_at : (n : ℕ) (u : UnitImage) → slice_get i.units n ≡ Some u → UnitIsTyped i u
  typed_at n u e = one_of (UnitIsTyped i) i.units t.each n u e

  is_unit : (u : UnitImage) → UnitIsTyped i u → IsUnit (shape_of u) (unit_of u)
  is_unit u own = record { words = refl; formals = formals_are u.cells own.formals 0 (how_many is_formal u.cells) (omega arith) }

  unit_there : (n : ℕ) (u : Shape) → slice_get (shapes_of i).units n ≡ Some u → (c : code_unit.Unit) × (slice_get (code_of i).units n ≡ Some c) × IsUnit u c
  unit_there n u e =
      let m = mapped shape_of i.units n u e in
      (unit_of m.0, there unit_of i.units n m.0 m.1, subst (λ (v : Shape). IsUnit v (unit_of m.0)) m.2 (is_unit m.0 (typed_at n m.0 m.1)))

  within_there : (n : ℕ) (u : Shape) → slice_get (shapes_of i).units n ≡ Some u → AreWithin u
  within_there n u e =
      let m = mapped shape_of i.units n u e in
      let cells = (typed_at n m.0 m.1).cells in
      subst AreWithin m.2 (ends_within (length i.types) 0 (words_of (map cell_of m.0.cells)) m.0.cells cells (omega arith))

  kinds_there : (n : ℕ) (u : Shape) (c : code_unit.Unit) → slice_get (shapes_of i).units n ≡ Some u → slice_get (code_of i).units n ≡ Some c → Kinded (shapes_of i) u (coded c)
  kinds_there n u c e f =
      let m = mapped shape_of i.units n u e in
      let same : unit_of m.0 ≡ c = some_is (unit_of m.0) c (sym (there unit_of i.units n m.0 m.1) ∙ f) in
      let here : Kinded (shapes_of i) (shape_of m.0) (coded (unit_of m.0)) = (typed_at n m.0 m.1).kinds in
      subst (λ (v : Shape). Kinded (shapes_of i) v (coded c)) m.2 (subst (λ (d : code_unit.Unit). Kinded (shapes_of i) (shape_of m.0) (coded d)) same here)

  pub typed_code : IsTypedCode (shapes_of i) (code_of i)
  typed_code = record {
    same = length-map i.units unit_of ∙ sym (length-map i.units shape_of);
    unit = unit_there;
    within = within_there;
    kinds = kinds_there;
  }

pub never_stuck : (i : Image) (b : Body) → Typed i → RunsImage i b → is_stuck b ≡ false
never_stuck i b t r = not_stuck (shapes_of i) b (record {
  code = subst (IsTypedCode (shapes_of i)) (sym r.code) (typed_code i t);
  frame = r.frame;
  backs = r.backs;
})
