-- The code of each unit of the image of a program has its kinds.
use Rattle.std.proofs.Common.{◌≡◌, ℕ, zero, suc, ◌≤◌, ◌<◌, Some, List, [], ◌∷◌, length, slice_get, refl, sym, ap, subst, ◌∙◌, arith, length-append}
use native.Mathlib.Nat.{ℕ_set}
use Rattle.std.proofs.lemmas.List.{length-map}
use Rattle.fm_tree.specs.declared.program_unit.Unit as tree
use Rattle.fm_symbols.specs.declared.names.UnitNames.{UnitNames}
use Rattle.fm_rules.specs.FunctionTitles.{titles_of}
use Rattle.fm_rules.specs.Names.{unit_names}
use Rattle.fm_rules.specs.declared.program.Program.{Program}
use Rattle.fm_mean.specs.Names.{ProgramUnit, unit_at, unit_with}
use Rattle.fm_mean.proofs.Unbroken.{from_rules}
use Rattle.fm_code.specs.declared.code.Unit as code_unit
use Rattle.fm_code.specs.declared.instr.Build.TheVariants as build
use Rattle.fm_code.specs.declared.instr.Instr.{Instr}
use Rattle.fm_code.specs.declared.instr.Instr.TheVariants as instr
use Rattle.fm_code_kinds.specs.declared.sorts.Shape.{Shape}
use Rattle.fm_code_kinds.specs.declared.sorts.Shapes.{Shapes}
use Rattle.fm_code_kinds.specs.Bodies.{coded}
use Rattle.fm_code_kinds.specs.Kinded.{Kinded}
use Rattle.fm_gen.specs.Programs.{code_of, unit_if, units_of_code}
use Rattle.fm_gen.specs.Units.{unit_of_code}
use Rattle.fm_gen.proofs.ProgramLaws.{unit_there}
use Rattle.fm_object.specs.declared.image.FieldImage.{FieldImage}
use Rattle.fm_image.specs.ImageOf.{image_of, unit_image, units_image}
use Rattle.fm_image.specs.Types.{types_of}
use Rattle.fm_compile_law.specs.Units as program
use Rattle.fm_compile_law.specs.Units.{shape_by}
use Rattle.fm_compile_law.proofs.Generated.{generated_kinded}
use Rattle.fm_compile_law.proofs.Loops.{LoopsBelow, with_loops}
use Rattle.fm_object.specs.declared.image.UnitImage.{UnitImage}
use Rattle.fm_image_typed.specs.Shapes.{coded_of, loop_of, loops_of, shape_of, shapes_of}
use Rattle.fm_compile_law.proofs.Shapes.{shape_alike, shapes_alike}

-- ---- units

pub found : {A : Type 0} (xs : List A) (k : ℕ) → k < length xs → (x : A) × (slice_get xs k ≡ Some x)
found [] k less = absurd (omega (arith, less))
found (x ∷ xs) zero less = (x, refl)
found (x ∷ xs) (suc k) less = found xs k (omega (arith, less))

-- each unit has its names
pub as_many : (p : Program) → length p.names.units ≡ length p.units.units
as_many p = from_rules p (length p.names.units ≡ length p.units.units) (λ a b. ℕ_set (length p.names.units) (length p.units.units) a b) (λ h. ap (λ (l : List UnitNames). length l) h.names_are ∙ length-map p.units.units (unit_names (titles_of p.units.units)))

-- and its code
coded_so_far : (p : Program) (k : ℕ) → k ≤ length p.units.units → length (units_of_code p k) ≡ k
coded_so_far p zero le = refl
coded_so_far p (suc k) le =
    let t = found p.units.units k (omega (arith, le)) in
    let n = found p.names.units k (omega (arith, le, as_many p)) in
    let one : length (unit_if p (unit_at p k)) ≡ 1 = λ i. length (unit_if p (unit_with (t.1 i) (n.1 i))) in
    omega (arith, one, length-append (units_of_code p k) (unit_if p (unit_at p k)), coded_so_far p k (omega (arith, le)))

pub all_coded : (p : Program) → length (code_of p).units ≡ length p.units.units
all_coded p = coded_so_far p (length p.units.units) (omega arith)

pub shapes_same : (p : Program) → shapes_of (image_of p (code_of p)) ≡ program.shapes_of p
shapes_same p = shapes_alike p (code_of p) (all_coded p)

as_long : (ts : List (List FieldImage)) (us : List tree.Unit) (ns : List UnitNames) (cs : List code_unit.Unit) → length ns ≡ length us → length cs ≡ length us → length (units_image ts us ns cs) ≡ length us
as_long ts [] ns cs e f = refl
as_long ts (u ∷ us) [] cs e f = absurd (omega (arith, e))
as_long ts (u ∷ us) (n ∷ ns) [] e f = absurd (omega (arith, f))
as_long ts (u ∷ us) (n ∷ ns) (c ∷ cs) e f = ap suc (as_long ts us ns cs (omega (arith, e)) (omega (arith, f)))

pub units_same : (p : Program) → length (image_of p (code_of p)).units ≡ length p.units.units
units_same p = as_long (types_of p) p.units.units p.names.units (code_of p).units (as_many p) (all_coded p)

-- what a unit of an image is made of
pub record IsMade (ts : List (List FieldImage)) (us : List tree.Unit) (ns : List UnitNames) (cs : List code_unit.Unit) (k : ℕ) (v : UnitImage) : Type 0 where
  pub unit : tree.Unit
  pub names : UnitNames
  pub code : code_unit.Unit
  pub unit_there : slice_get us k ≡ Some unit
  pub names_there : slice_get ns k ≡ Some names
  pub code_there : slice_get cs k ≡ Some code
  pub is : unit_image ts unit names code ≡ v

pub made : (ts : List (List FieldImage)) (us : List tree.Unit) (ns : List UnitNames) (cs : List code_unit.Unit) (k : ℕ) (v : UnitImage) → slice_get (units_image ts us ns cs) k ≡ Some v → IsMade ts us ns cs k v
made ts [] ns cs k v e = absurd cc
made ts (u ∷ us) [] cs k v e = absurd cc
made ts (u ∷ us) (n ∷ ns) [] k v e = absurd cc
made ts (u ∷ us) (n ∷ ns) (c ∷ cs) zero v e = record { unit = u; names = n; code = c; unit_there = refl; names_there = refl; code_there = refl; is = the_unit (unit_image ts u n c) v e }
  where
    the_unit : (a b : UnitImage) → Some a ≡ Some b → a ≡ b
    the_unit a b e = cc
made ts (u ∷ us) (n ∷ ns) (c ∷ cs) (suc k) v e =
    let x = made ts us ns cs k v e in
    record { unit = x.unit; names = x.names; code = x.code; unit_there = x.unit_there; names_there = x.names_there; code_there = x.code_there; is = x.is }

-- ---- loops

the_instr : (i j : Instr) → Some i ≡ Some j → i ≡ j
the_instr i j e = cc

-- each loop of some code has a number below theirs
below : (code : List Instr) (m : ℕ) → loops_of code ≤ m → LoopsBelow m code
below [] m le a l there = absurd cc
below (i ∷ is) m le zero l there =
    let here : loop_of i ≡ suc l.number = ap loop_of (the_instr i (instr.Build (build.Loop l)) there) in
    omega (arith, le, here)
below (i ∷ is) m le (suc a) l there = below is m (omega (arith, le)) a l there

-- ---- kinds

pub image_kinded : (p : Program) (number : ℕ) (v : UnitImage) → slice_get (image_of p (code_of p)).units number ≡ Some v → Kinded (shapes_of (image_of p (code_of p))) (shape_of v) (coded_of v)
image_kinded p k v there =
    let ts = types_of p in
    let ss = program.shapes_of p in
    let image = image_of p (code_of p) in
    let x = made ts p.units.units p.names.units (code_of p).units k v there in
    let u : ProgramUnit = record { tree = x.unit; names = x.names } in
    let here : unit_at p k ≡ Some u = λ i. unit_with (x.unit_there i) (x.names_there i) in
    let made_of = unit_of_code p u in
    let same : made_of ≡ x.code = the_code made_of x.code (sym (unit_there p k u here) ∙ x.code_there) in
    let image_is : unit_image ts x.unit x.names made_of ≡ v = ap (unit_image ts x.unit x.names) same ∙ x.is in
    let own = unit_image ts x.unit x.names made_of in
    let kinds = with_loops ss (shape_by ts u) (coded made_of) (loops_of made_of.code) (generated_kinded p k u here) (below made_of.code (loops_of made_of.code) (omega arith)) in
    let shaped = subst (λ (s : Shape). Kinded ss s (coded_of own)) (sym (shape_alike ts x.unit x.names made_of)) kinds in
    let alike = subst (λ (s : Shapes). Kinded s (shape_of own) (coded_of own)) (sym (shapes_same p)) shaped in
    subst (λ (w : UnitImage). Kinded (shapes_of image) (shape_of w) (coded_of w)) image_is alike
  where
    the_code : (a b : code_unit.Unit) → Some a ≡ Some b → a ≡ b
    the_code a b e = cc
