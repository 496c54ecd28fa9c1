-- The image of a program makes sense, where the names of its variables are names of the language.
use Rattle.std.proofs.Common.{◌≡◌, ℕ, zero, suc, ◌<◌, Some, List, [], ◌∷◌, map, length, slice_get, refl, sym, ap, ◌∙◌, subst, arith}
use Rattle.std.specs.List.{AllByRecursion}
use Rattle.std.proofs.lemmas.Option.{slice_get_within}
use Rattle.fm_net.specs.Typed.{AllIn}
use Rattle.fm_tree.specs.PortReading.{kind_of}
use Rattle.fm_symbols.specs.Headings.{heading_kind}
use Rattle.fm_symbols.specs.declared.names.UnitNames.{UnitNames}
use Rattle.fm_symbols.specs.declared.names.Variable.{Variable}
use Rattle.fm_rules.specs.declared.program.Program.{Program}
use Rattle.fm_mean.specs.Names.{ProgramUnit, unit_at, unit_with}
use Rattle.fm_code_kinds.specs.Kinded.{Kinded}
use Rattle.fm_code_kinds.specs.Leading.{JoinsStand}
use Rattle.fm_gen_relation.proofs.Units.{sound_unit}
use Rattle.fm_code.specs.declared.code.Unit as code_unit
use Rattle.fm_code_kinds.specs.Bodies.{coded}
use Rattle.fm_gen.specs.Entries.{address_of}
use Rattle.fm_gen.specs.Programs.{code_of}
use Rattle.fm_gen.specs.Units.{unit_of_code}
use Rattle.fm_gen.proofs.ProgramLaws.{unit_there}
use Rattle.fm_object.specs.declared.image.FieldImage.{FieldImage}
use Rattle.fm_image.specs.ImageOf.{NamesAreNames, cell_image, image_of, unit_image}
use Rattle.fm_image.specs.Types.{types_of}
use Rattle.fm_compile_law.specs.Units as program
use Rattle.fm_compile_law.specs.Units.{shape_by}
use Rattle.fm_compile_law.proofs.Generated.{generated_joins, generated_kinded}
use Rattle.fm_compile_law.proofs.Loops.{loops_below}
use Rattle.fm_compile_law.proofs.TypeNumbers.{number_there}
use Rattle.fm_object.specs.Texts.{IsName}
use Rattle.fm_object.specs.declared.image.Image.{Image}
use Rattle.fm_object.specs.declared.image.UnitImage.{UnitImage}
use Rattle.fm_image_typed.specs.Shapes.{coded_of, loops_of, shape_of, shapes_of}
use Rattle.fm_image_typed.specs.Typed.{CellsAreTyped, Typed, UnitIsTyped}
use Rattle.fm_compile_law.proofs.Formals.{places}
use Rattle.fm_compile_law.proofs.Images.{all_coded, as_many, found, image_kinded, made}
use Rattle.fm_compile_law.proofs.Machines.{machine_typed}
use Rattle.fm_compile_law.proofs.Mains.{mains_alike, one_main}
use Rattle.fm_compile_law.proofs.PortTypes.{KindIsFine, variable_fine}
use Rattle.fm_compile_law.proofs.Sense.{IsNumbered, begin, cells_typed, few_headings, few_of_body, loops_under, names_apart, rise}
use Rattle.fm_compile_law.proofs.TypeOrder.{AllFine, image_types}

the_code : (a b : code_unit.Unit) → Some a ≡ Some b → a ≡ b
the_code a b e = cc

-- what holds at each place holds of all
all_from : {X : Type 0} (P : X → Type 0) (xs : List X) → ((i : ℕ) (x : X) → slice_get xs i ≡ Some x → P x) → AllIn P xs
all_from P [] h = tt
all_from P (x ∷ xs) h = (h zero x refl, all_from P xs (λ i y at. h (suc i) y at))

each_from : {X : Type 0} (P : X → Type 0) (xs : List X) → ((i : ℕ) (x : X) → slice_get xs i ≡ Some x → P x) → AllByRecursion P xs
each_from P [] h = tt
each_from P (x ∷ xs) h = (h zero x refl, each_from P xs (λ i y at. h (suc i) y at))

module _ (p : Program) where
  abbrev ts : List (List FieldImage)
  ts = types_of p

  abbrev image : Image
  image = image_of p (code_of p)

  module _ (number : ℕ) (u : ProgramUnit) (here : unit_at p number ≡ Some u) where
    numbered : AllIn (IsNumbered ts) u.names.variables
    numbered = all_from (IsNumbered ts) u.names.variables (λ i v at t is. number_there p number u here i v at t is)

    cells : AllIn (λ (v : Variable). IsName v.name) u.names.variables → CellsAreTyped (length image.types) 0 (map (cell_image ts) u.names.variables)
    cells named =
        let s = sound_unit p number u here in
        cells_typed ts 0 u.names.variables s.laid s.some named numbered (omega (arith, s.counted, s.few))

    joins : (loops : ℕ) → JoinsStand (record { entries = (coded (unit_of_code p u)).entries; loops = loops; code = (unit_of_code p u).code })
    joins loops = let h = generated_joins p number u here in record { behind = h.behind; alone = h.alone; entries = h.entries }

  unit_typed : NamesAreNames p → (k : ℕ) (v : UnitImage) → slice_get image.units k ≡ Some v → UnitIsTyped image v
  unit_typed names k v there =
      let x = made ts p.units.units p.names.units (code_of p).units k v there in
      let u : ProgramUnit = record { tree = x.unit; names = x.names } in
      let here : unit_at p k ≡ Some u = λ i. unit_with (x.unit_there i) (x.names_there i) in
      let code = unit_of_code p u in
      let is : unit_image ts x.unit x.names code ≡ v = ap (unit_image ts x.unit x.names) (the_code code x.code (sym (unit_there p k u here) ∙ x.code_there)) ∙ x.is in
      let kinds = image_kinded p k v there in
      let own = generated_kinded p k u here in
      let under = loops_under code.loops code.code (loops_below (program.shapes_of p) (shape_by ts u) (coded code) own) in
      let few = few_of_body (address_of p u) u.tree.body in
      subst (UnitIsTyped image) is
      (record {
        heading = few_headings (heading_kind x.unit.heading.stmt);
        machine = machine_typed p k u here;
        cells = cells k u here (names k u here);
        names = names_apart p k u here ts;
        formals = places p k u here ts;
        begin = begin p k u here;
        rise = rise p k u here;
        loops = omega (arith, under, few);
        kinds = subst (λ (w : UnitImage). Kinded (shapes_of image) (shape_of w) (coded_of w)) (sym is) kinds;
        joins = joins k u here (loops_of code.code);
      })

  fine : AllIn (λ (n : UnitNames). AllFine n.variables) p.names.units
  fine = all_from (λ (n : UnitNames). AllFine n.variables) p.names.units
      (λ k n at.
      let less : k < length p.units.units = omega (arith, as_many p, slice_get_within p.names.units k n at) in
      let t = found p.units.units k less in
      all_from (λ (v : Variable). KindIsFine (kind_of v.kind)) n.variables (λ i v there. variable_fine p k (record { tree = t.0; names = n }) i v (λ i. unit_with (t.1 i) (at i)) there))

  pub makes_sense : NamesAreNames p → Typed image
  makes_sense names = record {
    whole = record { main = mains_alike ts p.units.units p.names.units (code_of p).units (as_many p) (all_coded p) ∙ one_main p; types = image_types p fine };
    each = each_from (UnitIsTyped image) image.units (unit_typed names);
  }
