-- The process with which the image of a program begins is that with which its code does.
use Rattle.std.proofs.Common.{◌≡◌, ℕ, zero, suc, ◌+◌, ◌*◌, ◌==◌, cond, Some, List, [], ◌∷◌, length, slice_get, refl, sym, ap, ◌∙◌, add-one, arith}
use Rattle.std.specs.List.{position_from}
use Rattle.std.proofs.lemmas.Iterator.Adapters.{position_from-zero}
use Rattle.fm_code.specs.declared.body.Body.{Body}
use Rattle.fm_code.specs.declared.code.Unit as code_unit
use Rattle.fm_code.specs.Passing.{nulls}
use Rattle.fm_code.specs.Statements.{new_frame}
use Rattle.fm_tree.specs.declared.form.UnitKind.{UnitKind}
use Rattle.fm_tree.specs.declared.form.UnitKind.TheVariants as unit_kind
use Rattle.fm_tree.specs.declared.program_unit.Unit as tree
use Rattle.fm_symbols.specs.Headings.{heading_kind}
use Rattle.fm_symbols.specs.declared.names.UnitNames.{UnitNames}
use Rattle.fm_rules.specs.Main.{is_main, is_program}
use Rattle.fm_rules.specs.declared.program.Program.{Program}
use Rattle.fm_mean.specs.Names.{ProgramUnit, unit_at, main_number}
use Rattle.fm_mean.specs.Steps.{nodes_of}
use Rattle.fm_mean.proofs.MainUnit.{main_there}
use Rattle.fm_mean.proofs.Sizes.{parts_of}
use Rattle.fm_object.specs.declared.image.FieldImage.{FieldImage}
use Rattle.fm_object.specs.declared.image.Image.{Image}
use Rattle.fm_object.specs.declared.image.UnitImage.{UnitImage}
use Rattle.fm_image.specs.ImageOf.{heading_number, image_of, unit_image, units_image}
use Rattle.fm_image.specs.Types.{types_of}
use Rattle.fm_gen.specs.Programs.{code_of}
use Rattle.fm_gen.specs.Units.{unit_of_code}
use Rattle.fm_gen.proofs.ProgramLaws.{unit_there}
use Rattle.fm_compile_law.proofs.Codes.{same_code, unit_same}
use Rattle.fm_compile_law.proofs.Images.{all_coded, as_many}
use Rattle.fm_image_typed.specs.Typed.{nodes}
use Rattle.fm_image_law.specs.Image as law
use Rattle.fm_image_law.specs.Image.{main_from}
use Rattle.fm_proc_simulation.specs.Shown as own
use Rattle.fm_shown.specs.First.{process_of}

same_nodes : (es : List ℕ) → nodes es ≡ nodes_of es
same_nodes [] = refl
same_nodes (e ∷ []) = refl
same_nodes (e ∷ f ∷ es) = ap (λ (n : ℕ). e * n) (same_nodes (f ∷ es))

same_main : (q : UnitKind) → (heading_number q == 0) ≡ is_program q
same_main unit_kind.Program = refl
same_main unit_kind.Process = refl
same_main unit_kind.Subroutine = refl
same_main unit_kind.Function = refl

module _ (ts : List (List FieldImage)) where
  -- the PROGRAM has the same number
  mains : (n : ℕ) (us : List tree.Unit) (ns : List UnitNames) (cs : List code_unit.Unit) → length ns ≡ length us → length cs ≡ length us → main_from n (units_image ts us ns cs) ≡ position_from is_main n us
  mains n [] ns cs e f = refl
  mains n (u ∷ us) [] cs e f = absurd (omega (arith, e))
  mains n (u ∷ us) (m ∷ ns) [] e f = absurd (omega (arith, f))
  mains n (u ∷ us) (m ∷ ns) (c ∷ cs) e f =
      let rest : main_from (suc n) (units_image ts us ns cs) ≡ position_from is_main (n + 1) us =
      mains (suc n) us ns cs (omega (arith, e)) (omega (arith, f)) ∙ ap (λ (k : ℕ). position_from is_main k us) (sym (add-one n)) in
      λ j. cond (same_main (heading_kind u.heading.stmt) j) (Some n) (rest j)

  units_there : (us : List tree.Unit) (ns : List UnitNames) (cs : List code_unit.Unit) (k : ℕ) (u : tree.Unit) (m : UnitNames) (c : code_unit.Unit)
      → slice_get us k ≡ Some u → slice_get ns k ≡ Some m → slice_get cs k ≡ Some c → slice_get (units_image ts us ns cs) k ≡ Some (unit_image ts u m c)
  units_there [] ns cs k u m c a b d = absurd (cc a)
  units_there (x ∷ us) [] cs k u m c a b d = absurd (cc b)
  units_there (x ∷ us) (y ∷ ns) [] k u m c a b d = absurd (cc d)
  units_there (x ∷ us) (y ∷ ns) (z ∷ cs) zero u m c a b d =
      let u_is : x ≡ u = cc a in
      let m_is : y ≡ m = cc b in
      let c_is : z ≡ c = cc d in
      λ j. Some (unit_image ts (u_is j) (m_is j) (c_is j))
  units_there (x ∷ us) (y ∷ ns) (z ∷ cs) (suc k) u m c a b d = units_there us ns cs k u m c a b d

module _ (p : Program) where
  abbrev i : Image
  i = image_of p (code_of p)

  module _ (number : ℕ) (u : ProgramUnit) (here : unit_at p number ≡ Some u) where
    abbrev v : UnitImage
    v = unit_image (types_of p) u.tree u.names (unit_of_code p u)

    there : slice_get i.units number ≡ Some v
    there =
        let parts = parts_of p number u here in
        units_there (types_of p) p.units.units p.names.units (code_of p).units number u.tree u.names (unit_of_code p u) parts.0 parts.1 (unit_there p number u here)

    body_same : law.first_body i number v ≡ own.first_body p number u
    body_same =
        let unit = unit_same p number u here in
        λ j. record {
          code = same_code p j;
          machine = record { first = 0; count = same_nodes u.names.extents j };
          node = 0;
          frame = new_frame number (unit j) (nulls (unit j).words) [];
          below = [];
        }

  begun : law.body_by i (main_from 0 i.units) ≡ own.body_by p (main_number p)
  begun =
      let m = main_there p in
      let number : main_from 0 i.units ≡ Some m.number =
      mains (types_of p) 0 p.units.units p.names.units (code_of p).units (as_many p) (all_coded p) ∙ sym (position_from-zero is_main p.units.units) ∙ m.is in
      ap (law.body_by i) number ∙ ap (law.body_in i m.number) (there m.number m.unit m.here) ∙ ap (λ (b : Body). Some b) (body_same m.number m.unit m.here)
      ∙ sym (ap (own.body_in p m.number) m.here) ∙ sym (ap (own.body_by p) m.is)

  pub first_same : law.first_process i ≡ own.first_process p
  first_same = ap process_of begun
