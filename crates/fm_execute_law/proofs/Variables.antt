-- The variables of the image of a program show what those of the program show.
use Rattle.std.proofs.Common.{◌≡◌, ℕ, zero, suc, ℤ, List, [], ◌∷◌, length, map, drop, take, slice_get, refl, ap, ◌∙◌, arith}
use Rattle.std.specs.FinMap.{entries}
use Rattle.fm_tree.specs.PortReading.{kind_of}
use Rattle.fm_tree.specs.declared.port_type.Kind.{Kind}
use Rattle.fm_tree.specs.declared.port_type.Kind.TheVariants as kind
use Rattle.fm_tree.specs.declared.program_unit.Unit as tree
use Rattle.fm_symbols.specs.ByName.{first_of_each}
use Rattle.fm_symbols.specs.declared.names.UnitNames.{UnitNames}
use Rattle.fm_symbols.specs.declared.names.Variable.{Variable}
use Rattle.fm_rules.specs.declared.program.Program.{Program}
use Rattle.fm_code.specs.declared.body.Frame.{Frame}
use Rattle.fm_code.specs.declared.code.Unit as code_unit
use Rattle.fm_mean.specs.declared.outcome.Shown.{Shown}
use Rattle.fm_mean.specs.Calls.{variables_in}
use Rattle.fm_mean.specs.Names.{unit_at, unit_with}
use Rattle.fm_mean.specs.Outcome.{shown_by, shown_of, shown_variables}
use Rattle.fm_object.specs.declared.image.FieldImage.{FieldImage}
use Rattle.fm_image.specs.ImageOf.{cells_image, image_of, units_image}
use Rattle.fm_image.specs.Types.{kind_number, types_of}
use Rattle.fm_gen_relation.specs.Standing.{item_by, values_in}
use Rattle.fm_gen.specs.Programs.{code_of}
use Rattle.fm_compile_law.proofs.Images.{all_coded, as_many}
use Rattle.fm_proc_language.specs.Slots.{Slots, port_in}
use Rattle.fm_execute_image.specs.Outcome.{cell_shown, cells_in, cells_shown, frame_shown, words_shown}

abbrev entry : List ℕ → Shown → List ℕ × Shown
entry name x = (name, x)

module _ (ts : List (List FieldImage)) (s : Slots) (ws : List ℤ) where
  by_kind : (k : Kind) (own : List ℤ) → words_shown (kind_number (kind_of k)) s own ≡ shown_by k (item_by (port_in s) k own)
  by_kind kind.Integer own = refl
  by_kind kind.Logical own = refl
  by_kind (kind.In t) own = refl
  by_kind (kind.Out t) own = refl

  all_shown : (vs : List Variable) → map (cell_shown s ws) (cells_image ts vs) ≡ shown_variables vs (values_in (port_in s) vs ws)
  all_shown [] = refl
  all_shown (v ∷ vs) = λ i. entry v.name (by_kind v.kind (take v.words (drop v.first ws)) i) ∷ all_shown vs i

  cells_same : (vs : List Variable) → cells_shown s ws (cells_image ts vs) ≡ shown_of vs (values_in (port_in s) vs ws)
  cells_same vs = ap (λ (es : List (List ℕ × Shown)). map (λ (e : List ℕ × Shown). record { name = e.0; shown = e.1 }) (entries (first_of_each es))) (all_shown vs)

-- the variables of a unit are those of the unit of the program
units_cells : (ts : List (List FieldImage)) (us : List tree.Unit) (ns : List UnitNames) (cs : List code_unit.Unit) (k : ℕ) → length ns ≡ length us → length cs ≡ length us
    → cells_in (slice_get (units_image ts us ns cs) k) ≡ cells_image ts (variables_in (unit_with (slice_get us k) (slice_get ns k)))
units_cells ts [] ns cs k e f = refl
units_cells ts (u ∷ us) [] cs k e f = absurd (omega (arith, e))
units_cells ts (u ∷ us) (n ∷ ns) [] k e f = absurd (omega (arith, f))
units_cells ts (u ∷ us) (n ∷ ns) (c ∷ cs) zero e f = refl
units_cells ts (u ∷ us) (n ∷ ns) (c ∷ cs) (suc k) e f = units_cells ts us ns cs k (omega (arith, e)) (omega (arith, f))

pub shows_program : (p : Program) (s : Slots) (m : Frame) → frame_shown (image_of p (code_of p)) s m ≡ shown_of (variables_in (unit_at p m.unit)) (values_in (port_in s) (variables_in (unit_at p m.unit)) m.words)
shows_program p s m =
    let ts = types_of p in
    ap (cells_shown s m.words) (units_cells ts p.units.units p.names.units (code_of p).units m.unit (as_many p) (all_coded p))
    ∙ cells_same ts s m.words (variables_in (unit_at p m.unit))
