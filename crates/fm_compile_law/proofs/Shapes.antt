-- What an image of a program says of its units and types is what kinds are told by.
use Rattle.std.proofs.Common.{◌≡◌, Bool, true, false, cond, ◌&&◌, not, List, [], ◌∷◌, length, map, refl, arith}
use Rattle.std.specs.Prelude.{◌==◌}
use Rattle.fm_tree.specs.PortReading.{kind_of}
use Rattle.fm_tree.specs.declared.form.UnitKind.{UnitKind}
use Rattle.fm_tree.specs.declared.form.UnitKind.TheVariants as unit_kind
use Rattle.fm_tree.specs.declared.program_unit.Unit as tree
use Rattle.fm_symbols.specs.Headings.{heading_kind}
use Rattle.fm_symbols.specs.declared.names.UnitNames.{UnitNames}
use Rattle.fm_symbols.specs.declared.names.Variable.{Variable}
use Rattle.fm_rules.specs.declared.program.Program.{Program}
use Rattle.fm_code.specs.declared.code.Code.{Code}
use Rattle.fm_code.specs.declared.code.Unit as code_unit
use Rattle.fm_object.specs.declared.image.FieldImage.{FieldImage}
use Rattle.fm_compile_law.proofs.TypeNumbers.{sorts_alike}
use Rattle.fm_compile_law.specs.Units as program
use Rattle.fm_compile_law.specs.Units.{cell_by, cells_by, heading_by, shape_by, shapes_by}
use Rattle.fm_image_typed.specs.Shapes.{heading_of, cell_of, field_of, shape_of, shapes_of}
use Rattle.fm_image.specs.ImageOf.{cell_image, heading_number, image_of, unit_image, units_image}
use Rattle.fm_image.specs.Types.{types_of}

backs_alike : (formal input : Bool) → (cond formal 0 (cond input 0 1) == 1) ≡ (not formal && not input)
backs_alike true input = refl
backs_alike false true = refl
backs_alike false false = refl

cell_alike : (ts : List (List FieldImage)) (v : Variable) → cell_of (cell_image ts v) ≡ cell_by ts v
cell_alike ts v = λ i. record {
  sort = sorts_alike ts (kind_of v.kind) i;
  first = v.first;
  words = v.words;
  formal = v.formal;
  back = backs_alike (v.formal == 0) v.input i;
}

pub cells_alike : (ts : List (List FieldImage)) (vs : List Variable) → map cell_of (map (cell_image ts) vs) ≡ cells_by ts vs
cells_alike ts [] = refl
cells_alike ts (v ∷ vs) = λ i. cell_alike ts v i ∷ cells_alike ts vs i

headings_alike : (k : UnitKind) → heading_of (heading_number k) ≡ heading_by k
headings_alike unit_kind.Program = refl
headings_alike unit_kind.Process = refl
headings_alike unit_kind.Subroutine = refl
headings_alike unit_kind.Function = refl

-- a unit's image has its shape
pub shape_alike : (ts : List (List FieldImage)) (u : tree.Unit) (n : UnitNames) (c : code_unit.Unit) → shape_of (unit_image ts u n c) ≡ shape_by ts (record { tree = u; names = n })
shape_alike ts u n c = λ i. record { heading = headings_alike (heading_kind u.heading.stmt) i; cells = cells_alike ts n.variables i }

units_alike : (ts : List (List FieldImage)) (us : List tree.Unit) (ns : List UnitNames) (cs : List code_unit.Unit) → length cs ≡ length us → map shape_of (units_image ts us ns cs) ≡ shapes_by ts us ns
units_alike ts [] ns cs e = refl
units_alike ts (u ∷ us) [] cs e = refl
units_alike ts (u ∷ us) (n ∷ ns) [] e = absurd (omega (arith, e))
units_alike ts (u ∷ us) (n ∷ ns) (c ∷ cs) e = let more = units_alike ts us ns cs (omega (arith, e)) in λ i. shape_alike ts u n c i ∷ more i

-- and so the whole image, where there is code for each unit
pub shapes_alike : (p : Program) (c : Code) → length c.units ≡ length p.units.units → shapes_of (image_of p c) ≡ program.shapes_of p
shapes_alike p c e =
    let ts = types_of p in
    let units = units_alike ts p.units.units p.names.units c.units e in
    λ i. record { types = map (λ (fs : List FieldImage). map field_of fs) ts; units = units i }
