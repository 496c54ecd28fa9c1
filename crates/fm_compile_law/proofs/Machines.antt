-- The machine of a unit has three extents at most, each of 1 at least, and 65,536 nodes at most.
use Rattle.std.proofs.Common.{◌≡◌, ℕ, zero, suc, ◌+◌, ◌*◌, ◌≤◌, Bool, false, ◌||◌, not, Some, List, [], ◌∷◌, ◌++◌, length, map, slice_get, refl, ap, subst, arith}
use Rattle.std.specs.Prelude.{nat_lt}
use Rattle.std.specs.Coded.{le_prop}
use Rattle.std.specs.List.{AllByRecursion}
use Rattle.std.proofs.lemmas.Bool.Decides.{nat_tests}
use Rattle.std.proofs.lemmas.List.{length-map}
use Rattle.fm_base.specs.Verdict.{place, when}
use Rattle.fm_base.specs.declared.rule.Rule.TheVariants.{E32, E33, E34}
use Rattle.fm_map.specs.Placement.{product}
use Rattle.fm_tree.specs.Tree.{Tree}
use Rattle.fm_tree.specs.declared.program_unit.Placed.{Placed}
use Rattle.fm_tree.specs.declared.program_unit.Unit as tree
use Rattle.fm_symbols.specs.ByName.{ByName}
use Rattle.fm_symbols.specs.declared.names.UnitNames.{UnitNames}
use Rattle.fm_rules.specs.Bounds.{machine_dimension, node_count, machine_shape, extents_or, extents_from}
use Rattle.fm_rules.specs.BrokenConstants as constants
use Rattle.fm_rules.specs.BrokenConstants.{broken_decls, broken_message, broken_definitions, broken_machine, broken_statement, is_bad}
use Rattle.fm_rules.specs.BrokenNames.{broken_in, untyped_in, is_long}
use Rattle.fm_rules.specs.ConstantParts.{decls_of, port_type_in, definitions_in, machine_in}
use Rattle.fm_rules.specs.Declarations.{declared_twice_in}
use Rattle.fm_rules.specs.FunctionTitles as facts
use Rattle.fm_rules.specs.NameTypes.{types_of}
use Rattle.fm_rules.specs.Names.{unit_names}
use Rattle.fm_rules.specs.Sheets.{sheet_of}
use Rattle.fm_rules.specs.declared.constants.Known.{Known}
use Rattle.fm_rules.specs.declared.constants.Types.{Types}
use Rattle.fm_rules.specs.declared.program.Program.{Program}
use Rattle.fm_mean.specs.Names.{ProgramUnit, unit_at}
use Rattle.fm_mean.proofs.Sizes.{parts_of, the_names}
use Rattle.fm_mean.proofs.Unbroken.{Unbroken, from_rules, left_empty, right_empty, each_empty, not_when, or_left}
use Rattle.fm_mean.proofs.UnitExtents.{unit_nodes}
use Rattle.fm_image_typed.specs.Typed.{MachineIsTyped, nodes}

-- ---- three extents at most

few_dimensions : (n : ℕ) → nat_lt 3 n ≡ false → n ≤ 3
few_dimensions n e = grind (arith, nat_tests)

shape_few : (known : ByName Known) (at line : ℕ) (es : List Tree) → broken_machine known at line es ≡ [] → length (map (λ x. node_count (machine_dimension known at x)) es) ≤ 3
shape_few known at line es e =
    let s = machine_shape known at es in
    let bad = when (is_bad 3 s) (place line E32) in
    let fine = not_when (is_bad 3 s) (place line E32) (left_empty bad (when (not s.known) (place line E33)) e) in
    let few : length (map (machine_dimension known at) es) ≤ 3 = few_dimensions (length (map (machine_dimension known at) es)) (or_left (nat_lt 3 s.dimensions) (s.inverted || nat_lt 65536 s.elements) fine) in
    omega (arith, few, length-map es (machine_dimension known at), length-map es (λ x. node_count (machine_dimension known at x)))

extents_few : (known : ByName Known) (types : Types) (at : ℕ) (ps : List Placed) → constants.broken_from known types at ps ≡ [] → length (extents_from known at ps) ≤ 3
extents_few known types at [] e = omega arith
extents_few known types at (p ∷ ps) e =
    let here = left_empty (broken_statement known types at p) (constants.broken_from known types (at + 1) ps) e in
    let ds = broken_decls known at p.line.0 (decls_of p.stmt) in
    let message = broken_message known at p.line.0 (port_type_in p.stmt) in
    let definitions = broken_definitions known types at p.line.0 0 (definitions_in p.stmt) in
    go (machine_in p.stmt) (right_empty (ds ++ message ++ definitions) (broken_machine known at p.line.0 (machine_in p.stmt)) here)
    (extents_few known types (at + 1) ps (right_empty (broken_statement known types at p) (constants.broken_from known types (at + 1) ps) e))
  where
    go : (es : List Tree) → broken_machine known at p.line.0 es ≡ [] → length (extents_from known (at + 1) ps) ≤ 3 → length (extents_or known at es (extents_from known (at + 1) ps)) ≤ 3
    go [] m rest = rest
    go (t ∷ ts) m rest = shape_few known at p.line.0 (t ∷ ts) m

names_few : (titles : ByName Bool) (u : tree.Unit) → broken_in titles u ≡ [] → length (unit_names titles u).extents ≤ 3
names_few titles u e =
    let s = sheet_of u in
    let twice = declared_twice_in titles u in
    let constants = constants.broken_from s.known (types_of u.specs) 0 u.specs in
    let untyped = untyped_in titles u.heading.stmt s in
    let long = when (is_long titles u.heading.stmt s) (place u.heading.line.0 E34) in
    extents_few s.known (types_of u.specs) 0 u.specs (right_empty twice constants (left_empty (twice ++ constants) untyped (left_empty (twice ++ constants ++ untyped) long e)))

few_there : (us : List tree.Unit) (ns : List UnitNames) (k : ℕ) (n : UnitNames) → Unbroken us ns → slice_get ns k ≡ Some n → length n.extents ≤ 3
few_there us ns k n h is =
    let t = facts.titles_of us in
    let at = the_names t us k n (subst (λ (l : List UnitNames). slice_get l k ≡ Some n) h.names_are is) in
    subst (λ (n : UnitNames). length n.extents ≤ 3) at.2 (names_few t at.0 (each_empty (broken_in t) us k at.0 h.names at.1))

unit_few : (p : Program) (n : ℕ) (u : ProgramUnit) → unit_at p n ≡ Some u → length u.names.extents ≤ 3
unit_few p n u is = from_rules p (length u.names.extents ≤ 3) le_prop (λ h. few_there p.units.units p.names.units n u.names h (parts_of p n u is).1)

-- ---- their product

same_product : (es : List ℕ) → nodes es ≡ product es
same_product [] = refl
same_product (e ∷ es) = ap (λ n. e * n) (same_product es)

each_some : (es : List ℕ) → 1 ≤ product es → AllByRecursion (λ e. 1 ≤ e) es
each_some [] h = tt
each_some (zero ∷ es) h = absurd (omega (arith, h))
each_some (suc e ∷ es) h = (omega arith, each_some es (rest (product es) h))
  where
    rest : (n : ℕ) → 1 ≤ suc e * n → 1 ≤ n
    rest zero less = absurd (omega (arith, less))
    rest (suc n) less = omega arith

pub machine_typed : (p : Program) (n : ℕ) (u : ProgramUnit) → unit_at p n ≡ Some u → MachineIsTyped u.names.extents
machine_typed p n u is =
    let all = unit_nodes p n u is in
    record { few = unit_few p n u is; each = each_some u.names.extents all.0; all = omega (arith, all.1, same_product u.names.extents) }
