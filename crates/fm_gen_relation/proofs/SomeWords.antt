-- Each variable of a program has an element: no upper bound is under its lower one.
use Rattle.std.proofs.Common.{◌≡◌, ℕ, zero, suc, ◌+◌, ◌*◌, ◌<◌, ℤ, pos, negsuc, Bool, true, false, cond, ◌||◌, not, Option, Some, None, List, [], ◌∷◌, ◌++◌, map, slice_get, refl, sym, ◌∙◌, subst, arith, suc-mul}
use Rattle.std.specs.Prelude.{is_some, int_lt, nat_lt, unsigned_abs, ◌+ℤ◌, ◌-ℤ◌, ◌≤ℤ◌}
use Rattle.std.specs.List.{flat_map, list_any}
use Rattle.std.specs.Option.{option_map}
use Rattle.std.specs.Coded.{Unit-prop, le_prop}
use Rattle.std.proofs.lemmas.Int.{ints}
use Rattle.std.proofs.lemmas.Option.{slice_get-map}
use Rattle.fm_base.specs.Verdict.{place, when}
use Rattle.fm_base.specs.declared.rule.Rule.TheVariants.{E32, E33, E34}
use Rattle.fm_values.specs.Trips.{natural}
use Rattle.fm_values.specs.Places.{Bounds, extent, size}
use Rattle.fm_tree.specs.declared.port_type.Bound.{Bound}
use Rattle.fm_tree.specs.declared.program_unit.Placed.{Placed}
use Rattle.fm_tree.specs.declared.program_unit.Unit as tree
use Rattle.fm_tree.specs.declared.statement.Decl.{Decl}
use Rattle.fm_symbols.specs.ByName.{ByName}
use Rattle.fm_symbols.specs.declared.names.Variable.{Variable}
use Rattle.fm_symbols.specs.declared.names.UnitNames.{UnitNames}
use Rattle.fm_rules.specs.declared.constants.Known.{Known}
use Rattle.fm_rules.specs.declared.constants.Types.{Types}
use Rattle.fm_rules.specs.Constants.{constants_of}
use Rattle.fm_rules.specs.NameTypes.{types_of}
use Rattle.fm_rules.specs.ConstantParts.{decls_of, port_type_in, definitions_in, machine_in}
use Rattle.fm_rules.specs.Bounds.{Dimension, dimension_of, all_known, then_known, is_inverted, count, shape_of}
use Rattle.fm_rules.specs.BrokenConstants.{broken_bounds, broken_decl, broken_decls, broken_message, broken_definitions, broken_machine, broken_statement, broken_from, is_bad}
use Rattle.fm_rules.specs.Declarations.{declared_twice_in}
use Rattle.fm_rules.specs.FunctionTitles.{titles_of}
use Rattle.fm_rules.specs.declared.sheet.ArrayShape.{ArrayShape}
use Rattle.fm_rules.specs.declared.sheet.Occurrence.{Occurrence}
use Rattle.fm_rules.specs.declared.sheet.Sheet.{Sheet}
use Rattle.fm_rules.specs.Sheets.{shape_entries, decl_shapes, shapes_from, sheet_of}
use Rattle.fm_rules.specs.Variables.{words_by, words_of, laid_out, variables_among}
use Rattle.fm_rules.specs.Names.{unit_names}
use Rattle.fm_rules.specs.BrokenNames.{broken_in, untyped_in, is_long}
use Rattle.fm_net.specs.Typed.{AllIn}
use Rattle.fm_rules.specs.declared.program.Program.{Program}
use Rattle.fm_mean.specs.Names.{ProgramUnit, same_name, unit_at}
use Rattle.fm_mean.proofs.FirstEntries.{first_entry, first_there}
use Rattle.fm_mean.proofs.Sizes.{all_append, in_all, parts_of}
use Rattle.fm_mean.proofs.Unbroken.{Unbroken, from_rules, left_empty, right_empty, each_empty, not_when, or_left, or_right}

-- Bounds.

natural_next : (z : ℤ) → pos 0 ≤ℤ z → natural (z +ℤ pos 1) ≡ suc (unsigned_abs z)
natural_next (pos n) h = omega arith
natural_next (negsuc n) h = absurd (omega (arith, ints, h))

extent_some : (b : ℤ × ℤ) → int_lt b.1 b.0 ≡ false → 0 < extent b
extent_some b e =
    let up : b.0 ≤ℤ b.1 = grind (arith, ints) in
    omega (arith, natural_next (b.1 -ℤ b.0) (omega (arith, ints, up)))

times : (a b : ℕ) → 0 < a → 0 < b → 0 < a * b
times zero b p q = absurd (omega (arith, p))
times (suc a) b p q = omega (arith, q, suc-mul a b)

elements_some : (ds : List Dimension) → list_any is_inverted ds ≡ false → not (is_some (all_known ds)) ≡ false → 0 < count (all_known ds)
elements_some [] e known = omega arith
elements_some (None ∷ ds) e known = absurd (cc)
elements_some (Some b ∷ ds) e known = go (all_known ds) (elements_some ds (or_right (is_inverted (Some b)) (list_any is_inverted ds) e)) known
  where
    go : (o : Option Bounds) → (not (is_some o) ≡ false → 0 < count o) → not (is_some (then_known (Some b) o)) ≡ false → 0 < count (then_known (Some b) o)
    go None rest k = absurd (cc)
    go (Some bs) rest k = times (extent b) (size bs) (extent_some b (or_left (is_inverted (Some b)) (list_any is_inverted ds) e)) (rest refl)

-- Arrays.

abbrev HasWords : List ℕ × ArrayShape → Type 0
HasWords e = 0 < e.1.words

shape_some : (known : ByName Known) (at line : ℕ) (name : List ℕ) (bounds : List Bound) → broken_bounds known at line bounds ≡ [] → AllIn HasWords (shape_entries known at name bounds)
shape_some known at line name [] e = tt
shape_some known at line name (b ∷ bs) e =
    let s = shape_of known at (b ∷ bs) in
    let bad = when (is_bad 7 s) (place line E32) in
    let unknown = when (not s.known) (place line E33) in
    let fine = not_when (is_bad 7 s) (place line E32) (left_empty bad unknown e) in
    let is = not_when (not s.known) (place line E33) (right_empty bad unknown e) in
    let straight = or_left s.inverted (nat_lt 65536 s.elements) (or_right (nat_lt 7 s.dimensions) (s.inverted || nat_lt 65536 s.elements) fine) in
    let some = elements_some (map (dimension_of known at) (b ∷ bs)) straight is in
    (omega (arith, some), tt)

decls_some : (known : ByName Known) (at line : ℕ) (ds : List Decl) → broken_decls known at line ds ≡ [] → AllIn HasWords (flat_map (decl_shapes known at) ds)
decls_some known at line [] e = tt
decls_some known at line (d ∷ ds) e =
    let one = broken_decl known at line d in
    let more = broken_decls known at line ds in
    all_append HasWords (decl_shapes known at d) (flat_map (decl_shapes known at) ds) (shape_some known at line d.name d.bounds (left_empty one more e)) (decls_some known at line ds (right_empty one more e))

shapes_some : (known : ByName Known) (types : Types) (at : ℕ) (ps : List Placed) → broken_from known types at ps ≡ [] → AllIn HasWords (shapes_from known at ps)
shapes_some known types at [] e = tt
shapes_some known types at (p ∷ ps) e =
    let here = left_empty (broken_statement known types at p) (broken_from known types (at + 1) ps) e in
    let ds = broken_decls known at p.line.0 (decls_of p.stmt) in
    let message = broken_message known at p.line.0 (port_type_in p.stmt) in
    let definitions = broken_definitions known types at p.line.0 0 (definitions_in p.stmt) in
    let decls = left_empty ds message (left_empty (ds ++ message) definitions (left_empty (ds ++ message ++ definitions) (broken_machine known at p.line.0 (machine_in p.stmt)) here)) in
    all_append HasWords (flat_map (decl_shapes known at) (decls_of p.stmt)) (shapes_from known (at + 1) ps)
    (decls_some known at p.line.0 (decls_of p.stmt) decls) (shapes_some known types (at + 1) ps (right_empty (broken_statement known types at p) (broken_from known types (at + 1) ps) e))

entry_some : (es : List (List ℕ × ArrayShape)) (name : List ℕ) → AllIn HasWords es → 0 < words_by (first_entry es name)
entry_some [] name h = omega arith
entry_some (e ∷ es) name h = go (same_name name e.0) (entry_some es name h.1)
  where
    go : (b : Bool) → 0 < words_by (first_entry es name) → 0 < words_by (cond b (Some e.1) (first_entry es name))
    go true rest = h.0
    go false rest = rest

-- Variables.

abbrev pub HasElement : Variable → Type 0
HasElement v = 0 < v.words

all_some : (s : Sheet) (first : ℕ) (os : List Occurrence) → ((name : List ℕ) → 0 < words_of s name) → AllIn HasElement (laid_out s first os)
all_some s first [] h = tt
all_some s first (o ∷ os) h = (h o.name, all_some s (first + words_of s o.name) os h)

unit_some : (titles : ByName Bool) (u : tree.Unit) → broken_in titles u ≡ [] → AllIn HasElement (unit_names titles u).variables
unit_some titles u e =
    let s = sheet_of u in
    let known = constants_of u.specs in
    let twice = declared_twice_in titles u in
    let constants = broken_from known (types_of u.specs) 0 u.specs in
    let untyped = untyped_in titles u.heading.stmt s in
    let long = when (is_long titles u.heading.stmt s) (place u.heading.line.0 E34) in
    let none = right_empty twice constants (left_empty (twice ++ constants) untyped (left_empty (twice ++ constants ++ untyped) long e)) in
    let some = shapes_some known (types_of u.specs) 0 u.specs none in
    all_some s 0 (variables_among titles u.heading.stmt s s.first)
    (λ name. subst (λ o. 0 < words_by o) (sym (first_there (shapes_from known 0 u.specs) name)) (entry_some (shapes_from known 0 u.specs) name some))

-- Programs.

some_prop : (vs : List Variable) → IsProp (AllIn HasElement vs)
some_prop [] = Unit-prop
some_prop (v ∷ vs) = hlevel (le_prop, some_prop vs)

the_names : (titles : ByName Bool) (us : List tree.Unit) (k : ℕ) (n : UnitNames) → slice_get (map (unit_names titles) us) k ≡ Some n → (u : tree.Unit) × (slice_get us k ≡ Some u) × (unit_names titles u ≡ n)
the_names titles us k n e = go (slice_get us k) refl (sym (slice_get-map (unit_names titles) us k) ∙ e)
  where
    the_one : (a b : UnitNames) → Some a ≡ Some b → a ≡ b
    the_one a b h = cc

    go : (o : Option tree.Unit) → slice_get us k ≡ o → option_map (unit_names titles) o ≡ Some n → (u : tree.Unit) × (slice_get us k ≡ Some u) × (unit_names titles u ≡ n)
    go None is h = absurd (cc)
    go (Some u) is h = (u, is, the_one (unit_names titles u) n h)

names_some : (us : List tree.Unit) (ns : List UnitNames) (k : ℕ) (n : UnitNames) → Unbroken us ns → slice_get ns k ≡ Some n → AllIn HasElement n.variables
names_some us ns k n h is =
    let t = titles_of us in
    let at = the_names t us k n (subst (λ (l : List UnitNames). slice_get l k ≡ Some n) h.names_are is) in
    subst (λ (m : UnitNames). AllIn HasElement m.variables) at.2 (unit_some t at.0 (each_empty (broken_in t) us k at.0 h.names at.1))

pub variables_some : (p : Program) (n : ℕ) (u : ProgramUnit) → unit_at p n ≡ Some u → AllIn HasElement u.names.variables
variables_some p n u is = from_rules p (AllIn HasElement u.names.variables) (some_prop u.names.variables) (λ h. names_some p.units.units p.names.units n u.names h (parts_of p n u is).1)

pub variable_some : (p : Program) (n : ℕ) (u : ProgramUnit) (i : ℕ) (v : Variable) → unit_at p n ≡ Some u → slice_get u.names.variables i ≡ Some v → 0 < v.words
variable_some p n u i v is there = in_all HasElement u.names.variables i v (variables_some p n u is) there
