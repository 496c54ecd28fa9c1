-- The variables of a unit are laid out one behind the other, and each has as many elements as its bounds say.
use Rattle.std.proofs.Common.{◌≡◌, ℕ, zero, suc, ◌+◌, ◌^◌, ◌≤◌, Bool, true, false, cond, ◌||◌, not, Option, Some, None, unwrap_or, List, [], ◌∷◌, ◌++◌, map, slice_get, refl, sym, ap, ◌∙◌, subst, arith}
use Rattle.std.specs.Prelude.{is_some, nat_lt}
use Rattle.std.specs.FinMap.{get}
use Rattle.std.specs.List.{flat_map}
use Rattle.std.specs.Option.{option_map}
use Rattle.std.specs.Coded.{Unit-prop, le_prop}
use native.Mathlib.Nat.{ℕ_set}
use Rattle.std.proofs.lemmas.Bool.Decides.{nat_tests}
use Rattle.std.proofs.lemmas.Option.{slice_get-map}
use Rattle.fm_base.specs.Verdict.{place, when}
use Rattle.fm_base.specs.declared.rule.Rule.TheVariants.{E32, E33, E34}
use Rattle.fm_values.specs.Places.{Bounds, size}
use Rattle.fm_tree.specs.declared.port_type.Bound.{Bound}
use Rattle.fm_tree.specs.declared.program_unit.Placed.{Placed}
use Rattle.fm_tree.specs.declared.program_unit.Unit as tree
use Rattle.fm_tree.specs.declared.statement.Decl.{Decl}
use Rattle.fm_symbols.specs.ByName.{ByName}
use Rattle.fm_symbols.specs.declared.names.Variable.{Variable}
use Rattle.fm_symbols.specs.declared.names.UnitNames.{UnitNames}
use Rattle.fm_rules.specs.declared.constants.Known.{Known}
use Rattle.fm_rules.specs.declared.constants.Types.{Types}
use Rattle.fm_rules.specs.Constants.{constants_of}
use Rattle.fm_rules.specs.NameTypes.{types_of}
use Rattle.fm_rules.specs.ConstantParts.{decls_of, port_type_in, definitions_in, machine_in}
use Rattle.fm_rules.specs.Bounds.{dimension_of, all_known, count, shape_of}
use Rattle.fm_rules.specs.BrokenConstants.{broken_bounds, broken_decl, broken_decls, broken_message, broken_definitions, broken_machine, broken_statement, broken_from, is_bad}
use Rattle.fm_rules.specs.Declarations.{declared_twice_in}
use Rattle.fm_rules.specs.FunctionTitles.{titles_of}
use Rattle.fm_rules.specs.declared.sheet.ArrayShape.{ArrayShape}
use Rattle.fm_rules.specs.declared.sheet.Occurrence.{Occurrence}
use Rattle.fm_rules.specs.declared.sheet.Sheet.{Sheet}
use Rattle.fm_rules.specs.Sheets.{shape_entries, decl_shapes, shapes_from, sheet_of}
use Rattle.fm_rules.specs.Variables.{bounds_by, words_by, words_of, laid_out, variables_among}
use Rattle.fm_rules.specs.Names.{unit_names}
use Rattle.fm_rules.specs.BrokenNames.{broken_in, untyped_in, is_long}
use Rattle.fm_net.specs.Typed.{AllIn}
use Rattle.fm_rules.specs.declared.program.Program.{Program}
use Rattle.fm_mean.specs.Names.{ProgramUnit, same_name, unit_with, unit_at}
use Rattle.fm_mean.specs.Layout.{AreLaidOut}
use Rattle.fm_mean.specs.ValueTypes.{AreSized}
use Rattle.fm_mean.proofs.FirstEntries.{first_entry, first_there}
use Rattle.fm_mean.proofs.Unbroken.{Unbroken, from_rules, left_empty, right_empty, each_empty, not_when, or_right}

-- ---- one variable behind the other

lays : (s : Sheet) (first : ℕ) (os : List Occurrence) → AreLaidOut first (laid_out s first os)
lays s first [] = tt
lays s first (o ∷ os) = (refl, lays s (first + words_of s o.name) os)

-- ---- arrays have as many words as elements

abbrev IsWhole : List ℕ × ArrayShape → Type 0
IsWhole e = (e.1.words ≡ size e.1.bounds) × (e.1.words ≤ 65536)

pub not_more : (n : ℕ) → nat_lt 65536 n ≡ false → n ≤ 65536
not_more n e = grind (arith, nat_tests)

known_whole : (o : Option Bounds) → not (is_some o) ≡ false → nat_lt 65536 (count o) ≡ false → (count o ≡ size (unwrap_or o [])) × (count o ≤ 65536)
known_whole None e few = absurd (cc)
known_whole (Some bs) e few = (refl, not_more (size bs) few)

shape_whole : (known : ByName Known) (at line : ℕ) (name : List ℕ) (bounds : List Bound) → broken_bounds known at line bounds ≡ [] → AllIn IsWhole (shape_entries known at name bounds)
shape_whole known at line name [] e = tt
shape_whole known at line name (b ∷ bs) e =
    let s = shape_of known at (b ∷ bs) in
    let bad = when (is_bad 7 s) (place line E32) in
    let unknown = when (not s.known) (place line E33) in
    let fine = not_when (is_bad 7 s) (place line E32) (left_empty bad unknown e) in
    let is = not_when (not s.known) (place line E33) (right_empty bad unknown e) in
    let few = or_right s.inverted (nat_lt 65536 s.elements) (or_right (nat_lt 7 s.dimensions) (s.inverted || nat_lt 65536 s.elements) fine) in
    (known_whole (all_known (map (dimension_of known at) (b ∷ bs))) is few, tt)

pub all_append : {X : Type 0} (P : X → Type 0) (xs ys : List X) → AllIn P xs → AllIn P ys → AllIn P (xs ++ ys)
all_append P [] ys h k = k
all_append P (x ∷ xs) ys h k = (h.0, all_append P xs ys h.1 k)

decls_whole : (known : ByName Known) (at line : ℕ) (ds : List Decl) → broken_decls known at line ds ≡ [] → AllIn IsWhole (flat_map (decl_shapes known at) ds)
decls_whole known at line [] e = tt
decls_whole known at line (d ∷ ds) e =
    let one = broken_decl known at line d in
    let more = broken_decls known at line ds in
    all_append IsWhole (decl_shapes known at d) (flat_map (decl_shapes known at) ds) (shape_whole known at line d.name d.bounds (left_empty one more e)) (decls_whole known at line ds (right_empty one more e))

shapes_whole : (known : ByName Known) (types : Types) (at : ℕ) (ps : List Placed) → broken_from known types at ps ≡ [] → AllIn IsWhole (shapes_from known at ps)
shapes_whole known types at [] e = tt
shapes_whole known types at (p ∷ ps) e =
    let here = left_empty (broken_statement known types at p) (broken_from known types (at + 1) ps) e in
    let ds = broken_decls known at p.line.0 (decls_of p.stmt) in
    let message = broken_message known at p.line.0 (port_type_in p.stmt) in
    let definitions = broken_definitions known types at p.line.0 0 (definitions_in p.stmt) in
    let decls = left_empty ds message (left_empty (ds ++ message) definitions (left_empty (ds ++ message ++ definitions) (broken_machine known at p.line.0 (machine_in p.stmt)) here)) in
    all_append IsWhole (flat_map (decl_shapes known at) (decls_of p.stmt)) (shapes_from known (at + 1) ps)
    (decls_whole known at p.line.0 (decls_of p.stmt) decls) (shapes_whole known types (at + 1) ps (right_empty (broken_statement known types at p) (broken_from known types (at + 1) ps) e))

abbrev IsSized : Option ArrayShape → Type 0
IsSized o = (words_by o ≡ size (bounds_by o)) × (words_by o ≤ 65536)

entry_sized : (es : List (List ℕ × ArrayShape)) (name : List ℕ) → AllIn IsWhole es → IsSized (first_entry es name)
entry_sized [] name h = (refl, omega arith)
entry_sized (e ∷ es) name h = go (same_name name e.0) (entry_sized es name h.1)
  where
    go : (b : Bool) → IsSized (first_entry es name) → IsSized (cond b (Some e.1) (first_entry es name))
    go true rest = h.0
    go false rest = rest

-- ---- the variables of a unit

-- as many words as elements, and no more than the greatest array has
abbrev pub IsFew : Variable → Type 0
IsFew v = (v.words ≡ size v.bounds) × (v.words ≤ 65536)

all_few : (s : Sheet) (first : ℕ) (os : List Occurrence) → ((name : List ℕ) → IsSized (get s.arrays name)) → AllIn IsFew (laid_out s first os)
all_few s first [] h = tt
all_few s first (o ∷ os) h = (h o.name, all_few s (first + words_of s o.name) os h)

unit_few : (titles : ByName Bool) (u : tree.Unit) → broken_in titles u ≡ [] → AllIn IsFew (unit_names titles u).variables
unit_few titles u e =
    let s = sheet_of u in
    let known = constants_of u.specs in
    let twice = declared_twice_in titles u in
    let constants = broken_from known (types_of u.specs) 0 u.specs in
    let untyped = untyped_in titles u.heading.stmt s in
    let long = when (is_long titles u.heading.stmt s) (place u.heading.line.0 E34) in
    let none = right_empty twice constants (left_empty (twice ++ constants) untyped (left_empty (twice ++ constants ++ untyped) long e)) in
    let whole = shapes_whole known (types_of u.specs) 0 u.specs none in
    all_few s 0 (variables_among titles u.heading.stmt s s.first)
    (λ name. subst IsSized (sym (first_there (shapes_from known 0 u.specs) name)) (entry_sized (shapes_from known 0 u.specs) name whole))

-- ---- of a program

pub record Laid (n : UnitNames) : Type 0 where
  pub laid : AreLaidOut 0 n.variables
  pub few : AllIn IsFew n.variables

laid_prop : (first : ℕ) (vs : List Variable) → IsProp (AreLaidOut first vs)
laid_prop first [] = Unit-prop
laid_prop first (v ∷ vs) = hlevel (ℕ_set, laid_prop (first + v.words) vs)

few_prop : (vs : List Variable) → IsProp (AllIn IsFew vs)
few_prop [] = Unit-prop
few_prop (v ∷ vs) = hlevel (ℕ_set, le_prop, few_prop vs)

Laid_prop : (n : UnitNames) → IsProp (Laid n)
Laid_prop n = hlevel (laid_prop 0 n.variables, few_prop n.variables)

pub the_names : (titles : ByName Bool) (us : List tree.Unit) (k : ℕ) (n : UnitNames) → slice_get (map (unit_names titles) us) k ≡ Some n → (u : tree.Unit) × (slice_get us k ≡ Some u) × (unit_names titles u ≡ n)
the_names titles us k n e = go (slice_get us k) refl (sym (slice_get-map (unit_names titles) us k) ∙ e)
  where
    the_one : (a b : UnitNames) → Some a ≡ Some b → a ≡ b
    the_one a b h = cc

    go : (o : Option tree.Unit) → slice_get us k ≡ o → option_map (unit_names titles) o ≡ Some n → (u : tree.Unit) × (slice_get us k ≡ Some u) × (unit_names titles u ≡ n)
    go None is h = absurd (cc)
    go (Some u) is h = (u, is, the_one (unit_names titles u) n h)

names_laid : (us : List tree.Unit) (ns : List UnitNames) (k : ℕ) (n : UnitNames) → Unbroken us ns → slice_get ns k ≡ Some n → Laid n
names_laid us ns k n h is =
    let t = titles_of us in
    let at = the_names t us k n (subst (λ (l : List UnitNames). slice_get l k ≡ Some n) h.names_are is) in
    let s = sheet_of at.0 in
    subst Laid at.2 (record {
      laid = lays s 0 (variables_among t at.0.heading.stmt s s.first);
      few = unit_few t at.0 (each_empty (broken_in t) us k at.0 h.names at.1);
    })

pub unit_parts : (o : Option tree.Unit) (m : Option UnitNames) (u : ProgramUnit) → unit_with o m ≡ Some u → (o ≡ Some u.tree) × (m ≡ Some u.names)
unit_parts None m u e = absurd (cc)
unit_parts (Some t) None u e = absurd (cc)
unit_parts (Some t) (Some n) u e = (ap (λ (w : ProgramUnit). Some w.tree) (the_one (record { tree = t; names = n }) u e), ap (λ (w : ProgramUnit). Some w.names) (the_one (record { tree = t; names = n }) u e))
  where
    the_one : (a b : ProgramUnit) → Some a ≡ Some b → a ≡ b
    the_one a b h = cc

-- the tree and the names of a unit
pub parts_of : (p : Program) (n : ℕ) (u : ProgramUnit) → unit_at p n ≡ Some u → (slice_get p.units.units n ≡ Some u.tree) × (slice_get p.names.units n ≡ Some u.names)
parts_of p n u is = unit_parts (slice_get p.units.units n) (slice_get p.names.units n) u is

pub unit_laid : (p : Program) (n : ℕ) (u : ProgramUnit) → unit_at p n ≡ Some u → Laid u.names
unit_laid p n u is = from_rules p (Laid u.names) (Laid_prop u.names) (λ h. names_laid p.units.units p.names.units n u.names h (parts_of p n u is).1)

-- the variables of a unit are laid out from 0 on
pub variables_laid_out : (p : Program) (n : ℕ) (u : ProgramUnit) → unit_at p n ≡ Some u → AreLaidOut 0 u.names.variables
variables_laid_out p n u is = (unit_laid p n u is).laid

few_sized : (vs : List Variable) → AllIn IsFew vs → AreSized vs
few_sized [] h = tt
few_sized (v ∷ vs) h = (h.0.0, few_sized vs h.1)

-- they have as many words as elements
pub variables_sized : (p : Program) (n : ℕ) (u : ProgramUnit) → unit_at p n ≡ Some u → AreSized u.names.variables
variables_sized p n u is = few_sized u.names.variables (unit_laid p n u is).few

few_small : (vs : List Variable) → AllIn IsFew vs → AllIn (λ (v : Variable). size v.bounds ≤ 65536) vs
few_small [] h = tt
few_small (v ∷ vs) h = (omega (arith, h.0.0, h.0.1), few_small vs h.1)

-- and 65,536 at most
pub variables_small : (p : Program) (n : ℕ) (u : ProgramUnit) → unit_at p n ≡ Some u → AllIn (λ (v : Variable). size v.bounds ≤ 65536) u.names.variables
variables_small p n u is = few_small u.names.variables (unit_laid p n u is).few

-- each of them
pub in_all : {X : Type 0} (P : X → Type 0) (xs : List X) (i : ℕ) (x : X) → AllIn P xs → slice_get xs i ≡ Some x → P x
in_all P [] i x h e = absurd (cc)
in_all {X} P (y ∷ ys) zero x h e = subst P (the_one y x e) h.0
  where
    the_one : (a b : X) → Some a ≡ Some b → a ≡ b
    the_one a b e = cc
in_all P (y ∷ ys) (suc i) x h e = in_all P ys i x h.1 e

pub variable_sized : (p : Program) (n : ℕ) (u : ProgramUnit) (i : ℕ) (v : Variable) → unit_at p n ≡ Some u → slice_get u.names.variables i ≡ Some v → v.words ≡ size v.bounds
variable_sized p n u i v is there = (in_all IsFew u.names.variables i v (unit_laid p n u is).few there).0

pub variable_small : (p : Program) (n : ℕ) (u : ProgramUnit) (i : ℕ) (v : Variable) → unit_at p n ≡ Some u → slice_get u.names.variables i ≡ Some v → v.words ≤ 65536
variable_small p n u i v is there = (in_all IsFew u.names.variables i v (unit_laid p n u is).few there).1

pub variable_addressed : (p : Program) (n : ℕ) (u : ProgramUnit) (i : ℕ) (v : Variable) → unit_at p n ≡ Some u → slice_get u.names.variables i ≡ Some v → size v.bounds ≤ 2 ^ 64
variable_addressed p n u i v is there = omega (arith, variable_sized p n u i v is there, variable_small p n u i v is there)
