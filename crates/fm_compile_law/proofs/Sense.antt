-- What the image of a program says of a unit makes sense.
use Rattle.std.proofs.Common.{◌≡◌, ℕ, zero, suc, ◌+◌, ◌<◌, ◌≤◌, ◌==◌, Bool, true, false, cond, Some, List, [], ◌∷◌, map, length, slice_get, refl, sym, ap, ◌∙◌, subst, arith}
use Rattle.std.specs.List.{list_any}
use Rattle.std.proofs.lemmas.Bool.{eq-eqb}
use native.Mathlib.Nat.{ℕ_set}
use Rattle.fm_net.specs.Typed.{AllIn}
use Rattle.fm_tree.specs.PortFields.{PortFields, FieldKind, Integer, Logical, In, Out}
use Rattle.fm_tree.specs.PortReading.{kind_of}
use Rattle.fm_tree.specs.declared.form.UnitKind.{UnitKind}
use Rattle.fm_tree.specs.declared.form.UnitKind.TheVariants as unit_kind
use Rattle.fm_tree.specs.declared.program_unit.Entry as tree_entry
use Rattle.fm_symbols.specs.declared.names.UnitNames.{UnitNames}
use Rattle.fm_symbols.specs.declared.names.Variable.{Variable}
use Rattle.fm_rules.specs.FunctionTitles as facts
use Rattle.fm_rules.specs.Links.{links_at, links_of, marks_of}
use Rattle.fm_rules.specs.Occurrences.{is_of}
use Rattle.fm_rules.specs.Sheets.{sheet_of}
use Rattle.fm_rules.specs.Variables.{laid_out, variable, variables_among, words_of}
use Rattle.fm_rules.specs.declared.program.Program.{Program}
use Rattle.fm_rules.specs.declared.sheet.Occurrence.{Occurrence}
use Rattle.fm_rules.specs.declared.sheet.Sheet.{Sheet}
use Rattle.fm_mean.specs.Layout.{AreLaidOut}
use Rattle.fm_mean.specs.Leads.{IsPoint}
use Rattle.fm_mean.specs.Names.{ProgramUnit, unit_at}
use Rattle.fm_mean.proofs.FirstUnits.{by_rules}
use Rattle.fm_mean.proofs.Leading.{unit_begins}
use Rattle.fm_mean.proofs.Members.{from_map, same_names}
use Rattle.fm_mean.proofs.Points.{point_there}
use Rattle.fm_mean.proofs.Sizes.{parts_of}
use Rattle.fm_mean.proofs.Unbroken.{from_rules, or_left, or_right}
use Rattle.fm_code.specs.declared.code.Entry.{Entry}
use Rattle.fm_code.specs.declared.instr.Build.{Build}
use Rattle.fm_code.specs.declared.instr.Build.TheVariants as build
use Rattle.fm_code.specs.declared.instr.Instr.{Instr}
use Rattle.fm_code.specs.declared.instr.Instr.TheVariants as instr
use Rattle.fm_code.specs.declared.instr.Loop.{Loop}
use Rattle.fm_gen_relation.specs.Frames.{loop_number, opens_counted}
use Rattle.fm_gen_relation.specs.Sound.{words_among}
use Rattle.fm_gen_relation.proofs.FormalCounts.{Distinct, variables_distinct}
use Rattle.fm_gen.specs.Entries.{address_of}
use Rattle.fm_gen.specs.Units.{entries_at, loop_count}
use Rattle.fm_gen.proofs.LineLaws.{addresses_rise}
use Rattle.fm_gen.proofs.UnitLaws.{entry_there}
use Rattle.fm_object.specs.declared.image.FieldImage.{FieldImage}
use Rattle.fm_image.specs.ImageOf.{back_of, cell_image, heading_number}
use Rattle.fm_image.specs.Types.{kind_number, number_in, type_number}
use Rattle.fm_compile_law.proofs.Loops.{LoopsBelow}
use Rattle.fm_compile_law.proofs.TypeNumbers.{IsOf}
use Rattle.fm_object.specs.Texts.{IsName}
use Rattle.fm_object.specs.declared.image.Cell.{Cell}
use Rattle.fm_image_typed.specs.Shapes.{loop_in, loop_of, loops_of}
use Rattle.fm_image_typed.specs.Typed.{HasType, CellsAreTyped, AreApart, Rise, BeginAt}

never : true ≡ false → ⊥
never e = absurd cc

the_variable : (a b : Variable) → Some a ≡ Some b → a ≡ b
the_variable a b e = cc

pub few_headings : (q : UnitKind) → heading_number q ≤ 3
few_headings unit_kind.Program = omega arith
few_headings unit_kind.Process = omega arith
few_headings unit_kind.Subroutine = omega arith
few_headings unit_kind.Function = omega arith

-- ---- variables

back_small : (a b : Bool) → cond a 0 (cond b 0 1) ≤ 1
back_small true b = omega arith
back_small false true = omega arith
back_small false false = omega arith

back_none : (v : Variable) → v.formal ≡ 0 → back_of v ≡ 0
back_none v none = ap (λ b. cond b 0 (cond v.input 0 1)) (eq-eqb v.formal 0 none)

-- the type of a port is one of those that there are
abbrev pub IsNumbered : List (List FieldImage) → Variable → Type 0
IsNumbered ts v = (t : PortFields) → IsOf (kind_of v.kind) t → number_in ts t < length ts

kind_typed : (ts : List (List FieldImage)) (k : FieldKind) → ((t : PortFields) → IsOf k t → number_in ts t < length ts) → HasType (kind_number k) (type_number ts k) (length ts)
kind_typed ts Integer h = refl
kind_typed ts Logical h = refl
kind_typed ts (In p) h = h p refl
kind_typed ts (Out p) h = h p refl

pub cells_typed : (ts : List (List FieldImage)) (w : ℕ) (vs : List Variable) → AreLaidOut w vs → AllIn (λ (v : Variable). 0 < v.words) vs → AllIn (λ (v : Variable). IsName v.name) vs → AllIn (IsNumbered ts) vs → w + words_among vs ≤ 65536
    → CellsAreTyped (length ts) w (map (cell_image ts) vs)
cells_typed ts w [] laid some named numbered few = omega (arith, few)
cells_typed ts w (v ∷ vs) laid some named numbered few = (
  record {
    name = named.0;
    type = kind_typed ts (kind_of v.kind) numbered.0;
    first = laid.0;
    some = omega (arith, some.0);
    back = back_small (v.formal == 0) v.input;
    formal = λ none. back_none v none;
  },
  cells_typed ts (w + v.words) vs laid.1 some.1 named.1 numbered.1 (omega (arith, few)),
)

-- ---- names

not_again : (q : List ℕ) (s : Sheet) (first : ℕ) (os : List Occurrence) → list_any (is_of q) os ≡ false → (b : ℕ) (w : Variable) → slice_get (laid_out s first os) b ≡ Some w → q ≡ w.name → ⊥
not_again q s first [] none b w at e = absurd cc
not_again q s first (o ∷ os) none zero w at e =
    let here : q ≡ o.name = e ∙ ap (λ (x : Variable). x.name) (sym (the_variable (variable s first o.name) w at)) in
    never (sym (same_names q o.name here) ∙ or_left (is_of q o) (list_any (is_of q) os) none)
not_again q s first (o ∷ os) none (suc b) w at e = not_again q s (first + words_of s o.name) os (or_right (is_of q o) (list_any (is_of q) os) none) b w at e

apart_laid : (s : Sheet) (first : ℕ) (os : List Occurrence) → Distinct os → (a b : ℕ) (v w : Variable) → slice_get (laid_out s first os) a ≡ Some v → slice_get (laid_out s first os) b ≡ Some w → v.name ≡ w.name → a ≡ b
apart_laid s first [] once a b v w x y e = absurd cc
apart_laid s first (o ∷ os) once zero zero v w x y e = refl
apart_laid s first (o ∷ os) once zero (suc b) v w x y e =
    let here : o.name ≡ v.name = ap (λ (z : Variable). z.name) (the_variable (variable s first o.name) v x) in
    absurd (not_again o.name s (first + words_of s o.name) os once.0 b w y (here ∙ e))
apart_laid s first (o ∷ os) once (suc a) zero v w x y e =
    let here : o.name ≡ w.name = ap (λ (z : Variable). z.name) (the_variable (variable s first o.name) w y) in
    absurd (not_again o.name s (first + words_of s o.name) os once.0 a v x (here ∙ sym e))
apart_laid s first (o ∷ os) once (suc a) (suc b) v w x y e = ap suc (apart_laid s (first + words_of s o.name) os once.1 a b v w x y e)

module _ (p : Program) (number : ℕ) (u : ProgramUnit) (here : unit_at p number ≡ Some u) where
  variables_apart : (a b : ℕ) (v w : Variable) → slice_get u.names.variables a ≡ Some v → slice_get u.names.variables b ≡ Some w → v.name ≡ w.name → a ≡ b
  variables_apart a b v w x y e =
      from_rules p (a ≡ b) (ℕ_set a b)
      (λ h.
      let titles = facts.titles_of p.units.units in
      let rules = by_rules p.units.units p.names.units h number u (parts_of p number u here).0 (parts_of p number u here).1 in
      let s = sheet_of u.tree in
      let os = variables_among titles u.tree.heading.stmt s s.first in
      apart_laid s 0 os (variables_distinct titles u.tree rules.clean) a b v w (subst (λ (n : UnitNames). slice_get n.variables a ≡ Some v) rules.names_are x) (subst (λ (n : UnitNames). slice_get n.variables b ≡ Some w) rules.names_are y) e)

  pub names_apart : (ts : List (List FieldImage)) → AreApart (map (cell_image ts) u.names.variables)
  names_apart ts a b c d x y e =
      let v = from_map (cell_image ts) u.names.variables a c x in
      let w = from_map (cell_image ts) u.names.variables b d y in
      variables_apart a b v.0 w.0 v.1 w.1 (ap (λ (z : Cell). z.name) v.2 ∙ e ∙ sym (ap (λ (z : Cell). z.name) w.2))

-- ---- where statements begin

abbrev addresses : (ℕ → ℕ) → ℕ → List tree_entry.Entry → List ℕ
addresses address k es = map (λ (e : Entry). e.address) (entries_at address k es)

rise_from : (address : ℕ → ℕ) (k : ℕ) (es : List tree_entry.Entry) → ((i : ℕ) → suc i < length es → address (k + i) < address (suc (k + i))) → Rise (addresses address k es)
rise_from address k [] h = tt
rise_from address k (e ∷ []) h = tt
rise_from address k (e ∷ f ∷ more) h =
    let here : k + 0 ≡ k = omega arith in (
      subst (λ (j : ℕ). address j < address (suc j)) here (h 0 (omega arith)),
      rise_from address (suc k) (f ∷ more) (λ i less. let next : k + suc i ≡ suc k + i = omega arith in subst (λ (j : ℕ). address j < address (suc j)) next (h (suc i) (omega (arith, less)))),
    )

begin_at : (address : ℕ → ℕ) (es : List tree_entry.Entry) (e : tree_entry.Entry) → slice_get es 0 ≡ Some e → address 0 ≡ 0 → BeginAt 0 (addresses address 0 es)
begin_at address [] e there first = absurd cc
begin_at address (x ∷ es) e there first = first

got : {X : Type 0} (xs : List X) (k : ℕ) → k < length xs → (x : X) × (slice_get xs k ≡ Some x)
got [] k less = absurd (omega (arith, less))
got (x ∷ xs) zero less = (x, refl)
got (x ∷ xs) (suc k) less = got xs k (omega (arith, less))

module _ (p : Program) (number : ℕ) (u : ProgramUnit) (here : unit_at p number ≡ Some u) where
  the_unit : (a b : ProgramUnit) → Some a ≡ Some b → a ≡ b
  the_unit a b e = cc

  pub begin : BeginAt 0 (addresses (address_of p u) 0 u.tree.body)
  begin =
      let b = unit_begins p number u here in
      let same : b.0 ≡ u = the_unit b.0 u (sym b.1 ∙ here) in
      let first : IsPoint u 0 = subst (λ (w : ProgramUnit). IsPoint w 0) same b.2 in
      begin_at (address_of p u) u.tree.body first.0.entry (entry_there (slice_get u.tree.body 0) (slice_get (links_of u.tree.body) 0) first.0 first.1) (addresses_rise p u).first

  pub rise : Rise (addresses (address_of p u) 0 u.tree.body)
  rise = rise_from (address_of p u) 0 u.tree.body step
    where
      step : (i : ℕ) → suc i < length u.tree.body → address_of p u (0 + i) < address_of p u (suc (0 + i))
      step i less =
          let e = got u.tree.body i (omega (arith, less)) in
          let same : i ≡ 0 + i = omega arith in
          subst (λ (j : ℕ). address_of p u j < address_of p u (suc j)) same
          ((addresses_rise p u).rise i (suc i) (record { entry = e.0; links = links_at u.tree.body (marks_of u.tree.body) i }) (point_there u i e.0 e.1) (omega arith))

-- ---- loops

build_under : (m : ℕ) (i : Build) → ((l : Loop) → i ≡ build.Loop l → l.number < m) → loop_in i ≤ m
build_under m (build.Letter byte) h = omega arith
build_under m build.ShowText h = omega arith
build_under m build.Show h = omega arith
build_under m build.ShowTruth h = omega arith
build_under m (build.ShowWords s) h = omega arith
build_under m (build.ShowTruths s) h = omega arith
build_under m build.PassValue h = omega arith
build_under m (build.PassWords s) h = omega arith
build_under m (build.PassPorts s) h = omega arith
build_under m build.PassWordAt h = omega arith
build_under m build.PassPortAt h = omega arith
build_under m build.Status h = omega arith
build_under m (build.Loop l) h = omega (arith, h l refl)
build_under m (build.Location n) h = omega arith
build_under m build.Submachine h = omega arith
build_under m (build.Cut item size) h = omega arith

instr_under : (m : ℕ) (i : Instr) → ((l : Loop) → i ≡ instr.Build (build.Loop l) → l.number < m) → loop_of i ≤ m
instr_under m (instr.Eval i) h = omega arith
instr_under m (instr.Build i) h = build_under m i (λ l e. h l (ap instr.Build e))
instr_under m (instr.End i) h = omega arith
instr_under m (instr.Meet i) h = omega arith

pub loops_under : (m : ℕ) (code : List Instr) → LoopsBelow m code → loops_of code ≤ m
loops_under m [] h = omega arith
loops_under m (i ∷ is) h = omega (arith, instr_under m i (λ l e. h 0 l (ap Some e)), loops_under m is (λ a l there. h (suc a) l there))

few_loops : (es : List tree_entry.Entry) (k : ℕ) → loop_number es k ≤ length es
few_loops [] k = omega arith
few_loops (e ∷ es) zero = omega arith
few_loops (e ∷ es) (suc k) = go (opens_counted e) (few_loops es k)
  where
    go : (b : Bool) → loop_number es k ≤ length es → cond b (suc (loop_number es k)) (loop_number es k) ≤ suc (length es)
    go true le = omega (arith, le)
    go false le = omega (arith, le)

entries_many : (address : ℕ → ℕ) (k : ℕ) (es : List tree_entry.Entry) → length (entries_at address k es) ≡ length es
entries_many address k [] = refl
entries_many address k (e ∷ es) = ap suc (entries_many address (suc k) es)

pub few_of_body : (address : ℕ → ℕ) (es : List tree_entry.Entry) → loop_count es ≤ length (entries_at address 0 es)
few_of_body address es = omega (arith, few_loops es (length es), entries_many address 0 es)
