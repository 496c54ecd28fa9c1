-- A program has a PROGRAM: the source has a PROGRAM statement, which stands first in its unit.
use Rattle.std.proofs.Common.{◌≡◌, ℕ, zero, suc, ◌+◌, ◌<◌, ◌≤◌, Bool, true, false, cond, not, ◌&&◌, Option, Some, None, option_map, List, [], ◌∷◌, ◌++◌, length, map, slice_get, get_or, refl, sym, ap, ◌∙◌, subst, arith, append_assoc}
use Rattle.std.specs.Prelude.{if◌then◌else◌, nat_eq}
use Rattle.std.specs.List.{position_from, cons_option}
use Rattle.std.proofs.lemmas.Bool.Decides.{nat_tests}
use Rattle.std.proofs.lemmas.Iterator.Adapters.{position_from-zero}
use Rattle.std.proofs.lemmas.Option.{slice_get-map}
use Rattle.fm_base.specs.declared.name.Label.{Label}
use Rattle.fm_base.specs.declared.name.Line.{Line}
use Rattle.fm_base.specs.declared.rule.Rule.TheVariants.{E20, E21, E22, E23, E24, E25, E29}
use Rattle.fm_base.specs.Verdict.{when}
use Rattle.fm_tree.specs.declared.form.UnitKind.{UnitKind}
use Rattle.fm_tree.specs.declared.form.UnitKind.TheVariants as unit_kind
use Rattle.fm_tree.specs.declared.form.Form.{Form}
use Rattle.fm_tree.specs.declared.form.Form.TheVariants as form
use Rattle.fm_tree.specs.declared.form.Bracket.{Bracket}
use Rattle.fm_tree.specs.declared.form.Bracket.TheVariants.{Opens, Closes, Parts, Stays}
use Rattle.fm_tree.specs.declared.entry_mark.EntryMark.{EntryMark}
use Rattle.fm_tree.specs.declared.entry_mark.Open.{Open}
use Rattle.fm_tree.specs.declared.program_unit.Placed.{Placed}
use Rattle.fm_tree.specs.declared.program_unit.Unit as tree
use Rattle.fm_tree.specs.declared.statement.Stmt.{Stmt}
use Rattle.fm_tree.specs.declared.statement.Stmt.TheVariants as stmt
use Rattle.fm_tree.specs.Structure.{bracket_of, contained_form, form_of, is_end, is_process_loop}
use Rattle.fm_tree.specs.Labels.{first_executable}
use Rattle.fm_tree.specs.Blocks.{behind, head_of, innermost}
use Rattle.fm_tree.specs.Layout.{ends_behind, fitted, is_parallel, label_left, laid_behind, laid_out, marks_of, own_forms, with_statement}
use Rattle.fm_tree.specs.Units.{blank_mark, blank_statement, cut_of, form_at, put_first, unit_of}
use Rattle.fm_rules.specs.BrokenUnit.{broken_at, broken_from, broken_in_unit, place_at}
use Rattle.fm_rules.specs.StructureForms.{misplaced, opener_of}
use Rattle.fm_rules.specs.StructureLookups.{is_before}
use Rattle.fm_rules.specs.StructureRules.{is_badly_ended, is_foreign, is_misplaced, is_unmatched, jumps_into_block, lacks_target, repeats_label}
use Rattle.fm_symbols.specs.Headings.{heading_kind}
use Rattle.fm_symbols.specs.declared.names.UnitNames.{UnitNames}
use Rattle.fm_rules.specs.Units.{units_of}
use Rattle.fm_rules.specs.UnitTitles.{is_function_named, titles_of}
use Rattle.fm_rules.specs.BrokenStructure as source
use Rattle.fm_rules.specs.FunctionTitles as facts
use Rattle.fm_rules.specs.Names.{unit_names}
use Rattle.fm_rules.specs.Main.{is_program, is_main}
use Rattle.fm_net.specs.Typed.{AllIn}
use Rattle.fm_rules.specs.declared.program.Program.{Program}
use Rattle.fm_mean.specs.Names.{ProgramUnit, unit_with, unit_at, kind_of, main_number}
use Rattle.fm_mean.proofs.Unbroken.{Unbroken, from_rules, left_empty, right_empty, not_when}

-- ---- lists

got_left : {X : Type 0} (xs ys : List X) (k : ℕ) (d : X) → k < length xs → get_or (xs ++ ys) k d ≡ get_or xs k d
got_left [] ys k d h = absurd (omega (arith, h))
got_left (x ∷ xs) ys zero d h = refl
got_left (x ∷ xs) ys (suc k) d h = got_left xs ys k d (omega (arith, h))

got_next : {X : Type 0} (xs : List X) (y : X) (ys : List X) (d : X) → get_or (xs ++ y ∷ ys) (length xs) d ≡ y
got_next [] y ys d = refl
got_next (x ∷ xs) y ys d = got_next xs y ys d

longer : {X : Type 0} (xs ys : List X) → length (xs ++ ys) ≡ length xs + length ys
longer [] ys = omega arith
longer (x ∷ xs) ys = omega (arith, longer xs ys)

-- ---- a PROGRAM statement behind the first of its unit

-- an entry of a PROGRAM statement behind the first one
record IsLate (ms : List EntryMark) : Type 0 where
  at : ℕ
  some : 1 ≤ at
  within : at < length ms
  heads : (get_or ms at blank_mark).form ≡ form.Heading unit_kind.Program

late_more : (ms ns : List EntryMark) → IsLate ms → IsLate (ms ++ ns)
late_more ms ns h = record {
  at = h.at;
  some = h.some;
  within = omega (arith, h.within, longer ms ns);
  heads = ap (λ (m : EntryMark). m.form) (got_left ms ns h.at blank_mark h.within) ∙ h.heads;
}

own_some : (line : Line) (label : Option Label) (place : ℕ) (f : Form) (contained : Option Form) (inner : Option Open) → 1 ≤ length (marks_of line label place (own_forms f contained inner))
own_some line label place f (Some g) inner = omega arith
own_some line label place f None inner =
    elim (is_process_loop f && not (is_parallel inner)) as (λ (b : Bool). 1 ≤ length (marks_of line label place (if b then form.Wrap ∷ f ∷ [] else fitted f inner ∷ []))) [ true ↦ omega arith | false ↦ omega arith ]

-- a statement makes entries behind those that are there
record Adds (entries all : List EntryMark) : Type 0 where
  more : List EntryMark
  is : all ≡ entries ++ more
  some : 1 ≤ length more

module _ (entries : List EntryMark) (place : ℕ) (p : Placed) where
  abbrev own_at : Option Label → List EntryMark → List EntryMark
  own_at label es = marks_of p.line label place (own_forms (form_of p.stmt) (contained_form p.stmt) (head_of (behind es)))

  adds_behind : Adds entries (with_statement Stays entries place p)
  adds_behind =
      let own = own_at p.label entries in
      let ends = marks_of p.line None place (ends_behind p (behind (entries ++ own))) in
      record {
        more = own ++ ends;
        is = append_assoc entries own ends;
        some = omega (arith, longer own ends, own_some p.line p.label place (form_of p.stmt) (contained_form p.stmt) (head_of (behind entries)));
      }

  adds_opener : Adds entries (with_statement Opens entries place p)
  adds_opener =
      let ended = ends_behind p (behind entries) in
      let ends = marks_of p.line p.label place ended in
      let own = own_at (label_left p.label ended) (entries ++ ends) in
      record {
        more = ends ++ own;
        is = append_assoc entries ends own;
        some = omega (arith, longer ends own, own_some p.line (label_left p.label ended) place (form_of p.stmt) (contained_form p.stmt) (head_of (behind (entries ++ ends))));
      }

  adds : (b : Bracket) → Adds entries (with_statement b entries place p)
  adds Opens = adds_opener
  adds Closes = adds_behind
  adds Parts = adds_behind
  adds Stays = adds_behind

late_kept : (ps : List Placed) (entries : List EntryMark) (place : ℕ) → IsLate entries → IsLate (laid_behind entries place ps)
late_kept [] entries place h = h
late_kept (p ∷ ps) entries place h =
    let a = adds entries place p (bracket_of (form_of p.stmt)) in
    late_kept ps (with_statement (bracket_of (form_of p.stmt)) entries place p) (place + 1) (subst IsLate (sym a.is) (late_more entries a.more h))

program_own : (t : Stmt) (inner : Option Open) → source.is_program_statement t ≡ true → own_forms (form_of t) (contained_form t) inner ≡ form.Heading unit_kind.Program ∷ []
unfolding form_of contained_form
program_own (stmt.Program name) inner e = refl
program_own t inner e = absurd (cc e)

program_stays : (t : Stmt) → source.is_program_statement t ≡ true → bracket_of (form_of t) ≡ Stays
unfolding form_of bracket_of
program_stays (stmt.Program name) e = refl
program_stays t e = absurd (cc e)

late_here : (p : Placed) (entries : List EntryMark) (place : ℕ) → source.is_program_statement p.stmt ≡ true → 1 ≤ length entries → IsLate (with_statement Stays entries place p)
late_here p entries place is some =
    let own = marks_of p.line p.label place (own_forms (form_of p.stmt) (contained_form p.stmt) (head_of (behind entries))) in
    let ends = marks_of p.line None place (ends_behind p (behind (entries ++ own))) in
    let m : EntryMark = record { line = p.line; label = p.label; form = form.Heading unit_kind.Program; place = place } in
    let alone : own ≡ m ∷ [] = ap (marks_of p.line p.label place) (program_own p.stmt (head_of (behind entries)) is) in
    let here : get_or (entries ++ own) (length entries) blank_mark ≡ m = ap (λ es. get_or (entries ++ es) (length entries) blank_mark) alone ∙ got_next entries m [] blank_mark in
    let inside : length entries < length (entries ++ own) = omega (arith, longer entries own, ap length alone) in
    late_more (entries ++ own) ends (record { at = length entries; some = some; within = inside; heads = ap (λ (m : EntryMark). m.form) here })

late_found : (ps : List Placed) (entries : List EntryMark) (place : ℕ) → 1 ≤ length entries → (source.program_lines ps ≡ [] → ⊥) → IsLate (laid_behind entries place ps)
late_found [] entries place some lines = absurd (lines refl)
late_found (p ∷ ps) entries place some lines =
    go (source.is_program_statement p.stmt) refl (λ longer none. late_found ps (with_statement (bracket_of (form_of p.stmt)) entries place p) (place + 1) longer none)
  where
    go : (b : Bool) → source.is_program_statement p.stmt ≡ b
        → (1 ≤ length (with_statement (bracket_of (form_of p.stmt)) entries place p) → (source.program_lines ps ≡ [] → ⊥) → IsLate (laid_behind entries place (p ∷ ps)))
        → IsLate (laid_behind entries place (p ∷ ps))
    go true is rest =
        late_kept ps (with_statement (bracket_of (form_of p.stmt)) entries place p) (place + 1)
        (subst (λ (b : Bracket). IsLate (with_statement b entries place p)) (sym (program_stays p.stmt is)) (late_here p entries place is some))
    go false is rest =
        let a = adds entries place p (bracket_of (form_of p.stmt)) in
        rest (omega (arith, ap length a.is, longer entries a.more, some))
        (λ e. lines (ap (λ b. cons_option (if b then Some p.line.0 else None) (source.program_lines ps)) is ∙ e))

-- ---- it is broken

pub entry_clean : (ms : List EntryMark) (k : ℕ) (es : List EntryMark) (i : ℕ) → broken_from ms k es ≡ [] → i < length es → broken_at ms (k + i) ≡ []
entry_clean ms k [] i e h = absurd (omega (arith, h))
entry_clean ms k (m ∷ es) zero e h = ap (broken_at ms) (omega arith) ∙ left_empty (broken_at ms k) (broken_from ms (k + 1) es) e
entry_clean ms k (m ∷ es) (suc i) e h = ap (broken_at ms) (omega arith) ∙ entry_clean ms (k + 1) es i (right_empty (broken_at ms k) (broken_from ms (k + 1) es) e) (omega (arith, h))

well_placed : (ms : List EntryMark) (k : ℕ) → broken_at ms k ≡ [] → is_misplaced ms k ≡ false
well_placed ms k e =
    let w0 = when (is_misplaced ms k) (place_at ms k E20) in
    let w1 = when (is_unmatched ms k) (place_at ms k E21) in
    let w2 = when (repeats_label ms k) (place_at ms k E22) in
    let w3 = when (lacks_target ms k) (place_at ms k E23) in
    let w4 = when (jumps_into_block ms k) (place_at ms k E24) in
    let w5 = when (is_badly_ended ms k) (place_at ms k E25) in
    let w6 = when (is_foreign ms k) (place_at ms k E29) in
    not_when (is_misplaced ms k) (place_at ms k E20)
    (left_empty w0 w1 (left_empty (w0 ++ w1) w2 (left_empty (w0 ++ w1 ++ w2) w3 (left_empty (w0 ++ w1 ++ w2 ++ w3) w4 (left_empty (w0 ++ w1 ++ w2 ++ w3 ++ w4) w5 (left_empty (w0 ++ w1 ++ w2 ++ w3 ++ w4 ++ w5) w6 e))))))

heading_misplaced : (f : Form) (k : ℕ) (late : Bool) (heading opener : Form) → f ≡ form.Heading unit_kind.Program → 1 ≤ k → misplaced f (nat_eq k 0) late heading opener ≡ true
unfolding misplaced
heading_misplaced f k late heading opener e some = ap (λ f. misplaced f (nat_eq k 0) late heading opener) e ∙ ap not (behind_first k some)
  where
    behind_first : (k : ℕ) → 1 ≤ k → nat_eq k 0 ≡ false
    behind_first k h = grind (arith, nat_tests)

late_broken : (ms : List EntryMark) → broken_in_unit ms ≡ [] → IsLate ms → ⊥
late_broken ms clean h =
    let fine : is_misplaced ms h.at ≡ false = well_placed ms h.at (ap (broken_at ms) (omega arith) ∙ entry_clean ms 0 ms h.at clean h.within) in
    absurd (no (sym (heading_misplaced (form_at ms h.at) h.at (is_before (first_executable ms) h.at) (form_at ms 0) (opener_of (innermost ms h.at)) h.heads h.some) ∙ fine))
  where
    no : true ≡ false → ⊥
    no e = absurd (cc)

-- ---- units

program_kind : (t : Stmt) → source.is_program_statement t ≡ true → is_program (heading_kind t) ≡ true
unfolding heading_kind
program_kind (stmt.Program name) e = refl
program_kind t e = absurd (cc e)

-- a unit whose heading is no PROGRAM has no PROGRAM statement
unit_without : (c : List Placed) → (is_program (heading_kind (get_or c 0 blank_statement).stmt) ≡ true → ⊥) → broken_in_unit (laid_out c) ≡ [] → source.program_lines c ≡ []
unit_without [] other clean = refl
unit_without (q ∷ qs) other clean = go (source.is_program_statement q.stmt) refl
  where
    lines : (ls : List ℕ) → source.program_lines qs ≡ ls → source.program_lines qs ≡ []
    lines [] is = is
    lines (l ∷ ls) is =
        let a = adds [] 0 q (bracket_of (form_of q.stmt)) in
        absurd (late_broken (laid_out (q ∷ qs)) clean (late_found qs (with_statement (bracket_of (form_of q.stmt)) [] 0 q) (0 + 1) (omega (arith, ap length a.is, longer [] a.more, a.some)) (λ e. nothing l ls (sym is ∙ e))))
      where
        nothing : (l : ℕ) (ls : List ℕ) → l ∷ ls ≡ [] → ⊥
        nothing l ls e = absurd (cc)

    go : (b : Bool) → source.is_program_statement q.stmt ≡ b → source.program_lines (q ∷ qs) ≡ []
    go true is = absurd (other (program_kind q.stmt is))
    go false is = ap (λ b. cons_option (if b then Some q.line.0 else None) (source.program_lines qs)) is ∙ lines (source.program_lines qs) refl

-- where no unit's heading is a PROGRAM, no unit has a PROGRAM statement
abbrev IsNoProgram : tree.Unit → Type 0
IsNoProgram u = is_program (heading_kind u.heading.stmt) ≡ true → ⊥

none_within : (test : List ℕ → Bool) (cs : List (List Placed)) → source.broken_in_units cs ≡ [] → AllIn IsNoProgram (map (unit_of test) cs) → AllIn (λ c. source.program_lines c ≡ []) cs
none_within test [] clean none = tt
none_within test (c ∷ cs) clean none = (
  unit_without c none.0 (left_empty (broken_in_unit (laid_out c)) (source.broken_in_units cs) clean),
  none_within test cs (right_empty (broken_in_unit (laid_out c)) (source.broken_in_units cs) clean) none.1,
)

abbrev HasNone : List Placed → Type 0
HasNone c = source.program_lines c ≡ []

cons_none : (o : Option ℕ) (ls : List ℕ) → cons_option o ls ≡ [] → (cons_option o [] ≡ []) × (ls ≡ [])
cons_none None ls e = (refl, e)
cons_none (Some l) ls e = absurd (cc)

cons_both : (o : Option ℕ) (ls : List ℕ) → cons_option o [] ≡ [] → ls ≡ [] → cons_option o ls ≡ []
cons_both None ls e h = h
cons_both (Some l) ls e h = absurd (cc)

put_none : (p : Placed) (cs : List (List Placed)) → AllIn HasNone (put_first p cs) → HasNone (p ∷ []) × AllIn HasNone cs
put_none p [] h = (h.0, tt)
put_none p (c ∷ cs) h = let both = cons_none (source.program_line p) (source.program_lines c) h.0 in (both.0, (both.1, h.1))

none_at_all : (ps : List Placed) → AllIn HasNone (cut_of ps) → source.program_lines ps ≡ []
none_at_all [] h = refl
none_at_all (p ∷ ps) h = go (is_end (form_of p.stmt)) h (λ rest. none_at_all ps rest)
  where
    go : (b : Bool) → AllIn HasNone (if b then (p ∷ []) ∷ cut_of ps else put_first p (cut_of ps)) → (AllIn HasNone (cut_of ps) → source.program_lines ps ≡ []) → source.program_lines (p ∷ ps) ≡ []
    go true all rest = cons_both (source.program_line p) (source.program_lines ps) all.0 (rest all.1)
    go false all rest = let both = put_none p (cut_of ps) all in cons_both (source.program_line p) (source.program_lines ps) both.0 (rest both.1)

-- ---- of a program

some_program : (statements : List Placed) → source.broken_structure statements ≡ [] → AllIn IsNoProgram (units_of statements) → ⊥
some_program ps clean none =
    let wrong = source.wrong_programs (source.program_lines ps) in
    let ends = source.missing_end ps in
    let titles = source.wrong_titles (titles_of (cut_of ps)) 0 (cut_of ps) in
    let units = source.broken_in_units (cut_of ps) in
    let within = none_within (is_function_named (titles_of (cut_of ps))) (cut_of ps) (right_empty (wrong ++ ends ++ titles) units clean) none in
    let right = left_empty wrong ends (left_empty (wrong ++ ends) titles (left_empty (wrong ++ ends ++ titles) units clean)) in
    no_lines (source.program_lines ps) right (none_at_all ps within)
  where
    no_lines : (ls : List ℕ) → source.wrong_programs ls ≡ [] → ls ≡ [] → ⊥
    no_lines [] e h = absurd (cc)
    no_lines (l ∷ ls) e h = absurd (cc)

none_named : (us : List tree.Unit) (i : ℕ) → position_from is_main i us ≡ None → AllIn IsNoProgram us
none_named [] i e = tt
none_named (u ∷ us) i e = go (is_main u) refl e (λ h. none_named us (i + 1) h)
  where
    no : false ≡ true → ⊥
    no e = absurd (cc)

    go : (b : Bool) → is_main u ≡ b → cond b (Some i) (position_from is_main (i + 1) us) ≡ None → (position_from is_main (i + 1) us ≡ None → AllIn IsNoProgram us) → AllIn IsNoProgram (u ∷ us)
    go true is h rest = absurd (cc h)
    go false is h rest = ((λ e. no (sym is ∙ e)), rest h)

not_none : (us : List tree.Unit) (ns : List UnitNames) → Unbroken us ns → position_from is_main 0 us ≡ None → ⊥
not_none us ns h e = some_program h.statements h.structure (subst (AllIn IsNoProgram) h.units_are (none_named us 0 e))

-- the unit that is found
record IsFound (us : List tree.Unit) (i m : ℕ) : Type 0 where
  at : ℕ
  is : m ≡ i + at
  unit : tree.Unit
  here : slice_get us at ≡ Some unit
  heads : is_main unit ≡ true

found : (us : List tree.Unit) (i m : ℕ) → position_from is_main i us ≡ Some m → IsFound us i m
found [] i m e = absurd (cc)
found (u ∷ us) i m e = go (is_main u) refl e (λ h. found us (i + 1) m h)
  where
    the_number : (a b : ℕ) → Some a ≡ Some b → a ≡ b
    the_number a b e = cc

    go : (b : Bool) → is_main u ≡ b → cond b (Some i) (position_from is_main (i + 1) us) ≡ Some m → (position_from is_main (i + 1) us ≡ Some m → IsFound us (i + 1) m) → IsFound (u ∷ us) i m
    go true is h next = record { at = zero; is = omega (arith, the_number i m h); unit = u; here = refl; heads = is }
    go false is h next =
        let rest = next h in
        record { at = suc rest.at; is = omega (arith, rest.is); unit = rest.unit; here = rest.here; heads = rest.heads }

-- each unit has names
names_there : (us : List tree.Unit) (ns : List UnitNames) (k : ℕ) (u : tree.Unit) → Unbroken us ns → slice_get us k ≡ Some u → slice_get ns k ≡ None → ⊥
names_there us ns k u h here none =
    let f = unit_names (facts.titles_of us) in
    nothing (f u) (sym none ∙ ap (λ (l : List UnitNames). slice_get l k) h.names_are ∙ slice_get-map f us k ∙ ap (option_map f) here)
  where
    nothing : (n : UnitNames) → None ≡ Some n → ⊥
    nothing n e = absurd (cc)

program_is : (k : UnitKind) → is_program k ≡ true → k ≡ unit_kind.Program
program_is unit_kind.Program e = refl
program_is unit_kind.Process e = absurd (cc)
program_is unit_kind.Subroutine e = absurd (cc)
program_is unit_kind.Function e = absurd (cc)

-- the PROGRAM: its number and its unit
pub record HasMain (p : Program) : Type 0 where
  pub number : ℕ
  pub is : main_number p ≡ Some number
  pub unit : ProgramUnit
  pub here : unit_at p number ≡ Some unit
  pub heads : kind_of unit ≡ unit_kind.Program

pub main_there : (p : Program) → HasMain p
main_there p = go (main_number p) refl
  where
    counted : position_from is_main 0 p.units.units ≡ main_number p
    counted = sym (position_from-zero is_main p.units.units)

    named : (m : ℕ) (u : tree.Unit) → main_number p ≡ Some m → slice_get p.units.units m ≡ Some u → is_main u ≡ true → (o : Option UnitNames) → slice_get p.names.units m ≡ o → HasMain p
    named m u is here heads None none = absurd (from_rules p ⊥ (λ a b. absurd a) (λ h. names_there p.units.units p.names.units m u h here none))
    named m u is here heads (Some n) some = record {
      number = m;
      is = is;
      unit = record { tree = u; names = n };
      here = ap (λ (o : Option tree.Unit). unit_with o (slice_get p.names.units m)) here ∙ ap (unit_with (Some u)) some;
      heads = program_is (heading_kind u.heading.stmt) heads;
    }

    go : (o : Option ℕ) → main_number p ≡ o → HasMain p
    go None is = absurd (from_rules p ⊥ (λ a b. absurd a) (λ h. not_none p.units.units p.names.units h (counted ∙ is)))
    go (Some m) is =
        let f = found p.units.units 0 m (counted ∙ is) in
        let same : f.at ≡ m = omega (arith, f.is) in
        named m f.unit is (subst (λ k. slice_get p.units.units k ≡ Some f.unit) same f.here) f.heads (slice_get p.names.units m) refl
