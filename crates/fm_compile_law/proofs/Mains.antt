-- A checked program has one PROGRAM.
use Rattle.std.proofs.Common.{◌≡◌, ℕ, zero, suc, ◌+◌, ◌<◌, ◌≤◌, ◌==◌, Bool, true, false, cond, not, ◌&&◌, Option, Some, None, List, [], ◌∷◌, ◌++◌, length, map, slice_get, refl, sym, ap, ◌∙◌, subst, arith}
use Rattle.std.specs.Prelude.{filter, if◌then◌else◌}
use Rattle.std.specs.Coded.{le_prop}
use Rattle.std.specs.List.{cons_option}
use Rattle.fm_base.specs.declared.name.Label.{Label}
use Rattle.fm_base.specs.declared.name.Line.{Line}
use Rattle.fm_net.specs.Typed.{AllIn}
use Rattle.fm_tree.specs.Blocks.{behind, head_of, innermost}
use Rattle.fm_tree.specs.Labels.{first_executable}
use Rattle.fm_tree.specs.Layout.{ends_behind, fitted, is_parallel, label_left, laid_behind, laid_out, marks_of, own_forms, with_statement}
use Rattle.fm_tree.specs.Structure.{bracket_of, contained_form, form_of, is_end, is_process_loop, simple_form_of}
use Rattle.fm_tree.specs.Units.{cut_of, form_at, put_first, unit_of}
use Rattle.fm_tree.specs.declared.entry_mark.EntryMark.{EntryMark}
use Rattle.fm_tree.specs.declared.entry_mark.Open.{Open}
use Rattle.fm_tree.specs.declared.form.Bracket.{Bracket}
use Rattle.fm_tree.specs.declared.form.Bracket.TheVariants.{Opens, Closes, Parts, Stays}
use Rattle.fm_tree.specs.declared.form.Form.{Form}
use Rattle.fm_tree.specs.declared.form.Form.TheVariants as form
use Rattle.fm_tree.specs.declared.form.UnitKind.{UnitKind}
use Rattle.fm_tree.specs.declared.form.UnitKind.TheVariants as unit_kind
use Rattle.fm_tree.specs.declared.program_unit.Placed.{Placed}
use Rattle.fm_tree.specs.declared.program_unit.Unit as tree
use Rattle.fm_tree.specs.declared.statement.Simple.{Simple}
use Rattle.fm_tree.specs.declared.statement.Simple.TheVariants as simple
use Rattle.fm_tree.specs.declared.statement.Stmt.{Stmt}
use Rattle.fm_tree.specs.declared.statement.Stmt.TheVariants as stmt
use Rattle.fm_symbols.specs.Headings.{heading_kind}
use Rattle.fm_symbols.specs.declared.names.UnitNames.{UnitNames}
use Rattle.fm_rules.specs.BrokenStructure as source
use Rattle.fm_rules.specs.BrokenUnit.{broken_in_unit}
use Rattle.fm_rules.specs.Main.{is_main, is_program}
use Rattle.fm_rules.specs.StructureForms.{misplaced, opener_of}
use Rattle.fm_rules.specs.StructureLookups.{is_before}
use Rattle.fm_rules.specs.UnitTitles.{is_function_named, titles_of}
use Rattle.fm_rules.specs.Units.{units_of}
use Rattle.fm_rules.specs.declared.program.Program.{Program}
use Rattle.fm_mean.proofs.BodyRules.{rules_at}
use Rattle.fm_mean.proofs.MainUnit.{main_there}
use Rattle.fm_mean.proofs.Sizes.{parts_of}
use Rattle.fm_mean.proofs.Unbroken.{Unbroken, from_rules, left_empty, right_empty}
use Rattle.fm_code.specs.declared.code.Unit as code_unit
use Rattle.fm_image_typed.specs.Typed as typed
use Rattle.fm_image_typed.specs.Typed.{how_many}
use Rattle.fm_object.specs.declared.image.FieldImage.{FieldImage}
use Rattle.fm_image.specs.ImageOf.{heading_number, unit_image, units_image}

never : true ≡ false → ⊥
never e = absurd cc

-- ---- the first statement of a unit is a heading

abbrev is_heading : Form → Bool
is_heading (form.Heading k) = true
is_heading f = false

simple_plain : (s : Simple) → is_heading (simple_form_of s) ≡ false
unfolding simple_form_of
simple_plain (simple.Goto label) = refl
simple_plain simple.Continue = refl
simple_plain simple.Return = refl
simple_plain simple.Stop = refl
simple_plain (simple.Receive named port extras items) = refl
simple_plain s = refl

first_misplaced : (f : Form) (late : Bool) (heading opener : Form) → is_heading f ≡ false → misplaced f true late heading opener ≡ true
unfolding misplaced
first_misplaced (form.Heading k) late heading opener e = absurd cc
first_misplaced form.Declaration late heading opener e = refl
first_misplaced form.Processors late heading opener e = refl
first_misplaced form.Return late heading opener e = refl
first_misplaced form.ProcessCall late heading opener e = refl
first_misplaced f late heading opener e = refl

-- the first of these is no heading
record BeginsPlain (ms : List EntryMark) : Type 0 where
  mark : EntryMark
  rest : List EntryMark
  is : ms ≡ mark ∷ rest
  plain : is_heading mark.form ≡ false

plain_more : (ms ns : List EntryMark) → BeginsPlain ms → BeginsPlain (ms ++ ns)
plain_more ms ns h = record { mark = h.mark; rest = h.rest ++ ns; is = ap (λ (l : List EntryMark). l ++ ns) h.is; plain = h.plain }

fitted_plain : (f : Form) (inner : Option Open) → is_heading f ≡ false → is_heading (fitted f inner) ≡ false
fitted_plain (form.ElseIf fits) inner e = refl
fitted_plain (form.Else fits) inner e = refl
fitted_plain f inner e = e

own_plain : (line : Line) (label : Option Label) (place : ℕ) (f : Form) (contained : Option Form) (inner : Option Open) → is_heading f ≡ false → BeginsPlain (marks_of line label place (own_forms f contained inner))
own_plain line label place f (Some g) inner e = record { mark = record { line = line; label = label; form = f; place = place }; rest = marks_of line None place (g ∷ []); is = refl; plain = e }
own_plain line label place f None inner e = go (is_process_loop f && not (is_parallel inner))
  where
    go : (b : Bool) → BeginsPlain (marks_of line label place (if b then form.Wrap ∷ f ∷ [] else fitted f inner ∷ []))
    go true = record { mark = record { line = line; label = label; form = form.Wrap; place = place }; rest = marks_of line None place (f ∷ []); is = refl; plain = refl }
    go false = record { mark = record { line = line; label = label; form = fitted f inner; place = place }; rest = []; is = refl; plain = fitted_plain f inner e }

behind_plain : (entries : List EntryMark) (place : ℕ) (p : Placed) → BeginsPlain entries → BeginsPlain (with_statement Stays entries place p)
behind_plain entries place p h =
    let own = marks_of p.line p.label place (own_forms (form_of p.stmt) (contained_form p.stmt) (head_of (behind entries))) in
    plain_more (entries ++ own) (marks_of p.line None place (ends_behind p (behind (entries ++ own)))) (plain_more entries own h)

plain_with : (b : Bracket) (entries : List EntryMark) (place : ℕ) (p : Placed) → BeginsPlain entries → BeginsPlain (with_statement b entries place p)
plain_with Opens entries place p h =
    let ended = ends_behind p (behind entries) in
    let ends = marks_of p.line p.label place ended in
    plain_more (entries ++ ends) (marks_of p.line (label_left p.label ended) place (own_forms (form_of p.stmt) (contained_form p.stmt) (head_of (behind (entries ++ ends))))) (plain_more entries ends h)
plain_with Closes entries place p h = behind_plain entries place p h
plain_with Parts entries place p h = behind_plain entries place p h
plain_with Stays entries place p h = behind_plain entries place p h

plain_laid : (ps : List Placed) (entries : List EntryMark) (place : ℕ) → BeginsPlain entries → BeginsPlain (laid_behind entries place ps)
plain_laid [] entries place h = h
plain_laid (p ∷ ps) entries place h = plain_laid ps (with_statement (bracket_of (form_of p.stmt)) entries place p) (place + 1) (plain_with (bracket_of (form_of p.stmt)) entries place p h)

first_behind : (q : Placed) → is_heading (form_of q.stmt) ≡ false → BeginsPlain (with_statement Stays [] 0 q)
first_behind q e =
    let own = marks_of q.line q.label 0 (own_forms (form_of q.stmt) (contained_form q.stmt) None) in
    plain_more own (marks_of q.line None 0 (ends_behind q (behind own))) (own_plain q.line q.label 0 (form_of q.stmt) (contained_form q.stmt) None e)

plain_first : (b : Bracket) (q : Placed) → is_heading (form_of q.stmt) ≡ false → BeginsPlain (with_statement b [] 0 q)
plain_first Opens q e = own_plain q.line q.label 0 (form_of q.stmt) (contained_form q.stmt) None e
plain_first Closes q e = first_behind q e
plain_first Parts q e = first_behind q e
plain_first Stays q e = first_behind q e

begins_well : (ms : List EntryMark) → broken_in_unit ms ≡ [] → BeginsPlain ms → ⊥
begins_well ms clean h =
    let here : form_at ms 0 ≡ h.mark.form = ap (λ (l : List EntryMark). form_at l 0) h.is in
    let some : 0 < length ms = omega (arith, ap length h.is) in
    let rule = (rules_at ms clean 0 some).placed in
    let wrong = first_misplaced h.mark.form (is_before (first_executable ms) 0) (form_at ms 0) (opener_of (innermost ms 0)) h.plain in
    never (sym wrong ∙ ap (λ f. misplaced f true (is_before (first_executable ms) 0) (form_at ms 0) (opener_of (innermost ms 0))) (sym here) ∙ rule)

heading_first : (q : Placed) (qs : List Placed) → broken_in_unit (laid_out (q ∷ qs)) ≡ [] → is_heading (form_of q.stmt) ≡ true
heading_first q qs clean = go (is_heading (form_of q.stmt)) refl
  where
    go : (b : Bool) → is_heading (form_of q.stmt) ≡ b → b ≡ true
    go true is = refl
    go false is = absurd (begins_well (laid_out (q ∷ qs)) clean (plain_laid qs (with_statement (bracket_of (form_of q.stmt)) [] 0 q) (0 + 1) (plain_first (bracket_of (form_of q.stmt)) q is)))

-- ---- PROGRAM statements

program_statement : (t : Stmt) → is_heading (form_of t) ≡ true → is_program (heading_kind t) ≡ true → source.is_program_statement t ≡ true
unfolding heading_kind form_of
program_statement (stmt.Program name) h e = refl
program_statement (stmt.Simple s) h e = absurd (never (sym h ∙ simple_plain s))
program_statement t h e = absurd cc

put_length : (o : Option ℕ) (ls : List ℕ) → length (cons_option o ls) ≡ length (cons_option o []) + length ls
put_length None ls = omega arith
put_length (Some l) ls = omega arith

abbrev lines_in : List (List Placed) → ℕ
lines_in [] = 0
lines_in (c ∷ cs) = length (source.program_lines c) + lines_in cs

put_lines : (p : Placed) (cs : List (List Placed)) → lines_in (put_first p cs) ≡ length (source.program_lines (p ∷ [])) + lines_in cs
put_lines p [] = refl
put_lines p (c ∷ cs) = omega (arith, put_length (source.program_line p) (source.program_lines c))

all_lines : (ps : List Placed) → lines_in (cut_of ps) ≡ length (source.program_lines ps)
all_lines [] = refl
all_lines (p ∷ ps) = go (is_end (form_of p.stmt)) (all_lines ps)
  where
    one : length (source.program_lines (p ∷ ps)) ≡ length (source.program_lines (p ∷ [])) + length (source.program_lines ps)
    one = put_length (source.program_line p) (source.program_lines ps)

    go : (b : Bool) → lines_in (cut_of ps) ≡ length (source.program_lines ps) → lines_in (if b then (p ∷ []) ∷ cut_of ps else put_first p (cut_of ps)) ≡ length (source.program_lines (p ∷ ps))
    go true e = omega (arith, e, one)
    go false e = omega (arith, e, one, put_lines p (cut_of ps))

-- a unit that is a PROGRAM has such a line
has_line : (q : Placed) (qs : List Placed) → broken_in_unit (laid_out (q ∷ qs)) ≡ [] → is_program (heading_kind q.stmt) ≡ true → 1 ≤ length (source.program_lines (q ∷ qs))
has_line q qs clean e =
    let is = program_statement q.stmt (heading_first q qs clean) e in
    let one : length (cons_option (source.program_line q) []) ≡ 1 = ap (λ b. length (cons_option (if b then Some q.line.0 else None) [])) is in
    omega (arith, one, put_length (source.program_line q) (source.program_lines qs))

-- no unit is empty
abbrev IsSome : List Placed → Type 0
IsSome c = 0 < length c

put_some : (p : Placed) (cs : List (List Placed)) → AllIn IsSome cs → AllIn IsSome (put_first p cs)
put_some p [] h = (omega arith, tt)
put_some p (c ∷ cs) h = (omega arith, h.1)

cut_some : (ps : List Placed) → AllIn IsSome (cut_of ps)
cut_some [] = tt
cut_some (p ∷ ps) = go (is_end (form_of p.stmt)) (cut_some ps)
  where
    go : (b : Bool) → AllIn IsSome (cut_of ps) → AllIn IsSome (if b then (p ∷ []) ∷ cut_of ps else put_first p (cut_of ps))
    go true h = (omega arith, h)
    go false h = put_some p (cut_of ps) h

few_mains : (test : List ℕ → Bool) (cs : List (List Placed)) → AllIn IsSome cs → source.broken_in_units cs ≡ [] → how_many is_main (map (unit_of test) cs) ≤ lines_in cs
few_mains test [] some clean = omega arith
few_mains test ([] ∷ cs) some clean = absurd (omega (arith, some.0))
few_mains test ((q ∷ qs) ∷ cs) some clean =
    let mine = broken_in_unit (laid_out (q ∷ qs)) in
    let others = source.broken_in_units cs in
    go (is_main (unit_of test (q ∷ qs))) refl (left_empty mine others clean) (few_mains test cs some.1 (right_empty mine others clean))
  where
    go : (b : Bool) → is_main (unit_of test (q ∷ qs)) ≡ b → broken_in_unit (laid_out (q ∷ qs)) ≡ [] → how_many is_main (map (unit_of test) cs) ≤ lines_in cs
        → length (cond b (unit_of test (q ∷ qs) ∷ filter is_main (map (unit_of test) cs)) (filter is_main (map (unit_of test) cs))) ≤ length (source.program_lines (q ∷ qs)) + lines_in cs
    go true is own le = omega (arith, le, has_line q qs own is)
    go false is own le = omega (arith, le)

one_line : (ls : List ℕ) → source.wrong_programs ls ≡ [] → length ls ≤ 1
one_line [] e = omega arith
one_line (l ∷ []) e = omega arith
one_line (l ∷ m ∷ ls) e = absurd cc

at_most_one : (us : List tree.Unit) (ns : List UnitNames) → Unbroken us ns → how_many is_main us ≤ 1
at_most_one us ns h =
    let ps = h.statements in
    let wrong = source.wrong_programs (source.program_lines ps) in
    let ends = source.missing_end ps in
    let titles = source.wrong_titles (titles_of (cut_of ps)) 0 (cut_of ps) in
    let units = source.broken_in_units (cut_of ps) in
    let right = left_empty wrong ends (left_empty (wrong ++ ends) titles (left_empty (wrong ++ ends ++ titles) units h.structure)) in
    let few = few_mains (is_function_named (titles_of (cut_of ps))) (cut_of ps) (cut_some ps) (right_empty (wrong ++ ends ++ titles) units h.structure) in
    let all : how_many is_main (units_of ps) ≤ 1 = omega (arith, few, all_lines ps, one_line (source.program_lines ps) right) in
    subst (λ (l : List tree.Unit). how_many is_main l ≤ 1) (sym h.units_are) all

-- ---- one

some_main : (us : List tree.Unit) (k : ℕ) (u : tree.Unit) → slice_get us k ≡ Some u → is_main u ≡ true → 1 ≤ how_many is_main us
some_main [] k u at is = absurd cc
some_main (x ∷ us) zero u at is = go (is_main x) (ap is_main (the_unit x u at) ∙ is)
  where
    the_unit : (a b : tree.Unit) → Some a ≡ Some b → a ≡ b
    the_unit a b e = cc

    go : (b : Bool) → b ≡ true → 1 ≤ length (cond b (x ∷ filter is_main us) (filter is_main us))
    go true e = omega arith
    go false e = absurd cc
some_main (x ∷ us) (suc k) u at is = go (is_main x) (some_main us k u at is)
  where
    go : (b : Bool) → 1 ≤ how_many is_main us → 1 ≤ length (cond b (x ∷ filter is_main us) (filter is_main us))
    go true le = omega arith
    go false le = le

pub one_main : (p : Program) → how_many is_main p.units.units ≡ 1
one_main p =
    let most = from_rules p (how_many is_main p.units.units ≤ 1) le_prop (λ h. at_most_one p.units.units p.names.units h) in
    let m = main_there p in
    let some = some_main p.units.units m.number m.unit.tree (parts_of p m.number m.unit m.here).0 (ap is_program m.heads) in
    omega (arith, most, some)

-- ---- images

same_main : (q : UnitKind) → (heading_number q == 0) ≡ is_program q
same_main unit_kind.Program = refl
same_main unit_kind.Process = refl
same_main unit_kind.Subroutine = refl
same_main unit_kind.Function = refl

pub mains_alike : (ts : List (List FieldImage)) (us : List tree.Unit) (ns : List UnitNames) (cs : List code_unit.Unit) → length ns ≡ length us → length cs ≡ length us → how_many typed.is_main (units_image ts us ns cs) ≡ how_many is_main us
mains_alike ts [] ns cs e f = refl
mains_alike ts (u ∷ us) [] cs e f = absurd (omega (arith, e))
mains_alike ts (u ∷ us) (n ∷ ns) [] e f = absurd (omega (arith, f))
mains_alike ts (u ∷ us) (n ∷ ns) (c ∷ cs) e f =
    let first = unit_image ts u n c in
    let more = filter typed.is_main (units_image ts us ns cs) in
    ap (λ b. length (cond b (first ∷ more) more)) (same_main (heading_kind u.heading.stmt)) ∙ go (is_main u) (mains_alike ts us ns cs (omega (arith, e)) (omega (arith, f)))
  where
    go : (b : Bool) → how_many typed.is_main (units_image ts us ns cs) ≡ how_many is_main us
        → length (cond b (unit_image ts u n c ∷ filter typed.is_main (units_image ts us ns cs)) (filter typed.is_main (units_image ts us ns cs))) ≡ length (cond b (u ∷ filter is_main us) (filter is_main us))
    go true e = ap suc e
    go false e = e
