-- The extents of PROCESSORS: from 1 to 65,536 nodes, and none in a unit that is no PROGRAM and no PROCESS.
use Rattle.std.proofs.Common.{◌≡◌, ℕ, zero, suc, ◌+◌, ◌*◌, ◌<◌, ◌≤◌, ℤ, pos, negsuc, Bool, true, false, ◌||◌, ◌&&◌, not, Option, Some, None, List, [], ◌∷◌, ◌++◌, length, map, drop, get_or, slice_get, refl, sym, ap, ◌∙◌, subst, arith, append_assoc}
use Rattle.std.specs.Prelude.{if◌then◌else◌, is_some, nat_eq, nat_lt, int_lt, unsigned_abs, ◌+ℤ◌, ◌-ℤ◌, ◌≤ℤ◌}
use Rattle.std.specs.List.{list_any}
use Rattle.std.specs.Coded.{le_prop}
use Rattle.std.proofs.Math.Nat.{one-le-mul}
use Rattle.std.proofs.lemmas.Nat.{mul-le}
use Rattle.std.proofs.lemmas.Int.{ints}
use Rattle.fm_base.specs.Verdict.{place, when}
use Rattle.fm_base.specs.declared.name.Label.{Label}
use Rattle.fm_base.specs.declared.name.Line.{Line}
use Rattle.fm_base.specs.declared.rule.Rule.TheVariants.{E32, E33, E34}
use Rattle.fm_map.specs.Placement.{product}
use Rattle.fm_values.specs.Trips.{natural}
use Rattle.fm_values.specs.Places.{Bounds, extent, size}
use Rattle.fm_tree.specs.Tree.{Tree}
use Rattle.fm_tree.specs.declared.form.UnitKind.{UnitKind}
use Rattle.fm_tree.specs.declared.form.UnitKind.TheVariants as unit_kind
use Rattle.fm_tree.specs.declared.form.Form.{Form}
use Rattle.fm_tree.specs.declared.form.Form.TheVariants as form
use Rattle.fm_tree.specs.declared.form.Bracket.{Bracket}
use Rattle.fm_tree.specs.declared.form.Bracket.TheVariants.{Opens, Closes, Parts, Stays}
use Rattle.fm_tree.specs.declared.entry_mark.EntryMark.{EntryMark}
use Rattle.fm_tree.specs.declared.entry_mark.Open.{Open}
use Rattle.fm_tree.specs.declared.program_unit.Placed.{Placed}
use Rattle.fm_tree.specs.declared.program_unit.Unit as tree
use Rattle.fm_tree.specs.declared.statement.Stmt.{Stmt}
use Rattle.fm_tree.specs.declared.statement.Stmt.TheVariants as stmt
use Rattle.fm_tree.specs.Structure.{bracket_of, contained_form, form_of, is_executable, is_process_loop}
use Rattle.fm_tree.specs.Labels.{first_executable}
use Rattle.fm_tree.specs.Blocks.{behind, head_of, innermost}
use Rattle.fm_tree.specs.Layout.{ends_behind, fitted, is_parallel, label_left, laid_behind, laid_out, marks_of, own_forms, with_statement}
use Rattle.fm_tree.specs.Units.{before_body, blank_mark, blank_statement, cut_of, form_at, unit_of}
use Rattle.fm_symbols.specs.ByName.{ByName}
use Rattle.fm_symbols.specs.Headings.{heading_kind}
use Rattle.fm_symbols.specs.declared.names.UnitNames.{UnitNames}
use Rattle.fm_rules.specs.declared.constants.Known.{Known}
use Rattle.fm_rules.specs.declared.constants.Types.{Types}
use Rattle.fm_rules.specs.Bounds.{Dimension, machine_dimension, then_known, all_known, count, is_inverted, node_count, machine_shape, extents_or, extents_from}
use Rattle.fm_rules.specs.BrokenConstants as constants
use Rattle.fm_rules.specs.BrokenConstants.{broken_decls, broken_message, broken_definitions, broken_machine, broken_statement, is_bad}
use Rattle.fm_rules.specs.BrokenNames.{broken_in, untyped_in, is_long}
use Rattle.fm_rules.specs.BrokenStructure as source
use Rattle.fm_rules.specs.BrokenUnit.{broken_in_unit}
use Rattle.fm_rules.specs.ConstantParts.{decls_of, port_type_in, definitions_in, machine_in}
use Rattle.fm_rules.specs.Declarations.{declared_twice_in, is_processors}
use Rattle.fm_rules.specs.FunctionTitles as facts
use Rattle.fm_rules.specs.NameTypes.{types_of}
use Rattle.fm_rules.specs.Names.{unit_names}
use Rattle.fm_rules.specs.Sheets.{sheet_of}
use Rattle.fm_rules.specs.StructureForms.{has_processors, misplaced, opener_of}
use Rattle.fm_rules.specs.StructureLookups.{is_before}
use Rattle.fm_rules.specs.UnitTitles.{is_function_named, titles_of}
use Rattle.fm_rules.specs.declared.program.Program.{Program}
use Rattle.fm_mean.specs.Names.{ProgramUnit, unit_at, kind_of}
use Rattle.fm_mean.proofs.BodyRules.{rules_at}
use Rattle.fm_mean.proofs.Members.{from_map}
use Rattle.fm_mean.proofs.Sizes.{not_more, parts_of, the_names}
use Rattle.fm_mean.proofs.Unbroken.{Unbroken, from_rules, left_empty, right_empty, each_empty, not_when, or_left, or_right}

never : true ≡ false → ⊥
never e = absurd (cc)

not_false : (b : Bool) → not b ≡ false → b ≡ true
not_false true e = refl
not_false false e = absurd (cc e)

-- ---- from 1 to 65,536 nodes

abbrev pub AreNodes : List ℕ → Type 0
AreNodes es = (1 ≤ product es) × (product es ≤ 65536)

natural_next : (z : ℤ) → pos 0 ≤ℤ z → natural (z +ℤ pos 1) ≡ suc (unsigned_abs z)
natural_next (pos n) h = omega arith
natural_next (negsuc n) h = absurd (omega (arith, ints, h))

extent_some : (b : ℤ × ℤ) → int_lt b.1 b.0 ≡ false → 1 ≤ extent b
extent_some b e =
    let up : b.0 ≤ℤ b.1 = grind (arith, ints) in
    omega (arith, natural_next (b.1 -ℤ b.0) (omega (arith, ints, up)))

the_bounds : (a b : Bounds) → Some a ≡ Some b → a ≡ b
the_bounds a b e = cc

-- no more nodes than elements, and one at least
module _ (f : Tree → Dimension) where
  abbrev counts : List Tree → List ℕ
  counts es = map (λ x. node_count (f x)) es

  nodes_below : (es : List Tree) (bs : Bounds) → list_any is_inverted (map f es) ≡ false → all_known (map f es) ≡ Some bs → (1 ≤ product (counts es)) × (product (counts es) ≤ size bs)
  nodes_below [] bs up is = (omega arith, subst (λ (bs : Bounds). 1 ≤ size bs) (the_bounds [] bs is) (omega arith))
  nodes_below (e ∷ es) bs up is = go (f e) (all_known (map f es)) refl up is (λ cs straight h. nodes_below es cs straight h)
    where
      go : (d : Dimension) (o : Option Bounds) → all_known (map f es) ≡ o → list_any is_inverted (d ∷ map f es) ≡ false → then_known d o ≡ Some bs
          → ((cs : Bounds) → list_any is_inverted (map f es) ≡ false → all_known (map f es) ≡ Some cs → (1 ≤ product (counts es)) × (product (counts es) ≤ size cs))
          → (1 ≤ node_count d * product (counts es)) × (node_count d * product (counts es) ≤ size bs)
      go None o at up is rest = absurd (cc is)
      go (Some b) None at up is rest = absurd (cc is)
      go (Some b) (Some cs) at up is rest =
          let some : 1 ≤ extent b = extent_some b (or_left (is_inverted (Some b)) (list_any is_inverted (map f es)) up) in
          let others = rest cs (or_right (is_inverted (Some b)) (list_any is_inverted (map f es)) up) at in
          (one-le-mul some others.0, subst (λ (bs : Bounds). extent b * product (counts es) ≤ size bs) (the_bounds (b ∷ cs) bs is) (mul-le (extent b) (product (counts es)) (extent b) (size cs) (omega arith) others.1))

shape_nodes : (known : ByName Known) (at line : ℕ) (es : List Tree) → broken_machine known at line es ≡ [] → AreNodes (map (λ x. node_count (machine_dimension known at x)) es)
shape_nodes known at line es e =
    let s = machine_shape known at es in
    let bad = when (is_bad 3 s) (place line E32) in
    let unknown = when (not s.known) (place line E33) in
    let fine = not_when (is_bad 3 s) (place line E32) (left_empty bad unknown e) in
    let is = not_when (not s.known) (place line E33) (right_empty bad unknown e) in
    let rest = or_right (nat_lt 3 s.dimensions) (s.inverted || nat_lt 65536 s.elements) fine in
    go (all_known (map (machine_dimension known at) es)) refl is (or_left s.inverted (nat_lt 65536 s.elements) rest) (or_right s.inverted (nat_lt 65536 s.elements) rest)
  where
    go : (o : Option Bounds) → all_known (map (machine_dimension known at) es) ≡ o → not (is_some (all_known (map (machine_dimension known at) es))) ≡ false
        → list_any is_inverted (map (machine_dimension known at) es) ≡ false → nat_lt 65536 (machine_shape known at es).elements ≡ false → AreNodes (map (λ x. node_count (machine_dimension known at x)) es)
    go None at' is up few = absurd (never (sym (ap (λ o. not (is_some o)) at') ∙ is))
    go (Some bs) at' is up few =
        let below = nodes_below (machine_dimension known at) es bs up at' in
        let small : size bs ≤ 65536 = not_more (size bs) (sym (ap (λ o. nat_lt 65536 (count o)) at') ∙ few) in
        (below.0, omega (arith, below.1, small))

extents_nodes : (known : ByName Known) (types : Types) (at : ℕ) (ps : List Placed) → constants.broken_from known types at ps ≡ [] → AreNodes (extents_from known at ps)
extents_nodes known types at [] e = (omega arith, omega arith)
extents_nodes known types at (p ∷ ps) e =
    let here = left_empty (broken_statement known types at p) (constants.broken_from known types (at + 1) ps) e in
    let ds = broken_decls known at p.line.0 (decls_of p.stmt) in
    let message = broken_message known at p.line.0 (port_type_in p.stmt) in
    let definitions = broken_definitions known types at p.line.0 0 (definitions_in p.stmt) in
    go (machine_in p.stmt) (right_empty (ds ++ message ++ definitions) (broken_machine known at p.line.0 (machine_in p.stmt)) here)
    (extents_nodes known types (at + 1) ps (right_empty (broken_statement known types at p) (constants.broken_from known types (at + 1) ps) e))
  where
    go : (es : List Tree) → broken_machine known at p.line.0 es ≡ [] → AreNodes (extents_from known (at + 1) ps) → AreNodes (extents_or known at es (extents_from known (at + 1) ps))
    go [] m rest = rest
    go (t ∷ ts) m rest = shape_nodes known at p.line.0 (t ∷ ts) m

names_nodes : (titles : ByName Bool) (u : tree.Unit) → broken_in titles u ≡ [] → AreNodes (unit_names titles u).extents
names_nodes titles u e =
    let s = sheet_of u in
    let known = (sheet_of u).known in
    let twice = declared_twice_in titles u in
    let constants = constants.broken_from known (types_of u.specs) 0 u.specs in
    let untyped = untyped_in titles u.heading.stmt s in
    let long = when (is_long titles u.heading.stmt s) (place u.heading.line.0 E34) in
    let none = right_empty twice constants (left_empty (twice ++ constants) untyped (left_empty (twice ++ constants ++ untyped) long e)) in
    extents_nodes known (types_of u.specs) 0 u.specs none

nodes_there : (us : List tree.Unit) (ns : List UnitNames) (k : ℕ) (n : UnitNames) → Unbroken us ns → slice_get ns k ≡ Some n → AreNodes n.extents
nodes_there us ns k n h is =
    let t = facts.titles_of us in
    let at = the_names t us k n (subst (λ (l : List UnitNames). slice_get l k ≡ Some n) h.names_are is) in
    subst (λ (n : UnitNames). AreNodes n.extents) at.2 (names_nodes t at.0 (each_empty (broken_in t) us k at.0 h.names at.1))

-- the extents of a unit make from 1 to 65,536 nodes
pub unit_nodes : (p : Program) (n : ℕ) (u : ProgramUnit) → unit_at p n ≡ Some u → AreNodes u.names.extents
unit_nodes p n u is = from_rules p (AreNodes u.names.extents) (hlevel (le_prop, le_prop)) (λ h. nodes_there p.units.units p.names.units n u.names h (parts_of p n u is).1)

-- ---- lists

got_left : {X : Type 0} (xs ys : List X) (k : ℕ) (d : X) → k < length xs → get_or (xs ++ ys) k d ≡ get_or xs k d
got_left [] ys k d h = absurd (omega (arith, h))
got_left (x ∷ xs) ys zero d h = refl
got_left (x ∷ xs) ys (suc k) d h = got_left xs ys k d (omega (arith, h))

got_next : {X : Type 0} (xs : List X) (y : X) (ys : List X) (d : X) → get_or (xs ++ y ∷ ys) (length xs) d ≡ y
got_next [] y ys d = refl
got_next (x ∷ xs) y ys d = got_next xs y ys d

longer : {X : Type 0} (xs ys : List X) → length (xs ++ ys) ≡ length xs + length ys
longer [] ys = omega arith
longer (x ∷ xs) ys = omega (arith, longer xs ys)

-- ---- statements make entries behind those that are there

own_some : (line : Line) (label : Option Label) (place : ℕ) (f : Form) (contained : Option Form) (inner : Option Open) → 1 ≤ length (marks_of line label place (own_forms f contained inner))
own_some line label place f (Some g) inner = omega arith
own_some line label place f None inner =
    elim (is_process_loop f && not (is_parallel inner)) as (λ (b : Bool). 1 ≤ length (marks_of line label place (if b then form.Wrap ∷ f ∷ [] else fitted f inner ∷ []))) [ true ↦ omega arith | false ↦ omega arith ]

record Adds (entries all : List EntryMark) : Type 0 where
  more : List EntryMark
  is : all ≡ entries ++ more
  some : 1 ≤ length more

module _ (entries : List EntryMark) (place : ℕ) (p : Placed) where
  abbrev own_at : Option Label → List EntryMark → List EntryMark
  own_at label es = marks_of p.line label place (own_forms (form_of p.stmt) (contained_form p.stmt) (head_of (behind es)))

  adds_behind : Adds entries (with_statement Stays entries place p)
  adds_behind =
      let own = own_at p.label entries in
      let ends = marks_of p.line None place (ends_behind p (behind (entries ++ own))) in
      record {
        more = own ++ ends;
        is = append_assoc entries own ends;
        some = omega (arith, longer own ends, own_some p.line p.label place (form_of p.stmt) (contained_form p.stmt) (head_of (behind entries)));
      }

  adds_opener : Adds entries (with_statement Opens entries place p)
  adds_opener =
      let ended = ends_behind p (behind entries) in
      let ends = marks_of p.line p.label place ended in
      let own = own_at (label_left p.label ended) (entries ++ ends) in
      record {
        more = ends ++ own;
        is = append_assoc entries ends own;
        some = omega (arith, longer ends own, own_some p.line (label_left p.label ended) place (form_of p.stmt) (contained_form p.stmt) (head_of (behind (entries ++ ends))));
      }

  adds : (b : Bracket) → Adds entries (with_statement b entries place p)
  adds Opens = adds_opener
  adds Closes = adds_behind
  adds Parts = adds_behind
  adds Stays = adds_behind

-- the first entry stays the first
first_kept : (ps : List Placed) (entries : List EntryMark) (place : ℕ) → 1 ≤ length entries → form_at (laid_behind entries place ps) 0 ≡ form_at entries 0
first_kept [] entries place some = refl
first_kept (p ∷ ps) entries place some =
    let a = adds entries place p (bracket_of (form_of p.stmt)) in
    first_kept ps (with_statement (bracket_of (form_of p.stmt)) entries place p) (place + 1) (omega (arith, longer entries a.more, ap length a.is, some))
    ∙ ap (λ ms. form_at ms 0) a.is ∙ ap (λ (m : EntryMark). m.form) (got_left entries a.more 0 blank_mark (omega (arith, some)))

first_own : (q : Placed) (k : UnitKind) → own_forms (form_of q.stmt) (contained_form q.stmt) None ≡ form.Heading k ∷ [] → (form_at (with_statement Stays [] 0 q) 0 ≡ form.Heading k) × (1 ≤ length (with_statement Stays [] 0 q))
first_own q k is =
    let own = marks_of q.line q.label 0 (own_forms (form_of q.stmt) (contained_form q.stmt) None) in
    let ends = marks_of q.line None 0 (ends_behind q (behind own)) in
    let m : EntryMark = record { line = q.line; label = q.label; form = form.Heading k; place = 0 } in
    let alone : own ≡ m ∷ [] = ap (marks_of q.line q.label 0) is in
    let one : length own ≡ 1 = ap length alone in
    (ap (λ (m : EntryMark). m.form) (got_left own ends 0 blank_mark (omega (arith, one))) ∙ ap (λ es. form_at es 0) alone, omega (arith, longer own ends, one))

first_form : (q : Placed) (qs : List Placed) (k : UnitKind) → own_forms (form_of q.stmt) (contained_form q.stmt) None ≡ form.Heading k ∷ [] → bracket_of (form_of q.stmt) ≡ Stays → form_at (laid_out (q ∷ qs)) 0 ≡ form.Heading k
first_form q qs k is stays =
    let both = subst (λ (b : Bracket). (form_at (with_statement b [] 0 q) 0 ≡ form.Heading k) × (1 ≤ length (with_statement b [] 0 q))) (sym stays) (first_own q k is) in
    first_kept qs (with_statement (bracket_of (form_of q.stmt)) [] 0 q) (0 + 1) both.1 ∙ both.0

-- ---- an entry of PROCESSORS

record IsAsked (ms : List EntryMark) : Type 0 where
  at : ℕ
  within : at < length ms
  asks : (get_or ms at blank_mark).form ≡ form.Processors

asked_more : (ms ns : List EntryMark) → IsAsked ms → IsAsked (ms ++ ns)
asked_more ms ns h = record {
  at = h.at;
  within = omega (arith, h.within, longer ms ns);
  asks = ap (λ (m : EntryMark). m.form) (got_left ms ns h.at blank_mark h.within) ∙ h.asks;
}

asked_kept : (ps : List Placed) (entries : List EntryMark) (place : ℕ) → IsAsked entries → IsAsked (laid_behind entries place ps)
asked_kept [] entries place h = h
asked_kept (p ∷ ps) entries place h =
    let a = adds entries place p (bracket_of (form_of p.stmt)) in
    asked_kept ps (with_statement (bracket_of (form_of p.stmt)) entries place p) (place + 1) (subst IsAsked (sym a.is) (asked_more entries a.more h))

processors_own : (t : Stmt) (inner : Option Open) → is_processors t ≡ true → own_forms (form_of t) (contained_form t) inner ≡ form.Processors ∷ []
unfolding form_of contained_form is_processors
processors_own (stmt.Processors es) inner e = refl
processors_own t inner e = absurd (cc e)

processors_stays : (t : Stmt) → is_processors t ≡ true → bracket_of (form_of t) ≡ Stays
unfolding form_of bracket_of is_processors
processors_stays (stmt.Processors es) e = refl
processors_stays t e = absurd (cc e)

asked_here : (p : Placed) (entries : List EntryMark) (place : ℕ) → is_processors p.stmt ≡ true → IsAsked (with_statement Stays entries place p)
asked_here p entries place is =
    let own = marks_of p.line p.label place (own_forms (form_of p.stmt) (contained_form p.stmt) (head_of (behind entries))) in
    let ends = marks_of p.line None place (ends_behind p (behind (entries ++ own))) in
    let m : EntryMark = record { line = p.line; label = p.label; form = form.Processors; place = place } in
    let alone : own ≡ m ∷ [] = ap (marks_of p.line p.label place) (processors_own p.stmt (head_of (behind entries)) is) in
    let here : get_or (entries ++ own) (length entries) blank_mark ≡ m = ap (λ es. get_or (entries ++ es) (length entries) blank_mark) alone ∙ got_next entries m [] blank_mark in
    let inside : length entries < length (entries ++ own) = omega (arith, longer entries own, ap length alone) in
    asked_more (entries ++ own) ends (record { at = length entries; within = inside; asks = ap (λ (m : EntryMark). m.form) here })

-- one of these statements is PROCESSORS
abbrev some_ask : List Placed → Bool
some_ask [] = false
some_ask (p ∷ ps) = is_processors p.stmt || some_ask ps

asked_found : (ps : List Placed) (entries : List EntryMark) (place : ℕ) → some_ask ps ≡ true → IsAsked (laid_behind entries place ps)
asked_found [] entries place e = absurd (cc e)
asked_found (p ∷ ps) entries place e = go (is_processors p.stmt) refl e (λ h. asked_found ps (with_statement (bracket_of (form_of p.stmt)) entries place p) (place + 1) h)
  where
    go : (b : Bool) → is_processors p.stmt ≡ b → (b || some_ask ps) ≡ true → (some_ask ps ≡ true → IsAsked (laid_behind entries place (p ∷ ps))) → IsAsked (laid_behind entries place (p ∷ ps))
    go true is h rest =
        asked_kept ps (with_statement (bracket_of (form_of p.stmt)) entries place p) (place + 1)
        (subst (λ (b : Bracket). IsAsked (with_statement b entries place p)) (sym (processors_stays p.stmt is)) (asked_here p entries place is))
    go false is h rest = rest h

-- ---- units without

-- a unit that may say PROCESSORS
abbrev pub may_ask : UnitKind → Bool
may_ask unit_kind.Program = true
may_ask unit_kind.Process = true
may_ask unit_kind.Subroutine = false
may_ask unit_kind.Function = false

record IsOther (t : Stmt) : Type 0 where
  kind : UnitKind
  own : own_forms (form_of t) (contained_form t) None ≡ form.Heading kind ∷ []
  stays : bracket_of (form_of t) ≡ Stays
  none : has_processors (form.Heading kind) ≡ false

other_heading : (t : Stmt) → may_ask (heading_kind t) ≡ false → IsOther t
unfolding form_of contained_form bracket_of heading_kind has_processors
other_heading (stmt.Subroutine name formals) e = record { kind = unit_kind.Subroutine; own = refl; stays = refl; none = refl }
other_heading (stmt.Function name formals) e = record { kind = unit_kind.Function; own = refl; stays = refl; none = refl }
other_heading (stmt.IntegerFunction name formals) e = record { kind = unit_kind.Function; own = refl; stays = refl; none = refl }
other_heading (stmt.LogicalFunction name formals) e = record { kind = unit_kind.Function; own = refl; stays = refl; none = refl }
other_heading t e = absurd (cc e)

processors_placed : (f : Form) (first late : Bool) (heading opener : Form) → f ≡ form.Processors → misplaced f first late heading opener ≡ false → has_processors heading ≡ true
unfolding misplaced
processors_placed form.Processors first late heading opener is e = not_false (has_processors heading) (or_right late (not (has_processors heading)) (or_right first (late || not (has_processors heading)) e))
processors_placed f first late heading opener is e = absurd (cc is)

never_asked : (q : Placed) (qs : List Placed) → broken_in_unit (laid_out (q ∷ qs)) ≡ [] → IsOther q.stmt → IsAsked (laid_out (q ∷ qs)) → ⊥
never_asked q qs clean other h =
    let ms = laid_out (q ∷ qs) in
    let rule = (rules_at ms clean h.at h.within).placed in
    let heads = processors_placed (form_at ms h.at) (nat_eq h.at 0) (is_before (first_executable ms) h.at) (form_at ms 0) (opener_of (innermost ms h.at)) h.asks rule in
    never (sym heads ∙ ap has_processors (first_form q qs other.kind other.own other.stays) ∙ other.none)

no_machine : (t : Stmt) → is_processors t ≡ false → machine_in t ≡ []
unfolding is_processors machine_in
no_machine (stmt.Processors es) e = absurd (cc e)
no_machine t e = refl

no_extents : (known : ByName Known) (at : ℕ) (ps : List Placed) → some_ask ps ≡ false → extents_from known at ps ≡ []
no_extents known at [] e = refl
no_extents known at (p ∷ ps) e =
    ap (λ es. extents_or known at es (extents_from known (at + 1) ps)) (no_machine p.stmt (or_left (is_processors p.stmt) (some_ask ps) e)) ∙ no_extents known (at + 1) ps (or_right (is_processors p.stmt) (some_ask ps) e)

none_before : (ps : List Placed) → some_ask ps ≡ false → some_ask (before_body ps) ≡ false
none_before [] e = refl
none_before (p ∷ ps) e =
    let rest = none_before ps (or_right (is_processors p.stmt) (some_ask ps) e) in
    let both : (is_processors p.stmt || some_ask (before_body ps)) ≡ false = ap (λ b. b || some_ask (before_body ps)) (or_left (is_processors p.stmt) (some_ask ps) e) ∙ rest in
    elim (is_executable (form_of p.stmt)) as (λ (b : Bool). some_ask (if b then [] else p ∷ before_body ps) ≡ false) [ true ↦ refl | false ↦ both ]

none_dropped : (ps : List Placed) → some_ask ps ≡ false → some_ask (drop 1 ps) ≡ false
none_dropped [] e = refl
none_dropped (p ∷ ps) e = or_right (is_processors p.stmt) (some_ask ps) e

other_extents : (c : List Placed) → broken_in_unit (laid_out c) ≡ [] → may_ask (heading_kind (get_or c 0 blank_statement).stmt) ≡ false → (known : ByName Known) → extents_from known 0 (drop 1 (before_body c)) ≡ []
other_extents [] clean other known = refl
other_extents (q ∷ qs) clean other known = go (some_ask (q ∷ qs)) refl
  where
    go : (b : Bool) → some_ask (q ∷ qs) ≡ b → extents_from known 0 (drop 1 (before_body (q ∷ qs))) ≡ []
    go true is = absurd (never_asked q qs clean (other_heading q.stmt other) (asked_found (q ∷ qs) [] 0 is))
    go false is = no_extents known 0 (drop 1 (before_body (q ∷ qs))) (none_dropped (before_body (q ∷ qs)) (none_before (q ∷ qs) is))

unit_without : (us : List tree.Unit) (ns : List UnitNames) → Unbroken us ns → (n : ℕ) (u : tree.Unit) → slice_get us n ≡ Some u → may_ask (heading_kind u.heading.stmt) ≡ false → (known : ByName Known) → extents_from known 0 u.specs ≡ []
unit_without us ns h n u at other known =
    let ps = h.statements in
    let test = is_function_named (titles_of (cut_of ps)) in
    let x = from_map (unit_of test) (cut_of ps) n u (subst (λ (l : List tree.Unit). slice_get l n ≡ Some u) h.units_are at) in
    let wrong = source.wrong_programs (source.program_lines ps) in
    let ends = source.missing_end ps in
    let titles = source.wrong_titles (titles_of (cut_of ps)) 0 (cut_of ps) in
    let units = source.broken_in_units (cut_of ps) in
    let clean = each_empty (λ (c : List Placed). broken_in_unit (laid_out c)) (cut_of ps) n x.0 (right_empty (wrong ++ ends ++ titles) units h.structure) x.1 in
    subst (λ (u : tree.Unit). may_ask (heading_kind u.heading.stmt) ≡ false → extents_from known 0 u.specs ≡ []) x.2 (λ other. other_extents x.0 clean other known) other

names_without : (us : List tree.Unit) (ns : List UnitNames) → Unbroken us ns → (k : ℕ) (u : tree.Unit) (n : UnitNames) → slice_get us k ≡ Some u → slice_get ns k ≡ Some n → may_ask (heading_kind u.heading.stmt) ≡ false → n.extents ≡ []
names_without us ns h k u n here is other =
    let t = facts.titles_of us in
    let at = the_names t us k n (subst (λ (l : List UnitNames). slice_get l k ≡ Some n) h.names_are is) in
    let same : u ≡ at.0 = the_unit u at.0 (sym here ∙ at.1) in
    sym (ap (λ (n : UnitNames). n.extents) at.2) ∙ unit_without us ns h k at.0 at.1 (subst (λ (u : tree.Unit). may_ask (heading_kind u.heading.stmt) ≡ false) same other) (sheet_of at.0).known
  where
    the_unit : (a b : tree.Unit) → Some a ≡ Some b → a ≡ b
    the_unit a b e = cc

-- a unit that is no PROGRAM and no PROCESS has no extents
pub other_without : (p : Program) (n : ℕ) (u : ProgramUnit) → unit_at p n ≡ Some u → may_ask (kind_of u) ≡ false → u.names.extents ≡ []
other_without p n u is other = go u.names.extents refl
  where
    some : (e : ℕ) (es : List ℕ) → e ∷ es ≡ [] → ⊥
    some e es h = absurd (cc)

    go : (es : List ℕ) → u.names.extents ≡ es → u.names.extents ≡ []
    go [] at = at
    go (e ∷ es) at = absurd (from_rules p ⊥ (λ a b. absurd a) (λ h. some e es (sym at ∙ names_without p.units.units p.names.units h n u.tree u.names (parts_of p n u is).0 (parts_of p n u is).1 other)))
