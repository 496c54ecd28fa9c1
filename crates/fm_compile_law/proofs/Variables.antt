-- The names of the variables of a program that was read are names of the language.
use Rattle.std.proofs.Common.{◌≡◌, ℕ, zero, suc, ◌+◌, Bool, true, false, cond, Some, List, [], ◌∷◌, ◌++◌, map, take, drop, slice_get, slice_index_or, sym, subst}
use Rattle.std.specs.Prelude.{filter}
use Rattle.std.specs.List.{enumerate_from, flat_map}
use Rattle.fm_base.specs.declared.name.Line.{Line}
use Rattle.fm_cards.specs.declared.card.Card.{Card}
use Rattle.fm_cards.specs.Cards.{cards_of}
use Rattle.fm_net.specs.Typed.{AllIn}
use Rattle.fm_mean.proofs.Sizes.{all_append, parts_of}
use Rattle.fm_tree.specs.Layout.{contained_in, statement_of, test_of}
use Rattle.fm_tree.specs.Statements.{spelling_of}
use Rattle.fm_tree.specs.Structure.{form_of, is_end, is_executable}
use Rattle.fm_tree.specs.Units.{before_body, blank_statement, body_of, cut_of, entries_from, mark_at, put_first, unit_of}
use Rattle.fm_tree.specs.Layout as layout
use Rattle.fm_tree.specs.declared.entry_mark.EntryMark.{EntryMark}
use Rattle.fm_tree.specs.declared.form.Form.{Form}
use Rattle.fm_tree.specs.declared.form.Form.TheVariants as form
use Rattle.fm_tree.specs.declared.program_unit.Entry.{Entry}
use Rattle.fm_tree.specs.declared.program_unit.Placed.{Placed}
use Rattle.fm_tree.specs.declared.program_unit.Unit.{Unit}
use Rattle.fm_tree.specs.declared.statement.Stmt.{Stmt}
use Rattle.fm_tree.specs.declared.statement.Stmt.TheVariants as stmt
use Rattle.fm_symbols.specs.ByName.{ByName}
use Rattle.fm_symbols.specs.declared.names.UnitNames.{UnitNames}
use Rattle.fm_symbols.specs.declared.names.Variable.{Variable}
use Rattle.fm_rules.specs.FunctionTitles as functions
use Rattle.fm_rules.specs.Names.{unit_names}
use Rattle.fm_rules.specs.Occurrences.{in_entry, in_placed, is_first, occurrence, occurrences, stands_in}
use Rattle.fm_rules.specs.Arrays.{is_array}
use Rattle.fm_rules.specs.Constants.{constants_of}
use Rattle.fm_rules.specs.Sheets.{arrays_of, sheet_of}
use Rattle.fm_rules.specs.UnitTitles.{is_function_named, titles_of}
use Rattle.fm_rules.specs.Units.{units_of}
use Rattle.fm_rules.specs.Variables.{laid_out, names_variable, those_that, variables_among, words_of}
use Rattle.fm_rules.specs.declared.program.Program.{Program}
use Rattle.fm_rules.specs.declared.sheet.Occurrence.{Occurrence}
use Rattle.fm_rules.specs.declared.sheet.Sheet.{Sheet}
use Rattle.fm_verdict.specs.Program.{IsCheckedOf}
use Rattle.fm_verdict.specs.Verdict.{AreStatementsOf}
use Rattle.fm_object.specs.Texts.{IsName}
use Rattle.fm_image.specs.ImageOf.{NamesAreNames}
use Rattle.fm_compile_law.proofs.Cuts.{AreGood, spelled_good}
use Rattle.fm_compile_law.proofs.Spelled.{AreNames, contained_good, stands_named, test_good}

-- ---- statements

abbrev IsGoodStatement : Placed → Type 0
IsGoodStatement p = AreGood (spelling_of p.stmt)

read_good : (cs : List Card) (ps : List Placed) → AreStatementsOf cs ps → AllIn IsGoodStatement ps
read_good [] [] h = tt
read_good [] (p ∷ ps) h = absurd h
read_good (c ∷ cs) [] h = absurd h
read_good (c ∷ cs) (p ∷ ps) h = let t = h.0.tree in (spelled_good c.text t.0 p.stmt t.1.0 t.1.1, read_good cs ps h.1)

-- ---- units

first_good : (p : Placed) (us : List (List Placed)) → IsGoodStatement p → AllIn (AllIn IsGoodStatement) us → AllIn (AllIn IsGoodStatement) (put_first p us)
first_good p [] g h = ((g, tt), tt)
first_good p (u ∷ us) g h = ((g, h.0), h.1)

cut_good : (ps : List Placed) → AllIn IsGoodStatement ps → AllIn (AllIn IsGoodStatement) (cut_of ps)
cut_good [] h = tt
cut_good (p ∷ ps) h = go (is_end (form_of p.stmt)) (cut_good ps h.1)
  where
    go : (b : Bool) → AllIn (AllIn IsGoodStatement) (cut_of ps) → AllIn (AllIn IsGoodStatement) (cond b ((p ∷ []) ∷ cut_of ps) (put_first p (cut_of ps)))
    go true more = ((h.0, tt), more)
    go false more = first_good p (cut_of ps) h.0 more

at_good : (ps : List Placed) (i : ℕ) → AllIn IsGoodStatement ps → IsGoodStatement (slice_index_or ps i blank_statement)
at_good [] i h = (tt, tt)
at_good (p ∷ ps) zero h = h.0
at_good (p ∷ ps) (suc i) h = at_good ps i h.1

behind_good : (n : ℕ) (ps : List Placed) → AllIn IsGoodStatement ps → AllIn IsGoodStatement (drop n ps)
behind_good zero ps h = h
behind_good (suc n) [] h = tt
behind_good (suc n) (p ∷ ps) h = behind_good n ps h.1

before_good : (ps : List Placed) → AllIn IsGoodStatement ps → AllIn IsGoodStatement (before_body ps)
before_good [] h = tt
before_good (p ∷ ps) h = go (is_executable (form_of p.stmt)) (before_good ps h.1)
  where
    go : (b : Bool) → AllIn IsGoodStatement (before_body ps) → AllIn IsGoodStatement (cond b [] (p ∷ before_body ps))
    go true more = tt
    go false more = (h.0, more)

tested : (s : Stmt) → AreGood (spelling_of s) → AreGood (spelling_of (test_of s))
unfolding test_of
tested (stmt.LogicalIf e s) h = test_good e s h
tested s h = h

contained : (s : Stmt) → AreGood (spelling_of s) → AreGood (spelling_of (contained_in s))
unfolding contained_in
contained (stmt.LogicalIf e s) h = contained_good e s h
contained s h = h

formed : (f : Form) (s : Stmt) → AreGood (spelling_of s) → AreGood (spelling_of (statement_of f s))
unfolding statement_of
formed form.Wrap s h = (tt, tt)
formed form.EndWrap s h = (tt, tt)
formed (form.LoopEnd t) s h = tt
formed form.Test s h = tested s h
formed f s h = contained s h

abbrev IsGoodEntry : Entry → Type 0
IsGoodEntry e = AreGood (spelling_of e.stmt)

entries_good : (test : List ℕ → Bool) (ps : List Placed) (all : List EntryMark) (k : ℕ) (es : List EntryMark) → AllIn IsGoodStatement ps → AllIn IsGoodEntry (entries_from test ps all k es)
entries_good test ps all k [] h = tt
entries_good test ps all k (e ∷ es) h =
    let here = mark_at all k in
    (formed here.form (slice_index_or ps here.place blank_statement).stmt (at_good ps here.place h), entries_good test ps all (k + 1) es h)

record IsGoodUnit (u : Unit) : Type 0 where
  heading : IsGoodStatement u.heading
  specs : AllIn IsGoodStatement u.specs
  body : AllIn IsGoodEntry u.body

unit_good : (test : List ℕ → Bool) (ps : List Placed) → AllIn IsGoodStatement ps → IsGoodUnit (unit_of test ps)
unit_good test ps h =
    let body = body_of (layout.laid_out ps) in
    record { heading = at_good ps 0 h; specs = behind_good 1 (before_body ps) (before_good ps h); body = entries_good test ps body 0 body h }

all_good : (test : List ℕ → Bool) (us : List (List Placed)) → AllIn (AllIn IsGoodStatement) us → AllIn IsGoodUnit (map (unit_of test) us)
all_good test [] h = tt
all_good test (u ∷ us) h = (unit_good test u h.0, all_good test us h.1)

-- ---- names that stand in a unit

abbrev IsNamed : Occurrence → Type 0
IsNamed o = IsName o.name

at_line : (line : Line) (ns : List (List ℕ)) → AreNames ns → AllIn IsNamed (map (occurrence line) ns)
at_line line [] h = tt
at_line line (n ∷ ns) h = (h.0, at_line line ns h.1)

module _ (array : List ℕ → Bool) where
  placed_named : (p : Placed) → IsGoodStatement p → AllIn IsNamed (in_placed array p)
  placed_named p h = at_line p.line (stands_in array p.stmt) (stands_named array p.stmt h)

  specs_named : (ps : List Placed) → AllIn IsGoodStatement ps → AllIn IsNamed (flat_map (in_placed array) ps)
  specs_named [] h = tt
  specs_named (p ∷ ps) h = all_append IsNamed (in_placed array p) (flat_map (in_placed array) ps) (placed_named p h.0) (specs_named ps h.1)

  body_named : (es : List Entry) → AllIn IsGoodEntry es → AllIn IsNamed (flat_map (in_entry array) es)
  body_named [] h = tt
  body_named (e ∷ es) h = all_append IsNamed (in_entry array e) (flat_map (in_entry array) es) (at_line e.line (stands_in array e.stmt) (stands_named array e.stmt h.0)) (body_named es h.1)

  unit_named : (u : Unit) → IsGoodUnit u → AllIn IsNamed (occurrences array u)
  unit_named u h =
      let specs = flat_map (in_placed array) u.specs in
      let body = flat_map (in_entry array) u.body in
      all_append IsNamed (in_placed array u.heading) (specs ++ body) (placed_named u.heading h.heading) (all_append IsNamed specs body (specs_named u.specs h.specs) (body_named u.body h.body))

-- the first of each
abbrev earlier : List Occurrence → ℕ × Occurrence → List Occurrence × Occurrence
earlier all at = (take at.0 all, at.1)

picked : (b : Bool) (at : List Occurrence × Occurrence) (rest : List (List Occurrence × Occurrence)) → IsNamed at.1 → AllIn IsNamed (map (λ (a : List Occurrence × Occurrence). a.1) rest) → AllIn IsNamed (map (λ (a : List Occurrence × Occurrence). a.1) (cond b (at ∷ rest) rest))
picked true at rest h more = (h, more)
picked false at rest h more = more

firsts : (all : List Occurrence) (k : ℕ) (os : List Occurrence) → AllIn IsNamed os → AllIn IsNamed (map (λ (a : List Occurrence × Occurrence). a.1) (filter is_first (map (earlier all) (enumerate_from k os))))
firsts all k [] h = tt
firsts all k (o ∷ os) h = picked (is_first (take k all, o)) (take k all, o) (filter is_first (map (earlier all) (enumerate_from (k + 1) os))) h.0 (firsts all (k + 1) os h.1)

some : (test : Occurrence → Bool) (os : List Occurrence) → AllIn IsNamed os → AllIn IsNamed (those_that test os)
some test [] h = tt
some test (o ∷ os) h = go (test o) (some test os h.1)
  where
    go : (b : Bool) → AllIn IsNamed (those_that test os) → AllIn IsNamed (cond b (o ∷ those_that test os) (those_that test os))
    go true more = (h.0, more)
    go false more = more

-- ---- variables

abbrev VariableIsNamed : Variable → Type 0
VariableIsNamed v = IsName v.name

laid_named : (s : Sheet) (first : ℕ) (os : List Occurrence) → AllIn IsNamed os → AllIn VariableIsNamed (laid_out s first os)
laid_named s first [] h = tt
laid_named s first (o ∷ os) h = (h.0, laid_named s (first + words_of s o.name) os h.1)

unit_variables : (titles : ByName Bool) (u : Unit) → IsGoodUnit u → AllIn VariableIsNamed (unit_names titles u).variables
unit_variables titles u h =
    let s = sheet_of u in
    let array : List ℕ → Bool = is_array (arrays_of (constants_of u.specs) u.specs) in
    let all = occurrences array u in
    laid_named s 0 (variables_among titles u.heading.stmt s s.first) (some (names_variable titles u.heading.stmt s) s.first (firsts all 0 all (unit_named array u h)))

all_variables : (titles : ByName Bool) (us : List Unit) → AllIn IsGoodUnit us → AllIn (λ (n : UnitNames). AllIn VariableIsNamed n.variables) (map (unit_names titles) us)
all_variables titles [] h = tt
all_variables titles (u ∷ us) h = (unit_variables titles u h.0, all_variables titles us h.1)

found : {X : Type 0} (P : X → Type 0) (xs : List X) (i : ℕ) (x : X) → AllIn P xs → slice_get xs i ≡ Some x → P x
found P [] i x h e = absurd cc
found {X} P (y ∷ xs) zero x h e = subst P (the_one y x e) h.0
  where
    the_one : (a b : X) → Some a ≡ Some b → a ≡ b
    the_one a b e = cc
found P (y ∷ xs) (suc i) x h e = found P xs i x h.1 e

pub checked_named : (source : List ℕ) (p : Program) → IsCheckedOf source p → NamesAreNames p
checked_named source p h number u here =
    let ps = h.statements in
    let units = all_good (is_function_named (titles_of (cut_of ps))) (cut_of ps) (cut_good ps (read_good (cards_of source) ps h.read)) in
    let names = all_variables (functions.titles_of (units_of ps)) (units_of ps) units in
    let Named : UnitNames → Type 0 = λ n. AllIn VariableIsNamed n.variables in
    found Named p.names.units number u.names (subst (AllIn Named) (sym h.checked.names_are) names) (parts_of p number u here).1
