-- The entries and the constants of a checked program are those of its statements.
use Rattle.std.proofs.Common.{◌≡◌, ℕ, zero, suc, ℤ, ◌+◌, Bool, true, false, cond, ◌&&◌, Option, Some, None, List, [], ◌∷◌, ◌++◌, drop, map, slice_get, Result, Ok, Err, refl, sym, ap, ◌∙◌, subst, arith}
use Rattle.std.specs.Prelude.{if◌then◌else◌, nat_eq, slice_index_or}
use Rattle.std.specs.FinMap.{empty, get, get-empty}
use Rattle.std.specs.Ordering.{nat_cmp}
use Rattle.std.specs.Cmp.Lexicographic.{slice_cmp}
use Rattle.fm_base.specs.declared.fault.Fault.{Fault}
use Rattle.fm_base.specs.declared.token.Op.{Op}
use Rattle.fm_base.specs.declared.token.Token.TheVariants as token
use Rattle.fm_cards.specs.Broken as cards
use Rattle.fm_cards.specs.Cards.{cards_of}
use Rattle.fm_cards.specs.declared.card.Card.{Card}
use Rattle.fm_tree.specs.Tree.{Tree, Number, Truth, Named, Ref, Paren, Signed, Not, Binary}
use Rattle.fm_tree.specs.Spelling.{spelling}
use Rattle.fm_tree.specs.Layout.{contained_in, laid_out, statement_of, test_of}
use Rattle.fm_tree.specs.Structure.{form_of, is_end, is_executable}
use Rattle.fm_tree.specs.Units.{before_body, blank_statement, body_of, cut_of, entries_from, mark_at, put_first, unit_of}
use Rattle.fm_tree.specs.declared.entry_mark.EntryMark.{EntryMark}
use Rattle.fm_tree.specs.declared.form.Form.{Form}
use Rattle.fm_tree.specs.declared.form.Form.TheVariants as form
use Rattle.fm_tree.specs.declared.program_unit.Entry.{Entry}
use Rattle.fm_tree.specs.declared.program_unit.Placed.{Placed}
use Rattle.fm_tree.specs.declared.program_unit.Unit as tree
use Rattle.fm_tree.specs.declared.statement.Defined.{Defined}
use Rattle.fm_tree.specs.declared.statement.Simple.TheVariants as simple
use Rattle.fm_tree.specs.declared.statement.Stmt.{Stmt}
use Rattle.fm_tree.specs.declared.statement.Stmt.TheVariants as stmt
use Rattle.fm_values.specs.declared.value.Value.{Value}
use Rattle.fm_values.specs.declared.value.Value.TheVariants as value
use Rattle.fm_values.specs.Operations.{applied, with_sign}
use Rattle.fm_symbols.specs.ByName.{ByName}
use Rattle.fm_symbols.specs.declared.names.Constant.{Constant}
use Rattle.fm_symbols.specs.declared.names.Constant.TheVariants as constant
use Rattle.fm_symbols.specs.declared.names.UnitNames.{UnitNames}
use Rattle.fm_rules.specs.ConstantParts.{definitions_in}
use Rattle.fm_rules.specs.ConstantValues.{as_value, both_computed, computed, fits, integer_outcome, is_before, negated, outcome, signed, value_of, value_seen}
use Rattle.fm_rules.specs.Constants as constants
use Rattle.fm_rules.specs.FunctionTitles.{titles_of}
use Rattle.fm_rules.specs.Names.{unit_names}
use Rattle.fm_rules.specs.UnitTitles as titles
use Rattle.fm_rules.specs.Units.{units_of}
use Rattle.fm_rules.specs.declared.constants.Known.{Known}
use Rattle.fm_rules.specs.declared.program.Program.{Program}
use Rattle.fm_verdict.specs.Program.{IsCheckedOf}
use Rattle.fm_verdict.specs.Verdict.{AreStatementsOf, IsBrokenCard, IsBrokenForm, IsBrokenLater}
use Rattle.fm_net.specs.Typed.{AllIn}
use Rattle.fm_mean.specs.Names.{ProgramUnit, same_name, unit_at}
use Rattle.fm_mean.proofs.FirstEntries.{new_there, or_then}
use Rattle.fm_mean.proofs.Members.{from_map}
use Rattle.fm_mean.proofs.Sizes.{parts_of}
use Rattle.fm_mean.proofs.Unbroken.{first_clean}
use Rattle.fm_cost_law.specs.Words.{IsWord}
use Rattle.fm_cost_law.proofs.Lists.{all_dropped, all_joined, in_all}
use Rattle.fm_cost_law.proofs.Spelled.{IsSmall, StatementIsSmall, TreeIsSmall, behind_small, defined_small, left_small, read_small}
use Rattle.fm_cost_law.proofs.Texts.{IsShortCard, source_short, text_small}
use Rattle.fm_cost_law.proofs.Values.{ConstantHasWord, Fine, ValueHasWord, applied_word, sign_word}
use Rattle.fm_cost_law.proofs.Walk.{ProgramIsSmall}

-- ---- statements of a source

abbrev IsSmallPlaced : Placed → Type 0
IsSmallPlaced p = StatementIsSmall p.stmt

placed_small : (cs : List Card) (ps : List Placed) → AreStatementsOf cs ps → AllIn IsShortCard cs → AllIn IsSmallPlaced ps
placed_small [] [] h s = tt
placed_small [] (p ∷ ps) h s = absurd h
placed_small (c ∷ cs) [] h s = absurd h
placed_small (c ∷ cs) (p ∷ ps) h s =
    let t = h.0.tree in
    (read_small p.stmt (subst IsSmall t.1.1.spelled (text_small c.text t.0 s.0 t.1.0)), placed_small cs ps h.1 s.1)

-- ---- entries

first_put : (p : Placed) (us : List (List Placed)) → IsSmallPlaced p → AllIn (AllIn IsSmallPlaced) us → AllIn (AllIn IsSmallPlaced) (put_first p us)
first_put p [] h all = ((h, tt), tt)
first_put p (u ∷ us) h all = ((h, all.0), all.1)

cut_small : (ps : List Placed) → AllIn IsSmallPlaced ps → AllIn (AllIn IsSmallPlaced) (cut_of ps)
cut_small [] h = tt
cut_small (p ∷ ps) h = go (is_end (form_of p.stmt)) (cut_small ps h.1)
  where
    go : (b : Bool) → AllIn (AllIn IsSmallPlaced) (cut_of ps) → AllIn (AllIn IsSmallPlaced) (if b then (p ∷ []) ∷ cut_of ps else put_first p (cut_of ps))
    go true all = ((h.0, tt), all)
    go false all = first_put p (cut_of ps) h.0 all

place_small : (c : List Placed) (k : ℕ) → AllIn IsSmallPlaced c → IsSmallPlaced (slice_index_or c k blank_statement)
place_small [] k h = record { words = (tt, tt); few = omega arith }
place_small (p ∷ ps) zero h = h.0
place_small (p ∷ ps) (suc k) h = place_small ps k h.1

nothing_small : StatementIsSmall (stmt.Simple simple.Continue)
nothing_small = record { words = (tt, tt); few = omega arith }

test_is_small : (s : Stmt) → StatementIsSmall s → StatementIsSmall (test_of s)
unfolding test_of
test_is_small (stmt.LogicalIf e k) h = (h.0, nothing_small)
test_is_small s h = h

contained_small : (s : Stmt) → StatementIsSmall s → StatementIsSmall (contained_in s)
unfolding contained_in
contained_small (stmt.LogicalIf e k) h = h.1
contained_small s h = h

form_small : (f : Form) (s : Stmt) → StatementIsSmall s → StatementIsSmall (statement_of f s)
unfolding statement_of
form_small form.Wrap s h = record { words = (tt, tt); few = omega arith }
form_small form.EndWrap s h = record { words = (tt, tt); few = omega arith }
form_small (form.LoopEnd t) s h = record { words = tt; few = omega arith }
form_small form.Test s h = test_is_small s h
form_small f s h = contained_small s h

abbrev IsSmallEntry : Entry → Type 0
IsSmallEntry e = StatementIsSmall e.stmt

entries_small : (test : List ℕ → Bool) (c : List Placed) (all : List EntryMark) (k : ℕ) (es : List EntryMark) → AllIn IsSmallPlaced c → AllIn IsSmallEntry (entries_from test c all k es)
entries_small test c all k [] h = tt
entries_small test c all k (e ∷ es) h = (form_small (mark_at all k).form (slice_index_or c (mark_at all k).place blank_statement).stmt (place_small c (mark_at all k).place h), entries_small test c all (k + 1) es h)

before_small : (ps : List Placed) → AllIn IsSmallPlaced ps → AllIn IsSmallPlaced (before_body ps)
before_small [] h = tt
before_small (p ∷ ps) h = go (is_executable (form_of p.stmt)) (before_small ps h.1)
  where
    go : (b : Bool) → AllIn IsSmallPlaced (before_body ps) → AllIn IsSmallPlaced (if b then [] else p ∷ before_body ps)
    go true all = tt
    go false all = (h.0, all)

-- ---- constants

abbrev ValueFits : Option Constant → Type 0
ValueFits None = Unit {0}
ValueFits (Some c) = ConstantHasWord c

abbrev KnownFits : ByName Known → Type 0
KnownFits m = (q : List ℕ) (k : Known) → get m q ≡ Some k → ValueFits k.value

outcome_fits : (r : Result Value Fault) → Fine ValueHasWord r → ValueFits (outcome r)
outcome_fits (Ok (value.Number n)) h = h
outcome_fits (Ok (value.Truth b)) h = tt
outcome_fits (Err fault) h = tt

integer_fits : (r : Result ℤ Fault) → Fine IsWord r → ValueFits (integer_outcome r)
integer_fits (Ok n) h = h
integer_fits (Err fault) h = tt

computed_fits : (o : Op) (x y : Constant) → ValueFits (computed o x y)
computed_fits o x y = go (fits o x && fits o y)
  where
    go : (b : Bool) → ValueFits (if b then outcome (applied o (as_value x) (as_value y)) else None)
    go true = outcome_fits (applied o (as_value x) (as_value y)) (applied_word o (as_value x) (as_value y))
    go false = tt

both_fit : (o : Op) (x y : Option Constant) → ValueFits (both_computed o x y)
both_fit o None y = tt
both_fit o (Some x) None = tt
both_fit o (Some x) (Some y) = computed_fits o x y

signed_fits : (o : Op) (x : Option Constant) → ValueFits x → ValueFits (signed o x)
signed_fits o None h = tt
signed_fits o (Some (constant.Integer n)) h = integer_fits (with_sign o n) (sign_word o n h)
signed_fits o (Some (constant.Logical b)) h = tt

negated_fits : (x : Option Constant) → ValueFits (negated x)
negated_fits None = tt
negated_fits (Some (constant.Integer n)) = tt
negated_fits (Some (constant.Logical b)) = tt

seen_fits : (o : Option Known) (place item : ℕ) → ((k : Known) → o ≡ Some k → ValueFits k.value) → ValueFits (value_seen o place item)
seen_fits None place item h = tt
seen_fits (Some k) place item h = go (is_before k place item)
  where
    go : (b : Bool) → ValueFits (if b then k.value else None)
    go true = h k refl
    go false = tt

value_fits : (known : ByName Known) (place item : ℕ) → KnownFits known → (t : Tree) → TreeIsSmall t → ValueFits (value_of known place item t)
value_fits known place item fit (Number n) h = h.words.0
value_fits known place item fit (Truth b) h = tt
value_fits known place item fit (Named name) h = seen_fits (get known name) place item (fit name)
value_fits known place item fit (Ref name args) h = tt
value_fits known place item fit (Paren e) h = value_fits known place item fit e (left_small (spelling e) (token.Close ∷ []) (behind_small token.Open (spelling e ++ token.Close ∷ []) h))
value_fits known place item fit (Signed o e) h = signed_fits o (value_of known place item e) (value_fits known place item fit e (behind_small (token.Sign o) (spelling e) h))
value_fits known place item fit (Not e) h = negated_fits (value_of known place item e)
value_fits known place item fit (Binary o a b) h = both_fit o (value_of known place item a) (value_of known place item b)

definition_fits : (known : ByName Known) (place item : ℕ) (d : Defined) → KnownFits known → TreeIsSmall d.value → KnownFits (constants.with_definition known place item d)
definition_fits known place item d fit h q k is =
    go (get known q) refl (same_name q d.name) (sym (new_there known d.name (record { value = value_of known place item d.value; place = place; item = item }) q) ∙ is)
  where
    the_known : (a b : Known) → Some a ≡ Some b → a ≡ b
    the_known a b e = cc

    go : (o : Option Known) → get known q ≡ o → (b : Bool) → or_then o (cond b (Some (record { value = value_of known place item d.value; place = place; item = item })) None) ≡ Some k → ValueFits k.value
    go (Some j) was b e = subst (λ (k : Known). ValueFits k.value) (the_known j k e) (fit q j was)
    go None was true e = subst (λ (k : Known). ValueFits k.value) (the_known (record { value = value_of known place item d.value; place = place; item = item }) k e) (value_fits known place item fit d.value h)
    go None was false e = absurd (cc e)

definitions_fit : (ds : List Defined) (known : ByName Known) (place item : ℕ) → KnownFits known → AllIn (λ (d : Defined). TreeIsSmall d.value) ds → KnownFits (constants.with_definitions known place item ds)
definitions_fit [] known place item fit h = fit
definitions_fit (d ∷ ds) known place item fit h = definitions_fit ds (constants.with_definition known place item d) place (item + 1) (definition_fits known place item d fit h.0) h.1

known_fits : (ps : List Placed) (known : ByName Known) (place : ℕ) → KnownFits known → AllIn IsSmallPlaced ps → KnownFits (constants.known_from known place ps)
known_fits [] known place fit h = fit
known_fits (p ∷ ps) known place fit h = known_fits ps (constants.with_definitions known place 0 (definitions_in p.stmt)) (place + 1) (definitions_fit (definitions_in p.stmt) known place 0 fit (defined_small p.stmt h.0)) h.1

abbrev EntryFits : List ℕ × Constant → Type 0
EntryFits c = ConstantHasWord c.1

here_fits : (o : Option Known) (place item : ℕ) → ((k : Known) → o ≡ Some k → ValueFits k.value) → ValueFits (constants.value_here o place item)
here_fits None place item h = tt
here_fits (Some k) place item h = go (nat_eq k.place place && nat_eq k.item item)
  where
    go : (b : Bool) → ValueFits (if b then k.value else None)
    go true = h k refl
    go false = tt

one_fits : (name : List ℕ) (o : Option Constant) → ValueFits o → AllIn EntryFits (constants.entry_of name o)
one_fits name None h = tt
one_fits name (Some c) h = (h, tt)

item_fits : (known : ByName Known) → KnownFits known → (place item : ℕ) (ds : List Defined) → AllIn EntryFits (constants.entries_in known place item ds)
item_fits known fit place item [] = tt
item_fits known fit place item (d ∷ ds) =
    all_joined EntryFits (constants.entry_of d.name (constants.value_here (get known d.name) place item)) (constants.entries_in known place (item + 1) ds)
    (one_fits d.name (constants.value_here (get known d.name) place item) (here_fits (get known d.name) place item (fit d.name))) (item_fits known fit place (item + 1) ds)

list_fits : (known : ByName Known) → KnownFits known → (place : ℕ) (ps : List Placed) → AllIn EntryFits (constants.entries_from known place ps)
list_fits known fit place [] = tt
list_fits known fit place (p ∷ ps) = all_joined EntryFits (constants.entries_in known place 0 (definitions_in p.stmt)) (constants.entries_from known (place + 1) ps) (item_fits known fit place 0 (definitions_in p.stmt)) (list_fits known fit (place + 1) ps)

none_known : KnownFits empty
none_known q k is = absurd (cc (sym (get-empty {X = Known} (slice_cmp nat_cmp) q) ∙ is))

constants_fit : (ps : List Placed) → AllIn IsSmallPlaced ps → AllIn EntryFits (constants.entries_from (constants.constants_of ps) 0 ps)
constants_fit ps h = list_fits (constants.constants_of ps) (known_fits ps empty 0 none_known h) 0 ps

-- ---- a program

-- a program of a source has small statements, and constants of 64 bits
pub checked_small : (source : List ℕ) (p : Program) → IsCheckedOf source p → ProgramIsSmall p
checked_small source p h = record {
  entries = λ n u i e at is.
      let x = unit n u at in
      let body = body_of (laid_out x.0) in
      in_all IsSmallEntry (entries_from test x.0 body 0 body) i e (entries_small test x.0 body 0 body (whole n x.0 x.1)) (ap (λ (t : tree.Unit). slice_get t.body i) x.2 ∙ is);
  constants = λ n u at.
      let x = unit n u at in
      let us = units_of ps in
      let names : slice_get (map (unit_names (titles_of us)) us) n ≡ Some u.names = ap (λ (l : List UnitNames). slice_get l n) (sym h.checked.names_are) ∙ (parts_of p n u at).1 in
      let y = from_map (unit_names (titles_of us)) us n u.names names in
      let same : y.0 ≡ u.tree = the_unit y.0 u.tree (sym y.1 ∙ ap (λ (l : List tree.Unit). slice_get l n) (sym h.checked.units_are) ∙ (parts_of p n u at).0) in
      let specs : y.0.specs ≡ drop 1 (before_body x.0) = ap (λ (t : tree.Unit). t.specs) (same ∙ sym x.2) in
      let fit = constants_fit y.0.specs (subst (AllIn IsSmallPlaced) (sym specs) (all_dropped IsSmallPlaced 1 (before_body x.0) (before_small x.0 (whole n x.0 x.1)))) in
      subst (λ (m : UnitNames). AllIn EntryFits m.constants) y.2 fit;
}
  where
    ps : List Placed
    ps = h.statements

    test : List ℕ → Bool
    test = titles.is_function_named (titles.titles_of (cut_of ps))

    the_unit : (a b : tree.Unit) → Some a ≡ Some b → a ≡ b
    the_unit a b e = cc

    small : AllIn IsSmallPlaced ps
    small = placed_small (cards_of source) ps h.read (source_short source (first_clean (cards.IsBroken source) (IsBrokenCard (cards_of source)) (first_clean (IsBrokenForm source) (IsBrokenLater source) h.clean)))

    unit : (n : ℕ) (u : ProgramUnit) → unit_at p n ≡ Some u → (c : List Placed) × (slice_get (cut_of ps) n ≡ Some c) × (unit_of test c ≡ u.tree)
    unit n u at = from_map (unit_of test) (cut_of ps) n u.tree (ap (λ (l : List tree.Unit). slice_get l n) (sym h.checked.units_are) ∙ (parts_of p n u at).0)

    whole : (n : ℕ) (c : List Placed) → slice_get (cut_of ps) n ≡ Some c → AllIn IsSmallPlaced c
    whole n c is = in_all (AllIn IsSmallPlaced) (cut_of ps) n c (cut_small ps small) is
