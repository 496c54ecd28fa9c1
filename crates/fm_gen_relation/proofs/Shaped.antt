-- The statements of a checked program have forms of the grammar; so a RECEIVE has one IOSTAT= at most.
use Rattle.std.proofs.Common.{◌≡◌, ◌≤◌, ℕ, zero, suc, ◌+◌, Bool, true, false, Some, List, [], ◌∷◌, slice_get, refl, ap, ◌∙◌, subst, arith}
use Rattle.std.proofs.Math.Logic.{∥∥₁_elim}
use Rattle.std.specs.Coded.{le_prop}
use Rattle.std.specs.Prelude.{if◌then◌else◌, slice_index_or}
use Rattle.fm_tree.specs.Layout.{contained_in, laid_out, statement_of, test_of}
use Rattle.fm_tree.specs.Parts.{iostats_in}
use Rattle.fm_tree.specs.Statements.{IsWellShapedSimple, IsWellShapedStatement}
use Rattle.fm_tree.specs.Structure.{form_of, is_end}
use Rattle.fm_tree.specs.Units.{blank_statement, body_of, cut_of, entries_from, entry_of, put_first, unit_of}
use Rattle.fm_tree.specs.declared.entry_mark.EntryMark.{EntryMark}
use Rattle.fm_tree.specs.declared.form.Form.{Form}
use Rattle.fm_tree.specs.declared.form.Form.TheVariants as form
use Rattle.fm_tree.specs.declared.program_unit.Entry.{Entry}
use Rattle.fm_tree.specs.declared.program_unit.Placed.{Placed}
use Rattle.fm_tree.specs.declared.program_unit.Unit as tree
use Rattle.fm_tree.specs.declared.statement.Extra.{Extra}
use Rattle.fm_tree.specs.declared.statement.Extra.TheVariants as extra
use Rattle.fm_tree.specs.declared.statement.Simple.TheVariants as simple
use Rattle.fm_tree.specs.declared.statement.Stmt.{Stmt}
use Rattle.fm_tree.specs.declared.statement.Stmt.TheVariants as stmt
use Rattle.fm_tree.specs.declared.statement.Var.{Var}
use Rattle.fm_rules.specs.UnitTitles.{is_function_named, titles_of}
use Rattle.fm_net.specs.Typed.{AllIn}
use Rattle.fm_rules.specs.Program.{AreShaped, IsLawful}
use Rattle.fm_rules.specs.declared.program.Program.{Program}
use Rattle.fm_mean.specs.Names.{ProgramUnit, unit_at}
use Rattle.fm_mean.proofs.Members.{from_map}
use Rattle.fm_mean.proofs.Sizes.{in_all, parts_of}
use Rattle.fm_gen_relation.specs.Sound.{count_iostat}

-- Statements of entries.

-- a statement that may stand behind a logical IF has its form
abbrev IsShaped : Stmt → Type 0
IsShaped (stmt.Simple s) = IsWellShapedSimple s
IsShaped t = Unit {0}

test_shaped : (t : Stmt) → IsWellShapedStatement t → IsShaped (test_of t)
unfolding test_of
test_shaped (stmt.LogicalIf e s) h = tt
test_shaped (stmt.Simple s) h = h
test_shaped t h = tt

contained_shaped : (t : Stmt) → IsWellShapedStatement t → IsShaped (contained_in t)
unfolding contained_in
contained_shaped (stmt.LogicalIf e s) h = h.1
contained_shaped (stmt.Simple s) h = h
contained_shaped t h = tt

form_shaped : (f : Form) (t : Stmt) → IsWellShapedStatement t → IsShaped (statement_of f t)
unfolding statement_of
form_shaped form.Wrap t h = tt
form_shaped form.EndWrap t h = tt
form_shaped (form.LoopEnd k) t h = tt
form_shaped form.Test t h = test_shaped t h
form_shaped f t h = contained_shaped t h

placed_shaped : (ps : List Placed) (k : ℕ) → AreShaped ps → IsWellShapedStatement (slice_index_or ps k blank_statement).stmt
placed_shaped [] k h = tt
placed_shaped (p ∷ ps) zero h = h.0
placed_shaped (p ∷ ps) (suc k) h = placed_shaped ps k h.1

entry_shaped : (test : List ℕ → Bool) (ps : List Placed) (marks : List EntryMark) (k : ℕ) (ms : List EntryMark) (i : ℕ) (e : Entry) → AreShaped ps → slice_get (entries_from test ps marks k ms) i ≡ Some e → IsShaped e.stmt
entry_shaped test ps marks k [] i e h is = absurd (cc)
entry_shaped test ps marks k (m ∷ ms) zero e h is = subst (λ (x : Entry). IsShaped x.stmt) (the_entry (entry_of test ps marks k) e is) (form_shaped _ _ (placed_shaped ps _ h))
  where
    the_entry : (a b : Entry) → Some a ≡ Some b → a ≡ b
    the_entry a b h = cc
entry_shaped test ps marks k (m ∷ ms) (suc i) e h is = entry_shaped test ps marks (k + 1) ms i e h is

-- Statements of units.

put_shaped : (p : Placed) (cs : List (List Placed)) → IsWellShapedStatement p.stmt → AllIn AreShaped cs → AllIn AreShaped (put_first p cs)
put_shaped p [] one h = ((one, tt), tt)
put_shaped p (c ∷ cs) one h = ((one, h.0), h.1)

cut_shaped : (ps : List Placed) → AreShaped ps → AllIn AreShaped (cut_of ps)
cut_shaped [] h = tt
cut_shaped (p ∷ ps) h = go (is_end (form_of p.stmt)) (cut_shaped ps h.1)
  where
    go : (b : Bool) → AllIn AreShaped (cut_of ps) → AllIn AreShaped (if b then (p ∷ []) ∷ cut_of ps else put_first p (cut_of ps))
    go true rest = ((h.0, tt), rest)
    go false rest = put_shaped p (cut_of ps) h.0 rest

body_shaped : (p : Program) (number : ℕ) (u : ProgramUnit) (i : ℕ) (e : Entry) → unit_at p number ≡ Some u → slice_get u.tree.body i ≡ Some e → IsLawful p.units p.names → IsShaped e.stmt
body_shaped p number u i e is at lawful =
    let ps = lawful.0 in
    let test = is_function_named (titles_of (cut_of ps)) in
    let x = from_map (unit_of test) (cut_of ps) number u.tree (subst (λ (l : List tree.Unit). slice_get l number ≡ Some u.tree) lawful.1.units_are (parts_of p number u is).0) in
    let body = body_of (laid_out x.0) in
    entry_shaped test x.0 body 0 body i e (in_all AreShaped (cut_of ps) number x.0 (cut_shaped ps lawful.1.shaped) x.1) (ap (λ (t : tree.Unit). slice_get t.body i) x.2 ∙ at)

-- RECEIVE.

counted_alike : (xs : List Extra) → count_iostat xs ≡ iostats_in xs
counted_alike [] = refl
counted_alike (extra.End l ∷ xs) = counted_alike xs
counted_alike (extra.Iostat v ∷ xs) = omega (arith, counted_alike xs)

-- a RECEIVE has one IOSTAT= at most
pub one_iostat : (p : Program) (number : ℕ) (u : ProgramUnit) (i : ℕ) (e : Entry) → unit_at p number ≡ Some u → slice_get u.tree.body i ≡ Some e
    → (named : Bool) (q : Var) (extras : List Extra) (items : List Var) → e.stmt ≡ stmt.Simple (simple.Receive named q extras items) → count_iostat extras ≤ 1
one_iostat p number u i e is at named q extras items same =
    ∥∥₁_elim p.lawful le_prop
    (λ lawful.
    let h : IsWellShapedSimple (simple.Receive named q extras items) = subst IsShaped same (body_shaped p number u i e is at lawful) in
    omega (arith, counted_alike extras, h.0.1.1.1))
