-- What holds of each mark that the statements of a unit make: it suits its statement, the end of a labelled loop stands in one,
-- and no END comes behind a test.
use Rattle.std.proofs.Common.{◌≡◌, ◌⊎◌, inl, inr, ℕ, zero, suc, ◌+◌, Bool, true, false, not, ◌&&◌, ◌||◌, Option, Some, None, List, [], ◌∷◌, ◌++◌, length, reverse, take, drop, get_or, slice_get, refl, sym, ap, ◌∙◌, subst, add-one, append_assoc}
use Rattle.std.specs.Prelude.{if◌then◌else◌}
use Rattle.std.proofs.lemmas.List.{append-nil, reverse-reverse}
use Rattle.fm_base.specs.declared.name.Label.{Label}
use Rattle.fm_base.specs.declared.name.Line.{Line}
use Rattle.fm_tree.specs.declared.form.UnitKind.TheVariants as unit_kind
use Rattle.fm_tree.specs.declared.form.Form.{Form}
use Rattle.fm_tree.specs.declared.form.Form.TheVariants as form
use Rattle.fm_tree.specs.declared.form.Bracket.{Bracket}
use Rattle.fm_tree.specs.declared.form.Bracket.TheVariants.{Opens, Closes, Parts, Stays}
use Rattle.fm_tree.specs.declared.form.Terminal.{Terminal}
use Rattle.fm_tree.specs.declared.form.Terminal.TheVariants as terminal
use Rattle.fm_tree.specs.declared.entry_mark.EntryMark.{EntryMark}
use Rattle.fm_tree.specs.declared.entry_mark.Open.{Open}
use Rattle.fm_tree.specs.declared.program_unit.Placed.{Placed}
use Rattle.fm_tree.specs.declared.statement.Simple.{Simple}
use Rattle.fm_tree.specs.declared.statement.Simple.TheVariants as simple
use Rattle.fm_tree.specs.declared.statement.Stmt.{Stmt}
use Rattle.fm_tree.specs.declared.statement.Stmt.TheVariants as stmt
use Rattle.fm_tree.specs.Tree.{Tree}
use Rattle.fm_tree.specs.Structure.{bracket_of, contained_form, form_of, is_end, is_wrap, loop_label, simple_form_of, terminal_label, terminal_of}
use Rattle.fm_tree.specs.Blocks.{behind, counted, head_of, open_blocks}
use Rattle.fm_tree.specs.Layout.{closing, contained_in, ends_behind, is_closed_by, is_parallel, is_this_label, label_left, laid_behind, laid_out, marks_of, may_part, own_forms, put_end, statement_of, test_of, with_statement}
use Rattle.fm_tree.specs.Units.{blank_statement, lacks_end, statement_at}
use Rattle.fm_tree_blocks.proofs.Counts.{open_blocks-drop}
use Rattle.fm_tree_blocks.proofs.Lists.{reverse_push}

-- ---- forms and statements

-- the form of an entry of this statement
abbrev pub Suits : Form → Stmt → Type 0
Suits f (stmt.Program name) = f ≡ form.Heading unit_kind.Program
Suits f (stmt.Process name formals) = f ≡ form.Heading unit_kind.Process
Suits f (stmt.Subroutine name formals) = f ≡ form.Heading unit_kind.Subroutine
Suits f (stmt.Function name formals) = f ≡ form.Heading unit_kind.Function
Suits f (stmt.IntegerFunction name formals) = f ≡ form.Heading unit_kind.Function
Suits f (stmt.LogicalFunction name formals) = f ≡ form.Heading unit_kind.Function
Suits f stmt.ImplicitNone = f ≡ form.Declaration
Suits f (stmt.Integer decls) = f ≡ form.Declaration
Suits f (stmt.Logical decls) = f ≡ form.Declaration
Suits f (stmt.Dimension decls) = f ≡ form.Declaration
Suits f (stmt.Parameter constants) = f ≡ form.Declaration
Suits f (stmt.Inport ports decls) = f ≡ form.Declaration
Suits f (stmt.Outport ports decls) = f ≡ form.Declaration
Suits f (stmt.Intent way names) = f ≡ form.Declaration
Suits f (stmt.Processors sizes) = f ≡ form.Processors
Suits f (stmt.Simple s) = f ≡ simple_form_of s
Suits f (stmt.LogicalIf x s) = f ≡ form.Test
Suits f (stmt.BlockIf x) = f ≡ form.BlockIf
Suits f (stmt.ElseIf x) = (b : Bool) × (f ≡ form.ElseIf b)
Suits f stmt.Else = (b : Bool) × (f ≡ form.Else b)
Suits f stmt.EndIf = f ≡ form.EndIf
Suits f (stmt.Do head) = f ≡ form.Do (loop_label head)
Suits f (stmt.DoWhile x) = f ≡ form.DoWhile
Suits f stmt.EndDo = f ≡ form.EndDo
Suits f stmt.End = f ≡ form.End
Suits f stmt.Processes = (f ≡ form.Processes) ⊎ (f ≡ form.Wrap)
Suits f stmt.EndProcesses = (f ≡ form.EndProcesses) ⊎ (f ≡ form.EndWrap)
Suits f (stmt.ProcessCall name part) = f ≡ form.ProcessCall
Suits f (stmt.ProcessDo head) = f ≡ form.ProcessDo (loop_label head)
Suits f stmt.EndProcessDo = f ≡ form.EndProcessDo
Suits f stmt.LoopEnd = (t : Terminal) × (f ≡ form.LoopEnd t)

abbrev is_loop_end : Form → Bool
is_loop_end (form.LoopEnd t) = true
is_loop_end f = false

abbrev is_test : Form → Bool
is_test form.Test = true
is_test f = false

-- the last of these forms is no test, and END isn't behind one
abbrev well_turned : List Form → Bool
well_turned [] = false
well_turned (f ∷ []) = not (is_test f)
well_turned (f ∷ g ∷ fs) = not (is_end g) && well_turned (g ∷ fs)

abbrev some_loop_end : List Form → Bool
some_loop_end [] = false
some_loop_end (f ∷ fs) = is_loop_end f || some_loop_end fs

abbrev AllSuit : Stmt → List Form → Type 0
AllSuit s [] = Unit {0}
AllSuit s (f ∷ fs) = Suits f (statement_of f s) × AllSuit s fs

-- the forms of a statement's own entries
record AreOwn (s : Stmt) (fs : List Form) : Type 0 where
  suit : AllSuit s fs
  no_end : some_loop_end fs ≡ false
  turned : well_turned fs ≡ true

abbrev pub IsOfSource : Stmt → Type 0
IsOfSource stmt.LoopEnd = ⊥
IsOfSource other = Unit {0}

contained_own : (x : Tree) (s : Simple) → AreOwn (stmt.LogicalIf x s) (form.Test ∷ simple_form_of s ∷ [])
unfolding statement_of test_of contained_in simple_form_of
contained_own x (simple.Assignment v e) = record { suit = (refl, (refl, tt)); no_end = refl; turned = refl }
contained_own x (simple.Goto label) = record { suit = (refl, (refl, tt)); no_end = refl; turned = refl }
contained_own x simple.Continue = record { suit = (refl, (refl, tt)); no_end = refl; turned = refl }
contained_own x simple.Return = record { suit = (refl, (refl, tt)); no_end = refl; turned = refl }
contained_own x simple.Stop = record { suit = (refl, (refl, tt)); no_end = refl; turned = refl }
contained_own x (simple.Call name arguments) = record { suit = (refl, (refl, tt)); no_end = refl; turned = refl }
contained_own x (simple.Print items) = record { suit = (refl, (refl, tt)); no_end = refl; turned = refl }
contained_own x (simple.Write unit items) = record { suit = (refl, (refl, tt)); no_end = refl; turned = refl }
contained_own x (simple.Channel in_first inport outport) = record { suit = (refl, (refl, tt)); no_end = refl; turned = refl }
contained_own x (simple.Merger inport outports) = record { suit = (refl, (refl, tt)); no_end = refl; turned = refl }
contained_own x (simple.Send named port items) = record { suit = (refl, (refl, tt)); no_end = refl; turned = refl }
contained_own x (simple.Receive named port extras items) = record { suit = (refl, (refl, tt)); no_end = refl; turned = refl }
contained_own x (simple.EndChannel named port) = record { suit = (refl, (refl, tt)); no_end = refl; turned = refl }
contained_own x (simple.MovePort from to) = record { suit = (refl, (refl, tt)); no_end = refl; turned = refl }
contained_own x (simple.Probe named port empty) = record { suit = (refl, (refl, tt)); no_end = refl; turned = refl }

simple_own : (s : Simple) (inner : Option Open) → AreOwn (stmt.Simple s) (own_forms (simple_form_of s) None inner)
unfolding statement_of contained_in simple_form_of
simple_own (simple.Assignment v e) inner = record { suit = (refl, tt); no_end = refl; turned = refl }
simple_own (simple.Goto label) inner = record { suit = (refl, tt); no_end = refl; turned = refl }
simple_own simple.Continue inner = record { suit = (refl, tt); no_end = refl; turned = refl }
simple_own simple.Return inner = record { suit = (refl, tt); no_end = refl; turned = refl }
simple_own simple.Stop inner = record { suit = (refl, tt); no_end = refl; turned = refl }
simple_own (simple.Call name arguments) inner = record { suit = (refl, tt); no_end = refl; turned = refl }
simple_own (simple.Print items) inner = record { suit = (refl, tt); no_end = refl; turned = refl }
simple_own (simple.Write unit items) inner = record { suit = (refl, tt); no_end = refl; turned = refl }
simple_own (simple.Channel in_first inport outport) inner = record { suit = (refl, tt); no_end = refl; turned = refl }
simple_own (simple.Merger inport outports) inner = record { suit = (refl, tt); no_end = refl; turned = refl }
simple_own (simple.Send named port items) inner = record { suit = (refl, tt); no_end = refl; turned = refl }
simple_own (simple.Receive named port extras items) inner = record { suit = (refl, tt); no_end = refl; turned = refl }
simple_own (simple.EndChannel named port) inner = record { suit = (refl, tt); no_end = refl; turned = refl }
simple_own (simple.MovePort from to) inner = record { suit = (refl, tt); no_end = refl; turned = refl }
simple_own (simple.Probe named port empty) inner = record { suit = (refl, tt); no_end = refl; turned = refl }

own_all : (s : Stmt) (inner : Option Open) → IsOfSource s → AreOwn s (own_forms (form_of s) (contained_form s) inner)
unfolding form_of contained_form statement_of contained_in
own_all (stmt.Program name) inner source = record { suit = (refl, tt); no_end = refl; turned = refl }
own_all (stmt.Process name formals) inner source = record { suit = (refl, tt); no_end = refl; turned = refl }
own_all (stmt.Subroutine name formals) inner source = record { suit = (refl, tt); no_end = refl; turned = refl }
own_all (stmt.Function name formals) inner source = record { suit = (refl, tt); no_end = refl; turned = refl }
own_all (stmt.IntegerFunction name formals) inner source = record { suit = (refl, tt); no_end = refl; turned = refl }
own_all (stmt.LogicalFunction name formals) inner source = record { suit = (refl, tt); no_end = refl; turned = refl }
own_all stmt.ImplicitNone inner source = record { suit = (refl, tt); no_end = refl; turned = refl }
own_all (stmt.Integer decls) inner source = record { suit = (refl, tt); no_end = refl; turned = refl }
own_all (stmt.Logical decls) inner source = record { suit = (refl, tt); no_end = refl; turned = refl }
own_all (stmt.Dimension decls) inner source = record { suit = (refl, tt); no_end = refl; turned = refl }
own_all (stmt.Parameter constants) inner source = record { suit = (refl, tt); no_end = refl; turned = refl }
own_all (stmt.Inport ports decls) inner source = record { suit = (refl, tt); no_end = refl; turned = refl }
own_all (stmt.Outport ports decls) inner source = record { suit = (refl, tt); no_end = refl; turned = refl }
own_all (stmt.Intent way names) inner source = record { suit = (refl, tt); no_end = refl; turned = refl }
own_all (stmt.Processors sizes) inner source = record { suit = (refl, tt); no_end = refl; turned = refl }
own_all (stmt.Simple s) inner source = simple_own s inner
own_all (stmt.LogicalIf x s) inner source = contained_own x s
own_all (stmt.BlockIf x) inner source = record { suit = (refl, tt); no_end = refl; turned = refl }
own_all (stmt.ElseIf x) inner source = record { suit = ((may_part inner, refl), tt); no_end = refl; turned = refl }
own_all stmt.Else inner source = record { suit = ((may_part inner, refl), tt); no_end = refl; turned = refl }
own_all stmt.EndIf inner source = record { suit = (refl, tt); no_end = refl; turned = refl }
own_all (stmt.Do head) inner source = record { suit = (refl, tt); no_end = refl; turned = refl }
own_all (stmt.DoWhile x) inner source = record { suit = (refl, tt); no_end = refl; turned = refl }
own_all stmt.EndDo inner source = record { suit = (refl, tt); no_end = refl; turned = refl }
own_all stmt.End inner source = record { suit = (refl, tt); no_end = refl; turned = refl }
own_all stmt.Processes inner source = record { suit = (inl refl, tt); no_end = refl; turned = refl }
own_all stmt.EndProcesses inner source = record { suit = (inl refl, tt); no_end = refl; turned = refl }
own_all (stmt.ProcessCall name part) inner source = record { suit = (refl, tt); no_end = refl; turned = refl }
own_all (stmt.ProcessDo head) inner source =
    elim (not (is_parallel inner)) as (λ (b : Bool). AreOwn (stmt.ProcessDo head) (if b then form.Wrap ∷ form.ProcessDo (loop_label head) ∷ [] else form.ProcessDo (loop_label head) ∷ [])) [
      | true ↦ record { suit = (inr refl, (refl, tt)); no_end = refl; turned = refl }
      | false ↦ record { suit = (refl, tt); no_end = refl; turned = refl }
    ]
own_all stmt.EndProcessDo inner source = record { suit = (refl, tt); no_end = refl; turned = refl }
own_all stmt.LoopEnd inner source = absurd source

-- the last form of an opener opens a block that isn't put round a lone PROCESSDO
abbrev opens_last : List Form → Type 0
opens_last [] = ⊥
opens_last (f ∷ []) = (bracket_of f ≡ Opens) × (is_wrap f ≡ false)
opens_last (f ∷ g ∷ fs) = opens_last (g ∷ fs)

opener_last : (s : Stmt) (inner : Option Open) → bracket_of (form_of s) ≡ Opens → opens_last (own_forms (form_of s) (contained_form s) inner)
unfolding form_of contained_form bracket_of simple_form_of
opener_last (stmt.BlockIf x) inner e = (refl, refl)
opener_last (stmt.Do head) inner e = (refl, refl)
opener_last (stmt.DoWhile x) inner e = (refl, refl)
opener_last stmt.Processes inner e = (refl, refl)
opener_last (stmt.ProcessDo head) inner e =
    elim (not (is_parallel inner)) as (λ (b : Bool). opens_last (if b then form.Wrap ∷ form.ProcessDo (loop_label head) ∷ [] else form.ProcessDo (loop_label head) ∷ [])) [ true ↦ (refl, refl) | false ↦ (refl, refl) ]
opener_last (stmt.Simple (simple.Assignment v x)) inner e = absurd (cc e)
opener_last (stmt.Simple (simple.Goto label)) inner e = absurd (cc e)
opener_last (stmt.Simple simple.Continue) inner e = absurd (cc e)
opener_last (stmt.Simple simple.Return) inner e = absurd (cc e)
opener_last (stmt.Simple simple.Stop) inner e = absurd (cc e)
opener_last (stmt.Simple (simple.Call name arguments)) inner e = absurd (cc e)
opener_last (stmt.Simple (simple.Print items)) inner e = absurd (cc e)
opener_last (stmt.Simple (simple.Write unit items)) inner e = absurd (cc e)
opener_last (stmt.Simple (simple.Channel in_first inport outport)) inner e = absurd (cc e)
opener_last (stmt.Simple (simple.Merger inport outports)) inner e = absurd (cc e)
opener_last (stmt.Simple (simple.Send named port items)) inner e = absurd (cc e)
opener_last (stmt.Simple (simple.Receive named port extras items)) inner e = absurd (cc e)
opener_last (stmt.Simple (simple.EndChannel named port)) inner e = absurd (cc e)
opener_last (stmt.Simple (simple.MovePort from to)) inner e = absurd (cc e)
opener_last (stmt.Simple (simple.Probe named port empty)) inner e = absurd (cc e)
opener_last (stmt.Program name) inner e = absurd (cc e)
opener_last (stmt.Process name formals) inner e = absurd (cc e)
opener_last (stmt.Subroutine name formals) inner e = absurd (cc e)
opener_last (stmt.Function name formals) inner e = absurd (cc e)
opener_last (stmt.IntegerFunction name formals) inner e = absurd (cc e)
opener_last (stmt.LogicalFunction name formals) inner e = absurd (cc e)
opener_last stmt.ImplicitNone inner e = absurd (cc e)
opener_last (stmt.Integer decls) inner e = absurd (cc e)
opener_last (stmt.Logical decls) inner e = absurd (cc e)
opener_last (stmt.Dimension decls) inner e = absurd (cc e)
opener_last (stmt.Parameter constants) inner e = absurd (cc e)
opener_last (stmt.Inport ports decls) inner e = absurd (cc e)
opener_last (stmt.Outport ports decls) inner e = absurd (cc e)
opener_last (stmt.Intent way names) inner e = absurd (cc e)
opener_last (stmt.Processors sizes) inner e = absurd (cc e)
opener_last (stmt.LogicalIf x s) inner e = absurd (cc e)
opener_last (stmt.ElseIf x) inner e = absurd (cc e)
opener_last stmt.Else inner e = absurd (cc e)
opener_last stmt.EndIf inner e = absurd (cc e)
opener_last stmt.EndDo inner e = absurd (cc e)
opener_last stmt.End inner e = absurd (cc e)
opener_last stmt.EndProcesses inner e = absurd (cc e)
opener_last (stmt.ProcessCall name part) inner e = absurd (cc e)
opener_last stmt.EndProcessDo inner e = absurd (cc e)
opener_last stmt.LoopEnd inner e = absurd (cc e)

-- ---- lists, last first

-- one behind the other, put on what is there, last first
abbrev pub onto : List EntryMark → List EntryMark → List EntryMark
onto [] before = before
onto (m ∷ ms) before = onto ms (m ∷ before)

pub reverse_onto : (xs ms : List EntryMark) → reverse (xs ++ ms) ≡ onto ms (reverse xs)
reverse_onto xs [] = ap reverse (append-nil xs)
reverse_onto xs (m ∷ ms) = ap reverse (sym (append_assoc xs (m ∷ []) ms)) ∙ reverse_onto (xs ++ m ∷ []) ms ∙ ap (onto ms) (reverse_push xs m)

pub onto_none : (ms : List EntryMark) → onto ms [] ≡ reverse ms
onto_none ms = sym (reverse_onto [] ms)

pub onto_twice : (xs before ys : List EntryMark) → onto (onto xs before) ys ≡ onto before (xs ++ ys)
onto_twice [] before ys = refl
onto_twice (x ∷ xs) before ys = onto_twice xs (x ∷ before) ys

-- ---- marks

-- the innermost of these blocks is a labelled loop
abbrev pub EndsLabelled : List Open → Type 0
EndsLabelled os = (o : Open) × (label : Label) × (head_of os ≡ Some o) × (terminal_label o.form ≡ Some label)

abbrev pub IsNoTest : List EntryMark → Type 0
IsNoTest before = (t : EntryMark) → head_of before ≡ Some t → t.form ≡ form.Test → ⊥

-- a mark behind these, which are given last first
pub record IsLaid (statements : List Placed) (before : List EntryMark) (m : EntryMark) : Type 0 where
  pub suits : Suits m.form (statement_at statements m)
  pub closes : (t : Terminal) → m.form ≡ form.LoopEnd t → EndsLabelled (open_blocks before zero)
  pub turned : (t : EntryMark) → head_of before ≡ Some t → t.form ≡ form.Test → m.form ≡ form.End → ⊥

-- each of these, which are given last first
abbrev AreLaid : List Placed → List EntryMark → Type 0
AreLaid statements [] = Unit {0}
AreLaid statements (m ∷ before) = IsLaid statements before m × AreLaid statements before

-- the block is no one that is put round a lone PROCESSDO
abbrev pub IsNoWrap : List Open → Type 0
IsNoWrap os = (o : Open) → head_of os ≡ Some o → is_wrap o.form ≡ false

-- behind a statement
record IsWhole (statements : List Placed) (before : List EntryMark) : Type 0 where
  laid : AreLaid statements before
  test : IsNoTest before
  wrap : IsNoWrap (open_blocks before zero)

pub the_mark : (a b : EntryMark) → Some a ≡ Some b → a ≡ b
the_mark a b e = cc

pub the_block : (a b : Open) → Some a ≡ Some b → a ≡ b
the_block a b e = cc

never : true ≡ false → ⊥
never e = absurd (cc)

form_no_test : (m : EntryMark) (before : List EntryMark) → is_test m.form ≡ false → IsNoTest (m ∷ before)
form_no_test m before e t is test = never (sym (ap is_test (ap (λ (x : EntryMark). x.form) (the_mark m t is) ∙ test)) ∙ e)

-- ---- ends behind a statement

closes_one : (m : EntryMark) (before : List EntryMark) (o : Open) (os : List Open) → bracket_of m.form ≡ Closes → open_blocks before zero ≡ o ∷ os → open_blocks (m ∷ before) zero ≡ os
closes_one m before o os is at =
    ap (λ (b : Bracket). counted b (length before) m.form (open_blocks before) zero) is ∙ open_blocks-drop before 1 ∙ ap (drop 1) at

abbrev wrap_end : Line → Option Label → ℕ → EntryMark
wrap_end line label place = record { line = line; label = label; form = form.EndWrap; place = place }

abbrev loop_end : Line → Option Label → ℕ → Terminal → EntryMark
loop_end line label place t = record { line = line; label = label; form = form.LoopEnd t; place = place }

wrap_laid : (statements : List Placed) (line : Line) (label : Option Label) (place : ℕ) (before : List EntryMark) → IsNoTest before → IsLaid statements before (wrap_end line label place)
unfolding statement_of
wrap_laid statements line label place before test = record { suits = inr refl; closes = λ t e. absurd (cc e); turned = λ t at is e. test t at is }

loop_laid : (statements : List Placed) (line : Line) (label : Option Label) (place : ℕ) (t : Terminal) (before : List EntryMark) → IsNoTest before → EndsLabelled (open_blocks before zero) → IsLaid statements before (loop_end line label place t)
unfolding statement_of
loop_laid statements line label place t before test labelled = record { suits = (t, refl); closes = λ q e. labelled; turned = λ q at is e. test q at is }

wrap_closes : (line : Line) (label : Option Label) (place : ℕ) → bracket_of (wrap_end line label place).form ≡ Closes
unfolding bracket_of
wrap_closes line label place = refl

loop_closes : (line : Line) (label : Option Label) (place : ℕ) (t : Terminal) → bracket_of (loop_end line label place t).form ≡ Closes
unfolding bracket_of
loop_closes line label place t = refl

labelled_by : (closed : Option Label) (o : Open) → is_closed_by closed o ≡ true → (label : Label) × (terminal_label o.form ≡ Some label)
labelled_by None o e = absurd (cc e)
labelled_by (Some l) o e = go (terminal_label o.form) refl e
  where
    go : (x : Option Label) → terminal_label o.form ≡ x → is_this_label l x ≡ true → (label : Label) × (terminal_label o.form ≡ Some label)
    go None is e = absurd (cc e)
    go (Some label) is e = (label, is)

none_behind : (statements : List Placed) (before : List EntryMark) → open_blocks before zero ≡ [] → AreLaid statements before → IsNoTest before → IsWhole statements before
none_behind statements before at laid test = record { laid = laid; test = test; wrap = λ o e. none o (sym (ap head_of at) ∙ e) }
  where
    none : (o : Open) → None ≡ Some o → is_wrap o.form ≡ false
    none o e = absurd (cc e)

ends_laid : (statements : List Placed) (line : Line) (label : Option Label) (place : ℕ) (t : Terminal) (closed : Option Label) (os : List Open) (before : List EntryMark) → open_blocks before zero ≡ os → AreLaid statements before → IsNoTest before
    → IsWhole statements (onto (marks_of line label place (closing t closed os)) before)
ends_laid statements line label place t closed [] before at laid test = none_behind statements before at laid test
ends_laid statements line label place t closed (o ∷ os) before at laid test =
    let w = wrap_end line label place in
    let l = loop_end line label place t in
    let after_wrap = ends_laid statements line None place t closed os (w ∷ before) (closes_one w before o os (wrap_closes line label place) at) (wrap_laid statements line label place before test, laid) (form_no_test w before refl) in
    elim (is_wrap o.form) as (λ (b : Bool). is_wrap o.form ≡ b → IsWhole statements (onto (marks_of line label place (put_end (if b then Some form.EndWrap else (if is_closed_by closed o then Some (form.LoopEnd t) else None)) (closing t closed os))) before)) [
      | true ↦ λ e. after_wrap
      | false ↦ λ e.
          elim (is_closed_by closed o) as (λ (b : Bool). is_closed_by closed o ≡ b → IsWhole statements (onto (marks_of line label place (put_end (if b then Some (form.LoopEnd t) else None) (closing t closed os))) before)) [
            | true ↦ λ c.
                let by = labelled_by closed o c in
                ends_laid statements line None place t closed os (l ∷ before) (closes_one l before o os (loop_closes line label place t) at)
                (loop_laid statements line label place t before test (o, by.0, ap head_of at, by.1), laid) (form_no_test l before refl)
            | false ↦ λ c. record { laid = laid; test = test; wrap = λ x is. ap (λ (y : Open). is_wrap y.form) (sym (the_block o x (sym (ap head_of at) ∙ is))) ∙ e }
          ] refl
    ] refl

-- ---- own entries of a statement

abbrev first_ends : List Form → Bool
first_ends [] = false
first_ends (f ∷ fs) = is_end f

abbrev MayFollow : List EntryMark → List Form → Type 0
MayFollow before fs = (t : EntryMark) → head_of before ≡ Some t → t.form ≡ form.Test → first_ends fs ≡ false

not_false : (b : Bool) → not b ≡ true → b ≡ false
not_false true e = absurd (cc e)
not_false false e = refl

both_true : (a b : Bool) → (a && b) ≡ true → (a ≡ true) × (b ≡ true)
both_true true b e = (refl, e)
both_true false b e = absurd (cc e)

neither : (a b : Bool) → (a || b) ≡ false → (a ≡ false) × (b ≡ false)
neither true b e = absurd (cc e)
neither false b e = (refl, e)

module _ (statements : List Placed) (line : Line) (place : ℕ) (s : Stmt) (here : (get_or statements place blank_statement).stmt ≡ s) where
  abbrev the_own : Option Label → Form → EntryMark
  the_own label f = record { line = line; label = label; form = f; place = place }

  one_laid : (label : Option Label) (f : Form) (before : List EntryMark) → Suits f (statement_of f s) → is_loop_end f ≡ false → ((t : EntryMark) → head_of before ≡ Some t → t.form ≡ form.Test → is_end f ≡ false) → IsLaid statements before (the_own label f)
  one_laid label f before suits no_end follows = record {
    suits = subst (λ (x : Stmt). Suits f (statement_of f x)) (sym here) suits;
    closes = λ t e. absurd (never (sym (ap is_loop_end e) ∙ no_end));
    turned = λ t at is e. never (sym (ap is_end e) ∙ follows t at is);
  }

  own_laid : (label : Option Label) (fs : List Form) (before : List EntryMark) → AllSuit s fs → some_loop_end fs ≡ false → well_turned fs ≡ true → MayFollow before fs → AreLaid statements before
      → AreLaid statements (onto (marks_of line label place fs) before) × IsNoTest (onto (marks_of line label place fs) before)
  own_laid label [] before suit no_end turned follows laid = absurd (never (sym turned))
  own_laid label (f ∷ []) before suit no_end turned follows laid =
      ((one_laid label f before suit.0 (neither (is_loop_end f) false no_end).0 follows, laid), form_no_test (the_own label f) before (not_false (is_test f) turned))
  own_laid label (f ∷ g ∷ fs) before suit no_end turned follows laid =
      let e = neither (is_loop_end f) (some_loop_end (g ∷ fs)) no_end in
      let t = both_true (not (is_end g)) (well_turned (g ∷ fs)) turned in
      own_laid None (g ∷ fs) (the_own label f ∷ before) suit.1 e.1 t.1 (λ x at is. not_false (is_end g) t.0) (one_laid label f before suit.0 e.0 follows, laid)

  opens_here : (label : Option Label) (fs : List Form) (before : List EntryMark) → opens_last fs → IsNoWrap (open_blocks (onto (marks_of line label place fs) before) zero)
  opens_here label [] before h o e = absurd h
  opens_here label (f ∷ []) before h o e =
      let opened = ap (λ (b : Bracket). head_of (counted b (length before) f (open_blocks before) zero)) h.0 in
      ap (λ (x : Open). is_wrap x.form) (sym (the_block _ o (sym opened ∙ e))) ∙ h.1
  opens_here label (f ∷ g ∷ fs) before h o e = opens_here None (g ∷ fs) (the_own label f ∷ before) h o e

-- ---- statements one after the other

module _ (statements : List Placed) (entries : List EntryMark) (place : ℕ) (p : Placed) (here : (get_or statements place blank_statement).stmt ≡ p.stmt) (source : IsOfSource p.stmt) (whole : IsWhole statements (reverse entries)) where
  abbrev own_at : Option Label → List EntryMark → List EntryMark
  own_at label es = marks_of p.line label place (own_forms (form_of p.stmt) (contained_form p.stmt) (head_of (behind es)))

  own_whole : (label : Option Label) (es : List EntryMark) → AreLaid statements (reverse es) → IsNoTest (reverse es) → AreLaid statements (reverse (es ++ own_at label es)) × IsNoTest (reverse (es ++ own_at label es))
  own_whole label es laid test =
      let own = own_all p.stmt (head_of (behind es)) source in
      subst (λ (r : List EntryMark). AreLaid statements r × IsNoTest r) (sym (reverse_onto es (own_at label es)))
      (own_laid statements p.line place p.stmt here label (own_forms (form_of p.stmt) (contained_form p.stmt) (head_of (behind es))) (reverse es) own.suit own.no_end own.turned (λ t at is. absurd (test t at is)) laid)

  other_whole : IsWhole statements (reverse (with_statement Stays entries place p))
  other_whole =
      let es = entries ++ own_at p.label entries in
      let own = own_whole p.label entries whole.laid whole.test in
      let ends = marks_of p.line None place (ends_behind p (behind es)) in
      subst (IsWhole statements) (sym (reverse_onto es ends))
      (ends_laid statements p.line None place (terminal_of (form_of p.stmt)) p.label (behind es) (reverse es) refl own.0 own.1)

  opener_whole : bracket_of (form_of p.stmt) ≡ Opens → IsWhole statements (reverse (with_statement Opens entries place p))
  opener_whole opens =
      let ended = ends_behind p (behind entries) in
      let es = entries ++ marks_of p.line p.label place ended in
      let label = label_left p.label ended in
      let closed = subst (IsWhole statements) (sym (reverse_onto entries (marks_of p.line p.label place ended)))
      (ends_laid statements p.line p.label place (terminal_of (form_of p.stmt)) p.label (behind entries) (reverse entries) refl whole.laid whole.test) in
      let own = own_whole label es closed.laid closed.test in
      record {
        laid = own.0;
        test = own.1;
        wrap = subst (λ (r : List EntryMark). IsNoWrap (open_blocks r zero)) (sym (reverse_onto es (own_at label es)))
            (opens_here statements p.line place p.stmt here label (own_forms (form_of p.stmt) (contained_form p.stmt) (head_of (behind es))) (reverse es) (opener_last p.stmt (head_of (behind es)) opens));
      }

  statement_whole : (b : Bracket) → bracket_of (form_of p.stmt) ≡ b → IsWhole statements (reverse (with_statement b entries place p))
  statement_whole Opens is = opener_whole is
  statement_whole Closes is = other_whole
  statement_whole Parts is = other_whole
  statement_whole Stays is = other_whole

abbrev pub AreOfSource : List Placed → Type 0
AreOfSource [] = Unit {0}
AreOfSource (p ∷ ps) = IsOfSource p.stmt × AreOfSource ps

at_drop : {X : Type 0} (xs : List X) (k : ℕ) (d x : X) (rest : List X) → drop k xs ≡ x ∷ rest → (get_or xs k d ≡ x) × (drop (k + 1) xs ≡ rest)
at_drop [] zero d x rest e = absurd (cc)
at_drop [] (suc k) d x rest e = absurd (cc)
at_drop (y ∷ ys) zero d x rest e = (cc, cc)
at_drop (y ∷ ys) (suc k) d x rest e =
    let r = at_drop ys k d x rest e in (r.0, ap (λ n. drop n (y ∷ ys)) (add-one (suc k)) ∙ ap (λ n. drop n ys) (sym (add-one k)) ∙ r.1)

all_whole : (statements : List Placed) (ps : List Placed) (entries : List EntryMark) (place : ℕ) → drop place statements ≡ ps → AreOfSource ps → IsWhole statements (reverse entries) → IsWhole statements (reverse (laid_behind entries place ps))
all_whole statements [] entries place e source whole = whole
all_whole statements (p ∷ ps) entries place e source whole =
    let at = at_drop statements place blank_statement p ps e in
    all_whole statements ps (with_statement (bracket_of (form_of p.stmt)) entries place p) (place + 1) at.1 source.1
    (statement_whole statements entries place p (ap (λ (q : Placed). q.stmt) at.0) source.0 whole (bracket_of (form_of p.stmt)) refl)

nothing_whole : (statements : List Placed) → IsWhole statements []
nothing_whole statements = record { laid = tt; test = λ t e. absurd (cc e); wrap = λ o e. absurd (cc e) }

-- ---- each of them

abbrev pub AllLaid : List Placed → List EntryMark → List EntryMark → Type 0
AllLaid statements before [] = Unit {0}
AllLaid statements before (m ∷ ms) = IsLaid statements before m × AllLaid statements (m ∷ before) ms

turned_round : (statements : List Placed) (r ms : List EntryMark) → AreLaid statements r → AllLaid statements r ms → AllLaid statements [] (onto r ms)
turned_round statements [] ms laid all = all
turned_round statements (m ∷ r) ms laid all = turned_round statements r (m ∷ ms) laid.1 (laid.0, all)

pub all_laid : (statements : List Placed) → AreOfSource statements → AllLaid statements [] (laid_out statements)
all_laid statements source =
    let whole = all_whole statements statements [] 0 refl source (nothing_whole statements) in
    subst (AllLaid statements []) (onto_none (reverse (laid_out statements)) ∙ reverse-reverse (laid_out statements)) (turned_round statements (reverse (laid_out statements)) [] whole.laid tt)

pub laid_at : (statements : List Placed) (ms before : List EntryMark) (k : ℕ) (m : EntryMark) → AllLaid statements before ms → slice_get ms k ≡ Some m → IsLaid statements (onto (take k ms) before) m
laid_at statements [] before k m all e = absurd (cc e)
laid_at statements (x ∷ ms) before zero m all e = subst (IsLaid statements before) (the_mark x m e) all.0
laid_at statements (x ∷ ms) before (suc k) m all e = laid_at statements ms (x ∷ before) k m all.1 e

-- ---- a unit that ends with END

-- END, and what it may close
pub record IsFinished (ms : List EntryMark) : Type 0 where
  pub front : List EntryMark
  pub last : EntryMark
  pub ends : last.form ≡ form.End
  pub line : Line
  pub label : Option Label
  pub place : ℕ
  pub blocks : List Open
  pub no_wrap : IsNoWrap blocks
  pub is : ms ≡ (front ++ last ∷ []) ++ marks_of line None place (closing terminal.Unfit label blocks)

end_own : (s : Stmt) (inner : Option Open) → form_of s ≡ form.End → (own_forms (form_of s) (contained_form s) inner ≡ form.End ∷ []) × (bracket_of (form_of s) ≡ Stays) × (terminal_of (form_of s) ≡ terminal.Unfit)
unfolding form_of contained_form bracket_of terminal_of simple_form_of
end_own stmt.End inner e = (refl, refl, refl)
end_own (stmt.Simple (simple.Assignment v x)) inner e = absurd (cc e)
end_own (stmt.Simple (simple.Goto label)) inner e = absurd (cc e)
end_own (stmt.Simple simple.Continue) inner e = absurd (cc e)
end_own (stmt.Simple simple.Return) inner e = absurd (cc e)
end_own (stmt.Simple simple.Stop) inner e = absurd (cc e)
end_own (stmt.Simple (simple.Call name arguments)) inner e = absurd (cc e)
end_own (stmt.Simple (simple.Print items)) inner e = absurd (cc e)
end_own (stmt.Simple (simple.Write unit items)) inner e = absurd (cc e)
end_own (stmt.Simple (simple.Channel in_first inport outport)) inner e = absurd (cc e)
end_own (stmt.Simple (simple.Merger inport outports)) inner e = absurd (cc e)
end_own (stmt.Simple (simple.Send named port items)) inner e = absurd (cc e)
end_own (stmt.Simple (simple.Receive named port extras items)) inner e = absurd (cc e)
end_own (stmt.Simple (simple.EndChannel named port)) inner e = absurd (cc e)
end_own (stmt.Simple (simple.MovePort from to)) inner e = absurd (cc e)
end_own (stmt.Simple (simple.Probe named port empty)) inner e = absurd (cc e)
end_own (stmt.Program name) inner e = absurd (cc e)
end_own (stmt.Process name formals) inner e = absurd (cc e)
end_own (stmt.Subroutine name formals) inner e = absurd (cc e)
end_own (stmt.Function name formals) inner e = absurd (cc e)
end_own (stmt.IntegerFunction name formals) inner e = absurd (cc e)
end_own (stmt.LogicalFunction name formals) inner e = absurd (cc e)
end_own stmt.ImplicitNone inner e = absurd (cc e)
end_own (stmt.Integer decls) inner e = absurd (cc e)
end_own (stmt.Logical decls) inner e = absurd (cc e)
end_own (stmt.Dimension decls) inner e = absurd (cc e)
end_own (stmt.Parameter constants) inner e = absurd (cc e)
end_own (stmt.Inport ports decls) inner e = absurd (cc e)
end_own (stmt.Outport ports decls) inner e = absurd (cc e)
end_own (stmt.Intent way names) inner e = absurd (cc e)
end_own (stmt.Processors sizes) inner e = absurd (cc e)
end_own (stmt.LogicalIf x s) inner e = absurd (cc e)
end_own (stmt.BlockIf x) inner e = absurd (cc e)
end_own (stmt.ElseIf x) inner e = absurd (cc e)
end_own stmt.Else inner e = absurd (cc e)
end_own stmt.EndIf inner e = absurd (cc e)
end_own (stmt.Do head) inner e = absurd (cc e)
end_own (stmt.DoWhile x) inner e = absurd (cc e)
end_own stmt.EndDo inner e = absurd (cc e)
end_own stmt.Processes inner e = absurd (cc e)
end_own stmt.EndProcesses inner e = absurd (cc e)
end_own (stmt.ProcessCall name part) inner e = absurd (cc e)
end_own (stmt.ProcessDo head) inner e = absurd (cc e)
end_own stmt.EndProcessDo inner e = absurd (cc e)
end_own stmt.LoopEnd inner e = absurd (cc e)

end_is : (f : Form) → is_end f ≡ true → f ≡ form.End
end_is form.End e = refl
end_is f e = absurd (cc e)

not_true : (b : Bool) → not b ≡ false → b ≡ true
not_true true e = refl
not_true false e = absurd (cc e)

stays_behind : (m : EntryMark) (r : List EntryMark) → bracket_of m.form ≡ Stays → open_blocks (m ∷ r) zero ≡ open_blocks r zero
stays_behind m r is = ap (λ (b : Bracket). counted b (length r) m.form (open_blocks r) zero) is

end_stays : bracket_of form.End ≡ Stays
unfolding bracket_of
end_stays = refl

module _ (statements : List Placed) (entries : List EntryMark) (place : ℕ) (p : Placed) (whole : IsWhole statements (reverse entries)) (is_last : form_of p.stmt ≡ form.End) where
  abbrev the_end : EntryMark
  the_end = record { line = p.line; label = p.label; form = form.End; place = place }

  abbrev with_end : List EntryMark
  with_end = entries ++ marks_of p.line p.label place (own_forms (form_of p.stmt) (contained_form p.stmt) (head_of (behind entries)))

  end_last : with_end ≡ entries ++ the_end ∷ []
  end_last = ap (λ (fs : List Form). entries ++ marks_of p.line p.label place fs) (end_own p.stmt (head_of (behind entries)) is_last).0

  blocks_there : behind with_end ≡ behind entries
  blocks_there = ap behind end_last ∙ ap (λ (r : List EntryMark). open_blocks r zero) (reverse_push entries the_end) ∙ stays_behind the_end (reverse entries) end_stays

  one_finished : IsFinished (with_statement (bracket_of (form_of p.stmt)) entries place p)
  one_finished =
      let at = end_own p.stmt (head_of (behind entries)) is_last in
      record {
        front = entries;
        last = the_end;
        ends = refl;
        line = p.line;
        label = p.label;
        place = place;
        blocks = behind with_end;
        no_wrap = subst IsNoWrap (sym blocks_there) whole.wrap;
        is = ap (λ (b : Bracket). with_statement b entries place p) at.1
            ∙ ap (λ (es : List EntryMark). es ++ marks_of p.line None place (ends_behind p (behind with_end))) end_last
            ∙ ap (λ (t : Terminal). (entries ++ the_end ∷ []) ++ marks_of p.line None place (closing t p.label (behind with_end))) at.2;
      }

all_finished : (statements : List Placed) (ps : List Placed) (entries : List EntryMark) (place : ℕ) → drop place statements ≡ ps → AreOfSource ps → IsWhole statements (reverse entries) → lacks_end ps ≡ false → IsFinished (laid_behind entries place ps)
all_finished statements [] entries place e source whole last = absurd (never last)
all_finished statements (p ∷ []) entries place e source whole last = one_finished statements entries place p whole (end_is (form_of p.stmt) (not_true (is_end (form_of p.stmt)) last))
all_finished statements (p ∷ q ∷ ps) entries place e source whole last =
    let at = at_drop statements place blank_statement p (q ∷ ps) e in
    all_finished statements (q ∷ ps) (with_statement (bracket_of (form_of p.stmt)) entries place p) (place + 1) at.1 source.1
    (statement_whole statements entries place p (ap (λ (q : Placed). q.stmt) at.0) source.0 whole (bracket_of (form_of p.stmt)) refl) last

pub finished : (statements : List Placed) → AreOfSource statements → lacks_end statements ≡ false → IsFinished (laid_out statements)
finished statements source last = all_finished statements statements [] 0 refl source (nothing_whole statements) last
