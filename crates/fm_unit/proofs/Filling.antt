-- The entries that a statement makes take its pieces.
use Rattle.std.proofs.Common.{◌≡◌, ℕ, Bool, true, false, Option, Some, None, List, [], ◌∷◌, ◌++◌, get_or, refl, sym, ap, ◌∙◌, subst}
use Rattle.std.specs.Prelude.{if◌then◌else◌, not}
use Rattle.fm_base.specs.declared.name.Label.{Label}
use Rattle.fm_base.specs.declared.name.Line.{Line}
use Rattle.fm_tree.specs.declared.program_unit.Placed.{Placed}
use Rattle.fm_tree.specs.declared.statement.Simple.{Simple}
use Rattle.fm_tree.specs.declared.statement.Simple.TheVariants as simple
use Rattle.fm_tree.specs.declared.statement.Stmt.{Stmt}
use Rattle.fm_tree.specs.declared.statement.Stmt.TheVariants as stmt
use Rattle.fm_tree.specs.declared.form.Form.{Form}
use Rattle.fm_tree.specs.declared.form.Form.TheVariants as form
use Rattle.fm_tree.specs.declared.form.Terminal.{Terminal}
use Rattle.fm_tree.specs.declared.entry_mark.EntryMark.{EntryMark}
use Rattle.fm_tree.specs.declared.entry_mark.Open.{Open}
use Rattle.fm_tree.specs.Structure.{contained_form, form_of, is_wrap, loop_label, simple_form_of}
use Rattle.fm_tree.specs.Layout.{closing, contained_in, is_closed_by, is_parallel, marks_of, own_forms, put_end, statement_of, test_of}
use Rattle.fm_tree.specs.Units.{blank_statement, statement_at}
use Rattle.fm_unit.specs.Pieces.{made, piece, pieces_left, pieces_of}

-- the statements of entries come from these pieces, in order
abbrev pub Fills : List Placed → List EntryMark → List Stmt → Type 0
Fills statements [] ss = Unit {0}
Fills statements (e ∷ es) ss = (statement_at statements e ≡ piece (made e.form) ss) × Fills statements es (pieces_left (made e.form) ss)

-- ends take no piece
pub ends_fill : (statements : List Placed) (line : Line) (label : Option Label) (place : ℕ) (t : Terminal) (closed : Option Label) (os : List Open) (ns : List EntryMark) (ss : List Stmt)
    → Fills statements ns ss → Fills statements (marks_of line label place (closing t closed os) ++ ns) ss
unfolding made statement_of
ends_fill statements line label place t closed [] ns ss h = h
ends_fill statements line label place t closed (o ∷ os) ns ss h =
    let rest = ends_fill statements line None place t closed os ns ss h in
    elim (is_wrap o.form) as (λ (b : Bool). Fills statements (marks_of line label place (put_end (if b then Some form.EndWrap else (if is_closed_by closed o then Some (form.LoopEnd t) else None)) (closing t closed os)) ++ ns) ss) [
      | true ↦ (refl, rest)
      | false ↦ elim (is_closed_by closed o) as (λ (b : Bool). Fills statements (marks_of line label place (put_end (if b then Some (form.LoopEnd t) else None) (closing t closed os)) ++ ns) ss) [ true ↦ (refl, rest) | false ↦ h ]
    ]

-- the statement in a logical IF
record Contained (f : Form) : Type 0 where
  takes : made f ≡ None
  is : (s : Stmt) → statement_of f s ≡ contained_in s

contained_simple : (s : Simple) → Contained (simple_form_of s)
unfolding made statement_of simple_form_of
contained_simple (simple.Assignment v x) = record { takes = refl; is = λ q. refl }
contained_simple (simple.Goto label') = record { takes = refl; is = λ q. refl }
contained_simple simple.Continue = record { takes = refl; is = λ q. refl }
contained_simple simple.Return = record { takes = refl; is = λ q. refl }
contained_simple simple.Stop = record { takes = refl; is = λ q. refl }
contained_simple (simple.Call name arguments) = record { takes = refl; is = λ q. refl }
contained_simple (simple.Print items) = record { takes = refl; is = λ q. refl }
contained_simple (simple.Write unit items) = record { takes = refl; is = λ q. refl }
contained_simple (simple.Channel in_first inport outport) = record { takes = refl; is = λ q. refl }
contained_simple (simple.Merger inport outports) = record { takes = refl; is = λ q. refl }
contained_simple (simple.Send named port items) = record { takes = refl; is = λ q. refl }
contained_simple (simple.Receive named port extras items) = record { takes = refl; is = λ q. refl }
contained_simple (simple.EndChannel named port) = record { takes = refl; is = λ q. refl }
contained_simple (simple.MovePort from to) = record { takes = refl; is = λ q. refl }
contained_simple (simple.Probe named port empty) = record { takes = refl; is = λ q. refl }

one_fill : (statements : List Placed) (mark : EntryMark) (s : Stmt) (ns : List EntryMark) (ss : List Stmt) → made mark.form ≡ None → statement_at statements mark ≡ s
    → Fills statements ns ss → Fills statements (mark ∷ ns) (s ∷ ss)
one_fill statements mark s ns ss m e h =
    subst (λ (o : Option Stmt). (statement_at statements mark ≡ piece o (s ∷ ss)) × Fills statements ns (pieces_left o (s ∷ ss))) (sym m) (e, h)

simple_fill : (statements : List Placed) (line : Line) (label : Option Label) (place : ℕ) (s : Simple) (inner : Option Open) (ns : List EntryMark) (ss : List Stmt)
    → (get_or statements place blank_statement).stmt ≡ stmt.Simple s → Fills statements ns ss
    → Fills statements (marks_of line label place (own_forms (simple_form_of s) None inner) ++ ns) (stmt.Simple s ∷ ss)
unfolding made statement_of simple_form_of contained_in
simple_fill statements line label place (simple.Assignment v x) inner ns ss e h = (ap contained_in e, h)
simple_fill statements line label place (simple.Goto label') inner ns ss e h = (ap contained_in e, h)
simple_fill statements line label place simple.Continue inner ns ss e h = (ap contained_in e, h)
simple_fill statements line label place simple.Return inner ns ss e h = (ap contained_in e, h)
simple_fill statements line label place simple.Stop inner ns ss e h = (ap contained_in e, h)
simple_fill statements line label place (simple.Call name arguments) inner ns ss e h = (ap contained_in e, h)
simple_fill statements line label place (simple.Print items) inner ns ss e h = (ap contained_in e, h)
simple_fill statements line label place (simple.Write unit items) inner ns ss e h = (ap contained_in e, h)
simple_fill statements line label place (simple.Channel in_first inport outport) inner ns ss e h = (ap contained_in e, h)
simple_fill statements line label place (simple.Merger inport outports) inner ns ss e h = (ap contained_in e, h)
simple_fill statements line label place (simple.Send named port items) inner ns ss e h = (ap contained_in e, h)
simple_fill statements line label place (simple.Receive named port extras items) inner ns ss e h = (ap contained_in e, h)
simple_fill statements line label place (simple.EndChannel named port) inner ns ss e h = (ap contained_in e, h)
simple_fill statements line label place (simple.MovePort from to) inner ns ss e h = (ap contained_in e, h)
simple_fill statements line label place (simple.Probe named port empty) inner ns ss e h = (ap contained_in e, h)

-- the own entries of a statement take its pieces
pub own_fill : (statements : List Placed) (line : Line) (label : Option Label) (place : ℕ) (s : Stmt) (inner : Option Open) (ns : List EntryMark) (ss : List Stmt)
    → (get_or statements place blank_statement).stmt ≡ s → Fills statements ns ss
    → Fills statements (marks_of line label place (own_forms (form_of s) (contained_form s) inner) ++ ns) (pieces_of s ++ ss)
unfolding made statement_of form_of contained_form pieces_of test_of contained_in
own_fill statements line label place (stmt.Program name) inner ns ss e h = (ap contained_in e, h)
own_fill statements line label place (stmt.Process name formals) inner ns ss e h = (ap contained_in e, h)
own_fill statements line label place (stmt.Subroutine name formals) inner ns ss e h = (ap contained_in e, h)
own_fill statements line label place (stmt.Function name formals) inner ns ss e h = (ap contained_in e, h)
own_fill statements line label place (stmt.IntegerFunction name formals) inner ns ss e h = (ap contained_in e, h)
own_fill statements line label place (stmt.LogicalFunction name formals) inner ns ss e h = (ap contained_in e, h)
own_fill statements line label place stmt.ImplicitNone inner ns ss e h = (ap contained_in e, h)
own_fill statements line label place (stmt.Integer decls) inner ns ss e h = (ap contained_in e, h)
own_fill statements line label place (stmt.Logical decls) inner ns ss e h = (ap contained_in e, h)
own_fill statements line label place (stmt.Dimension decls) inner ns ss e h = (ap contained_in e, h)
own_fill statements line label place (stmt.Parameter constants) inner ns ss e h = (ap contained_in e, h)
own_fill statements line label place (stmt.Inport ports decls) inner ns ss e h = (ap contained_in e, h)
own_fill statements line label place (stmt.Outport ports decls) inner ns ss e h = (ap contained_in e, h)
own_fill statements line label place (stmt.Intent way names) inner ns ss e h = (ap contained_in e, h)
own_fill statements line label place (stmt.Processors sizes) inner ns ss e h = (ap contained_in e, h)
own_fill statements line label place (stmt.Simple s) inner ns ss e h = simple_fill statements line label place s inner ns ss e h
own_fill statements line label place (stmt.LogicalIf x s) inner ns ss e h =
    let c = contained_simple s in
    (ap test_of e, one_fill statements (record { line = line; label = None; form = simple_form_of s; place = place }) (stmt.Simple s) ns ss c.takes (c.is _ ∙ ap contained_in e) h)
own_fill statements line label place (stmt.BlockIf x) inner ns ss e h = (ap contained_in e, h)
own_fill statements line label place (stmt.ElseIf x) inner ns ss e h = (ap contained_in e, h)
own_fill statements line label place stmt.Else inner ns ss e h = (ap contained_in e, h)
own_fill statements line label place stmt.EndIf inner ns ss e h = (ap contained_in e, h)
own_fill statements line label place (stmt.Do head) inner ns ss e h = (ap contained_in e, h)
own_fill statements line label place (stmt.DoWhile x) inner ns ss e h = (ap contained_in e, h)
own_fill statements line label place stmt.EndDo inner ns ss e h = (ap contained_in e, h)
own_fill statements line label place stmt.End inner ns ss e h = (ap contained_in e, h)
own_fill statements line label place stmt.Processes inner ns ss e h = (ap contained_in e, h)
own_fill statements line label place stmt.EndProcesses inner ns ss e h = (ap contained_in e, h)
own_fill statements line label place (stmt.ProcessCall name part) inner ns ss e h = (ap contained_in e, h)
own_fill statements line label place (stmt.ProcessDo head) inner ns ss e h =
    elim (not (is_parallel inner)) as (λ (b : Bool). Fills statements (marks_of line label place (if b then form.Wrap ∷ form.ProcessDo (loop_label head) ∷ [] else form.ProcessDo (loop_label head) ∷ []) ++ ns) (stmt.ProcessDo head ∷ ss)) [
      | true ↦ (refl, (ap contained_in e, h))
      | false ↦ (ap contained_in e, h)
    ]
own_fill statements line label place stmt.EndProcessDo inner ns ss e h = (ap contained_in e, h)
own_fill statements line label place stmt.LoopEnd inner ns ss e h = (refl, h)
