-- What the entries that statements make are made of.
use Rattle.std.proofs.Common.{◌≡◌, ℕ, ◌+◌, zero, suc, Bool, true, false, Option, Some, None, List, [], ◌∷◌, ◌++◌, length, drop, get_or, refl, sym, ap, ◌∙◌, subst, append_assoc, add-one}
use Rattle.std.specs.Prelude.{if◌then◌else◌, not, ◌&&◌}
use Rattle.std.proofs.lemmas.List.{append-nil}
use Rattle.fm_base.specs.declared.name.Label.{Label}
use Rattle.fm_base.specs.declared.name.Line.{Line}
use Rattle.fm_tree.specs.declared.program_unit.Placed.{Placed}
use Rattle.fm_tree.specs.declared.statement.Stmt.{Stmt}
use Rattle.fm_tree.specs.declared.statement.Stmt.TheVariants as stmt
use Rattle.fm_tree.specs.declared.form.Form.{Form}
use Rattle.fm_tree.specs.declared.form.Form.TheVariants as form
use Rattle.fm_tree.specs.declared.form.Bracket.{Bracket}
use Rattle.fm_tree.specs.declared.form.Bracket.TheVariants.{Opens, Closes, Parts, Stays}
use Rattle.fm_tree.specs.declared.form.Terminal.{Terminal}
use Rattle.fm_tree.specs.declared.entry_mark.EntryMark.{EntryMark}
use Rattle.fm_tree.specs.declared.entry_mark.Open.{Open}
use Rattle.fm_tree.specs.Structure.{bracket_of, contained_form, form_of, is_executable, is_process_loop, is_wrap, terminal_of}
use Rattle.fm_tree.specs.Blocks.{behind, head_of, turned}
use Rattle.fm_tree.specs.Layout.{closing, ends_behind, fitted, is_closed_by, is_parallel, label_left, laid_behind, laid_out, marks_of, own_behind, own_forms, put_end, with_ends, with_statement}
use Rattle.fm_tree.specs.Units.{blank_statement, body_of}
use Rattle.fm_tree_blocks.proofs.Counts.{behind_push}
use Rattle.fm_unit.specs.Pieces.{body_in, pieces_in, pieces_of}
use Rattle.fm_unit.proofs.Filling.{Fills, ends_fill, own_fill}

-- Where the body begins.

abbrev pub IsBegun : List EntryMark → Type 0
IsBegun [] = ⊥
IsBegun (e ∷ es) = is_executable e.form ≡ true

begun_body : (ms : List EntryMark) → IsBegun ms → body_of ms ≡ ms
begun_body [] h = absurd h
begun_body (e ∷ es) h = ap (λ (b : Bool). if b then e ∷ es else body_of es) h

ends_begin : (line : Line) (label : Option Label) (place : ℕ) (t : Terminal) (closed : Option Label) (os : List Open) (ns : List EntryMark)
    → IsBegun ns → IsBegun (marks_of line label place (closing t closed os) ++ ns)
ends_begin line label place t closed [] ns h = h
ends_begin line label place t closed (o ∷ os) ns h =
    elim (is_wrap o.form) as (λ (b : Bool). IsBegun (marks_of line label place (put_end (if b then Some form.EndWrap else (if is_closed_by closed o then Some (form.LoopEnd t) else None)) (closing t closed os)) ++ ns)) [
      | true ↦ refl
      | false ↦ elim (is_closed_by closed o) as (λ (b : Bool). IsBegun (marks_of line label place (put_end (if b then Some (form.LoopEnd t) else None) (closing t closed os)) ++ ns)) [ true ↦ refl | false ↦ h ]
    ]

fitted_alike : (f : Form) (inner : Option Open) → is_executable (fitted f inner) ≡ is_executable f
fitted_alike (form.Heading unit) inner = refl
fitted_alike form.Processors inner = refl
fitted_alike form.Declaration inner = refl
fitted_alike form.BlockIf inner = refl
fitted_alike (form.ElseIf fits) inner = refl
fitted_alike (form.Else fits) inner = refl
fitted_alike form.EndIf inner = refl
fitted_alike (form.Do label) inner = refl
fitted_alike form.DoWhile inner = refl
fitted_alike form.EndDo inner = refl
fitted_alike form.Processes inner = refl
fitted_alike form.EndProcesses inner = refl
fitted_alike form.Wrap inner = refl
fitted_alike form.EndWrap inner = refl
fitted_alike (form.ProcessDo label) inner = refl
fitted_alike form.EndProcessDo inner = refl
fitted_alike form.ProcessCall inner = refl
fitted_alike form.Test inner = refl
fitted_alike (form.Goto label) inner = refl
fitted_alike (form.Receive label) inner = refl
fitted_alike form.Continue inner = refl
fitted_alike form.Return inner = refl
fitted_alike form.Stop inner = refl
fitted_alike form.End inner = refl
fitted_alike form.Plain inner = refl
fitted_alike (form.LoopEnd t) inner = refl

own_begin : (line : Line) (label : Option Label) (place : ℕ) (f : Form) (contained : Option Form) (inner : Option Open) (ns : List EntryMark)
    → is_executable f ≡ true → IsBegun (marks_of line label place (own_forms f contained inner) ++ ns)
own_begin line label place f (Some g) inner ns e = e
own_begin line label place f None inner ns e =
    elim (is_process_loop f && not (is_parallel inner)) as (λ (b : Bool). IsBegun (marks_of line label place (if b then form.Wrap ∷ f ∷ [] else fitted f inner ∷ []) ++ ns)) [
      | true ↦ refl
      | false ↦ fitted_alike f inner ∙ e
    ]

-- Statements one after the other.

pub at_drop : {X : Type 0} (xs : List X) (k : ℕ) (d x : X) (rest : List X) → drop k xs ≡ x ∷ rest → (get_or xs k d ≡ x) × (drop (k + 1) xs ≡ rest)
at_drop [] zero d x rest e = absurd (cc)
at_drop [] (suc k) d x rest e = absurd (cc)
at_drop (y ∷ ys) zero d x rest e = (cc, cc)
at_drop (y ∷ ys) (suc k) d x rest e =
    let r = at_drop ys k d x rest e in (r.0, ap (λ n. drop n (y ∷ ys)) (add-one (suc k)) ∙ ap (λ n. drop n ys) (sym (add-one k)) ∙ r.1)

-- what is laid out behind entries, and what it is made of
record Made (statements : List Placed) (entries all : List EntryMark) (pieces : List Stmt) (starts : Bool) : Type 0 where
  marks : List EntryMark
  is : all ≡ entries ++ marks
  fills : (ns : List EntryMark) (ss : List Stmt) → Fills statements ns ss → Fills statements (marks ++ ns) (pieces ++ ss)
  begins : starts ≡ true → (ns : List EntryMark) → IsBegun (marks ++ ns)

module _ (statements : List Placed) (entries : List EntryMark) (place : ℕ) (p : Placed) (here : (get_or statements place blank_statement).stmt ≡ p.stmt) where
  opener_made : Made statements entries (with_statement Opens entries place p) (pieces_of p.stmt) (is_executable (form_of p.stmt))
  opener_made =
      let t = terminal_of (form_of p.stmt) in
      let ends = marks_of p.line p.label place (closing t p.label (behind entries)) in
      let label = label_left p.label (closing t p.label (behind entries)) in
      let inner = head_of (behind (entries ++ ends)) in
      let own = marks_of p.line label place (own_forms (form_of p.stmt) (contained_form p.stmt) inner) in
      record {
        marks = ends ++ own;
        is = append_assoc entries ends own;
        fills = λ ns ss h. subst (λ (ms : List EntryMark). Fills statements ms (pieces_of p.stmt ++ ss)) (sym (append_assoc ends own ns))
            (ends_fill statements p.line p.label place t p.label (behind entries) (own ++ ns) (pieces_of p.stmt ++ ss) (own_fill statements p.line label place p.stmt inner ns ss here h));
        begins = λ e ns. subst IsBegun (sym (append_assoc ends own ns))
            (ends_begin p.line p.label place t p.label (behind entries) (own ++ ns) (own_begin p.line label place (form_of p.stmt) (contained_form p.stmt) inner ns e));
      }

  other_made : Made statements entries (with_ends (own_behind p p.label place entries) place p) (pieces_of p.stmt) (is_executable (form_of p.stmt))
  other_made =
      let t = terminal_of (form_of p.stmt) in
      let inner = head_of (behind entries) in
      let own = marks_of p.line p.label place (own_forms (form_of p.stmt) (contained_form p.stmt) inner) in
      let os = behind (entries ++ own) in
      let ends = marks_of p.line None place (closing t p.label os) in
      record {
        marks = own ++ ends;
        is = append_assoc entries own ends;
        fills = λ ns ss h. subst (λ (ms : List EntryMark). Fills statements ms (pieces_of p.stmt ++ ss)) (sym (append_assoc own ends ns))
            (own_fill statements p.line p.label place p.stmt inner (ends ++ ns) ss here (ends_fill statements p.line None place t p.label os ns ss h));
        begins = λ e ns. subst IsBegun (sym (append_assoc own ends ns))
            (own_begin p.line p.label place (form_of p.stmt) (contained_form p.stmt) inner (ends ++ ns) e);
      }

  statement_made : (b : Bracket) → Made statements entries (with_statement b entries place p) (pieces_of p.stmt) (is_executable (form_of p.stmt))
  statement_made Opens = opener_made
  statement_made Closes = other_made
  statement_made Parts = other_made
  statement_made Stays = other_made

abbrev starts_body : List Placed → Bool
starts_body [] = false
starts_body (p ∷ ps) = is_executable (form_of p.stmt)

all_made : (statements : List Placed) (entries : List EntryMark) (place : ℕ) (ps : List Placed) → drop place statements ≡ ps
    → Made statements entries (laid_behind entries place ps) (pieces_in ps) (starts_body ps)
all_made statements entries place [] e = record { marks = []; is = sym (append-nil entries); fills = λ ns ss h. h; begins = λ f. absurd (cc) }
all_made statements entries place (p ∷ ps) e =
    let at = at_drop statements place blank_statement p ps e in
    let g = statement_made statements entries place p (ap (λ (q : Placed). q.stmt) at.0) (bracket_of (form_of p.stmt)) in
    let r = all_made statements (with_statement (bracket_of (form_of p.stmt)) entries place p) (place + 1) ps at.1 in
    record {
      marks = g.marks ++ r.marks;
      is = r.is ∙ ap (λ (es : List EntryMark). es ++ r.marks) g.is ∙ append_assoc entries g.marks r.marks;
      fills = λ ns ss h.
          subst (λ (ms : List EntryMark). Fills statements ms ((pieces_of p.stmt ++ pieces_in ps) ++ ss)) (sym (append_assoc g.marks r.marks ns))
          (subst (λ (xs : List Stmt). Fills statements (g.marks ++ (r.marks ++ ns)) xs) (sym (append_assoc (pieces_of p.stmt) (pieces_in ps) ss))
          (g.fills (r.marks ++ ns) (pieces_in ps ++ ss) (r.fills ns ss h)));
      begins = λ f ns. subst IsBegun (sym (append_assoc g.marks r.marks ns)) (g.begins f (r.marks ++ ns));
    }

-- Before the body each statement is one entry, and no block is open.

record FrontForm (f : Form) : Type 0 where
  stays : bracket_of f ≡ Stays
  alone : own_forms f None None ≡ f ∷ []

front_form : (f : Form) → is_executable f ≡ false → FrontForm f
unfolding bracket_of
front_form (form.Heading unit) e = record { stays = refl; alone = refl }
front_form form.Processors e = record { stays = refl; alone = refl }
front_form form.Declaration e = record { stays = refl; alone = refl }
front_form form.BlockIf e = absurd (cc)
front_form (form.ElseIf fits) e = absurd (cc)
front_form (form.Else fits) e = absurd (cc)
front_form form.EndIf e = absurd (cc)
front_form (form.Do label) e = absurd (cc)
front_form form.DoWhile e = absurd (cc)
front_form form.EndDo e = absurd (cc)
front_form form.Processes e = absurd (cc)
front_form form.EndProcesses e = absurd (cc)
front_form form.Wrap e = absurd (cc)
front_form form.EndWrap e = absurd (cc)
front_form (form.ProcessDo label) e = absurd (cc)
front_form form.EndProcessDo e = absurd (cc)
front_form form.ProcessCall e = absurd (cc)
front_form form.Test e = absurd (cc)
front_form (form.Goto label) e = absurd (cc)
front_form (form.Receive label) e = absurd (cc)
front_form form.Continue e = absurd (cc)
front_form form.Return e = absurd (cc)
front_form form.Stop e = absurd (cc)
front_form form.End e = absurd (cc)
front_form form.Plain e = absurd (cc)
front_form (form.LoopEnd t) e = absurd (cc)

front_contained : (s : Stmt) → is_executable (form_of s) ≡ false → contained_form s ≡ None
unfolding form_of contained_form
front_contained (stmt.Program name) e = refl
front_contained (stmt.Process name formals) e = refl
front_contained (stmt.Subroutine name formals) e = refl
front_contained (stmt.Function name formals) e = refl
front_contained (stmt.IntegerFunction name formals) e = refl
front_contained (stmt.LogicalFunction name formals) e = refl
front_contained stmt.ImplicitNone e = refl
front_contained (stmt.Integer decls) e = refl
front_contained (stmt.Logical decls) e = refl
front_contained (stmt.Dimension decls) e = refl
front_contained (stmt.Parameter constants) e = refl
front_contained (stmt.Inport ports decls) e = refl
front_contained (stmt.Outport ports decls) e = refl
front_contained (stmt.Intent way names) e = refl
front_contained (stmt.Processors sizes) e = refl
front_contained (stmt.Simple s) e = refl
front_contained (stmt.LogicalIf x s) e = absurd (cc)
front_contained (stmt.BlockIf x) e = refl
front_contained (stmt.ElseIf x) e = refl
front_contained stmt.Else e = refl
front_contained stmt.EndIf e = refl
front_contained (stmt.Do head) e = refl
front_contained (stmt.DoWhile x) e = refl
front_contained stmt.EndDo e = refl
front_contained stmt.End e = refl
front_contained stmt.Processes e = refl
front_contained stmt.EndProcesses e = refl
front_contained (stmt.ProcessCall name part) e = refl
front_contained (stmt.ProcessDo head) e = refl
front_contained stmt.EndProcessDo e = refl
front_contained stmt.LoopEnd e = refl

record Front (entries all : List EntryMark) : Type 0 where
  mark : EntryMark
  is : all ≡ entries ++ mark ∷ []
  plain : is_executable mark.form ≡ false
  nothing : behind all ≡ []

front_made : (entries : List EntryMark) (place : ℕ) (p : Placed) → behind entries ≡ [] → is_executable (form_of p.stmt) ≡ false
    → Front entries (with_statement (bracket_of (form_of p.stmt)) entries place p)
front_made entries place p none plain =
    let f = form_of p.stmt in
    let k = front_form f plain in
    let mark : EntryMark = record { line = p.line; label = p.label; form = f; place = place } in
    let own : own_behind p p.label place entries ≡ entries ++ mark ∷ []
    = ap (λ (os : List Open). entries ++ marks_of p.line p.label place (own_forms f (contained_form p.stmt) (head_of os))) none
    ∙ ap (λ (c : Option Form). entries ++ marks_of p.line p.label place (own_forms f c None)) (front_contained p.stmt plain)
    ∙ ap (λ (fs : List Form). entries ++ marks_of p.line p.label place fs) k.alone in
    let still : behind (entries ++ mark ∷ []) ≡ []
    = behind_push entries mark ∙ ap (λ (b : Bracket). turned b (length entries) f (behind entries)) k.stays ∙ none in
    let all : with_statement (bracket_of f) entries place p ≡ entries ++ mark ∷ []
    = ap (λ (b : Bracket). with_statement b entries place p) k.stays
    ∙ ap (λ (es : List EntryMark). with_ends es place p) own
    ∙ ap (λ (os : List Open). (entries ++ mark ∷ []) ++ marks_of p.line None place (ends_behind p os)) still
    ∙ append-nil (entries ++ mark ∷ []) in
    record { mark = mark; is = all; plain = plain; nothing = ap behind all ∙ still }

body_made : (statements : List Placed) (entries : List EntryMark) (place : ℕ) (ps : List Placed) → drop place statements ≡ ps → behind entries ≡ []
    → ((ms : List EntryMark) → body_of (entries ++ ms) ≡ body_of ms)
    → Fills statements (body_of (laid_behind entries place ps)) (pieces_in (body_in ps))
body_made statements entries place [] e none past =
    let empty : body_of entries ≡ [] = ap body_of (sym (append-nil entries)) ∙ past [] in
    subst (λ (ms : List EntryMark). Fills statements ms []) (sym empty) tt
body_made statements entries place (p ∷ ps) e none past =
    elim (is_executable (form_of p.stmt)) as (λ (b : Bool). is_executable (form_of p.stmt) ≡ b → Fills statements (body_of (laid_behind entries place (p ∷ ps))) (pieces_in (if b then p ∷ ps else body_in ps))) [
      | true ↦ λ f. begun f
      | false ↦ λ f.
          let m = front_made entries place p none f in
          body_made statements (with_statement (bracket_of (form_of p.stmt)) entries place p) (place + 1) ps (at_drop statements place blank_statement p ps e).1 m.nothing
          (λ ms. ap (λ (es : List EntryMark). body_of (es ++ ms)) m.is ∙ ap body_of (append_assoc entries (m.mark ∷ []) ms) ∙ past (m.mark ∷ ms) ∙ ap (λ (b : Bool). if b then m.mark ∷ ms else body_of ms) m.plain)
    ] refl
  where
    begun : is_executable (form_of p.stmt) ≡ true → Fills statements (body_of (laid_behind entries place (p ∷ ps))) (pieces_in (p ∷ ps))
    begun f =
        let m = all_made statements entries place (p ∷ ps) e in
        let is : body_of (laid_behind entries place (p ∷ ps)) ≡ m.marks ++ [] = ap body_of m.is ∙ past m.marks ∙ ap body_of (sym (append-nil m.marks)) ∙ begun_body (m.marks ++ []) (m.begins f []) in
        subst (λ (ms : List EntryMark). Fills statements ms (pieces_in (p ∷ ps))) (sym is)
        (subst (λ (ss : List Stmt). Fills statements (m.marks ++ []) ss) (append-nil (pieces_in (p ∷ ps))) (m.fills [] [] tt))

-- the entries of a unit's body are filled by the pieces of its statements
pub body_filled : (statements : List Placed) → Fills statements (body_of (laid_out statements)) (pieces_in (body_in statements))
body_filled statements = body_made statements [] 0 statements refl refl (λ ms. refl)

-- a unit that begins with an executable statement begins with an executable entry
pub laid_begun : (p : Placed) (ps : List Placed) → is_executable (form_of p.stmt) ≡ true → IsBegun (laid_out (p ∷ ps))
laid_begun p ps f = let m = all_made (p ∷ ps) [] 0 (p ∷ ps) refl in subst IsBegun (append-nil m.marks ∙ sym m.is) (m.begins f [])
