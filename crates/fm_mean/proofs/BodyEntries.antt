-- Where the entries of a body lead to, by the rules of structure: to places of the body.
use Rattle.std.proofs.Common.{◌≡◌, inl, inr, ℕ, zero, suc, ◌+◌, ◌<◌, Bool, true, false, ◌&&◌, Option, Some, None, option_map, List, [], ◌∷◌, ◌++◌, length, slice_get, refl, sym, ap, ◌∙◌, subst, arith}
use Rattle.std.specs.Prelude.{if◌then◌else◌}
use Rattle.std.proofs.lemmas.List.{length-map}
use Rattle.std.proofs.lemmas.Option.{slice_get-map}
use Rattle.fm_base.specs.declared.name.Label.{Label}
use Rattle.fm_tree.specs.declared.form.Form.{Form}
use Rattle.fm_tree.specs.declared.form.Form.TheVariants as form
use Rattle.fm_tree.specs.declared.form.Bracket.{Bracket}
use Rattle.fm_tree.specs.declared.form.Bracket.TheVariants.{Opens, Closes, Stays}
use Rattle.fm_tree.specs.declared.entry_mark.EntryMark.{EntryMark}
use Rattle.fm_tree.specs.declared.program_unit.Entry.{Entry}
use Rattle.fm_tree.specs.declared.program_unit.Placed.{Placed}
use Rattle.fm_tree.specs.declared.statement.Simple.TheVariants as simple
use Rattle.fm_tree.specs.declared.statement.Stmt.{Stmt}
use Rattle.fm_tree.specs.declared.statement.Stmt.TheVariants as stmt
use Rattle.fm_tree.specs.Structure.{bracket_of, form_of, is_else, is_executable, loop_label, simple_form_of}
use Rattle.fm_tree.specs.Blocks.{branch_end, mate_of}
use Rattle.fm_tree.specs.Labels.{jump_label}
use Rattle.fm_tree.specs.Layout.{is_this_label, laid_out}
use Rattle.fm_tree.specs.Units.{after_of, body_of, entries_from, entry_of, form_at, lacks_end, mark_at, other_end_by, place_in, statement_at}
use Rattle.fm_tree_blocks.proofs.LaidMarks.{AreOfSource, Suits}
use Rattle.fm_tree_blocks.proofs.BodyMarks.{goes_on}
use Rattle.fm_rules.specs.BrokenUnit.{broken_in_unit}
use Rattle.fm_rules.specs.declared.entry_links.EntryLinks.{EntryLinks}
use Rattle.fm_rules.specs.Links.{after_at, after_in, after_mate, behind_loop, into_branch, jump_by, links_at, mark_of, marks_of, mate_in, next_branch, other_by, parted}
use Rattle.fm_mean.specs.Actions.{NoLoop, loop_of}
use Rattle.fm_mean.proofs.BodyRules.{EndsLoop, IsLoopForm, after_inside, behind_test, end_inside, executable_here, first_passes, form_here, got_some, got_within, label_there, loop_opener, marks_ended, mate_closes, some_first, suits_here}

never : true ≡ false → ⊥
never e = absurd (cc)

the_entry : (a b : Entry) → Some a ≡ Some b → a ≡ b
the_entry a b e = cc

-- ---- statements

abbrev pub ends_unit : Stmt → Bool
ends_unit stmt.End = true
ends_unit s = false

-- the end of a loop
abbrev pub ends_loop : Stmt → Bool
ends_loop stmt.EndDo = true
ends_loop stmt.EndProcessDo = true
ends_loop stmt.LoopEnd = true
ends_loop s = false

-- a test, or the beginning of a loop
abbrev pub turns : Stmt → Bool
turns (stmt.LogicalIf x s) = true
turns (stmt.BlockIf x) = true
turns (stmt.ElseIf x) = true
turns (stmt.Do head) = true
turns (stmt.DoWhile x) = true
turns (stmt.ProcessDo head) = true
turns s = false

-- no heading and no declaration
abbrev pub is_done : Stmt → Bool
is_done (stmt.Program name) = false
is_done (stmt.Process name formals) = false
is_done (stmt.Subroutine name formals) = false
is_done (stmt.Function name formals) = false
is_done (stmt.IntegerFunction name formals) = false
is_done (stmt.LogicalFunction name formals) = false
is_done stmt.ImplicitNone = false
is_done (stmt.Integer decls) = false
is_done (stmt.Logical decls) = false
is_done (stmt.Dimension decls) = false
is_done (stmt.Parameter constants) = false
is_done (stmt.Inport ports decls) = false
is_done (stmt.Outport ports decls) = false
is_done (stmt.Intent way names) = false
is_done (stmt.Processors sizes) = false
is_done (stmt.Simple s) = true
is_done (stmt.LogicalIf x s) = true
is_done (stmt.BlockIf x) = true
is_done (stmt.ElseIf x) = true
is_done stmt.Else = true
is_done stmt.EndIf = true
is_done (stmt.Do head) = true
is_done (stmt.DoWhile x) = true
is_done stmt.EndDo = true
is_done stmt.End = true
is_done stmt.Processes = true
is_done stmt.EndProcesses = true
is_done (stmt.ProcessCall name part) = true
is_done (stmt.ProcessDo head) = true
is_done stmt.EndProcessDo = true
is_done stmt.LoopEnd = true

suits_end : (f : Form) (s : Stmt) → Suits f s → f ≡ form.End → ends_unit s ≡ true
unfolding simple_form_of
suits_end f (stmt.Program name) h e = absurd (cc (sym h ∙ e))
suits_end f (stmt.Process name formals) h e = absurd (cc (sym h ∙ e))
suits_end f (stmt.Subroutine name formals) h e = absurd (cc (sym h ∙ e))
suits_end f (stmt.Function name formals) h e = absurd (cc (sym h ∙ e))
suits_end f (stmt.IntegerFunction name formals) h e = absurd (cc (sym h ∙ e))
suits_end f (stmt.LogicalFunction name formals) h e = absurd (cc (sym h ∙ e))
suits_end f stmt.ImplicitNone h e = absurd (cc (sym h ∙ e))
suits_end f (stmt.Integer decls) h e = absurd (cc (sym h ∙ e))
suits_end f (stmt.Logical decls) h e = absurd (cc (sym h ∙ e))
suits_end f (stmt.Dimension decls) h e = absurd (cc (sym h ∙ e))
suits_end f (stmt.Parameter constants) h e = absurd (cc (sym h ∙ e))
suits_end f (stmt.Inport ports decls) h e = absurd (cc (sym h ∙ e))
suits_end f (stmt.Outport ports decls) h e = absurd (cc (sym h ∙ e))
suits_end f (stmt.Intent way names) h e = absurd (cc (sym h ∙ e))
suits_end f (stmt.Processors sizes) h e = absurd (cc (sym h ∙ e))
suits_end f (stmt.Simple (simple.Assignment v t)) h e = absurd (cc (sym h ∙ e))
suits_end f (stmt.Simple (simple.Goto label)) h e = absurd (cc (sym h ∙ e))
suits_end f (stmt.Simple simple.Continue) h e = absurd (cc (sym h ∙ e))
suits_end f (stmt.Simple simple.Return) h e = absurd (cc (sym h ∙ e))
suits_end f (stmt.Simple simple.Stop) h e = absurd (cc (sym h ∙ e))
suits_end f (stmt.Simple (simple.Call name arguments)) h e = absurd (cc (sym h ∙ e))
suits_end f (stmt.Simple (simple.Print items)) h e = absurd (cc (sym h ∙ e))
suits_end f (stmt.Simple (simple.Write unit items)) h e = absurd (cc (sym h ∙ e))
suits_end f (stmt.Simple (simple.Channel in_first inport outport)) h e = absurd (cc (sym h ∙ e))
suits_end f (stmt.Simple (simple.Merger inport outports)) h e = absurd (cc (sym h ∙ e))
suits_end f (stmt.Simple (simple.Send named port items)) h e = absurd (cc (sym h ∙ e))
suits_end f (stmt.Simple (simple.Receive named port extras items)) h e = absurd (cc (sym h ∙ e))
suits_end f (stmt.Simple (simple.EndChannel named port)) h e = absurd (cc (sym h ∙ e))
suits_end f (stmt.Simple (simple.MovePort from to)) h e = absurd (cc (sym h ∙ e))
suits_end f (stmt.Simple (simple.Probe named port empty)) h e = absurd (cc (sym h ∙ e))
suits_end f (stmt.LogicalIf x s) h e = absurd (cc (sym h ∙ e))
suits_end f (stmt.BlockIf x) h e = absurd (cc (sym h ∙ e))
suits_end f (stmt.ElseIf x) h e = absurd (cc (sym h.1 ∙ e))
suits_end f stmt.Else h e = absurd (cc (sym h.1 ∙ e))
suits_end f stmt.EndIf h e = absurd (cc (sym h ∙ e))
suits_end f (stmt.Do head) h e = absurd (cc (sym h ∙ e))
suits_end f (stmt.DoWhile x) h e = absurd (cc (sym h ∙ e))
suits_end f stmt.EndDo h e = absurd (cc (sym h ∙ e))
suits_end f stmt.End h e = refl
suits_end f stmt.Processes (inl h) e = absurd (cc (sym h ∙ e))
suits_end f stmt.Processes (inr h) e = absurd (cc (sym h ∙ e))
suits_end f stmt.EndProcesses (inl h) e = absurd (cc (sym h ∙ e))
suits_end f stmt.EndProcesses (inr h) e = absurd (cc (sym h ∙ e))
suits_end f (stmt.ProcessCall name part) h e = absurd (cc (sym h ∙ e))
suits_end f (stmt.ProcessDo head) h e = absurd (cc (sym h ∙ e))
suits_end f stmt.EndProcessDo h e = absurd (cc (sym h ∙ e))
suits_end f stmt.LoopEnd h e = absurd (cc (sym h.1 ∙ e))

suits_done : (f : Form) (s : Stmt) → Suits f s → is_executable f ≡ true → is_done s ≡ true
suits_done f (stmt.Program name) h e = absurd (never (sym e ∙ ap is_executable h))
suits_done f (stmt.Process name formals) h e = absurd (never (sym e ∙ ap is_executable h))
suits_done f (stmt.Subroutine name formals) h e = absurd (never (sym e ∙ ap is_executable h))
suits_done f (stmt.Function name formals) h e = absurd (never (sym e ∙ ap is_executable h))
suits_done f (stmt.IntegerFunction name formals) h e = absurd (never (sym e ∙ ap is_executable h))
suits_done f (stmt.LogicalFunction name formals) h e = absurd (never (sym e ∙ ap is_executable h))
suits_done f stmt.ImplicitNone h e = absurd (never (sym e ∙ ap is_executable h))
suits_done f (stmt.Integer decls) h e = absurd (never (sym e ∙ ap is_executable h))
suits_done f (stmt.Logical decls) h e = absurd (never (sym e ∙ ap is_executable h))
suits_done f (stmt.Dimension decls) h e = absurd (never (sym e ∙ ap is_executable h))
suits_done f (stmt.Parameter constants) h e = absurd (never (sym e ∙ ap is_executable h))
suits_done f (stmt.Inport ports decls) h e = absurd (never (sym e ∙ ap is_executable h))
suits_done f (stmt.Outport ports decls) h e = absurd (never (sym e ∙ ap is_executable h))
suits_done f (stmt.Intent way names) h e = absurd (never (sym e ∙ ap is_executable h))
suits_done f (stmt.Processors sizes) h e = absurd (never (sym e ∙ ap is_executable h))
suits_done f (stmt.Simple s) h e = refl
suits_done f (stmt.LogicalIf x s) h e = refl
suits_done f (stmt.BlockIf x) h e = refl
suits_done f (stmt.ElseIf x) h e = refl
suits_done f stmt.Else h e = refl
suits_done f stmt.EndIf h e = refl
suits_done f (stmt.Do head) h e = refl
suits_done f (stmt.DoWhile x) h e = refl
suits_done f stmt.EndDo h e = refl
suits_done f stmt.End h e = refl
suits_done f stmt.Processes h e = refl
suits_done f stmt.EndProcesses h e = refl
suits_done f (stmt.ProcessCall name part) h e = refl
suits_done f (stmt.ProcessDo head) h e = refl
suits_done f stmt.EndProcessDo h e = refl
suits_done f stmt.LoopEnd h e = refl

done_form : (s : Stmt) → is_done s ≡ true → is_executable (parted (form_of s)) ≡ true
unfolding form_of parted simple_form_of
done_form (stmt.Program name) e = absurd (cc e)
done_form (stmt.Process name formals) e = absurd (cc e)
done_form (stmt.Subroutine name formals) e = absurd (cc e)
done_form (stmt.Function name formals) e = absurd (cc e)
done_form (stmt.IntegerFunction name formals) e = absurd (cc e)
done_form (stmt.LogicalFunction name formals) e = absurd (cc e)
done_form stmt.ImplicitNone e = absurd (cc e)
done_form (stmt.Integer decls) e = absurd (cc e)
done_form (stmt.Logical decls) e = absurd (cc e)
done_form (stmt.Dimension decls) e = absurd (cc e)
done_form (stmt.Parameter constants) e = absurd (cc e)
done_form (stmt.Inport ports decls) e = absurd (cc e)
done_form (stmt.Outport ports decls) e = absurd (cc e)
done_form (stmt.Intent way names) e = absurd (cc e)
done_form (stmt.Processors sizes) e = absurd (cc e)
done_form (stmt.Simple (simple.Assignment v t)) e = refl
done_form (stmt.Simple (simple.Goto label)) e = refl
done_form (stmt.Simple simple.Continue) e = refl
done_form (stmt.Simple simple.Return) e = refl
done_form (stmt.Simple simple.Stop) e = refl
done_form (stmt.Simple (simple.Call name arguments)) e = refl
done_form (stmt.Simple (simple.Print items)) e = refl
done_form (stmt.Simple (simple.Write unit items)) e = refl
done_form (stmt.Simple (simple.Channel in_first inport outport)) e = refl
done_form (stmt.Simple (simple.Merger inport outports)) e = refl
done_form (stmt.Simple (simple.Send named port items)) e = refl
done_form (stmt.Simple (simple.Receive named port extras items)) e = refl
done_form (stmt.Simple (simple.EndChannel named port)) e = refl
done_form (stmt.Simple (simple.MovePort from to)) e = refl
done_form (stmt.Simple (simple.Probe named port empty)) e = refl
done_form (stmt.LogicalIf x s) e = refl
done_form (stmt.BlockIf x) e = refl
done_form (stmt.ElseIf x) e = refl
done_form stmt.Else e = refl
done_form stmt.EndIf e = refl
done_form (stmt.Do head) e = refl
done_form (stmt.DoWhile x) e = refl
done_form stmt.EndDo e = refl
done_form stmt.End e = refl
done_form stmt.Processes e = refl
done_form stmt.EndProcesses e = refl
done_form (stmt.ProcessCall name part) e = refl
done_form (stmt.ProcessDo head) e = refl
done_form stmt.EndProcessDo e = refl
done_form stmt.LoopEnd e = refl

suits_loop_end : (f : Form) (s : Stmt) → Suits f s → ends_loop s ≡ true → EndsLoop f
suits_loop_end f stmt.EndDo h e = subst EndsLoop (sym h) tt
suits_loop_end f stmt.EndProcessDo h e = subst EndsLoop (sym h) tt
suits_loop_end f stmt.LoopEnd h e = subst EndsLoop (sym h.1) tt
suits_loop_end f s h e = absurd (cc e)

suits_loop : (f : Form) (s : Stmt) → Suits f s → IsLoopForm f → loop_of s ≡ NoLoop → ⊥
unfolding simple_form_of
suits_loop f (stmt.Program name) h k e = absurd (subst IsLoopForm h k)
suits_loop f (stmt.Process name formals) h k e = absurd (subst IsLoopForm h k)
suits_loop f (stmt.Subroutine name formals) h k e = absurd (subst IsLoopForm h k)
suits_loop f (stmt.Function name formals) h k e = absurd (subst IsLoopForm h k)
suits_loop f (stmt.IntegerFunction name formals) h k e = absurd (subst IsLoopForm h k)
suits_loop f (stmt.LogicalFunction name formals) h k e = absurd (subst IsLoopForm h k)
suits_loop f stmt.ImplicitNone h k e = absurd (subst IsLoopForm h k)
suits_loop f (stmt.Integer decls) h k e = absurd (subst IsLoopForm h k)
suits_loop f (stmt.Logical decls) h k e = absurd (subst IsLoopForm h k)
suits_loop f (stmt.Dimension decls) h k e = absurd (subst IsLoopForm h k)
suits_loop f (stmt.Parameter constants) h k e = absurd (subst IsLoopForm h k)
suits_loop f (stmt.Inport ports decls) h k e = absurd (subst IsLoopForm h k)
suits_loop f (stmt.Outport ports decls) h k e = absurd (subst IsLoopForm h k)
suits_loop f (stmt.Intent way names) h k e = absurd (subst IsLoopForm h k)
suits_loop f (stmt.Processors sizes) h k e = absurd (subst IsLoopForm h k)
suits_loop f (stmt.Simple (simple.Assignment v t)) h k e = absurd (subst IsLoopForm h k)
suits_loop f (stmt.Simple (simple.Goto label)) h k e = absurd (subst IsLoopForm h k)
suits_loop f (stmt.Simple simple.Continue) h k e = absurd (subst IsLoopForm h k)
suits_loop f (stmt.Simple simple.Return) h k e = absurd (subst IsLoopForm h k)
suits_loop f (stmt.Simple simple.Stop) h k e = absurd (subst IsLoopForm h k)
suits_loop f (stmt.Simple (simple.Call name arguments)) h k e = absurd (subst IsLoopForm h k)
suits_loop f (stmt.Simple (simple.Print items)) h k e = absurd (subst IsLoopForm h k)
suits_loop f (stmt.Simple (simple.Write unit items)) h k e = absurd (subst IsLoopForm h k)
suits_loop f (stmt.Simple (simple.Channel in_first inport outport)) h k e = absurd (subst IsLoopForm h k)
suits_loop f (stmt.Simple (simple.Merger inport outports)) h k e = absurd (subst IsLoopForm h k)
suits_loop f (stmt.Simple (simple.Send named port items)) h k e = absurd (subst IsLoopForm h k)
suits_loop f (stmt.Simple (simple.Receive named port extras items)) h k e = absurd (subst IsLoopForm h k)
suits_loop f (stmt.Simple (simple.EndChannel named port)) h k e = absurd (subst IsLoopForm h k)
suits_loop f (stmt.Simple (simple.MovePort from to)) h k e = absurd (subst IsLoopForm h k)
suits_loop f (stmt.Simple (simple.Probe named port empty)) h k e = absurd (subst IsLoopForm h k)
suits_loop f (stmt.LogicalIf x s) h k e = absurd (subst IsLoopForm h k)
suits_loop f (stmt.BlockIf x) h k e = absurd (subst IsLoopForm h k)
suits_loop f (stmt.ElseIf x) h k e = absurd (subst IsLoopForm h.1 k)
suits_loop f stmt.Else h k e = absurd (subst IsLoopForm h.1 k)
suits_loop f stmt.EndIf h k e = absurd (subst IsLoopForm h k)
suits_loop f (stmt.Do head) h k e = absurd (cc e)
suits_loop f (stmt.DoWhile x) h k e = absurd (cc e)
suits_loop f stmt.EndDo h k e = absurd (subst IsLoopForm h k)
suits_loop f stmt.End h k e = absurd (subst IsLoopForm h k)
suits_loop f stmt.Processes (inl h) k e = absurd (subst IsLoopForm h k)
suits_loop f stmt.Processes (inr h) k e = absurd (subst IsLoopForm h k)
suits_loop f stmt.EndProcesses (inl h) k e = absurd (subst IsLoopForm h k)
suits_loop f stmt.EndProcesses (inr h) k e = absurd (subst IsLoopForm h k)
suits_loop f (stmt.ProcessCall name part) h k e = absurd (subst IsLoopForm h k)
suits_loop f (stmt.ProcessDo head) h k e = absurd (cc e)
suits_loop f stmt.EndProcessDo h k e = absurd (subst IsLoopForm h k)
suits_loop f stmt.LoopEnd h k e = absurd (subst IsLoopForm h.1 k)

else_stays : (s : Stmt) → is_else (parted (form_of s)) ≡ true → ends_unit s ≡ false
unfolding form_of parted
else_stays stmt.End e = absurd (cc e)
else_stays s e = refl

loop_no_end : (f : Form) → IsLoopForm f → f ≡ form.End → ⊥
loop_no_end f h e = subst IsLoopForm e h

no_closer : Closes ≡ Stays → ⊥
no_closer e = absurd (cc)

closes_no_end : (f : Form) → bracket_of f ≡ Closes → f ≡ form.End → ⊥
unfolding bracket_of
closes_no_end f h e = no_closer (sym h ∙ ap bracket_of e)

loop_end_closes : (f : Form) → EndsLoop f → bracket_of f ≡ Closes
unfolding bracket_of
loop_end_closes form.EndDo h = refl
loop_end_closes form.EndProcessDo h = refl
loop_end_closes (form.LoopEnd t) h = refl
loop_end_closes f h = absurd h

do_opens : (f : Form) (label : Option Label) → f ≡ form.Do label → bracket_of f ≡ Opens
unfolding bracket_of
do_opens f label e = ap bracket_of e

process_do_opens : (f : Form) (label : Option Label) → f ≡ form.ProcessDo label → bracket_of f ≡ Opens
unfolding bracket_of
process_do_opens f label e = ap bracket_of e

while_opens : (f : Form) → f ≡ form.DoWhile → bracket_of f ≡ Opens
unfolding bracket_of
while_opens f e = ap bracket_of e

goto_form : (f : Form) (label : Label) → Suits f (stmt.Simple (simple.Goto label)) → f ≡ form.Goto label
unfolding simple_form_of
goto_form f label h = h

-- ---- entries and their marks

module _ (test : List ℕ → Bool) (c : List Placed) (all : List EntryMark) where
  entry_at : (ms : List EntryMark) (at i : ℕ) (e : Entry) → slice_get (entries_from test c all at ms) i ≡ Some e → (m : EntryMark) × (slice_get ms i ≡ Some m) × (e ≡ entry_of test c all (at + i))
  entry_at [] at i e is = absurd (cc is)
  entry_at (m ∷ ms) at zero e is = (m, refl, sym (the_entry (entry_of test c all at) e is) ∙ ap (entry_of test c all) (omega arith))
  entry_at (m ∷ ms) at (suc i) e is = let r = entry_at ms (at + 1) i e is in (r.0, r.1, r.2 ∙ ap (entry_of test c all) (omega arith))

  made_at : (ms : List EntryMark) (at i : ℕ) (m : EntryMark) → slice_get ms i ≡ Some m → slice_get (entries_from test c all at ms) i ≡ Some (entry_of test c all (at + i))
  made_at [] at i m is = absurd (cc is)
  made_at (x ∷ ms) at zero m is = ap (λ (n : ℕ). Some (entry_of test c all n)) (omega arith)
  made_at (x ∷ ms) at (suc i) m is = made_at ms (at + 1) i m is ∙ ap (λ (n : ℕ). Some (entry_of test c all n)) (omega arith)

  made_length : (ms : List EntryMark) (at : ℕ) → length (entries_from test c all at ms) ≡ length ms
  made_length [] at = refl
  made_length (m ∷ ms) at = ap suc (made_length ms (at + 1))

-- ---- where they lead

abbrev pub links_in : List Entry → ℕ → EntryLinks
links_in body k = links_at body (marks_of body) k

-- an entry leads to places of its body; the end of a loop has its loop
pub record LeadsIn (body : List Entry) (k : ℕ) (e : Entry) : Type 0 where
  pub done : is_done e.stmt ≡ true
  pub after : ends_unit e.stmt ≡ false → e.after < length body
  pub other : turns e.stmt ≡ true → (links_in body k).other < length body
  pub jump : (n : ℕ) → (links_in body k).jump ≡ Some n → n < length body
  pub goto : (label : Label) → e.stmt ≡ stmt.Simple (simple.Goto label) → (links_in body k).jump ≡ None → ⊥
  pub loop : ends_loop e.stmt ≡ true → (o : ℕ) × (d : Entry) × (e.mate ≡ Some o) × (slice_get body o ≡ Some d) × (loop_of d.stmt ≡ NoLoop → ⊥) × (d.after < length body)

module _ (test : List ℕ → Bool) (c : List Placed) (source : AreOfSource c) (clean : broken_in_unit (laid_out c) ≡ []) (last : lacks_end c ≡ false) where
  abbrev all : List EntryMark
  all = body_of (laid_out c)

  abbrev pub body : List Entry
  body = entries_from test c (body_of (laid_out c)) 0 (body_of (laid_out c))

  same_length : length body ≡ length all
  same_length = made_length test c all all 0

  -- an entry with its mark
  record WithMark (k : ℕ) (e : Entry) : Type 0 where
    mark : EntryMark
    there : slice_get all k ≡ Some mark
    is : e ≡ entry_of test c all k
    here : slice_get body k ≡ Some e
    suits : Suits mark.form e.stmt

  mark_is : (k : ℕ) (m : EntryMark) → slice_get all k ≡ Some m → mark_at all k ≡ m
  mark_is k m at = by all k m at
    where
      the_mark : (a b : EntryMark) → Some a ≡ Some b → a ≡ b
      the_mark a b e = cc

      by : (ms : List EntryMark) (k : ℕ) (m : EntryMark) → slice_get ms k ≡ Some m → mark_at ms k ≡ m
      by [] k m e = absurd (cc e)
      by (x ∷ ms) zero m e = the_mark x m e
      by (x ∷ ms) (suc k) m e = by ms k m e

  suits_entry : (k : ℕ) (m : EntryMark) (e : Entry) → slice_get all k ≡ Some m → e ≡ entry_of test c all k → Suits m.form e.stmt
  suits_entry k m e at is = subst (λ (s : Stmt). Suits m.form s) (sym (ap (λ (x : Entry). x.stmt) is ∙ ap (statement_at c) (mark_is k m at))) (suits_here c source clean last k m at)

  with_mark : (k : ℕ) (e : Entry) → slice_get body k ≡ Some e → WithMark k e
  with_mark k e at =
      let r = entry_at test c all all 0 k e at in
      let same : e ≡ entry_of test c all k = r.2 ∙ ap (entry_of test c all) (omega arith) in
      record { mark = r.0; there = r.1; is = same; here = at; suits = suits_entry k r.0 e r.1 same }

  abbrev from_mark : (k : ℕ) (m : EntryMark) → slice_get all k ≡ Some m → WithMark k (entry_of test c all k)
  from_mark k m at = record {
    mark = m;
    there = at;
    is = refl;
    here = made_at test c all all 0 k m at ∙ ap (λ (n : ℕ). Some (entry_of test c all n)) (omega arith);
    suits = suits_entry k m (entry_of test c all k) at refl;
  }

  -- the entry at a place
  at_place : (k : ℕ) → k < length body → (e : Entry) × WithMark k e
  at_place k h = let l = same_length in let x = got_some all k (omega (arith, l, h)) in (entry_of test c all k, from_mark k x.0 x.1)

  after_in_body : (k : ℕ) (e : Entry) (w : WithMark k e) → (w.mark.form ≡ form.End → ⊥) → e.after < length body
  after_in_body k e w other =
      let l = after_inside c source clean last k w.mark w.there other in
      let s = same_length in
      let a : e.after ≡ after_of all k = ap (λ (x : Entry). x.after) w.is in
      omega (arith, l, s, a)

  not_end : (k : ℕ) (e : Entry) (w : WithMark k e) → ends_unit e.stmt ≡ false → w.mark.form ≡ form.End → ⊥
  not_end k e w h is = never (sym (suits_end w.mark.form e.stmt w.suits is) ∙ h)

  next_in_body : (k : ℕ) (e : Entry) (w : WithMark k e) → ends_unit e.stmt ≡ false → k + 1 < length body
  next_in_body k e w h =
      let l = goes_on all (marks_ended c source clean last) k w.mark w.there (not_end k e w h) in
      let s = same_length in
      omega (arith, l, s)

  abbrev ms : List EntryMark
  ms = marks_of body

  marks_length : length ms ≡ length body
  marks_length = length-map body mark_of

  mark_there : (k : ℕ) (e : Entry) → slice_get body k ≡ Some e → slice_get ms k ≡ Some (mark_of e)
  mark_there k e at = slice_get-map mark_of body k ∙ ap (option_map mark_of) at

  form_there : (k : ℕ) (e : Entry) (s : Stmt) → slice_get body k ≡ Some e → e.stmt ≡ s → form_at ms k ≡ parted (form_of s)
  form_there k e s at is = form_here ms k (mark_of e) (mark_there k e at) ∙ ap (λ (x : Stmt). parted (form_of x)) is

  after_there : (k j : ℕ) (e : Entry) (w : WithMark j e) → (w.mark.form ≡ form.End → ⊥) → after_at body j < length body
  after_there k j e w other = subst (λ (n : ℕ). n < length body) (sym (ap (λ (o : Option Entry). after_in o j) w.here)) (after_in_body j e w other)

  -- a failing test goes behind the statement that it guards
  test_other : (k : ℕ) (e : Entry) (w : WithMark k e) → ends_unit e.stmt ≡ false → w.mark.form ≡ form.Test → after_at body (k + 1) < length body
  test_other k e w stays is =
      let x = at_place (k + 1) (next_in_body k e w stays) in
      let n : k + 1 ≡ suc k = omega arith in
      after_there k (k + 1) x.0 x.1 (λ ends. behind_test c source clean last k w.mark x.1.mark w.there is (ap (slice_get all) (sym n) ∙ x.1.there) ends)

  branch_other : (k : ℕ) (e : Entry) (w : WithMark k e) → ends_unit e.stmt ≡ false → next_branch ms k < length body
  branch_other k e w stays = go (branch_end ms k) refl
    where
      next : k + 1 < length body
      next = next_in_body k e w stays

      into : (j : ℕ) → j < length body → (b : Bool) → is_else (form_at ms j) ≡ b → (if b then j + 1 else j) < length body
      into j h false is = h
      into j h true is =
          let x = at_place j h in
          next_in_body j x.0 x.1 (else_stays x.0.stmt (sym (ap is_else (form_there j x.0 x.0.stmt x.1.here refl)) ∙ is))

      go : (o : Option ℕ) → branch_end ms k ≡ o → into_branch ms k o < length body
      go None is = next
      go (Some j) is =
          let l = marks_length in
          let n = next in
          let h = end_inside true ms k j (omega (arith, n, l)) is in
          into j (omega (arith, h, l)) (is_else (form_at ms j)) refl

  loop_other : (k : ℕ) (e : Entry) (w : WithMark k e) → ends_unit e.stmt ≡ false → bracket_of w.mark.form ≡ Opens → behind_loop body k < length body
  loop_other k e w stays opens = go e.mate refl
    where
      next : k + 1 < length body
      next = next_in_body k e w stays

      mate_is : e.mate ≡ mate_of all k
      mate_is = ap (λ (x : Entry). x.mate) w.is ∙ ap (λ (b : Bracket). other_end_by b all k) (ap bracket_of (form_here all k w.mark w.there) ∙ opens)

      behind : (o : Option ℕ) → e.mate ≡ o → behind_loop body k ≡ after_mate body k o
      behind o is = ap (λ (x : Option Entry). after_mate body k (mate_in x)) w.here ∙ ap (after_mate body k) is

      inside : (o : Option ℕ) → e.mate ≡ o → after_mate body k o < length body
      inside None is = next
      inside (Some j) is =
          let x = mate_closes all k j (sym mate_is ∙ is) in
          after_there k j (entry_of test c all j) (from_mark j x.0 x.1) (closes_no_end x.0.form x.2)

      go : (o : Option ℕ) → e.mate ≡ o → behind_loop body k < length body
      go o is = subst (λ (n : ℕ). n < length body) (sym (behind o is)) (inside o is)

  other_inside : (k : ℕ) (e : Entry) (w : WithMark k e) (s : Stmt) → e.stmt ≡ s → turns s ≡ true → (links_in body k).other < length body
  unfolding form_of parted other_by
  other_inside k e w (stmt.LogicalIf x s) is t =
      subst (λ (f : Form). other_by f body ms k < length body) (sym (form_there k e (stmt.LogicalIf x s) w.here is)) (test_other k e w (ap ends_unit is) (subst (Suits w.mark.form) is w.suits))
  other_inside k e w (stmt.BlockIf x) is t = subst (λ (f : Form). other_by f body ms k < length body) (sym (form_there k e (stmt.BlockIf x) w.here is)) (branch_other k e w (ap ends_unit is))
  other_inside k e w (stmt.ElseIf x) is t = subst (λ (f : Form). other_by f body ms k < length body) (sym (form_there k e (stmt.ElseIf x) w.here is)) (branch_other k e w (ap ends_unit is))
  other_inside k e w (stmt.Do head) is t =
      subst (λ (f : Form). other_by f body ms k < length body) (sym (form_there k e (stmt.Do head) w.here is)) (loop_other k e w (ap ends_unit is) (do_opens w.mark.form (loop_label head) (subst (Suits w.mark.form) is w.suits)))
  other_inside k e w (stmt.DoWhile x) is t =
      subst (λ (f : Form). other_by f body ms k < length body) (sym (form_there k e (stmt.DoWhile x) w.here is)) (loop_other k e w (ap ends_unit is) (while_opens w.mark.form (subst (Suits w.mark.form) is w.suits)))
  other_inside k e w (stmt.ProcessDo head) is t =
      subst (λ (f : Form). other_by f body ms k < length body) (sym (form_there k e (stmt.ProcessDo head) w.here is)) (loop_other k e w (ap ends_unit is) (process_do_opens w.mark.form (loop_label head) (subst (Suits w.mark.form) is w.suits)))
  other_inside k e w s is t = absurd (cc t)

  jump_inside : (o : Option Label) (n : ℕ) → jump_by ms o ≡ Some n → n < length body
  jump_inside None n is = absurd (cc is)
  jump_inside (Some label) n is =
      let r = first_passes (λ e. is_executable e.form && is_this_label label e.label) ms 0 n is in
      let h = got_within ms r.0 r.1 r.2 in
      let l = marks_length in
      omega (arith, h, l, r.4)

  both : (a b : Bool) → a ≡ true → b ≡ true → (a && b) ≡ true
  both true b e h = h
  both false b e h = absurd (cc e)

  goto_inside : (k : ℕ) (e : Entry) (w : WithMark k e) (label : Label) → e.stmt ≡ stmt.Simple (simple.Goto label) → (links_in body k).jump ≡ None → ⊥
  unfolding form_of parted simple_form_of
  goto_inside k e w label is none =
      let goto = goto_form w.mark.form label (subst (Suits w.mark.form) is w.suits) in
      let x = label_there c source clean last k w.mark label w.there goto in
      let d = entry_of test c all x.0 in
      let there = from_mark x.0 x.1 x.2 in
      let done = done_form d.stmt (suits_done x.1.form d.stmt there.suits (executable_here c source clean last x.0 x.1 x.2)) in
      let labelled : is_this_label label d.label ≡ true = ap (λ (m : EntryMark). is_this_label label m.label) (mark_is x.0 x.1 x.2) ∙ x.3 in
      let form_is = form_there k e (stmt.Simple (simple.Goto label)) w.here is in
      some_first (λ e. is_executable e.form && is_this_label label e.label) ms 0 x.0 (mark_of d) (mark_there x.0 d there.here) (both (is_executable (mark_of d).form) (is_this_label label d.label) done labelled)
      (sym (ap (λ (f : Form). jump_by ms (jump_label f)) form_is) ∙ none)

  loop_inside : (k : ℕ) (e : Entry) (w : WithMark k e) → ends_loop e.stmt ≡ true → (o : ℕ) × (d : Entry) × (e.mate ≡ Some o) × (slice_get body o ≡ Some d) × (loop_of d.stmt ≡ NoLoop → ⊥) × (d.after < length body)
  loop_inside k e w h =
      let closing = suits_loop_end w.mark.form e.stmt w.suits h in
      let x = loop_opener c source clean last k w.mark w.there closing in
      let there = from_mark x.0.at x.1 x.3 in
      let mate : e.mate ≡ Some x.0.at = ap (λ (y : Entry). y.mate) w.is ∙ ap (λ (b : Bracket). other_end_by b all k) (ap bracket_of (form_here all k w.mark w.there) ∙ loop_end_closes w.mark.form closing) ∙ ap place_in x.2 in (
        x.0.at,
        entry_of test c all x.0.at,
        mate,
        there.here,
        suits_loop x.1.form (entry_of test c all x.0.at).stmt there.suits x.4,
        after_in_body x.0.at (entry_of test c all x.0.at) there (loop_no_end x.1.form x.4),
      )

  pub leads_in : (k : ℕ) (e : Entry) → slice_get body k ≡ Some e → LeadsIn body k e
  leads_in k e at =
      let w = with_mark k e at in
      record {
        done = suits_done w.mark.form e.stmt w.suits (executable_here c source clean last k w.mark w.there);
        after = λ stays. after_in_body k e w (not_end k e w stays);
        other = λ t. other_inside k e w e.stmt refl t;
        jump = λ n is. jump_inside (jump_label (form_at ms k)) n is;
        goto = λ label is none. goto_inside k e w label is none;
        loop = λ h. loop_inside k e w h;
      }

  -- there is a first entry
  pub begins : 0 < length body
  begins =
      let e = marks_ended c source clean last in
      let s = same_length in
      let l = ap length e.is in
      let n = some e.front e.last in
      omega (arith, s, l, n)
    where
      some : (xs : List EntryMark) (x : EntryMark) → 0 < length (xs ++ x ∷ [])
      some [] x = omega arith
      some (y ∷ xs) x = omega arith
