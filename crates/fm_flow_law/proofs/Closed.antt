-- The PROGRAM of a safe program has one block: each ENDPROCESSES has its PROCESSES before it, and no PROCESSCALL behind it.
use Rattle.std.proofs.Common.{◌≡◌, ◌⊎◌, inl, inr, ℕ, ◌<◌, ◌≤◌, Bool, true, false, Some, List, [], ◌∷◌, ◌++◌, slice_get, refl, sym, ap, ◌∙◌, subst, arith}
use Rattle.std.proofs.lemmas.Bool.{cases_lt}
use Rattle.fm_tree.specs.Blocks.{mate_of}
use Rattle.fm_tree.specs.Layout.{laid_out}
use Rattle.fm_tree.specs.Structure.{is_executable, is_process_loop, simple_form_of}
use Rattle.fm_tree.specs.Units.{body_of, entries_from, entry_of, lacks_end, statement_at, unit_of}
use Rattle.fm_tree.specs.declared.entry_mark.EntryMark.{EntryMark}
use Rattle.fm_tree.specs.declared.form.Form.{Form}
use Rattle.fm_tree.specs.declared.form.Form.TheVariants as form
use Rattle.fm_tree.specs.declared.program_unit.Entry.{Entry}
use Rattle.fm_tree.specs.declared.program_unit.Placed.{Placed}
use Rattle.fm_tree.specs.declared.program_unit.Unit as tree
use Rattle.fm_tree.specs.declared.statement.Simple.TheVariants as simple
use Rattle.fm_tree.specs.declared.statement.Stmt.{Stmt}
use Rattle.fm_tree.specs.declared.statement.Stmt.TheVariants as stmt
use Rattle.fm_tree_blocks.proofs.BodyMarks.{ArePlain, split}
use Rattle.fm_tree_blocks.proofs.LaidMarks.{AreOfSource, Suits}
use Rattle.fm_tree_blocks.proofs.Paths.{closer_is_mate}
use Rattle.fm_net.specs.Typed.{AllIn}
use Rattle.fm_rules.specs.BrokenUnit.{broken_in_unit}
use Rattle.fm_rules.specs.declared.program.Program.{Program}
use Rattle.fm_mean.specs.Names.{ProgramUnit, unit_at, main_number}
use Rattle.fm_mean.proofs.BodyRules.{form_here, got_within, suits_here}
use Rattle.fm_mean.proofs.Sizes.{all_append, in_all}
use Rattle.fm_flow_law.specs.Flow.{IsFlowSafe, is_once, is_processes, is_simple}
use Rattle.fm_mean.proofs.Leading.{IsLaidUnit, refuted_by_unit}
use Rattle.fm_flow_law.proofs.Laid.{entry_made, mark_is}
use Rattle.fm_flow_law.proofs.MainPart.{calls_process}
use Rattle.fm_flow_law.proofs.OneBlock.{IsInBlock, call_in_block, closes_block, end_in_block, mark_of_entry, open_ends_later}
use Rattle.fm_flow_law.proofs.Sentences.{all_simple, once}
use Rattle.fm_flow_law.proofs.Wraps.{is_of_wrap, IsNoLoopMark, IsNoWrapMark, all_points, no_wraps}

never : true ≡ false → ⊥
never e = absurd (cc)

-- ---- forms

simple_no_loop : (f : Form) (s : Stmt) → Suits f s → is_simple s ≡ true → is_process_loop f ≡ false
unfolding is_simple simple_form_of
simple_no_loop f (stmt.Simple (simple.Assignment v t)) h e = ap is_process_loop h
simple_no_loop f (stmt.Simple (simple.Print items)) h e = ap is_process_loop h
simple_no_loop f (stmt.Simple (simple.Write unit items)) h e = ap is_process_loop h
simple_no_loop f (stmt.Simple simple.Continue) h e = ap is_process_loop h
simple_no_loop f (stmt.Simple (simple.Channel in_first i o)) h e = ap is_process_loop h
simple_no_loop f (stmt.Simple simple.Stop) h e = ap is_process_loop h
simple_no_loop f stmt.Processes (inl h) e = ap is_process_loop h
simple_no_loop f stmt.Processes (inr h) e = ap is_process_loop h
simple_no_loop f (stmt.ProcessCall name part) h e = ap is_process_loop h
simple_no_loop f stmt.EndProcesses (inl h) e = ap is_process_loop h
simple_no_loop f stmt.EndProcesses (inr h) e = ap is_process_loop h
simple_no_loop f stmt.End h e = ap is_process_loop h
simple_no_loop f s h e = absurd (never (sym e))

plain_no_loop : (f : Form) → is_executable f ≡ false → is_process_loop f ≡ false
plain_no_loop (form.ProcessDo label) e = absurd (never e)
plain_no_loop f e = refl

front_no_loop : (ms : List EntryMark) → ArePlain ms → AllIn IsNoLoopMark ms
front_no_loop [] h = tt
front_no_loop (m ∷ ms) h = (plain_no_loop m.form h.0, front_no_loop ms h.1)

processes_once : (s : Stmt) → is_processes s ≡ true → is_once s ≡ true
unfolding is_processes is_once
processes_once stmt.Processes e = refl
processes_once s e = absurd (never (sym e))

end_calls_none : calls_process stmt.EndProcesses ≡ false
unfolding calls_process
end_calls_none = refl

end_form : (f : Form) (s : Stmt) → s ≡ stmt.EndProcesses → Suits f s → (f ≡ form.EndProcesses) ⊎ (f ≡ form.EndWrap)
end_form f s is h = subst (Suits f) is h

module _ (test : List ℕ → Bool) (c : List Placed) (source_shaped : AreOfSource c) (clean : broken_in_unit (laid_out c) ≡ []) (last : lacks_end c ≡ false) where
  abbrev marks : List EntryMark
  marks = body_of (laid_out c)

  abbrev entries : List Entry
  entries = entries_from test c marks 0 marks

  module _ (simple_all : (k : ℕ) (e : Entry) → slice_get entries k ≡ Some e → is_simple e.stmt ≡ true) where
    mark_no_loop : (k : ℕ) (m : EntryMark) → slice_get marks k ≡ Some m → IsNoLoopMark m
    mark_no_loop k m at =
        let made = entry_made test c marks marks 0 k m at ∙ ap (λ (n : ℕ). Some (entry_of test c marks n)) (omega arith) in
        simple_no_loop m.form (statement_at c m) (suits_here c source_shaped clean last k m at) (ap (λ (x : EntryMark). is_simple (statement_at c x)) (sym (mark_is marks k m at)) ∙ simple_all k (entry_of test c marks k) made)

    all_no_wrap : AllIn IsNoWrapMark (laid_out c)
    all_no_wrap =
        no_wraps c (subst (AllIn IsNoLoopMark) (sym (split (laid_out c)).is) (all_append IsNoLoopMark (split (laid_out c)).front marks (front_no_loop (split (laid_out c)).front (split (laid_out c)).plain) (all_points IsNoLoopMark marks mark_no_loop)))

    body_no_wrap : AllIn IsNoWrapMark marks
    body_no_wrap = right_part (split (laid_out c)).front marks (subst (AllIn IsNoWrapMark) (split (laid_out c)).is all_no_wrap)
      where
        right_part : (xs ys : List EntryMark) → AllIn IsNoWrapMark (xs ++ ys) → AllIn IsNoWrapMark ys
        right_part [] ys h = h
        right_part (x ∷ xs) ys h = right_part xs ys h.1

    -- the mark of an ENDPROCESSES
    end_mark : (j : ℕ) (d : Entry) → slice_get entries j ≡ Some d → d.stmt ≡ stmt.EndProcesses → (m : EntryMark) × (slice_get marks j ≡ Some m) × (m.form ≡ form.EndProcesses)
    end_mark j d at ends =
        let m = mark_of_entry test c source_shaped clean last j d at in
        elim (end_form m.mark.form (statement_at c m.mark) (sym m.stmt_is ∙ ends) m.suits) [
          | inl is ↦ (m.mark, m.there, is)
          | inr is ↦ absurd (no_wrap m.mark.form is (in_all IsNoWrapMark marks j m.mark body_no_wrap m.there))
        ]
      where
        no_wrap : (f : Form) → f ≡ form.EndWrap → is_of_wrap f ≡ false → ⊥
        no_wrap f is h = never (sym (ap is_of_wrap is) ∙ h)

    end_opened : (j : ℕ) (d : Entry) → slice_get entries j ≡ Some d → d.stmt ≡ stmt.EndProcesses → IsInBlock test c source_shaped clean last j
    end_opened j d at ends = let m = end_mark j d at ends in end_in_block test c source_shaped clean last simple_all j m.0 m.1 m.2

    -- a call behind the end of its block stands in none
    none_behind : ((a b : ℕ) (x y : Entry) → slice_get entries a ≡ Some x → is_processes x.stmt ≡ true → slice_get entries b ≡ Some y → is_processes y.stmt ≡ true → a < b → ⊥)
        → (j k : ℕ) (d e : Entry) → slice_get entries j ≡ Some d → d.stmt ≡ stmt.EndProcesses → slice_get entries k ≡ Some e → calls_process e.stmt ≡ true → j < k → ⊥
    none_behind alone j k d e at_d ends at_e calls less =
        let m = end_mark j d at_d ends in
        let o = end_opened j d at_d ends in
        let q = call_in_block test c source_shaped clean last simple_all k e at_e calls in
        let w = mark_of_entry test c source_shaped clean last k e at_e in
        let within_j = got_within marks j m.0 m.1 in
        let within_k = got_within marks k w.mark w.there in
        let same : o.block.at ≡ q.block.at = one_place o.block.at q.block.at (λ l. alone o.block.at q.block.at o.entry q.entry o.there o.opens q.there q.opens l) (λ l. alone q.block.at o.block.at q.entry o.entry q.there q.opens o.there o.opens l) in
        let mate = closer_is_mate marks j o.block within_j (closes_block _ (form_here marks j m.0 m.1 ∙ m.2)) o.inner in
        let later = open_ends_later marks k j q.block (omega (arith, within_k)) q.inner (ap (λ (n : ℕ). mate_of marks n) (sym same) ∙ mate) in
        absurd (omega (arith, later, less))
      where
        one_place : (a b : ℕ) → (a < b → ⊥) → (b < a → ⊥) → a ≡ b
        one_place a b f g = omega (arith, f, g)

-- an ENDPROCESSES has a PROCESSES before it, and no PROCESSCALL behind it
pub record AreClosed (u : ProgramUnit) : Type 0 where
  pub opened : (j k : ℕ) (d e : Entry) → slice_get u.tree.body j ≡ Some d → d.stmt ≡ stmt.EndProcesses → slice_get u.tree.body k ≡ Some e → is_once e.stmt ≡ true → j ≤ k → ⊥
  pub closed : (j k : ℕ) (d e : Entry) → slice_get u.tree.body j ≡ Some d → d.stmt ≡ stmt.EndProcesses → slice_get u.tree.body k ≡ Some e → calls_process e.stmt ≡ true → k < j

pub blocks_closed : (p : Program) (n : ℕ) (u : ProgramUnit) → main_number p ≡ Some n → unit_at p n ≡ Some u → IsFlowSafe p → AreClosed u
blocks_closed p n u is_main here safe = record {
  opened = λ j k d e at_d ends at_e again behind. refuted_by_unit p n u here (λ h. behind_end h j k d e at_d ends at_e again behind);
  closed = λ j k d e at_d ends at_e calls. elim (cases_lt k j) [
    | inl before ↦ before
    | inr behind ↦ absurd (refuted_by_unit p n u here (λ h. call_behind h j k d e at_d ends at_e calls behind))
  ];
}
  where
    body_is : (h : IsLaidUnit u.tree) → (unit_of h.test h.statements).body ≡ u.tree.body
    body_is h = ap (λ (t : tree.Unit). t.body) h.is

    into : (h : IsLaidUnit u.tree) (k : ℕ) (e : Entry) → slice_get u.tree.body k ≡ Some e → slice_get (unit_of h.test h.statements).body k ≡ Some e
    into h k e at = ap (λ (es : List Entry). slice_get es k) (body_is h) ∙ at

    back : (h : IsLaidUnit u.tree) (k : ℕ) (e : Entry) → slice_get (unit_of h.test h.statements).body k ≡ Some e → slice_get u.tree.body k ≡ Some e
    back h k e at = ap (λ (es : List Entry). slice_get es k) (sym (body_is h)) ∙ at

    behind_end : (h : IsLaidUnit u.tree) (j k : ℕ) (d e : Entry) → slice_get u.tree.body j ≡ Some d → d.stmt ≡ stmt.EndProcesses → slice_get u.tree.body k ≡ Some e → is_once e.stmt ≡ true → j ≤ k → ⊥
    behind_end h j k d e at_d ends at_e again behind =
        let o = end_opened h.test h.statements h.source_shaped h.clean h.last (λ i q there. all_simple p n u is_main here safe i q (back h i q there)) j d (into h j d at_d) ends in
        let before = o.before in
        once p n u is_main here safe o.block.at k o.entry e (back h o.block.at o.entry o.there) o.opens at_e again (omega (arith, before, behind))

    ends_no_call : (s : Stmt) → s ≡ stmt.EndProcesses → calls_process s ≡ false
    ends_no_call s is = ap calls_process is ∙ end_calls_none

    call_behind : (h : IsLaidUnit u.tree) (j k : ℕ) (d e : Entry) → slice_get u.tree.body j ≡ Some d → d.stmt ≡ stmt.EndProcesses → slice_get u.tree.body k ≡ Some e → calls_process e.stmt ≡ true → j ≤ k → ⊥
    call_behind h j k d e at_d ends at_e calls behind =
        none_behind h.test h.statements h.source_shaped h.clean h.last (λ i q there. all_simple p n u is_main here safe i q (back h i q there))
        (λ a b x y at_x opens_x at_y opens_y less. once p n u is_main here safe a b x y (back h a x at_x) opens_x (back h b y at_y) (processes_once y.stmt opens_y) less)
        j k d e (into h j d at_d) ends (into h k e at_e) calls (strict j k behind (λ same. never (sym calls ∙ ap (λ (x : Entry). calls_process x.stmt) (the_entry e d (sym at_e ∙ ap (slice_get u.tree.body) (sym same) ∙ at_d)) ∙ ends_no_call d.stmt ends)))
      where
        the_entry : (a b : Entry) → Some a ≡ Some b → a ≡ b
        the_entry a b q = cc

        strict : (j k : ℕ) → j ≤ k → (j ≡ k → ⊥) → j < k
        strict j k l ne = omega (arith, l, ne)
