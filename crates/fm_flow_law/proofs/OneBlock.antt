-- A PROCESSCALL stands behind a PROCESSES, and so, in a safe program, behind each CHANNEL.
use Rattle.std.proofs.Common.{◌≡◌, inl, inr, ℕ, zero, suc, ◌+◌, ◌<◌, ◌≤◌, Bool, true, false, not, ◌&&◌, Option, Some, None, List, [], ◌∷◌, ◌++◌, length, drop, slice_get, take, refl, sym, ap, ◌∙◌, arith}
use Rattle.std.specs.Prelude.{is_none, nat_eq}
use Rattle.std.proofs.lemmas.Bool.{cases_lt}
use Rattle.fm_tree.specs.Blocks.{behind, counted_on, ends, head_of, innermost, mate_of}
use Rattle.fm_tree.specs.Labels.{first_executable}
use Rattle.fm_tree.specs.Layout.{laid_out}
use Rattle.fm_tree.specs.declared.form.Bracket.{Bracket}
use Rattle.fm_tree.specs.declared.form.Bracket.TheVariants.{Opens, Closes, Parts, Stays}
use Rattle.fm_tree_blocks.proofs.Paths.{end_to_come}
use Rattle.fm_tree.specs.Structure.{bracket_of, makes_processes, simple_form_of}
use Rattle.fm_tree.specs.Units.{body_of, entries_from, entry_of, form_at, lacks_end, statement_at, unit_of}
use Rattle.fm_tree.specs.declared.entry_mark.EntryMark.{EntryMark}
use Rattle.fm_tree.specs.declared.entry_mark.Open.{Open}
use Rattle.fm_tree.specs.declared.form.Form.{Form}
use Rattle.fm_tree.specs.declared.form.Form.TheVariants as form
use Rattle.fm_tree.specs.declared.program_unit.Entry.{Entry}
use Rattle.fm_tree.specs.declared.program_unit.Placed.{Placed}
use Rattle.fm_tree.specs.declared.program_unit.Unit as tree
use Rattle.fm_tree.specs.declared.statement.Simple.TheVariants as simple
use Rattle.fm_tree.specs.declared.statement.Stmt.{Stmt}
use Rattle.fm_tree.specs.declared.statement.Stmt.TheVariants as stmt
use Rattle.fm_tree_blocks.proofs.BodyMarks.{body_innermost, opener_there, split}
use Rattle.fm_tree_blocks.proofs.LaidMarks.{AreOfSource, Suits}
use Rattle.fm_rules.specs.BrokenUnit.{broken_in_unit}
use Rattle.fm_rules.specs.StructureForms.{misplaced, opener_of, unmatched}
use Rattle.fm_rules.specs.StructureForms.{is_processes as is_opener}
use Rattle.fm_rules.specs.StructureLookups.{has_end, is_before}
use Rattle.fm_rules.specs.declared.program.Program.{Program}
use Rattle.fm_mean.specs.Names.{ProgramUnit, unit_at, main_number}
use Rattle.fm_mean.proofs.BodyRules.{EntryRules, form_here, got_within, rules_at, suits_here}
use Rattle.fm_flow_law.specs.Flow.{IsFlowSafe, is_once, is_processes, is_simple}
use Rattle.fm_mean.proofs.Leading.{IsLaidUnit, refuted_by_unit}
use Rattle.fm_flow_law.proofs.Laid.{entry_made, entry_there, mark_is}
use Rattle.fm_flow_law.proofs.MainPart.{calls_process, makes_channel}
use Rattle.fm_flow_law.proofs.Sentences.{all_simple, once}

never : true ≡ false → ⊥
never e = absurd (cc)

got_behind : {X : Type 0} (xs ys : List X) (k n : ℕ) → n ≡ length xs + k → slice_get (xs ++ ys) n ≡ slice_get ys k
got_behind [] ys k n e = let q : n ≡ k = omega (arith, e) in ap (slice_get ys) q
got_behind (x ∷ xs) ys k zero e = absurd (omega (arith, e))
got_behind (x ∷ xs) ys k (suc n) e = got_behind xs ys k n (omega (arith, e))

-- ---- forms

call_placed : (first late : Bool) (heading opener : Form) → misplaced form.ProcessCall first late heading opener ≡ false → makes_processes opener ≡ true
unfolding misplaced
call_placed true late heading opener e = absurd (never e)
call_placed false late heading opener e = go (makes_processes opener) e
  where
    go : (b : Bool) → not b ≡ false → b ≡ true
    go true h = refl
    go false h = absurd (never h)

call_form : (f : Form) (s : Stmt) → Suits f s → calls_process s ≡ true → f ≡ form.ProcessCall
unfolding calls_process
call_form f (stmt.ProcessCall name part) h e = h
call_form f s h e = absurd (never (sym e))

-- a simple statement that opens a block of processes
opener_is : (f : Form) (s : Stmt) → Suits f s → is_simple s ≡ true → makes_processes f ≡ true → is_processes s ≡ true
unfolding is_simple is_processes simple_form_of
opener_is f (stmt.Simple (simple.Assignment v t)) h e m = absurd (never (sym m ∙ ap makes_processes h))
opener_is f (stmt.Simple (simple.Print items)) h e m = absurd (never (sym m ∙ ap makes_processes h))
opener_is f (stmt.Simple (simple.Write unit items)) h e m = absurd (never (sym m ∙ ap makes_processes h))
opener_is f (stmt.Simple simple.Continue) h e m = absurd (never (sym m ∙ ap makes_processes h))
opener_is f (stmt.Simple (simple.Channel in_first i o)) h e m = absurd (never (sym m ∙ ap makes_processes h))
opener_is f (stmt.Simple simple.Stop) h e m = absurd (never (sym m ∙ ap makes_processes h))
opener_is f stmt.Processes h e m = refl
opener_is f (stmt.ProcessCall name part) h e m = absurd (never (sym m ∙ ap makes_processes h))
opener_is f stmt.EndProcesses (inl h) e m = absurd (never (sym m ∙ ap makes_processes h))
opener_is f stmt.EndProcesses (inr h) e m = absurd (never (sym m ∙ ap makes_processes h))
opener_is f stmt.End h e m = absurd (never (sym m ∙ ap makes_processes h))
opener_is f s h e m = absurd (never (sym e))

pub channel_once : (s : Stmt) → makes_channel s ≡ true → is_once s ≡ true
unfolding makes_channel is_once
channel_once (stmt.Simple (simple.Channel in_first i o)) e = refl
channel_once s e = absurd (never (sym e))

end_matched : (opener : Form) (open_at_end : Bool) → unmatched form.EndProcesses opener open_at_end ≡ false → makes_processes opener ≡ true
unfolding unmatched is_opener
end_matched form.Processes open_at_end e = refl
end_matched opener open_at_end e = absurd (never e)

-- ---- the opener of a call

module _ (test : List ℕ → Bool) (c : List Placed) (source_shaped : AreOfSource c) (clean : broken_in_unit (laid_out c) ≡ []) (last : lacks_end c ≡ false) where
  abbrev all : List EntryMark
  all = laid_out c

  abbrev marks : List EntryMark
  marks = body_of (laid_out c)

  abbrev entries : List Entry
  entries = entries_from test c marks 0 marks

  -- where a mark of the body stands among all
  abbrev whole_place : ℕ → ℕ
  whole_place k = length (split all).front + k

  there_too : (k : ℕ) (m : EntryMark) → slice_get marks k ≡ Some m → slice_get all (whole_place k) ≡ Some m
  there_too k m at = ap (λ (xs : List EntryMark). slice_get xs (whole_place k)) (split all).is ∙ got_behind (split all).front marks k (whole_place k) refl ∙ at

  rules_of : (k : ℕ) (m : EntryMark) → slice_get marks k ≡ Some m → EntryRules all (whole_place k)
  rules_of k m at = rules_at all clean (whole_place k) (got_within all (whole_place k) m (there_too k m at))

  -- the mark of an entry
  pub record MarkOf (k : ℕ) (e : Entry) : Type 0 where
    pub mark : EntryMark
    pub there : slice_get marks k ≡ Some mark
    pub stmt_is : e.stmt ≡ statement_at c mark
    pub suits : Suits mark.form (statement_at c mark)

  pub mark_of_entry : (k : ℕ) (e : Entry) → slice_get entries k ≡ Some e → MarkOf k e
  mark_of_entry k e at =
      let r = entry_there test c marks marks 0 k e at in
      let same : e ≡ entry_of test c marks k = r.2 ∙ ap (entry_of test c marks) (omega arith) in
      record { mark = r.0; there = r.1; stmt_is = ap (λ (x : Entry). x.stmt) same ∙ ap (statement_at c) (mark_is marks k r.0 r.1); suits = suits_here c source_shaped clean last k r.0 r.1 }

  -- the innermost block before this place begins at a PROCESSES
  pub record IsInBlock (k : ℕ) : Type 0 where
    pub block : Open
    pub inner : innermost marks k ≡ Some block
    pub before : block.at < k
    pub entry : Entry
    pub there : slice_get entries block.at ≡ Some entry
    pub opens : is_processes entry.stmt ≡ true

  in_block : ((k : ℕ) (e : Entry) → slice_get entries k ≡ Some e → is_simple e.stmt ≡ true) → (k : ℕ) (m : EntryMark) → slice_get marks k ≡ Some m → (o : Option Open) → innermost all (whole_place k) ≡ o → makes_processes (opener_of o) ≡ true → IsInBlock k
  in_block simple_all k m at None is h = absurd (never (sym h))
  in_block simple_all k m at (Some o) is h =
      let whole : innermost ((split all).front ++ marks) (whole_place k) ≡ Some o = ap (λ (xs : List EntryMark). innermost xs (whole_place k)) (sym (split all).is) ∙ is in
      let q = body_innermost (split all).front marks k (whole_place k) (split all).plain refl o whole in
      let within = got_within marks k m at in
      let x = opener_there marks k q.0 (omega (arith, within)) q.1 in
      let d = entry_of test c marks q.0.at in
      let made : slice_get entries q.0.at ≡ Some d = entry_made test c marks marks 0 q.0.at x.1.0 x.1.1 ∙ ap (λ (i : ℕ). Some (entry_of test c marks i)) (omega arith) in
      let stmt_there : statement_at c x.1.0 ≡ d.stmt = ap (statement_at c) (sym (mark_is marks q.0.at x.1.0 x.1.1)) in
      let opens : makes_processes x.1.0.form ≡ true = ap makes_processes (x.1.2 ∙ q.2) ∙ h in
      record {
        block = q.0;
        inner = q.1;
        before = x.0;
        entry = d;
        there = made;
        opens = ap is_processes (sym stmt_there) ∙ opener_is x.1.0.form (statement_at c x.1.0) (suits_here c source_shaped clean last q.0.at x.1.0 x.1.1) (ap is_simple stmt_there ∙ simple_all q.0.at d made) opens;
      }

  -- a call stands in a block
  pub call_in_block : ((k : ℕ) (e : Entry) → slice_get entries k ≡ Some e → is_simple e.stmt ≡ true) → (k : ℕ) (e : Entry) → slice_get entries k ≡ Some e → calls_process e.stmt ≡ true → IsInBlock k
  call_in_block simple_all k e at calls =
      let m = mark_of_entry k e at in
      let n = whole_place k in
      let f = form_here all n m.mark (there_too k m.mark m.there) ∙ call_form m.mark.form (statement_at c m.mark) m.suits (ap calls_process (sym m.stmt_is) ∙ calls) in
      let makes = call_placed (nat_eq n 0) (is_before (first_executable all) n) (form_at all 0) (opener_of (innermost all n))
      (ap (λ (f : Form). misplaced f (nat_eq n 0) (is_before (first_executable all) n) (form_at all 0) (opener_of (innermost all n))) (sym f) ∙ (rules_of k m.mark m.there).placed) in
      in_block simple_all k m.mark m.there (innermost all n) refl makes

  -- and so does the end of a block that a PROCESSES opens
  pub end_in_block : ((k : ℕ) (e : Entry) → slice_get entries k ≡ Some e → is_simple e.stmt ≡ true) → (k : ℕ) (m : EntryMark) → slice_get marks k ≡ Some m → m.form ≡ form.EndProcesses → IsInBlock k
  end_in_block simple_all k m at is =
      let n = whole_place k in
      let f = form_here all n m (there_too k m at) ∙ is in
      let open_at_end = has_end all && is_none (mate_of all n) in
      let makes = end_matched (opener_of (innermost all n)) open_at_end (ap (λ (f : Form). unmatched f (opener_of (innermost all n)) open_at_end) (sym f) ∙ (rules_of k m at).matched) in
      in_block simple_all k m at (innermost all n) refl makes

-- a CHANNEL of the PROGRAM of a safe program stands before each PROCESSCALL
pub channels_before_calls : (p : Program) (n : ℕ) (u : ProgramUnit) → main_number p ≡ Some n → unit_at p n ≡ Some u → IsFlowSafe p → (j k : ℕ) (d e : Entry) → slice_get u.tree.body j ≡ Some d → calls_process d.stmt ≡ true
    → slice_get u.tree.body k ≡ Some e → makes_channel e.stmt ≡ true → k < j
channels_before_calls p n u is_main here safe j k d e at_d calls at makes = elim (cases_lt k j) [
  | inl before ↦ before
  | inr behind ↦ absurd (refuted_by_unit p n u here (λ h. by_layout h behind))
]
  where
    by_layout : IsLaidUnit u.tree → j ≤ k → ⊥
    by_layout h behind =
        let body : (unit_of h.test h.statements).body ≡ u.tree.body = ap (λ (t : tree.Unit). t.body) h.is in
        let x = call_in_block h.test h.statements h.source_shaped h.clean h.last (λ i q there. all_simple p n u is_main here safe i q (ap (λ (es : List Entry). slice_get es i) (sym body) ∙ there)) j d (ap (λ (es : List Entry). slice_get es j) body ∙ at_d) calls in
        let less = x.before in
        once p n u is_main here safe x.block.at k x.entry e (ap (λ (es : List Entry). slice_get es x.block.at) (sym body) ∙ x.there) x.opens at (channel_once e.stmt makes) (omega (arith, less, behind))

-- ---- the end of the block

-- what ends a block comes no earlier than the run in which it is looked for
ends_low : (es : List EntryMark) (at c j : ℕ) → head_of (ends false es at c) ≡ Some j → at ≤ j
ends_low [] at c j e = absurd (cc e)
ends_low (x ∷ es) at c j e = go (bracket_of x.form) c e (λ d f. ends_low es (at + 1) d j f)
  where
    the_place : (a b : ℕ) → Some a ≡ Some b → a ≡ b
    the_place a b e = cc

    go : (b : Bracket) (c : ℕ) → head_of (counted_on false b at (ends false es (at + 1)) c) ≡ Some j → ((d : ℕ) → head_of (ends false es (at + 1) d) ≡ Some j → at + 1 ≤ j) → at ≤ j
    go Opens c e' rest = let l = rest (suc c) e' in omega (arith, l)
    go Closes zero e' rest = let same = the_place at j e' in omega (arith, same)
    go Closes (suc c) e' rest = let l = rest c e' in omega (arith, l)
    go Parts c e' rest = let l = rest c e' in omega (arith, l)
    go Stays c e' rest = let l = rest c e' in omega (arith, l)

first_of : (os : List Open) (o : Open) → head_of os ≡ Some o → slice_get os 0 ≡ Some o
first_of [] o e = absurd (cc e)
first_of (x ∷ os) o e = e

-- a block that is open at a place hasn't ended before it
pub open_ends_later : (ms : List EntryMark) (k j : ℕ) (o : Open) → k ≤ length ms → innermost ms k ≡ Some o → mate_of ms o.at ≡ Some j → k ≤ j
open_ends_later ms k j o within inner mate =
    ends_low (drop k ms) k 0 j (sym (end_to_come false ms k within 0 o (first_of (behind (take k ms)) o inner)) ∙ mate)

pub closes_block : (f : Form) → f ≡ form.EndProcesses → bracket_of f ≡ Closes
unfolding bracket_of
closes_block f e = ap bracket_of e
