-- The entries of a unit of a program and the marks that they are made of: each simple statement goes on to the next.
use Rattle.std.proofs.Common.{◌≡◌, inl, inr, ℕ, zero, suc, ◌+◌, Bool, true, false, Option, Some, None, List, [], ◌∷◌, slice_get, refl, sym, ap, ◌∙◌, arith}
use Rattle.std.specs.Prelude.{if◌then◌else◌}
use Rattle.fm_tree.specs.Structure.{is_separator, simple_form_of}
use Rattle.fm_tree.specs.Layout.{laid_out}
use Rattle.fm_tree.specs.Blocks.{mate_of}
use Rattle.fm_tree.specs.Units.{or_next, after_of, body_of, entries_from, entry_of, form_at, lacks_end, mark_at, statement_at, unit_of}
use Rattle.fm_tree.specs.declared.entry_mark.EntryMark.{EntryMark}
use Rattle.fm_tree.specs.declared.form.Form.{Form}
use Rattle.fm_tree.specs.declared.program_unit.Entry.{Entry}
use Rattle.fm_tree.specs.declared.program_unit.Placed.{Placed}
use Rattle.fm_tree.specs.declared.program_unit.Unit as tree
use Rattle.fm_tree.specs.declared.statement.Simple.TheVariants as simple
use Rattle.fm_tree.specs.declared.statement.Stmt.{Stmt}
use Rattle.fm_tree.specs.declared.statement.Stmt.TheVariants as stmt
use Rattle.fm_tree_blocks.proofs.LaidMarks.{AreOfSource, Suits}
use Rattle.fm_rules.specs.BrokenUnit.{broken_in_unit}
use Rattle.fm_rules.specs.declared.program.Program.{Program}
use Rattle.fm_mean.specs.Names.{ProgramUnit, unit_at}
use Rattle.fm_mean.proofs.Leading.{IsLaidUnit, refuted_by_unit}
use Rattle.fm_mean.proofs.BodyRules.{suits_here}
use Rattle.fm_flow_law.specs.Flow.{is_simple}
use Rattle.fm_flow_law.proofs.MainWalk.{AreSimple}
use native.Mathlib.Decide.{ℕ_discrete}

never : true ≡ false → ⊥
never e = absurd (cc)

-- ---- entries and their marks

the_entry : (a b : Entry) → Some a ≡ Some b → a ≡ b
the_entry a b e = cc

the_mark : (a b : EntryMark) → Some a ≡ Some b → a ≡ b
the_mark a b e = cc

module _ (test : List ℕ → Bool) (c : List Placed) (all : List EntryMark) where
  pub entry_there : (ms : List EntryMark) (at i : ℕ) (e : Entry) → slice_get (entries_from test c all at ms) i ≡ Some e → (m : EntryMark) × (slice_get ms i ≡ Some m) × (e ≡ entry_of test c all (at + i))
  entry_there [] at i e is = absurd (cc is)
  entry_there (m ∷ ms) at zero e is = (m, refl, sym (the_entry (entry_of test c all at) e is) ∙ ap (entry_of test c all) (omega arith))
  entry_there (m ∷ ms) at (suc i) e is = let r = entry_there ms (at + 1) i e is in (r.0, r.1, r.2 ∙ ap (entry_of test c all) (omega arith))

  pub entry_made : (ms : List EntryMark) (at i : ℕ) (m : EntryMark) → slice_get ms i ≡ Some m → slice_get (entries_from test c all at ms) i ≡ Some (entry_of test c all (at + i))
  entry_made [] at i m is = absurd (cc is)
  entry_made (x ∷ ms) at zero m is = ap (λ (n : ℕ). Some (entry_of test c all n)) (omega arith)
  entry_made (x ∷ ms) at (suc i) m is = entry_made ms (at + 1) i m is ∙ ap (λ (n : ℕ). Some (entry_of test c all n)) (omega arith)

pub mark_is : (ms : List EntryMark) (k : ℕ) (m : EntryMark) → slice_get ms k ≡ Some m → mark_at ms k ≡ m
mark_is [] k m e = absurd (cc e)
mark_is (x ∷ ms) zero m e = the_mark x m e
mark_is (x ∷ ms) (suc k) m e = mark_is ms k m e

-- a simple statement parts no block
simple_parts_none : (f : Form) (s : Stmt) → Suits f s → is_simple s ≡ true → is_separator f ≡ false
unfolding is_simple simple_form_of
simple_parts_none f (stmt.Simple (simple.Assignment v t)) h e = ap is_separator h
simple_parts_none f (stmt.Simple (simple.Print items)) h e = ap is_separator h
simple_parts_none f (stmt.Simple (simple.Write unit items)) h e = ap is_separator h
simple_parts_none f (stmt.Simple simple.Continue) h e = ap is_separator h
simple_parts_none f (stmt.Simple (simple.Channel in_first i o)) h e = ap is_separator h
simple_parts_none f (stmt.Simple simple.Stop) h e = ap is_separator h
simple_parts_none f stmt.Processes (inl h) e = ap is_separator h
simple_parts_none f stmt.Processes (inr h) e = ap is_separator h
simple_parts_none f (stmt.ProcessCall name part) h e = ap is_separator h
simple_parts_none f stmt.EndProcesses (inl h) e = ap is_separator h
simple_parts_none f stmt.EndProcesses (inr h) e = ap is_separator h
simple_parts_none f stmt.End h e = ap is_separator h
simple_parts_none f s h e = absurd (never (sym e))

module _ (test : List ℕ → Bool) (c : List Placed) (source_shaped : AreOfSource c) (clean : broken_in_unit (laid_out c) ≡ []) (last : lacks_end c ≡ false) where
  abbrev marks : List EntryMark
  marks = body_of (laid_out c)

  abbrev entries : List Entry
  entries = entries_from test c marks 0 marks

  -- behind each entry comes the next, where all are simple
  after_next : ((k : ℕ) (e : Entry) → slice_get entries k ≡ Some e → is_simple e.stmt ≡ true) → (k : ℕ) (e : Entry) → slice_get entries k ≡ Some e → e.after ≡ suc k
  after_next all_simple k e at =
      let r = entry_there test c marks marks 0 k e at in
      let same : e ≡ entry_of test c marks k = r.2 ∙ ap (entry_of test c marks) (omega arith) in
      let next : k + 1 ≡ suc k = omega arith in
      ap (λ (x : Entry). x.after) same ∙ go (slice_get marks (k + 1)) refl ∙ next
    where
      plain : (b : Bool) → is_separator (form_at marks (k + 1)) ≡ b → b ≡ false → after_of marks k ≡ k + 1
      plain false is e = ap (λ (b : Bool). if b then or_next (mate_of marks k) k else k + 1) is
      plain true is e = absurd (never e)

      form_is : (m : EntryMark) → slice_get marks (k + 1) ≡ Some m → form_at marks (k + 1) ≡ m.form
      form_is m there = ap (λ (x : EntryMark). x.form) (mark_is marks (k + 1) m there)

      next_simple : (m : EntryMark) → slice_get marks (k + 1) ≡ Some m → is_separator m.form ≡ false
      next_simple m there =
          let made = entry_made test c marks marks 0 (k + 1) m there ∙ ap (λ (n : ℕ). Some (entry_of test c marks n)) (omega arith) in
          let simple_here = all_simple (k + 1) (entry_of test c marks (k + 1)) made in
          simple_parts_none m.form (statement_at c m) (suits_here c source_shaped clean last (k + 1) m there) (ap (λ (x : EntryMark). is_simple (statement_at c x)) (sym (mark_is marks (k + 1) m there)) ∙ simple_here)

      blank : (ms : List EntryMark) (i : ℕ) → slice_get ms i ≡ None → is_separator (form_at ms i) ≡ false
      blank [] i e = refl
      blank (x ∷ ms) zero e = absurd (cc e)
      blank (x ∷ ms) (suc i) e = blank ms i e

      go : (o : Option EntryMark) → slice_get marks (k + 1) ≡ o → after_of marks k ≡ k + 1
      go None there = plain (is_separator (form_at marks (k + 1))) refl (blank marks (k + 1) there)
      go (Some m) there = plain (is_separator (form_at marks (k + 1))) refl (ap is_separator (form_is m there) ∙ next_simple m there)

-- in a program each entry of a unit of simple statements goes on to the next
pub unit_goes_on : (p : Program) (n : ℕ) (u : ProgramUnit) → unit_at p n ≡ Some u → AreSimple u → (k : ℕ) (e : Entry) → slice_get u.tree.body k ≡ Some e → e.after ≡ suc k
unit_goes_on p n u is all_simple k e at = elim (ℕ_discrete e.after (suc k)) [
  | yes same ↦ same
  | no other ↦ absurd (refuted_by_unit p n u is (λ h. other (in_unit h)))
]
  where
    in_unit : IsLaidUnit u.tree → e.after ≡ suc k
    in_unit h =
        let body : (unit_of h.test h.statements).body ≡ u.tree.body = ap (λ (t : tree.Unit). t.body) h.is in
        after_next h.test h.statements h.source_shaped h.clean h.last (λ j d there. all_simple j d (ap (λ (es : List Entry). slice_get es j) (sym body) ∙ there)) k e (ap (λ (es : List Entry). slice_get es k) body ∙ at)
