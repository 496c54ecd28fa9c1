-- Behind the last entry nothing stands: a process whose frame is there does nothing more, and a body that stands for it is stuck.
use Rattle.std.proofs.Common.{◌≡◌, ℕ, zero, suc, ◌+◌, ◌-◌, ◌≤◌, Option, Some, None, List, [], ◌∷◌, ◌++◌, length, refl, sym, ap, subst, ◌∙◌, arith}
use Rattle.std.specs.Prelude.{slice_get}
use Rattle.std.proofs.lemmas.List.{append-nil, drop_all}
use Rattle.std.proofs.lemmas.Option.{slice_get_past}
use Rattle.fm_rules.specs.Links.{links_of}
use Rattle.fm_tree.specs.declared.program_unit.Entry.{Entry}
use Rattle.fm_rules.specs.declared.program.Program.{Program}
use Rattle.fm_mean.specs.Names.{ProgramUnit, point_with, point_at}
use Rattle.fm_mean.specs.Process.{Phase, Running, Joining, Ended, Faulted, Proc}
use Rattle.fm_mean.specs.Actions as mean_actions
use Rattle.fm_mean.specs.Actions.{Rest, point_action, action_at, action_in}
use Rattle.fm_mean.proofs.Points.{point_there}
use Rattle.fm_code.specs.declared.body.Body.{Body}
use Rattle.fm_code.specs.Acts as acts
use Rattle.fm_code.specs.Acts.{statement, work, nothing}
use Rattle.fm_code.specs.Statements as code_actions
use Rattle.fm_code.specs.Statements.{action_by, code_in, statement_end_of}
use Rattle.fm_gen_relation.specs.Standing.{Slots}
use Rattle.fm_gen.specs.Bodies.{next_address, StandsFor, IsAlive, EndsBlock}
use Rattle.fm_gen.specs.Entries.{entry_code, entries_code, address_of, statement_in, unit_code}
use Rattle.fm_gen.specs.Programs.{code_of}
use Rattle.fm_gen.specs.Units.{unit_of_code}
use Rattle.fm_gen.proofs.StandLaws.{unit_found}
use Rattle.fm_gen.proofs.UnitLaws.{entries_length}

past_end : (es : List Entry) (k : ℕ) → slice_get es k ≡ None → length es ≤ k
past_end [] k e = omega arith
past_end (x ∷ es) zero e = absurd (cc e)
past_end (x ∷ es) (suc k) e = let less = past_end es k e in omega (arith, less)

module _ (p : Program) (u : ProgramUnit) where
  entry_missing : (k : ℕ) (o : Option Entry) → slice_get u.tree.body k ≡ o → point_at u k ≡ None → o ≡ None
  entry_missing k None is none = refl
  entry_missing k (Some e) is none = absurd (cc (sym (point_there u k e is) ∙ none))

  behind_all : (k : ℕ) → point_at u k ≡ None → length u.tree.body ≤ k
  behind_all k none = past_end u.tree.body k (entry_missing k (slice_get u.tree.body k) refl none)

  no_point : (k : ℕ) → length u.tree.body ≤ k → point_at u k ≡ None
  no_point k le = ap (λ o. point_with o (slice_get (links_of u.tree.body) k)) (slice_get_past u.tree.body k le)

  abbrev unplaced : ℕ → ℕ
  unplaced j = 0

  -- entries that aren't there have no instructions
  no_more_code : (d : ℕ) → entries_code p u unplaced (d + length u.tree.body) ≡ entries_code p u unplaced (length u.tree.body)
  no_more_code zero = let same : 0 + length u.tree.body ≡ length u.tree.body = omega arith in ap (entries_code p u unplaced) same
  no_more_code (suc d) =
      let next : suc d + length u.tree.body ≡ suc (d + length u.tree.body) = omega arith in
      ap (entries_code p u unplaced) next
      ∙ ap (λ o. entries_code p u unplaced (d + length u.tree.body) ++ entry_code p u unplaced (d + length u.tree.body) o) (no_point (d + length u.tree.body) (omega arith))
      ∙ append-nil (entries_code p u unplaced (d + length u.tree.body))
      ∙ no_more_code d

  -- where no entry is, the code of the unit is over
  code_over : (k : ℕ) → point_at u k ≡ None → address_of p u k ≡ length (unit_code p u)
  code_over k none =
      let le = behind_all k none in
      let far : k ≡ (k - length u.tree.body) + length u.tree.body = omega (arith, le) in
      ap (λ j. length (entries_code p u unplaced j)) far ∙ ap length (no_more_code (k - length u.tree.body)) ∙ entries_length p u unplaced (address_of p u) (length u.tree.body)

module _ (p : Program) (slots : Slots) (x : Proc) (b : Body) (s : StandsFor p (code_of p) slots x b) (none : point_at s.first.unit s.frame.entry ≡ None) where
  abbrev unit : ProgramUnit
  unit = s.first.unit

  module _ (running : x.phase ≡ Running) where
    rests : mean_actions.action_of p x ≡ Rest
    rests =
        (λ i. action_in p x.execution (running i))
        ∙ (λ i. mean_actions.running p x.execution (s.frames i))
        ∙ (λ i. action_at p x.execution s.frame s.below (s.first.there i))
        ∙ ap (point_action p x.execution unit s.frame s.below) none

    at_end : b.frame.address ≡ length (unit_code p unit)
    at_end =
        s.first.address
        ∙ ap (λ k. next_address p k s.frame unit) running
        ∙ ap (λ o. statement_in p unit (address_of p unit s.frame.entry) o (length s.frame.results)) none
        ∙ code_over p unit s.frame.entry none

    found : code_actions.unit_at b b.frame.unit ≡ Some (unit_of_code p unit)
    found = ap (code_actions.unit_at b) s.first.number ∙ unit_found p b s.loaded s.frame.unit unit s.first.there

    end_is : statement_end_of b ≡ acts.Stuck
    end_is =
        (λ i. statement (code_in (found i)) (at_end i) b.frame)
        ∙ ap (λ c. work c [] nothing b.frame) (drop_all (length (unit_code p unit)) (unit_code p unit) (omega arith))

    both_rest : (code_actions.action_of b ≡ code_actions.Stuck) × (mean_actions.action_of p x ≡ Rest)
    both_rest = (ap (action_by b) end_is, rests)

  -- one that joins is at the end of a block
  no_join : EndsBlock unit s.frame → ⊥
  no_join end = cc (sym none ∙ end.at)

  by_phase : (h : Phase) → x.phase ≡ h → (code_actions.action_of b ≡ code_actions.Stuck) × (mean_actions.action_of p x ≡ Rest)
  by_phase Running phase = both_rest phase
  by_phase (Joining block kids) phase = absurd (no_join (subst (λ h. IsAlive h unit s.frame) phase s.alive))
  by_phase Ended phase = absurd (subst (λ h. IsAlive h unit s.frame) phase s.alive)
  by_phase (Faulted line fault) phase = absurd (subst (λ h. IsAlive h unit s.frame) phase s.alive)

  pub rests_alike : (code_actions.action_of b ≡ code_actions.Stuck) × (mean_actions.action_of p x ≡ Rest)
  rests_alike = by_phase x.phase refl
