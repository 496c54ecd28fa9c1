-- From what holds along every schedule to the end of main.
use Rattle.std.proofs.Common.{◌≡◌, ℕ, Bool, true, false, cond, Some, List, [], ◌∷◌, ◌++◌, refl, sym, ap, ◌∙◌}
use Rattle.std.specs.List.{flat_map}
use Rattle.std.specs.FinMap.{get, entries, get-entries}
use Rattle.std.specs.FinMap.Entries.{find}
use Rattle.std.specs.Ordering.{eq_by_cmp}
use Rattle.fm_base.specs.PathOrder.{path_cmp}
use Rattle.fm_base.specs.declared.fault.Fault.{Fault}
use Rattle.fm_base.specs.declared.path.ChanName.{ChanName}
use Rattle.fm_sched.specs.Schedule.{Throughout, play}
use Rattle.fm_net.specs.Machine.{Place, State}
use Rattle.fm_rules.specs.declared.program.Program.{Program}
use Rattle.fm_mean.specs.Outcome.{outcome_of, fault_at, fault_in, ended_at}
use Rattle.fm_mean.specs.Process.{Faulted, Proc}
use Rattle.fm_mean.specs.Steps.{first, step, language}
use Rattle.fm_mean.proofs.Lawful.{lawful}
use Rattle.fm_mean.proofs.Laws.{owned_along}
use Rattle.fm_flow_law.specs.Cycles.{IsAcyclic}
use Rattle.fm_flow_law.specs.Pipes.{AreEdges, IsPiped}
use Rattle.fm_flow_law.specs.Ends.{ComesToItsEnd}
use Rattle.fm_flow_law.proofs.Stopped.{main_has_ended}

-- no process has faulted
abbrev pub HasNoFault : State Proc → Type 0
HasNoFault s = (q : Place) (x : Proc) → get s.procs q ≡ Some x → (line : ℕ) (fault : Fault) → x.phase ≡ Faulted line fault → ⊥

left_nil : {X : Type 0} (xs ys : List X) → xs ++ ys ≡ [] → xs ≡ []
left_nil [] ys e = refl
left_nil (x ∷ xs) ys e = absurd (cc e)

right_nil : {X : Type 0} (xs ys : List X) → xs ++ ys ≡ [] → ys ≡ []
right_nil [] ys e = e
right_nil (x ∷ xs) ys e = absurd (cc e)

found_faultless : (es : List (Place × Proc)) (q : Place) (x : Proc) → find path_cmp q es ≡ Some x → flat_map fault_at es ≡ [] → (r : Place) × (fault_in r x.phase ≡ [])
found_faultless [] q x is none = absurd (cc is)
found_faultless (e ∷ es) q x is none = go (λ h. found_faultless es q x h (right_nil (fault_at e) (flat_map fault_at es) none)) (eq_by_cmp path_cmp q e.0) is
  where
    the_same : (y z : Proc) → Some y ≡ Some z → y ≡ z
    the_same y z h = cc h

    go : (find path_cmp q es ≡ Some x → (r : Place) × (fault_in r x.phase ≡ [])) → (b : Bool) → cond b (Some e.1) (find path_cmp q es) ≡ Some x → (r : Place) × (fault_in r x.phase ≡ [])
    go later true h = (e.0, ap (λ (y : Proc). fault_in e.0 y.phase) (sym (the_same e.1 x h)) ∙ left_nil (fault_at e) (flat_map fault_at es) none)
    go later false h = later h

faultless : (p : Program) (used : ℕ) (s : State Proc) → (outcome_of p used s).faults ≡ [] → HasNoFault s
faultless p used s none q x is line fault at =
    let h = found_faultless (entries s.procs) q x (sym (get-entries s.procs q) ∙ is) none in
    absurd (cc (sym (ap (fault_in h.0) at) ∙ h.1))

module _ {L : Type 0} (p : Program) (g : List (List ℕ)) (Out In : (ChanName → L) → ℕ → ChanName → Type 0) (edges : (labels : ChanName → L) → AreEdges (language p) g (Out labels) (In labels)) (acyclic : IsAcyclic g)
    (piped : Throughout (step p) (λ s. HasNoFault s → (labels : ChanName → L) × IsPiped (language p) g (Out labels) (In labels) s) (first p)) where
  pub comes_to_its_end : ComesToItsEnd p
  comes_to_its_end cs used ends none =
      let s = play (step p) (first p) cs in
      let now = piped cs ends.0 (faultless p used s none) in
      let done = main_has_ended (language p) s ends.1 g (Out now.0) (In now.0) (owned_along p cs ends.0) (lawful p) (edges now.0) acyclic now.1 in
      ap ended_at now.1.is_main ∙ done
