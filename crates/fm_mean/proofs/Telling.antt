-- An outcome tells of each process that hasn't ended, where nobody can step.
use Rattle.std.proofs.Common.{◌≡◌, ◌⊎◌, inl, inr, ℕ, Bool, true, false, cond, Option, Some, List, [], ◌∷◌, ◌++◌, map, refl, sym, ◌∙◌, subst}
use Rattle.std.specs.Prelude.{Contains, option_to_list}
use Rattle.std.specs.List.{flat_map}
use Rattle.std.specs.FinMap.{entries, find, get, get-entries}
use Rattle.std.specs.Ordering.{eq_by_cmp}
use Rattle.std.specs.declared.cmp.Ordering.{Ordering}
use Rattle.std.proofs.lemmas.List.Elements.{Contains-append_left, Contains-append_right}
use Rattle.fm_base.specs.declared.fault.Fault.{Fault}
use Rattle.fm_finmap.specs.Keys.{IsKeyOrder}
use Rattle.fm_finmap.proofs.Keys.{tie}
use Rattle.fm_sched.specs.Schedule.{IsEnding, IsFinal, play}
use Rattle.fm_net.specs.Machine.{Place, State}
use Rattle.fm_net.proofs.Keys.{path_order}
use Rattle.fm_rules.specs.declared.program.Program.{Program}
use Rattle.fm_rules.proofs.Lists.{at_head, some_same}
use Rattle.fm_mean.specs.declared.outcome.At.{At}
use Rattle.fm_mean.specs.declared.outcome.FaultAt.{FaultAt}
use Rattle.fm_mean.specs.declared.outcome.Outcome.{Outcome}
use Rattle.fm_mean.specs.declared.outcome.Wait.{Wait}
use Rattle.fm_mean.specs.Process.{Phase, Running, Joining, Ended, Faulted, Proc}
use Rattle.fm_mean.specs.Outcome.{fault_at, fault_in, line_at, outcome_of, wait_at}
use Rattle.fm_mean.specs.Steps.{first, step}
use Rattle.fm_mean.specs.Telling.{TellsEach, TellsFault, TellsWait}
use Rattle.fm_mean.proofs.Lively.{MayGo}
use Rattle.fm_mean.proofs.Rests.{WaitsTold, waits_along}

-- what one entry gives stands in what all give
among_all : {K X Z : Type 0} {R : K → K → Ordering} → IsKeyOrder R → (f : K × X → List Z) (es : List (K × X)) (k : K) (x : X) (z : Z) → find R k es ≡ Some x → Contains (f (k, x)) z → Contains (flat_map f es) z
among_all o f [] k x z is has = absurd (cc is)
among_all {K} {X} {Z} {R} o f (e ∷ es) k x z is has = go (eq_by_cmp R k e.0) refl is (λ later. among_all o f es k x z later has)
  where
    go : (b : Bool) → eq_by_cmp R k e.0 ≡ b → cond b (Some e.1) (find R k es) ≡ Some x → (find R k es ≡ Some x → Contains (flat_map f es) z) → Contains (f e ++ flat_map f es) z
    go true tied h rest =
        let key : k ≡ e.0 = tie o k e.0 tied in
        let value : x ≡ e.1 = sym (some_same e.1 x h) in
        let same : (k, x) ≡ e = λ i. (key i, value i) in
        Contains-append_left (f e) (flat_map f es) z (subst (λ (d : K × X). Contains (f d) z) same has)
    go false tied h rest = Contains-append_right (f e) (flat_map f es) z (rest h)

module _ (p : Program) (s : State Proc) (used : ℕ) (final : IsFinal (step p) s) (waits : WaitsTold p s) where
  abbrev shown : Outcome
  shown = outcome_of p used s

  module _ (q : Place) (x : Proc) (is : get s.procs q ≡ Some x) where
    among : {Z : Type 0} (f : Place × Proc → List Z) (z : Z) → Contains (f (q, x)) z → Contains (flat_map f (entries s.procs)) z
    among f z has = among_all path_order f (entries s.procs) q x z (sym (get-entries s.procs q) ∙ is) has

    tells_fault : (line : ℕ) (fault : Fault) → x.phase ≡ Faulted line fault → TellsFault shown q x
    tells_fault line fault phase =
        let told : FaultAt = record { path = q; line = record { 0 = line }; fault = fault } in
        record {
          line = line;
          fault = fault;
          has_faulted = phase;
          told = among fault_at told (subst (λ (h : Phase). Contains (fault_in q h) told) (sym phase) (at_head told []));
        }

    tells_wait : MayGo x.phase → TellsWait p s shown q x
    tells_wait may =
        let w = waits q x is may (final q) in
        let told : At → Wait = λ v. record { path = q; line = record { 0 = line_at p x }; at = v } in
        record {
          waited = w.0;
          waits = w.2;
          told = among (wait_at p s.procs) (told w.0) (subst (λ (o : Option At). Contains (map told (option_to_list o)) (told w.0)) (sym w.1) (at_head (told w.0) []));
        }

    tells : (x.phase ≡ Ended) ⊎ (TellsFault shown q x ⊎ TellsWait p s shown q x)
    tells = go x.phase refl
      where
        go : (phase : Phase) → x.phase ≡ phase → (x.phase ≡ Ended) ⊎ (TellsFault shown q x ⊎ TellsWait p s shown q x)
        go Ended there = inl there
        go (Faulted line fault) there = inr (inl (tells_fault line fault there))
        go Running there = inr (inr (tells_wait (subst MayGo (sym there) tt)))
        go (Joining block kids) there = inr (inr (tells_wait (subst MayGo (sym there) tt)))

-- whatever the run cost
pub each_told : (p : Program) (cs : List Place) → IsEnding (step p) (first p) cs → (used : ℕ) → TellsEach p (play (step p) (first p) cs) (outcome_of p used (play (step p) (first p) cs))
each_told p cs ending used q x is = tells p (play (step p) (first p) cs) used ending.1 (waits_along p cs ending.0) q x is
