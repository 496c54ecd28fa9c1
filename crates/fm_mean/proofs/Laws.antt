-- The laws of programs along every schedule from the first state.
use Rattle.std.proofs.Common.{◌≡◌, ℕ, ◌≤◌, Option, Some, None, List, [], ◌++◌, refl, sym, ap, ◌∙◌, subst}
use Rattle.std.specs.FinMap.{get, empty, get-empty}
use Rattle.fm_base.specs.PathOrder.{path_cmp}
use Rattle.fm_finmap.proofs.Keys.{decide}
use Rattle.fm_finmap.proofs.Inserts.{insert_here, insert_there}
use Rattle.fm_sched.specs.Schedule.{IsEnding, Stays, Diamond, Throughout, Settles}
use Rattle.fm_net.specs.Machine.{Place}
use Rattle.fm_net.specs.Owned.{IsOwned, GoneIsEmpty, HasOneWriter}
use Rattle.fm_net.proofs.Costs.{step_costs}
use Rattle.fm_net.specs.Machine.{State}
use Rattle.fm_base.specs.Channels.{Chan}
use Rattle.fm_base.specs.PathOrder.{channel_cmp}
use Rattle.fm_net.specs.Typed.{IsTyped}
use Rattle.fm_net.proofs.Typed.{types_throughout}
use Rattle.fm_net.specs.Plain.{AllPlain}
use Rattle.fm_tree.specs.PortFields.{NoFields}
use Rattle.fm_mean.specs.Calls.{variables_in, entered}
use Rattle.fm_mean.specs.Fits.{Types, ValuesFit, Fits, IsFine}
use Rattle.fm_mean.specs.TypedTrees.{HasTypes}
use Rattle.fm_mean.proofs.TypedTrees.{typed_program}
use Rattle.fm_mean.proofs.Fitting.{all_unset_fits}
use Rattle.std.specs.Prelude.{Ok}
use Rattle.fm_tree.specs.Tree.{Trees}
use Rattle.fm_mean.specs.declared.place.Actual.{Actual}
use Rattle.fm_mean.specs.Evaluate.{Scope, actuals_of}
use Rattle.fm_mean.specs.ValueTypes.{AreSized, ArgumentsAreOf}
use Rattle.fm_mean.proofs.Opening.{opening_drops_nothing}
use Rattle.fm_mean.proofs.Entering.{arguments_find_room}
use Rattle.fm_mean.specs.Seats.{AreOnFirstNodes}
use Rattle.fm_mean.proofs.Seated.{IsSeated, NoTypes, seated_language}
use Rattle.fm_mean.proofs.TypedLanguage.{typed_language}
use Rattle.fm_net.proofs.Keys.{path_order}
use Rattle.fm_net.proofs.First.{main_owned, no_channel}
use Rattle.fm_net.proofs.Laws as net
use Rattle.fm_rules.specs.declared.program.Program.{Program}
use Rattle.fm_mean.specs.Names.{ProgramUnit, unit_at, main_number, all_unset}
use Rattle.fm_mean.specs.Process.{Proc, held}
use Rattle.fm_mean.specs.Steps.{main_in, main_by, proc_of, first_proc, first, language, step}
use Rattle.fm_mean.specs.Determinism.{IsDeterministic}
use Rattle.fm_mean.proofs.Calling.{all_unset_nil}
use Rattle.fm_mean.proofs.Lawful.{lawful}
use Rattle.fm_mean.proofs.Determined.{IsWithin, stays_within}

main_holds : (n : ℕ) (u : Option ProgramUnit) → held (proc_of (main_in n u)) ≡ []
main_holds n None = refl
main_holds n (Some u) = ap (λ ps. (ps ++ []) ++ []) (all_unset_nil u.names.variables)

first_holds : (p : Program) (o : Option ℕ) → held (proc_of (main_by p o)) ≡ []
first_holds p None = refl
first_holds p (Some n) = main_holds n (unit_at p n)

pub first_owned : (p : Program) → IsOwned (language p) (first p)
first_owned p = main_owned (language p) (first_proc p) (first_holds p (main_number p))

main_within : (p : Program) (n : ℕ) → main_number p ≡ Some n → (u : Option ProgramUnit) → IsWithin p (proc_of (main_in n u))
main_within p n is None = tt
main_within p n is (Some u) = ((record { main = n; starts = is; leads = (0, refl) }, tt), tt)

proc_within : (p : Program) (o : Option ℕ) → main_number p ≡ o → IsWithin p (proc_of (main_by p o))
proc_within p None is = tt
proc_within p (Some n) is = main_within p n is (unit_at p n)

first_within : (p : Program) → AllPlain (language p) (IsWithin p) (first p).procs
first_within p q x is = elim (decide path_order q []) [
  | yes e ↦ let same : first_proc p ≡ x = cc (sym (insert_here path_order empty [] (first_proc p)) ∙ ap (get (first p).procs) (sym e) ∙ is) in
      subst (IsWithin p) same (proc_within p (main_number p) refl)
  | no n ↦ absurd (cc (sym (insert_there path_order empty [] (first_proc p) q n ∙ get-empty path_cmp q) ∙ is))
]

pub owned_along : (p : Program) → Throughout (step p) (IsOwned (language p)) (first p)
owned_along p = net.owned_throughout (language p) (lawful p) (first p) (first_owned p)

pub stays_along : (p : Program) → Throughout (step p) (Stays (step p)) (first p)
stays_along p = net.stays_throughout (language p) (lawful p) (first p) (first_owned p)

pub commutes_along : (p : Program) → IsDeterministic p → Throughout (step p) (Diamond (step p)) (first p)
commutes_along p det = net.diamond_throughout (language p) (lawful p) (IsWithin p) (stays_within p det) (first p) (first_owned p, (first_within p, no_channel))

pub settles : (p : Program) → IsDeterministic p → (cs : List Place) → IsEnding (step p) (first p) cs → Settles (step p) (first p) cs
settles p det cs ends = net.one_outcome (language p) (lawful p) (IsWithin p) (stays_within p det) (first p) (first_owned p, (first_within p, no_channel)) cs ends

pub one_writer_along : (p : Program) → IsDeterministic p → Throughout (step p) (λ s. HasOneWriter s.chans) (first p)
one_writer_along p det cs legal = (net.sole_throughout (language p) (lawful p) (IsWithin p) (stays_within p det) (first p) (first_owned p, (first_within p, no_channel)) cs legal).1.1

pub empty_along : (p : Program) → Throughout (step p) (λ s. GoneIsEmpty s.chans) (first p)
empty_along p = net.empty_throughout (language p) (lawful p) (first p) (first_owned p) (λ c ch is. absurd (cc (sym (get-empty {X = Chan} channel_cmp c) ∙ is)))

pub each_costs : (p : Program) (s : State Proc) (q : Place) (t : State Proc × ℕ) → step p s q ≡ Some t → 1 ≤ t.1
each_costs p s q t e = step_costs (language p) (lawful p) s q t e

main_fine : (p : Program) (types : Types) (n : ℕ) (u : Option ProgramUnit) → unit_at p n ≡ u → IsFine p types (proc_of (main_in n u))
main_fine p types n None is = (tt, tt)
main_fine p types n (Some u) is = ((subst (λ vs. ValuesFit types vs (all_unset u.names.variables)) (sym (ap variables_in is)) (all_unset_fits types u.names.variables), tt), tt)

proc_fine : (p : Program) (types : Types) (o : Option ℕ) → IsFine p types (proc_of (main_by p o))
proc_fine p types None = (tt, tt)
proc_fine p types (Some n) = main_fine p types n (unit_at p n) refl

first_typed : (p : Program) → IsTyped (language p) (IsFine p) Fits (first p)
first_typed p = (
  (λ c. NoFields),
  record {
    each = λ q x is. elim (decide path_order q []) [
      | yes e ↦ let same : first_proc p ≡ x = cc (sym (insert_here path_order empty [] (first_proc p)) ∙ ap (get (first p).procs) (sym e) ∙ is) in
          subst (IsFine p (λ c. NoFields)) same (proc_fine p (λ c. NoFields) (main_number p))
      | no n ↦ absurd (cc (sym (insert_there path_order empty [] (first_proc p) q n ∙ get-empty path_cmp q) ∙ is))
    ];
    queues = λ c ch is. absurd (cc (sym (get-empty {X = Chan} channel_cmp c) ∙ is));
  },
)

pub typed_along : (p : Program) → HasTypes p → Throughout (step p) (IsTyped (language p) (IsFine p) Fits) (first p)
typed_along p typed = types_throughout (language p) (IsFine p) Fits (typed_language p (typed_program p typed)) (lawful p) (first p) (first_owned p) (first_typed p)

main_seated : (n : ℕ) (u : Option ProgramUnit) → IsSeated (proc_of (main_in n u))
main_seated n None = (refl, tt)
main_seated n (Some u) = (refl, (tt, tt))

proc_seated : (p : Program) (o : Option ℕ) → IsSeated (proc_of (main_by p o))
proc_seated p None = (refl, tt)
proc_seated p (Some n) = main_seated n (unit_at p n)

first_seated : (p : Program) → IsTyped (language p) (λ (types : NoTypes) (x : Proc). IsSeated x) (λ (types : NoTypes) c m. Prim.Unit {0}) (first p)
first_seated p = (
  (λ c. tt),
  record {
    each = λ q x is. elim (decide path_order q []) [
      | yes e ↦ let same : first_proc p ≡ x = cc (sym (insert_here path_order empty [] (first_proc p)) ∙ ap (get (first p).procs) (sym e) ∙ is) in subst IsSeated same (proc_seated p (main_number p))
      | no n ↦ absurd (cc (sym (insert_there path_order empty [] (first_proc p) q n ∙ get-empty path_cmp q) ∙ is))
    ];
    queues = λ c ch is. absurd (cc (sym (get-empty {X = Chan} channel_cmp c) ∙ is));
  },
)

pub first_nodes_along : (p : Program) → Throughout (step p) AreOnFirstNodes (first p)
first_nodes_along p cs legal q x is =
    (((types_throughout (language p) (λ (types : NoTypes) (x : Proc). IsSeated x) (λ (types : NoTypes) c m. Prim.Unit {0}) (seated_language p) (lawful p) (first p) (first_owned p) (first_seated p)) cs legal).1.each q x is).0

pub opening_along : (types : Types) (s : Scope) (u : ProgramUnit) (ts : Trees) (k : ℕ) (args : List Actual) → AreSized s.unit.names.variables → ValuesFit types s.unit.names.variables s.values
    → ArgumentsAreOf s u 1 ts → actuals_of s ts k ≡ Ok args → (entered u s.values args).drops ≡ []
opening_along types s u ts k args sized fits are is = opening_drops_nothing u s.values args (arguments_find_room types s u 1 ts k args sized fits are is)
