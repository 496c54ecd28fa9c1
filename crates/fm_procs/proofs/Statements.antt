-- Statements of a running process are steps of the machine, each of them its own.
use Rattle.std.proofs.Common.{◌≡◌, ◌⊎◌, inl, inr, ℕ, zero, suc, ◌+◌, ◌<◌, true, Option, Some, None, List, [], ◌∷◌, ◌++◌, replicate, refl, sym, ap, ap₂, ◌∙◌, subst, arith, append-nil, append_assoc}
use Rattle.std.specs.Prelude.{ℤ, option_map, option_and_then}
use Rattle.std.specs.FinMap.{get, insert}
use Rattle.std.proofs.lemmas.Grind.{replicate_next}
use Rattle.fm_base.specs.Channels.{Chans}
use Rattle.fm_finmap.proofs.Inserts.{insert_here, insert_again, insert_same}
use Rattle.fm_sched.specs.Schedule.{play, Leads}
use Rattle.fm_sched.proofs.Runs.{leads_nowhere, leads_further}
use Rattle.fm_discards.proofs.Shedding.{all_shed-nil}
use Rattle.fm_net.specs.Machine.{Place, Procs, State, Nothing, Go, reply_with}
use Rattle.fm_net.specs.Starts.{starts_along, starts_at}
use Rattle.fm_net.proofs.Cases.{local_step}
use Rattle.fm_net.proofs.Keys.{path_order}
use Rattle.fm_net.proofs.Orders.{starts-append, starts_served}
use Rattle.fm_net.proofs.Taken.{Starts}
use Rattle.fm_code.specs.declared.body.Body.{Body}
use Rattle.fm_code.specs.Statements as code
use Rattle.fm_code.specs.Statements.{Action, Own, Ran, action_of, grown, not_moved, one_more, own_alone, ran, run}
use Rattle.fm_proc_language.specs.Needs.{is_local, is_local_action, is_local_by}
use Rattle.fm_proc_language.specs.Processes.{CodeProc, Running, asks, asks_by, code_language, onward, running_by}
use Rattle.fm_procs.specs.Runs.{with_ran}
use Rattle.fm_procs.specs.Pieces.{Makes, after_steps, is_local_at, is_local_in}
use Rattle.fm_procs.specs.Readings.{code_step}

-- ---- one statement

own_by : (b : Body) (lines : List (List ℕ)) (drops : List ℤ) (cost : ℕ) (r : Ran) → own_alone b lines drops cost ≡ Some r → Own b lines drops cost ≡ Own r.body r.lines [] r.cost
own_by b lines [] cost r e =
    let k : record { body = b; lines = lines; cost = cost } ≡ r = cc e in
    ap (λ (q : Ran). Own q.body q.lines [] q.cost) k
own_by b lines (z ∷ zs) cost r e = absurd (cc e)

-- a statement that touches nothing but the body lets no port go
own_action : (a : Action) (r : Ran) → ran a ≡ Some r → a ≡ Own r.body r.lines [] r.cost
own_action code.Stuck r e = absurd (cc e)
own_action (Own b lines drops cost) r e = own_by b lines drops cost r e
own_action (code.Meets k) r e = absurd (cc e)

-- the state with this process at the place
abbrev pub with_process : State CodeProc → Place → CodeProc → State CodeProc
with_process s p y = record { procs = insert s.procs p y; chans = s.chans }

module _ (y : CodeProc) (b : Body) (runs : y.phase ≡ Running) (stands : y.body ≡ Some b) (r : Ran) (goes : ran (action_of b) ≡ Some r) where
  asks_own : asks y ≡ Go Nothing (λ c v. onward y (with_ran y r) [] [] r.cost)
  asks_own = ap₂ (asks_by y) runs stands ∙ ap (running_by y b) (own_action (action_of b) r goes)

  own_local : is_local y ≡ true
  own_local = ap₂ is_local_by runs stands ∙ ap is_local_action (own_action (action_of b) r goes)

  module _ (s : State CodeProc) (p : Place) (is : get s.procs p ≡ Some y) where
    own_step : code_step s p ≡ Some (with_process s p (with_ran y r), r.cost)
    own_step =
        local_step code_language s p y is (λ c v. onward y (with_ran y r) [] [] r.cost) (onward y (with_ran y r) [] [] r.cost) asks_own refl refl
        ∙ ap (λ (m : Chans). Some (record { procs = insert s.procs p (with_ran y r); chans = m }, r.cost)) (all_shed-nil s.chans)

    own_starts : starts_at code_language s p ≡ []
    own_starts =
        let t : Starts code_language s p = record { self = y; is = is; need = Nothing; goes = λ c v. onward y (with_ran y r) [] [] r.cost; asks = asks_own; reply = reply_with []; serves = refl } in
        starts_served code_language s p t

-- ---- steps of one process

pub makes_none : (s : State CodeProc) (p : Place) → Makes s p 0 s 0 []
makes_none s p = record { leads = leads_nowhere code_step s; starts_are = refl }

-- one step more, where those before started nobody
pub makes_more : (s t : State CodeProc) (p : Place) (n cost : ℕ) (r : State CodeProc × ℕ) → Makes s p n t cost [] → code_step t p ≡ Some r
    → Makes s p (n + 1) r.0 (cost + r.1) (starts_at code_language t p)
makes_more s t p n cost r before goes = record {
  leads = subst (λ (cs : List Place). Leads code_step s cs r.0 (cost + r.1)) (sym (replicate_next n p)) (leads_further code_step s t (replicate n p) cost p r before.leads goes);
  starts_are =
      ap (starts_along code_language s) (replicate_next n p) ∙ starts-append code_language s (replicate n p) (p ∷ [])
      ∙ ap (λ ps. ps ++ (starts_at code_language (play code_step s (replicate n p)) p ++ [])) before.starts_are
      ∙ append-nil (starts_at code_language (play code_step s (replicate n p)) p) ∙ ap (λ u. starts_at code_language u p) before.leads.there;
}

-- ---- several statements

-- those before the last one, and the last one
record Parts (n : ℕ) (b : Body) (r : Ran) : Type 0 where
  first : Ran
  last : Ran
  first_is : run n b ≡ Some first
  last_is : ran (action_of first.body) ≡ Some last
  whole : grown first last ≡ r

parts : (n : ℕ) (b : Body) (r : Ran) → run (suc n) b ≡ Some r → Parts n b r
parts n b r e = go (run n b) refl e
  where
    inner : (q : Ran) (o : Option Ran) → run n b ≡ Some q → ran (action_of q.body) ≡ o → option_map (grown q) o ≡ Some r → Parts n b r
    inner q None first_is last_is e' = absurd (cc e')
    inner q (Some l) first_is last_is e' = record { first = q; last = l; first_is = first_is; last_is = last_is; whole = cc e' }

    go : (o : Option Ran) → run n b ≡ o → option_and_then one_more o ≡ Some r → Parts n b r
    go None is e' = absurd (cc e')
    go (Some q) is e' = inner q (ran (action_of q.body)) is refl e'

module _ (y : CodeProc) (b : Body) (runs : y.phase ≡ Running) (stands : y.body ≡ Some b) where
  with_none : with_ran y (not_moved b) ≡ y
  with_none = ap₂ (λ (o : Option Body) (ls : List (List ℕ)). record y { body = o; lines = ls }) (sym stands) (append-nil y.lines)

  with_more : (q r : Ran) → with_ran (with_ran y q) r ≡ with_ran y (grown q r)
  with_more q r = ap (λ (ls : List (List ℕ)). record y { body = Some r.body; lines = ls }) (append_assoc y.lines q.lines r.lines)

  module _ (s : State CodeProc) (p : Place) (is : get s.procs p ≡ Some y) where
    -- so many statements are so many steps, at their cost, and start nobody
    pub makes_run : (n : ℕ) (r : Ran) → run n b ≡ Some r → Makes s p n (with_process s p (with_ran y r)) r.cost []
    makes_run zero r e =
        let same : not_moved b ≡ r = cc e in
        let stays : with_process s p (with_ran y (not_moved b)) ≡ s = ap (with_process s p) with_none ∙ ap (λ (m : Procs CodeProc). record { procs = m; chans = s.chans }) (insert_same path_order s.procs p y is) in
        subst (λ (q : Ran). Makes s p 0 (with_process s p (with_ran y q)) q.cost []) same
        (subst (λ (t : State CodeProc). Makes s p 0 t 0 []) (sym stays) (makes_none s p))
    makes_run (suc n) r e =
        let k = parts n b r e in
        let z = with_ran y k.first in
        let t = with_process s p z in
        let at : get t.procs p ≡ Some z = insert_here path_order s.procs p z in
        let goes = own_step z k.first.body runs refl k.last k.last_is t p at in
        let m = makes_more s t p n k.first.cost (with_process t p (with_ran z k.last), k.last.cost) (makes_run n k.first k.first_is) goes in
        let ends : with_process t p (with_ran z k.last) ≡ with_process s p (with_ran y (grown k.first k.last)) =
        ap (λ (n : Procs CodeProc). record { procs = n; chans = s.chans }) (insert_again path_order s.procs p z (with_ran z k.last)) ∙ ap (with_process s p) (with_more k.first k.last) in
        let m1 = subst (λ (ps : List Place). Makes s p (n + 1) (with_process t p (with_ran z k.last)) (k.first.cost + k.last.cost) ps) (own_starts z k.first.body runs refl k.last k.last_is t p at) m in
        let m2 = subst (λ (u : State CodeProc). Makes s p (n + 1) u (k.first.cost + k.last.cost) []) ends m1 in
        let m3 = subst (λ (q : Ran). Makes s p (n + 1) (with_process s p (with_ran y q)) q.cost []) k.whole m2 in
        subst (λ (i : ℕ). Makes s p i (with_process s p (with_ran y r)) r.cost []) (omega arith) m3

    last_local : (n : ℕ) (r : Ran) → Parts n b r → is_local_at (after_steps s p n) p ≡ true
    last_local n r h =
        let z = with_ran y h.first in
        ap (λ (t : State CodeProc). is_local_at t p) (makes_run n h.first h.first_is).leads.there
        ∙ ap is_local_in (insert_here path_order s.procs p z)
        ∙ own_local z h.first.body runs refl h.last h.last_is

    -- each of them is a step of the process's own
    pub each_local : (n : ℕ) (r : Ran) → run n b ≡ Some r → (k : ℕ) → k < n → is_local_at (after_steps s p k) p ≡ true
    each_local zero r e k low = absurd (omega arith)
    each_local (suc n) r e k low =
        let h = parts n b r e in
        either (last_or_before k n low) (last_local n r h) (λ (less : k < n). each_local n h.first h.first_is k less)
      where
        last_or_before : (k n : ℕ) → k < suc n → (k ≡ n) ⊎ (k < n)
        last_or_before k n h = grind arith

        either : (k ≡ n) ⊎ (k < n) → is_local_at (after_steps s p n) p ≡ true → (k < n → is_local_at (after_steps s p k) p ≡ true) → is_local_at (after_steps s p k) p ≡ true
        either (inl same) at_last before = ap (λ (i : ℕ). is_local_at (after_steps s p i) p) same ∙ at_last
        either (inr less) at_last before = before less
