-- Local steps of a process, by what it does next.
use Rattle.std.proofs.Common.{◌≡◌, ℕ, zero, suc, ◌+◌, Option, Some, None, List, [], ◌∷◌, refl, sym, ap, ◌∙◌, subst, arith}
use Rattle.std.specs.Prelude.{option_and_then}
use Rattle.std.specs.FinMap.{get, insert}
use Rattle.fm_base.specs.Channels.{Chans}
use Rattle.fm_finmap.proofs.Inserts.{insert_here, insert_again, insert_same}
use Rattle.fm_base.specs.declared.path.ChanName.{ChanName}
use Rattle.fm_base.specs.declared.port.PortValue.{PortValue}
use Rattle.fm_net.specs.Lawful.{IsLawfulAsk, IsLawfulStep, holds}
use Rattle.fm_net.proofs.Counts.{count-nil}
use Rattle.fm_net.specs.Machine.{Place, State, Nothing, Onward, Reply, reply_with}
use Rattle.fm_mean.proofs.Lawful.{lawful}
use Rattle.fm_net.proofs.Keys.{path_order}
use Rattle.fm_discards.proofs.Shedding.{all_shed-nil}
use Rattle.fm_net.proofs.Cases.{local_step}
use Rattle.fm_rules.specs.declared.program.Program.{Program}
use Rattle.fm_mean.specs.Process.{Execution, Proc}
use Rattle.fm_mean.specs.Actions as action
use Rattle.fm_mean.specs.Actions.{Action, action_of, gone_on, local_by, local_in}
use Rattle.fm_mean.specs.Steps.{ask_for, language, onward, step}
use Rattle.fm_net.specs.Starts.{starts_at}
use Rattle.fm_net.proofs.Orders.{starts_served}
use Rattle.fm_net.proofs.Taken.{Starts}
use Rattle.fm_run.specs.Programs.{Makes, play_of}
use Rattle.fm_run.proofs.Steps.{makes_more, makes_none}
use Rattle.fm_plain.specs.Advance.{local_steps, with_cost}

-- ---- local steps

-- an own step that lets nothing go
record OwnStep (x : Proc) (a : Action) (r : Proc × ℕ) : Type 0 where
  execution : Execution
  lines : List (List ℕ)
  is : a ≡ action.Own execution lines [] r.1
  gone : r.0 ≡ gone_on x execution lines

own_by : (x : Proc) (w : Execution) (lines : List (List ℕ)) (drops : List PortValue) (cost : ℕ) (r : Proc × ℕ) → local_by (gone_on x w lines) drops cost ≡ Some r → OwnStep x (action.Own w lines drops cost) r
own_by x w lines [] cost r e =
    let k : (gone_on x w lines, cost) ≡ r = cc e in
    record { execution = w; lines = lines; is = ap (λ (q : Proc × ℕ). action.Own w lines [] q.1) k; gone = sym (ap (λ (q : Proc × ℕ). q.0) k) }
own_by x w lines (z ∷ zs) cost r e = absurd (cc e)

local_action : (x : Proc) (a : Action) (r : Proc × ℕ) → local_in x a ≡ Some r → OwnStep x a r
local_action x action.Rest r e = absurd (cc e)
local_action x (action.Own w lines drops cost) r e = own_by x w lines drops cost r e
local_action x (action.Meets event) r e = absurd (cc e)

module _ (program : Program) where
  -- the state with this process at the place
  abbrev pub with_process : State Proc → Place → Proc → State Proc
  with_process s p y = record { procs = insert s.procs p y; chans = s.chans }

  pub step_local : (s : State Proc) (p : Place) (x : Proc) (r : Proc × ℕ) → get s.procs p ≡ Some x → action.local_step program x ≡ Some r → step program s p ≡ Some (with_process s p r.0, r.1)
  step_local s p x r is goes =
      let k = local_action x (action_of program x) r goes in
      local_step (language program) s p x is (λ c v. onward x (gone_on x k.execution k.lines) [] [] r.1) (onward x (gone_on x k.execution k.lines) [] [] r.1) (ap (ask_for program x) k.is) refl refl
      ∙ ap (λ (m : Chans). Some (record { procs = insert s.procs p (gone_on x k.execution k.lines); chans = m }, r.1)) (all_shed-nil s.chans)
      ∙ ap (λ (y : Proc). Some (record { procs = insert s.procs p y; chans = s.chans }, r.1)) (sym k.gone)

  local_starts : (s : State Proc) (p : Place) (x : Proc) (r : Proc × ℕ) → get s.procs p ≡ Some x → action.local_step program x ≡ Some r → starts_at (language program) s p ≡ []
  local_starts s p x r is goes =
      let k = local_action x (action_of program x) r goes in
      let t : Starts (language program) s p = record { self = x; is = is; need = Nothing; goes = λ c v. onward x (gone_on x k.execution k.lines) [] [] r.1; asks = ap (ask_for program x) k.is; reply = reply_with []; serves = refl } in
      starts_served (language program) s p t

  -- a local step lets no port go
  pub local_holds : (z : PortValue) (x : Proc) (r : Proc × ℕ) → action.local_step program x ≡ Some r → holds (language program) z r.0 ≡ holds (language program) z x
  local_holds z x r goes =
      let k = local_action x (action_of program x) r goes in
      let f : ChanName → Reply Proc → Onward Proc = λ c v. onward x (gone_on x k.execution k.lines) [] [] r.1 in
      let law : IsLawfulStep (language program) x Nothing f = subst (IsLawfulAsk (language program) x) (ap (ask_for program x) k.is) ((lawful program).goes x) in
      let none : ChanName = record { maker = []; number = 0 } in
      let account = law.account none (reply_with []) (refl, refl) z in
      omega (arith, account, count-nil z, ap (holds (language program) z) k.gone)

  -- ---- several local steps

  -- the steps before the last one, and the last one
  record Parts (n : ℕ) (x : Proc) (r : Proc × ℕ) : Type 0 where
    first : Proc × ℕ
    last : Proc × ℕ
    first_is : local_steps program n x ≡ Some first
    last_is : action.local_step program first.0 ≡ Some last
    whole : (last.0, first.1 + last.1) ≡ r

  parts : (n : ℕ) (x : Proc) (r : Proc × ℕ) → local_steps program (suc n) x ≡ Some r → Parts n x r
  parts n x r e = go (local_steps program n x) refl e
    where
      inner : (q : Proc × ℕ) (o : Option (Proc × ℕ)) → local_steps program n x ≡ Some q → action.local_step program q.0 ≡ o → with_cost q.1 o ≡ Some r → Parts n x r
      inner q None first_is last_is e' = absurd (cc e')
      inner q (Some l) first_is last_is e' = record { first = q; last = l; first_is = first_is; last_is = last_is; whole = cc e' }

      go : (o : Option (Proc × ℕ)) → local_steps program n x ≡ o → option_and_then (λ q. with_cost q.1 (action.local_step program q.0)) o ≡ Some r → Parts n x r
      go None is e' = absurd (cc e')
      go (Some q) is e' = inner q (action.local_step program q.0) is refl e'

  pub makes_local : (n : ℕ) (s : State Proc) (p : Place) (x : Proc) (r : Proc × ℕ) → get s.procs p ≡ Some x → local_steps program n x ≡ Some r → Makes program s p n (with_process s p r.0) r.1 []
  makes_local zero s p x r is e =
      let same : (x, 0) ≡ r = cc e in
      subst (λ (q : Proc × ℕ). Makes program s p 0 (with_process s p q.0) q.1 []) same
      (subst (λ (t : State Proc). Makes program s p 0 t 0 []) (sym (ap (λ m. record { procs = m; chans = s.chans }) (insert_same path_order s.procs p x is))) (makes_none (play_of program) s p))
  makes_local (suc n) s p x r is e =
      let k = parts n x r e in
      let t = with_process s p k.first.0 in
      let at : get t.procs p ≡ Some k.first.0 = insert_here path_order s.procs p k.first.0 in
      let m = makes_more (play_of program) s t p n k.first.1 (with_process t p k.last.0, k.last.1) (makes_local n s p x k.first is k.first_is) (step_local t p k.first.0 k.last at k.last_is) in
      let ends : with_process t p k.last.0 ≡ with_process s p k.last.0 = ap (λ m. record { procs = m; chans = s.chans }) (insert_again path_order s.procs p k.first.0 k.last.0) in
      let m1 = subst (λ (ps : List Place). Makes program s p (n + 1) (with_process t p k.last.0) (k.first.1 + k.last.1) ps) (local_starts t p k.first.0 k.last at k.last_is) m in
      let m2 = subst (λ (u : State Proc). Makes program s p (n + 1) u (k.first.1 + k.last.1) []) ends m1 in
      let m3 = subst (λ (q : Proc × ℕ). Makes program s p (n + 1) (with_process s p q.0) q.1 []) k.whole m2 in
      subst (λ (i : ℕ). Makes program s p i (with_process s p r.0) r.1 []) (omega arith) m3

-- nor do several
pub locals_hold : (program : Program) (z : PortValue) (n : ℕ) (x : Proc) (r : Proc × ℕ) → local_steps program n x ≡ Some r → holds (language program) z r.0 ≡ holds (language program) z x
locals_hold program z zero x r e = let same : (x, 0) ≡ r = cc e in ap (λ (q : Proc × ℕ). holds (language program) z q.0) (sym same)
locals_hold program z (suc n) x r e =
    let k = parts program n x r e in
    ap (λ (q : Proc × ℕ). holds (language program) z q.0) (sym k.whole) ∙ local_holds program z k.first.0 k.last k.last_is ∙ locals_hold program z n x k.first k.first_is
