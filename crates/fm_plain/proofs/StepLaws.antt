-- Own steps, one after the other.
use Rattle.std.proofs.Common.{◌≡◌, ℕ, suc, ◌+◌, Some, List, [], refl, sym, ap, subst, ◌∙◌, arith}
use Rattle.std.proofs.lemmas.List.{append-nil}
use Rattle.std.specs.Prelude.{option_and_then}
use Rattle.fm_base.specs.declared.port.PortValue.{PortValue}
use Rattle.fm_rules.specs.declared.program.Program.{Program}
use Rattle.fm_mean.specs.Process.{Execution, Proc}
use Rattle.fm_mean.specs.Actions.{Action, Rest, Own, Meets, action_of, local_step, local_in, local_by, gone_on}
use Rattle.fm_base.specs.declared.fault.Fault.{Fault}
use Rattle.fm_base.specs.declared.name.Line.{Line}
use Rattle.fm_mean.specs.Process.{Frame}
use Rattle.fm_mean.specs.Actions.{fails}
use Rattle.fm_plain.specs.declared.step.Step.{Step}
use Rattle.fm_plain.specs.declared.step.Step.TheVariants as step
use Rattle.fm_plain.specs.declared.event.Event.TheVariants as event
use Rattle.fm_plain.specs.Steps.{IsStep, own_in}
use Rattle.fm_plain.specs.Advance.{local_steps, with_cost}

some_is : {A : Type 0} (a b : A) → Some a ≡ Some b → a ≡ b
some_is a b e = cc

-- an own step that lets nothing go is local
pub local_of : (y : Proc) (a : Action) (z : Proc) (k : ℕ) → own_in y a ≡ Some (z, [], k) → local_in y a ≡ Some (z, k)
local_of y Rest z k e = absurd (cc)
local_of y (Own w lines drops cost) z k e =
    let h : (gone_on y w lines, drops, cost) ≡ (z, [], k) = some_is (gone_on y w lines, drops, cost) (z, [], k) e in
    subst (λ (ds : List PortValue). local_by (gone_on y w lines) ds cost ≡ Some (z, k)) (sym (ap (λ (r : Proc × List PortValue × ℕ). r.1) h))
    (ap (λ (r : Proc × List PortValue × ℕ). Some (r.0, r.2)) h)
local_of y (Meets e2) z k e = absurd (cc)

-- one more local step
pub one_more : (p : Program) (n : ℕ) (x y z : Proc) (c k : ℕ) → local_steps p n x ≡ Some (y, c) → own_in y (action_of p y) ≡ Some (z, [], k) → local_steps p (n + 1) x ≡ Some (z, c + k)
one_more p n x y z c k made own =
    let e : suc n ≡ n + 1 = omega arith in
    subst (λ (m : ℕ). local_steps p m x ≡ Some (z, c + k)) e
    (ap (option_and_then (λ (r : Proc × ℕ). with_cost r.1 (local_step p r.0))) made ∙ ap (with_cost c) (local_of y (action_of p y) z k own))

-- an own step without lines
pub no_line : (y : Proc) (w : Execution) (drops : List PortValue) (cost : ℕ) → own_in y (Own w [] drops cost) ≡ Some (record y { execution = w }, drops, cost)
no_line y w drops cost = ap (λ (ls : List (List ℕ)). Some (record y { execution = w; lines = ls }, drops, cost)) (append-nil y.lines)

-- a fault is the step
pub failed_step : (p : Program) (w : Execution) (a : Action) (fs : List Frame) (r : Step) (line : Line) (fault : Fault) (n : ℕ) → r ≡ step.Event (event.Fail line fault) → line.0 ≡ n → a ≡ fails n fault → IsStep p w a fs r fs
failed_step p w a fs r line fault n is l does =
    subst (λ (s : Step). IsStep p w a fs s fs) (sym is) (refl, (does ∙ ap (λ (k : ℕ). fails k fault) (sym l), tt))
