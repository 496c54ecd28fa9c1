-- Whether a step is a process's own, told by what it did.
use Rattle.std.proofs.Common.{◌≡◌, ◌<◌, ℕ, Bool, true, false, Some, List, [], ◌∷◌, length, refl, sym, ap, subst, ◌∙◌, arith}
use Rattle.std.specs.Prelude.{is_some}
use Rattle.fm_base.specs.declared.port.PortValue.{PortValue}
use Rattle.fm_rules.specs.declared.program.Program.{Program}
use Rattle.fm_mean.specs.Process as mean
use Rattle.fm_mean.specs.Process.{Phase, Proc}
use Rattle.fm_mean.specs.Actions.{Action, Own, Meets, Rest, action_in, action_of, gone_on, joining, local_by, local_in}
use Rattle.fm_plain_frame.specs.Frames.{is_running}
use Rattle.fm_plain_frame.specs.LetGo.{let_go_ports}
use Rattle.fm_plain.specs.declared.local.Acted.{Acted}
use Rattle.fm_plain.specs.declared.local.Acted.TheVariants as acted
use Rattle.fm_plain.specs.declared.advancing.Stop.{Stop}
use Rattle.fm_plain.specs.declared.advancing.Stop.TheVariants as stops
use Rattle.fm_plain.specs.Advance.{IsStop, StopsAt}
use Rattle.fm_plain.specs.Steps.{IsActed, own_in}

no_drops : (z : Proc) (drops : List PortValue) (cost : ℕ) → drops ≡ [] → is_some (local_by z drops cost) ≡ true
no_drops z [] cost none = refl
no_drops z (d ∷ ds) cost none = absurd (cc none)

some_drops : (z : Proc) (drops : List PortValue) (cost : ℕ) → 0 < length drops → is_some (local_by z drops cost) ≡ false
some_drops z [] cost some = absurd (omega (arith, some))
some_drops z (d ∷ ds) cost some = refl

same_three : (a b : Proc × List PortValue × ℕ) → Some a ≡ Some b → a ≡ b
same_three a b e = cc e

-- one that was made and lets nothing go is one of its own
pub made_own : (x y z : Proc) (a : Action) (cost : ℕ) → own_in x a ≡ Some (y, [], cost) → is_some (local_in z a) ≡ true
made_own x y z Rest cost e = absurd (cc e)
made_own x y z (Own w lines drops c) cost e = no_drops (gone_on z w lines) drops c (ap (λ (t : Proc × List PortValue × ℕ). t.1) (same_three (gone_on x w lines, drops, c) (y, [], cost) e))
made_own x y z (Meets event) cost e = absurd (cc e)

-- one that lets ports go isn't
pub made_other : (x y z : Proc) (a : Action) (zs : List PortValue) (cost : ℕ) → own_in x a ≡ Some (y, zs, cost) → 0 < length zs → is_some (local_in z a) ≡ false
made_other x y z Rest zs cost e some = absurd (cc e)
made_other x y z (Own w lines drops c) zs cost e some =
    let same : drops ≡ zs = ap (λ (t : Proc × List PortValue × ℕ). t.1) (same_three (gone_on x w lines, drops, c) (y, zs, cost) e) in
    some_drops (gone_on z w lines) drops c (subst (λ (ds : List PortValue). 0 < length ds) (sym same) some)
made_other x y z (Meets event) zs cost e some = absurd (cc e)

abbrev pub was_own : Acted → Bool
was_own (acted.Done cost) = true
was_own acted.Rest = false
was_own (acted.Event e) = false
was_own (acted.LetsGo l cost) = false

-- the step of a process tells whether its next one is its own, also that of another at the same action
pub acted_own : (p : Program) (x y z : Proc) (a : Action) (r : Acted) → IsActed p a x r y → is_some (local_in z a) ≡ was_own r
acted_own p x y z a (acted.Done cost) h = made_own x y z a cost h
acted_own p x y z a acted.Rest h = ap (λ (b : Action). is_some (local_in z b)) h.1
acted_own p x y z a (acted.Event e) h = ap (λ (b : Action). is_some (local_in z b)) h.1.0
acted_own p x y z a (acted.LetsGo l cost) h = made_other x y z a (let_go_ports p l) cost h.0 h.1

joins_other : (p : Program) (x : Proc) (block : ℕ) (kids : List mean.Kid) (fs : List mean.Frame) → is_some (local_in x (joining p block kids fs)) ≡ false
joins_other p x block kids [] = refl
joins_other p x block kids (f ∷ fs) = refl

-- who doesn't run makes none of its own
resting : (p : Program) (x : Proc) (phase : Phase) → is_running phase ≡ false → is_some (local_in x (action_in p x.execution phase)) ≡ false
resting p x mean.Running e = absurd (cc e)
resting p x (mean.Joining block kids) e = joins_other p x block kids x.execution.frames
resting p x mean.Ended e = refl
resting p x (mean.Faulted line fault) e = refl

pub not_own : (p : Program) (x : Proc) → is_running x.phase ≡ false → is_some (local_in x (action_of p x)) ≡ false
not_own p x e = resting p x x.phase e

runs_is : (phase : Phase) → is_running phase ≡ true → phase ≡ mean.Running
runs_is mean.Running e = refl
runs_is (mean.Joining block kids) e = absurd (cc e)
runs_is mean.Ended e = absurd (cc e)
runs_is (mean.Faulted line fault) e = absurd (cc e)

-- a twin of a process that runs does what it does
pub twin_action : (p : Program) (x t : Proc) → is_running x.phase ≡ true → t ≡ record x { phase = mean.Running; lines = [] } → action_of p t ≡ action_of p x
twin_action p x t running same = ap (action_of p) same ∙ ap (action_in p x.execution) (sym (runs_is x.phase running))

-- the step behind a slice that is used up is why a process stops that has one to spare
pub stops_last : (p : Program) (slice : ℕ) (x : Proc) (stop : Stop) (z : Proc) → IsStop p x stop z → StopsAt p slice true slice x stop z
stops_last p slice x stops.More z h = (refl, (λ e. h.0), h.1)
stops_last p slice x (stops.Event e) z h = ((omega arith, λ f. absurd (cc f)), h.0, h.1)
stops_last p slice x (stops.LetsGo l cost) z h = ((omega arith, λ e. absurd (cc e)), h.0, h.1)
stops_last p slice x stops.Short z h = absurd h
