-- A process of stack code needs what the process needs for which it stands, and its next step is local where that one's is.
use Rattle.std.proofs.Common.{◌≡◌, ℕ, ℤ, false, Option, Some, None, List, [], ◌∷◌, map, is_some, refl, sym, ap, ◌∙◌}
use Rattle.std.specs.FinMap.{get}
use Rattle.fm_net.specs.Machine.{Place, Need, Reply, Ask, Stop, Go, State}
use Rattle.fm_net.specs.Correspondence.{AsksCorrespond, ComesIn}
use Rattle.fm_rules.specs.declared.program.Program.{Program}
use Rattle.fm_mean.specs.Names.{Point, point_at}
use Rattle.fm_mean.specs.Process as mean
use Rattle.fm_mean.specs.Process.{Frame, Running, Joining, Ended, Faulted, Proc}
use Rattle.fm_mean.specs.Actions as mean_actions
use Rattle.fm_mean.specs.Actions.{Action, running, joining, action_in, local_by, local_in, local_step}
use Rattle.fm_mean.specs.Outcome as outcome
use Rattle.fm_mean.specs.Steps as mean_steps
use Rattle.fm_mean.specs.Steps.{language}
use Rattle.fm_code.specs.declared.ask.Ask as asked
use Rattle.fm_code.specs.declared.ask.Ask.TheVariants as ask
use Rattle.fm_code.specs.declared.body.Body.{Body}
use Rattle.fm_code.specs.Statements as code_actions
use Rattle.fm_proc_language.specs.Slots.{port_in}
use Rattle.fm_proc_language.specs.Processes as code
use Rattle.fm_proc_language.specs.Processes.{CodeProc, asks}
use Rattle.fm_proc_language.specs.Needs.{need_in, need_of, is_empty, is_local_action, is_local_by, is_local}
use Rattle.fm_gen_relation.specs.Standing.{Slots}
use Rattle.fm_gen.specs.Programs.{code_of}
use Rattle.fm_gen.specs.Bodies.{StandsFor, DoesAlike, MeetsAlike}
use Rattle.fm_gen.proofs.Beyond.{rests_alike}
use Rattle.fm_gen.proofs.BodyLaws.{keeps_at}
use Rattle.fm_proc_simulation.specs.Corresponds.{PhaseStands, BodyAlike, Corresponds, IsLive, first_variables}
use Rattle.fm_proc_simulation.specs.Here.{Here}
use Rattle.fm_proc_simulation.proofs.Owned.{here_running}
use Rattle.fm_proc_simulation.proofs.Alike.{correspondence}

-- Needs.

one_need : (p : Program) (Comes : Place → Need → Reply Proc → Type 0) (q : Place) (b : Ask CodeProc) (a : Ask Proc) → AsksCorrespond (Corresponds p) Comes q b a → need_in b ≡ outcome.need_in a
one_need p Comes q Stop Stop h = refl
one_need p Comes q Stop (Go need f) h = absurd h
one_need p Comes q (Go other g) Stop h = absurd h
one_need p Comes q (Go other g) (Go need f) h = ap Some h.0

pub needs_alike : (p : Program) (s : State Proc) → IsLive p s → (q : Place) (x : Proc) (y : CodeProc) → get s.procs q ≡ Some x → Corresponds p y x → need_of y ≡ outcome.need_of p x
needs_alike p s live q x y is c = one_need p (ComesIn (language p) s) q (asks y) (mean_steps.ask p x) ((correspondence p).asks s live q x y is c)

-- Steps.

no_drops : (x : Proc) (slots : Slots) (zs : List ℤ) (cost : ℕ) → is_empty zs ≡ is_some (local_by x (map slots zs) cost)
no_drops x slots [] cost = refl
no_drops x slots (z ∷ zs) cost = refl

module _ (p : Program) (slots : Slots) (x : Proc) (b : Body) (s : StandsFor p (code_of p) slots x b) (e : Point) where
  -- what meets an event isn't local
  meets_others : (k : asked.Ask) (a : Action) → MeetsAlike p (code_of p) slots x b s e k a → false ≡ is_some (local_in x a)
  meets_others (ask.Fail line fault) a m = ap (λ c. is_some (local_in x c)) (sym m)
  meets_others (ask.LetGo dropped) a m = absurd m
  meets_others (ask.Channel inport outport next) a m = ap (λ c. is_some (local_in x c)) (sym m.does)
  meets_others (ask.Merger inport outports next) a m = ap (λ c. is_some (local_in x c)) (sym m.does)
  meets_others (ask.Send slot items next) a m = ap (λ c. is_some (local_in x c)) (sym m.does)
  meets_others (ask.Receive slot items status at_end next) a m = ap (λ c. is_some (local_in x c)) (sym m.does)
  meets_others (ask.Probe slot empty next) a m = ap (λ c. is_some (local_in x c)) (sym m.does)
  meets_others (ask.Begin next) a m = ap (λ c. is_some (local_in x c)) (sym m.does)
  meets_others (ask.Join next) a m = ap (λ c. is_some (local_in x c)) (sym m.does)
  meets_others ask.End a m = ap (λ c. is_some (local_in x c)) (sym m)

  action_local : (k : code_actions.Action) (a : Action) → DoesAlike p (code_of p) slots x b s e k a → is_local_action k ≡ is_some (local_in x a)
  action_local code_actions.Stuck a m = ap (λ c. is_some (local_in x c)) (sym m)
  action_local (code_actions.Own after lines drops cost) a m =
      no_drops (mean_actions.gone_on x m.execution lines) slots drops cost ∙ ap (λ c. is_some (local_in x c)) (sym m.does)
  action_local (code_actions.Meets k) a m = meets_others k a m

module _ (p : Program) (s : State Proc) (live : IsLive p s) (q : Place) (x : Proc) (is : get s.procs q ≡ Some x) (y : CodeProc) (c : Corresponds p y x) where
  module _ (b : Body) (body : y.body ≡ Some b) (phase : x.phase ≡ Running) where
    runs_local : (h : Here p live.typed.0 y x b) → is_local_action (code_actions.action_of b) ≡ is_some (local_step p x)
    runs_local h = go (point_at h.stands.first.unit h.stands.frame.entry) refl
      where
        go : (o : Option Point) → point_at h.stands.first.unit h.stands.frame.entry ≡ o → is_local_action (code_actions.action_of b) ≡ is_some (local_step p x)
        go None none =
            ap is_local_action (rests_alike p (port_in y.slots) x b h.stands none).0
            ∙ ap (λ a. is_some (local_in x a)) (sym (rests_alike p (port_in y.slots) x b h.stands none).1)
        go (Some e) at =
            action_local p (port_in y.slots) x b h.stands e (code_actions.action_of b) (mean_actions.action_of p x)
            (keeps_at p live.typed.0 (port_in y.slots) x h.fine b h.stands e at)

  -- one that joins does nothing alone, nor does one without frames
  joins_others : (block : ℕ) (kids : List mean.Kid) (fs : List Frame) → false ≡ is_some (local_in x (joining p block kids fs))
  joins_others block kids [] = refl
  joins_others block kids (f ∷ fs) = refl

  by_phases : (o : Option Body) → y.body ≡ o → BodyAlike p y.slots x o → (h : mean.Phase) → x.phase ≡ h → (k : code.Phase) → PhaseStands p (first_variables p x.execution.frames) h k
      → is_local_by k o ≡ is_some (local_in x (action_in p x.execution h))
  by_phases None body stands Running phase code.Running h = ap (λ fs. is_some (local_in x (running p x.execution fs))) (sym stands)
  by_phases (Some b) body stands Running phase code.Running h =
      runs_local b body phase (here_running p s live q x is y c b body phase) ∙ ap (λ k. is_some (local_in x (action_in p x.execution k))) phase
  by_phases o body stands Running phase (code.Joining l cs) h = absurd h
  by_phases o body stands Running phase code.Ended h = absurd h
  by_phases o body stands Running phase (code.Faulted line fault) h = absurd h
  by_phases o body stands (Joining block kids) phase code.Running h = absurd h
  by_phases o body stands (Joining block kids) phase (code.Joining l cs) h = joins_others block kids x.execution.frames
  by_phases o body stands (Joining block kids) phase code.Ended h = absurd h
  by_phases o body stands (Joining block kids) phase (code.Faulted line fault) h = absurd h
  by_phases o body stands Ended phase code.Running h = absurd h
  by_phases o body stands Ended phase (code.Joining l cs) h = absurd h
  by_phases o body stands Ended phase code.Ended h = refl
  by_phases o body stands Ended phase (code.Faulted line fault) h = absurd h
  by_phases o body stands (Faulted l f) phase code.Running h = absurd h
  by_phases o body stands (Faulted l f) phase (code.Joining n cs) h = absurd h
  by_phases o body stands (Faulted l f) phase code.Ended h = absurd h
  by_phases o body stands (Faulted l f) phase (code.Faulted line fault) h = refl

  pub local_alike : is_local y ≡ is_some (local_step p x)
  local_alike = by_phases y.body refl c.body x.phase refl y.phase c.phase
