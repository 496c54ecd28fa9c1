-- What a process does next, by what its twin does and by what is looked at.
use Rattle.std.proofs.Common.{◌≡◌, ℕ, true, false, Some, List, [], ◌∷◌, refl, sym, ap, subst, ◌∙◌}
use Rattle.fm_base.specs.declared.port.PortValue.{PortValue}
use Rattle.fm_rules.specs.declared.program.Program.{Program}
use Rattle.fm_mean.specs.Actions.{Action, Rest, Own, Meets, Join, action_of, action_in, joining}
use Rattle.fm_mean.specs.Outcome.{need_in, need_of}
use Rattle.fm_mean.specs.Process.{Frame, Kid, Phase, Running, Joining, Ended, Faulted, Proc}
use Rattle.fm_mean.specs.Steps.{ask_for, ask_event}
use Rattle.fm_plain.proofs.OwnSteps.{twin_action}
use Rattle.fm_plain.specs.Events.{IsEvent}
use Rattle.fm_plain.specs.Looking.{is_free}
use Rattle.fm_plain.specs.Steps.{IsActed, own_in}
use Rattle.fm_plain.specs.declared.event.Event as plain
use Rattle.fm_plain.specs.declared.local.Acted.TheVariants as acted
use Rattle.fm_plain_frame.specs.Frames.{is_running}
use Rattle.fm_nodes_trees.specs.Told.{IsOwn, IsTold}
use Rattle.fm_nodes_trees.specs.declared.telling.Ahead.TheVariants as ahead

-- a step that was made is the process's own
pub own_told : (x : Proc) (a : Action) (r : Proc × List PortValue × ℕ) → own_in x a ≡ Some r → IsOwn a
own_told x Rest r is = absurd (cc is)
own_told x (Own w lines drops cost) r is = tt
own_told x (Meets e) r is = absurd (cc is)

runs : (ph : Phase) → is_running ph ≡ true → Running ≡ ph
runs Running e = refl
runs (Joining b kids) e = absurd (cc e)
runs Ended e = absurd (cc e)
runs (Faulted line fault) e = absurd (cc e)

module _ (p : Program) (x t y : Proc) (running : is_running x.phase ≡ true) (twin : t ≡ record x { phase = Running; lines = [] }) where
  action : action_of p t ≡ action_of p x
  action = twin_action p x t running twin

  pub done_told : (cost : ℕ) → IsActed p (action_of p t) t (acted.Done cost) y → IsTold p x ahead.Goes
  done_told cost acts = subst IsOwn action (own_told t (action_of p t) (y, [], cost) acts)

  pub lets_told : (drops : List PortValue) (cost : ℕ) → own_in t (action_of p t) ≡ Some (y, drops, cost) → IsTold p x ahead.Goes
  lets_told drops cost is = subst IsOwn action (own_told t (action_of p t) (y, drops, cost) is)

  pub rests_told : action_of p t ≡ Rest → IsTold p x ahead.Rests
  rests_told is = ap (λ a. need_in (ask_for p x a)) (sym action ∙ is)

  pub event_told : (e : plain.Event) → IsEvent t.phase (action_of p t) e → IsTold p x (ahead.Meets e)
  event_told e is =
      let phase : t.phase ≡ x.phase = ap (λ (z : Proc). z.phase) twin ∙ runs x.phase running in
      subst (λ (a : Action). IsEvent x.phase a e) action (subst (λ (ph : Phase). IsEvent ph (action_of p t) e) phase is)

-- who doesn't run waits, or does nothing more
module _ (p : Program) (x : Proc) where
  no_join : (b : ℕ) (kids : List Kid) (n : ℕ) (gs : List Frame) → is_free (need_in (ask_event p x (Join b kids n) gs)) ≡ true → ⊥
  no_join b kids n [] e = cc e
  no_join b kids n (g ∷ below) e = cc e

  no_joining : (b : ℕ) (kids : List Kid) (fs : List Frame) → is_free (need_in (ask_for p x (joining p b kids fs))) ≡ true → ⊥
  no_joining b kids [] e = cc e
  no_joining b kids (f ∷ below) e = no_join b kids _ x.execution.frames e

  waits_in : (ph : Phase) → is_running ph ≡ false → is_free (need_in (ask_for p x (action_in p x.execution ph))) ≡ true → ⊥
  waits_in Running stands e = cc stands
  waits_in (Joining b kids) stands e = no_joining b kids x.execution.frames e
  waits_in Ended stands e = cc e
  waits_in (Faulted line fault) stands e = cc e

  pub waits : is_running x.phase ≡ false → is_free (need_of p x) ≡ true → ⊥
  waits stands e = waits_in x.phase stands e
