-- A step taken apart: who steps, what it needs, and how it goes on.
use Rattle.std.proofs.Common.{◌≡◌, ℕ, Option, Some, None, option_map, refl, ap, ◌∙◌}
use Rattle.std.specs.FinMap.{get}
use Rattle.fm_base.specs.declared.path.ChanName.{ChanName}
use Rattle.fm_sched.specs.Schedule.{Can, next}
use Rattle.fm_sched.proofs.Runs.{next-Some}
use Rattle.fm_net.specs.Machine.{Place, Need, Reply, Onward, Ask, Stop, Go, State, made, served, going, act, act_of, finished}
use Rattle.fm_net.specs.Language.{Language, language_step}
use Rattle.fm_net.specs.Starts.{onward_at, onward_from, onward_asked}
use Rattle.fm_net.proofs.Parts.{Start}
use Rattle.fm_net.proofs.Cases.{step_served}

module _ {Proc : Type 0} (language : Language Proc) (s : State Proc) (p : Place) where
  abbrev step : Option (State Proc × ℕ)
  step = language_step language s p

  abbrev pub Starts : Type 0
  Starts = Start language s.procs s.chans p

  abbrev pub out_of : Starts → Onward Proc
  out_of t = t.goes (made p t.need) t.reply

  -- the state after the step, and its cost
  abbrev pub ends_of : Starts → State Proc × ℕ
  ends_of t = finished (going language.emptied s.procs s.chans p t.need (out_of t))

  pub step_ends : (t : Starts) → step ≡ Some (ends_of t)
  step_ends t = step_served language s p t.self t.is t.need t.goes t.asks t.reply t.serves

  pub onward_is : (t : Starts) → onward_at language s p ≡ Some (out_of t)
  onward_is t = ap (onward_from language s p) t.is ∙ ap (onward_asked language s p) t.asks ∙ ap (option_map (t.goes (made p t.need))) t.serves

  pub state_is : (t : Starts) → next (language_step language) s p ≡ (ends_of t).0
  state_is t = next-Some (language_step language) s p (ends_of t) (step_ends t)

  -- a step was taken so
  pub record Taken (r : State Proc × ℕ) : Type 0 where
    pub start : Starts
    pub there : ends_of start ≡ r

  the_pair : (a b : State Proc × ℕ) → Some a ≡ Some b → a ≡ b
  the_pair a b e = cc

  module _ (r : State Proc × ℕ) where
    served_taken : (x : Proc) → get s.procs p ≡ Some x → (need : Need) (f : ChanName → Reply Proc → Onward Proc) → language.ask x ≡ Go need f → (o : Option (Reply Proc)) → served language.has_ended s.procs s.chans p need ≡ o
        → option_map finished (option_map (λ y. going language.emptied s.procs s.chans p need (f (made p need) y)) o) ≡ Some r → Taken r
    served_taken x is need f asks None serves e = absurd (cc e)
    served_taken x is need f asks (Some y) serves e = record {
      start = record { self = x; is = is; need = need; goes = f; asks = asks; reply = y; serves = serves };
      there = the_pair (finished (going language.emptied s.procs s.chans p need (f (made p need) y))) r e;
    }

    asked_taken : (x : Proc) → get s.procs p ≡ Some x → (a : Ask Proc) → language.ask x ≡ a → option_map finished (act language.ask language.has_ended language.emptied s.procs s.chans p a) ≡ Some r → Taken r
    asked_taken x is Stop asks e = absurd (cc e)
    asked_taken x is (Go need f) asks e = served_taken x is need f asks (served language.has_ended s.procs s.chans p need) refl e

    found_taken : (o : Option Proc) → get s.procs p ≡ o → option_map finished (act_of language.ask language.has_ended language.emptied s.procs s.chans p o) ≡ Some r → Taken r
    found_taken None is e = absurd (cc e)
    found_taken (Some x) is e = asked_taken x is (language.ask x) refl e

    pub taken : step ≡ Some r → Taken r
    taken e = found_taken (get s.procs p) refl e

  pub start_of : Can (language_step language) s p → Starts
  start_of can = (taken can.0 can.1).start

  -- who goes on has a step
  going_asked : (x : Proc) → get s.procs p ≡ Some x → (a : Ask Proc) → language.ask x ≡ a → (o : Onward Proc) → onward_asked language s p a ≡ Some o → Starts
  going_asked x is Stop asks o e = absurd (cc e)
  going_asked x is (Go need f) asks o e = go (served language.has_ended s.procs s.chans p need) refl e
    where
      go : (v : Option (Reply Proc)) → served language.has_ended s.procs s.chans p need ≡ v → option_map (f (made p need)) v ≡ Some o → Starts
      go None serves e' = absurd (cc e')
      go (Some r) serves e' = record { self = x; is = is; need = need; goes = f; asks = asks; reply = r; serves = serves }

  going_from : (v : Option Proc) → get s.procs p ≡ v → (o : Onward Proc) → onward_from language s p v ≡ Some o → Starts
  going_from None is o e = absurd (cc e)
  going_from (Some x) is o e = going_asked x is (language.ask x) refl o e

  pub no_onward : step ≡ None → onward_at language s p ≡ None
  no_onward none = go (onward_at language s p) refl
    where
      go : (v : Option (Onward Proc)) → onward_at language s p ≡ v → v ≡ None
      go None e = refl
      go (Some o) e = absurd (cc (step_ends (going_from (get s.procs p) refl o e), none))
