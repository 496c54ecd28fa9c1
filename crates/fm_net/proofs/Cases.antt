-- The step of a process, by what it asks.
use Rattle.std.proofs.Common.{◌≡◌, ℕ, Option, Some, None, List, [], ◌∷◌, ◌++◌, Bool, true, false, cond, option_map, refl, ap, ◌∙◌, append-nil}
use Rattle.std.specs.FinMap.{get, insert}
use Rattle.fm_base.specs.declared.path.ChanName.{ChanName}
use Rattle.fm_base.specs.Channels.{Chan, ChannelOp, is_ready, changed, spills, spills_at, fresh, all_shed}
use Rattle.fm_finmap.specs.Changes.{alter, alters}
use Rattle.fm_finmap.proofs.Adjusts.{adjust-insert}
use Rattle.fm_net.specs.Machine.{Place, Procs, Need, Nothing, Event, New, Reply, Onward, Ask, Stop, Go, State, made, reply_with, reply_at, served, served_at, start_changes, going, act, act_of, finished}
use Rattle.fm_net.specs.Language.{Language, language_step}
use Rattle.fm_net.specs.Owned.{name_of}
use Rattle.fm_net.proofs.Keys.{channel_order}

-- where no child starts and none is joined, the process itself alone changes
only_self : {Proc : Type 0} (m : Procs Proc) (p : Place) (b : ℕ) (x : Proc) (starts : List Proc) → starts ≡ [] → alters ((p, λ o. Some x) ∷ (start_changes p b 1 starts ++ [])) m ≡ insert m p x
unfolding alter
only_self m p b x starts none = ap (λ xs. alters ((p, λ o. Some x) ∷ (start_changes p b 1 xs ++ [])) m) none

module _ {Proc : Type 0} (language : Language Proc) (s : State Proc) (p : Place) where
  abbrev step : Option (State Proc × ℕ)
  step = language_step language s p

  pub step_absent : get s.procs p ≡ None → step ≡ None
  step_absent is = ap (λ o. option_map finished (act_of language.ask language.has_ended language.emptied s.procs s.chans p o)) is

  module _ (x : Proc) (is : get s.procs p ≡ Some x) where
    step_asks : (q : Ask Proc) → language.ask x ≡ q → step ≡ option_map finished (act language.ask language.has_ended language.emptied s.procs s.chans p q)
    step_asks q asks =
        ap (λ o. option_map finished (act_of language.ask language.has_ended language.emptied s.procs s.chans p o)) is
        ∙ ap (λ q. option_map finished (act language.ask language.has_ended language.emptied s.procs s.chans p q)) asks

    pub step_stopped : language.ask x ≡ Stop → step ≡ None
    step_stopped asks = step_asks Stop asks

    module _ (need : Need) (f : ChanName → Reply Proc → Onward Proc) (asks : language.ask x ≡ Go need f) where
      step_replies : (o : Option (Reply Proc)) → served language.has_ended s.procs s.chans p need ≡ o
          → step ≡ option_map finished (option_map (λ r. going language.emptied s.procs s.chans p need (f (made p need) r)) o)
      step_replies o serves = step_asks (Go need f) asks ∙ ap (λ o. option_map finished (option_map (λ r. going language.emptied s.procs s.chans p need (f (made p need) r)) o)) serves

      pub step_waits : served language.has_ended s.procs s.chans p need ≡ None → step ≡ None
      step_waits serves = step_replies None serves

      pub step_served : (r : Reply Proc) → served language.has_ended s.procs s.chans p need ≡ Some r → step ≡ Some (finished (going language.emptied s.procs s.chans p need (f (made p need) r)))
      step_served r serves = step_replies (Some r) serves

    -- a process that needs nothing and starts nobody
    pub local_step : (f : ChanName → Reply Proc → Onward Proc) (o : Onward Proc) → language.ask x ≡ Go Nothing f → f (name_of p 0) (reply_with []) ≡ o → o.starts ≡ []
        → step ≡ Some (record { procs = insert s.procs p o.self; chans = all_shed o.drops s.chans }, o.cost)
    local_step f o asks out none =
        step_served Nothing f asks (reply_with []) refl
        ∙ ap (λ (o : Onward Proc). Some (finished (going language.emptied s.procs s.chans p Nothing o))) out
        ∙ λ i. Some (record { procs = only_self s.procs p o.block o.self o.starts none i; chans = all_shed (append-nil o.drops i) s.chans }, o.cost)

    -- a process that makes a channel
    pub channel_step : (n k : ℕ) (f : ChanName → Reply Proc → Onward Proc) (o : Onward Proc) → language.ask x ≡ Go (New n k) f → f (name_of p n) (reply_with []) ≡ o → o.starts ≡ []
        → step ≡ Some (record { procs = insert s.procs p o.self; chans = all_shed o.drops (insert s.chans (name_of p n) (fresh k)) }, o.cost)
    channel_step n k f o asks out none =
        step_served (New n k) f asks (reply_with []) refl
        ∙ ap (λ (o : Onward Proc). Some (finished (going language.emptied s.procs s.chans p (New n k) o))) out
        ∙ λ i. Some (record { procs = only_self s.procs p o.block o.self o.starts none i; chans = all_shed (append-nil o.drops i) (insert s.chans (name_of p n) (fresh k)) }, o.cost)

    -- an event at a channel
    module _ (c : ChanName) (a : ChannelOp) (f : ChanName → Reply Proc → Onward Proc) (asks : language.ask x ≡ Go (Event c a) f) (ch : Chan) (has : get s.chans c ≡ Some ch) where
      served_is : (b : Bool) → is_ready a ch ≡ b → served language.has_ended s.procs s.chans p (Event c a) ≡ cond b (Some (reply_at a ch)) None
      served_is b ready = ap (served_at a) has ∙ ap (λ b. cond b (Some (reply_at a ch)) None) ready

      pub event_waits : is_ready a ch ≡ false → step ≡ None
      event_waits ready = step_waits (Event c a) f asks (served_is false ready)

      pub event_step : (o : Onward Proc) → f (name_of p 0) (reply_at a ch) ≡ o → o.starts ≡ [] → is_ready a ch ≡ true
          → step ≡ Some (record { procs = insert s.procs p o.self; chans = all_shed (o.drops ++ spills a ch) (insert s.chans c (changed a ch)) }, o.cost)
      event_step o out none ready =
          step_served (Event c a) f asks (reply_at a ch) (served_is true ready)
          ∙ ap (λ (o : Onward Proc). Some (finished (going language.emptied s.procs s.chans p (Event c a) o))) out
          ∙ λ i. Some (
            record {
              procs = only_self s.procs p o.block o.self o.starts none i;
              chans = all_shed (o.drops ++ ap (spills_at a) has i) (adjust-insert channel_order s.chans c (changed a) ch has i);
            },
            o.cost,
          )
