-- Whether a process can step, by what it needs.
use Rattle.std.proofs.Common.{◌≡◌, ℕ, Bool, true, false, cond, Option, Some, None, refl, sym, ap, ◌∙◌}
use Rattle.std.specs.Prelude.{is_some, option_map}
use Rattle.std.specs.FinMap.{get}
use Rattle.fm_base.specs.declared.path.ChanName.{ChanName}
use Rattle.fm_base.specs.Channels.{Chan, Limits, ChannelOp, Push, Pop, Look, is_ready}
use Rattle.fm_chan.specs.Received.{pops_at}
use Rattle.fm_net.specs.Machine.{Place, State, Need, Nothing, Event, New, Children, Ask, Stop, Go, act, act_of, reply_at, gathered, served, served_at, finished}
use Rattle.fm_net.specs.Owned.{IsOwned}
use Rattle.fm_net.proofs.Holders.{event_channel}
use Rattle.fm_net_procs.proofs.Steps.{some_map}
use Rattle.fm_run.specs.Plays.{IsLawfulPlay, Play, need_in, language, ask, has_ended, emptied, step, need_of}

pub pops_served : (Proc : Type 0) (limits : Limits) (o : Option Chan) → is_some (served_at {Proc = Proc} (Pop limits) o) ≡ pops_at o
pops_served Proc limits None = refl
pops_served Proc limits (Some ch) = elim (is_ready (Pop limits) ch) as (λ b. is_some (cond b (Some (reply_at {Proc = Proc} (Pop limits) ch)) None) ≡ b) [
  | true ↦ refl
  | false ↦ refl
]

-- an event of a channel that waits for nobody
abbrev pub is_free_event : ChannelOp → Bool
is_free_event (Push w m) = true
is_free_event (Pop limits) = false
is_free_event Look = true

-- a need that waits for nobody
abbrev pub is_free : Option Need → Bool
is_free None = false
is_free (Some Nothing) = true
is_free (Some (Event c a)) = is_free_event a
is_free (Some (New n writers)) = true
is_free (Some (Children b n)) = false

-- an event that waits for nobody is served where its channel is there
free_served : (program : Play) → (a : ChannelOp) (o : Option Chan) (ch : Chan) → o ≡ Some ch → is_free_event a ≡ true → is_some (served_at {Proc = program.Proc} a o) ≡ true
free_served program (Push w m) o ch there free = ap (λ v. is_some (served_at {Proc = program.Proc} (Push w m) v)) there
free_served program (Pop limits) o ch there free = absurd (cc free)
free_served program Look o ch there free = ap (λ v. is_some (served_at {Proc = program.Proc} Look v)) there

pub some_there : {A : Type 0} (o : Option A) → is_some o ≡ true → (x : A) × (o ≡ Some x)
some_there None e = absurd (cc e)
some_there (Some x) e = (x, refl)

module _ (program : Play) (s : State program.Proc) (p : Place) where
  abbrev pub is_served_at : Option Need → Bool
  is_served_at None = false
  is_served_at (Some need) = is_some (served (has_ended program) s.procs s.chans p need)

  acts_served : (k : Ask program.Proc) → is_some (option_map finished (act (ask program) (has_ended program) (emptied program) s.procs s.chans p k)) ≡ is_served_at (need_in k)
  acts_served Stop = refl
  acts_served (Go need f) = some_map _ _ ∙ some_map _ _

  pub steps_not : get s.procs p ≡ None → is_some (step program s p) ≡ false
  steps_not is = ap (λ o. is_some (option_map finished (act_of (ask program) (has_ended program) (emptied program) s.procs s.chans p o))) is

  -- who can step is there
  pub steps_there : (o : Option program.Proc) → get s.procs p ≡ o → is_some (step program s p) ≡ true → (x : program.Proc) × (o ≡ Some x)
  steps_there None e can = absurd (cc (sym (steps_not e) ∙ can))
  steps_there (Some x) e can = (x, refl)

  module _ (x : program.Proc) (is : get s.procs p ≡ Some x) where
    pub steps_served : is_some (step program s p) ≡ is_served_at (need_of program x)
    steps_served =
        ap (λ o. is_some (option_map finished (act_of (ask program) (has_ended program) (emptied program) s.procs s.chans p o))) is
        ∙ acts_served (ask program x)

    pub rests : need_of program x ≡ None → is_some (step program s p) ≡ false
    rests none = steps_served ∙ ap is_served_at none

    pub receives : (c : ChanName) (limits : Limits) → need_of program x ≡ Some (Event c (Pop limits)) → is_some (step program s p) ≡ pops_at (get s.chans c)
    receives c limits needs = steps_served ∙ ap is_served_at needs ∙ pops_served program.Proc limits (get s.chans c)

    pub joins : (b n : ℕ) → need_of program x ≡ Some (Children b n) → is_some (step program s p) ≡ is_some (gathered (has_ended program) s.procs p b 1 n)
    joins b n needs = steps_served ∙ ap is_served_at needs ∙ some_map _ _

    free : IsLawfulPlay program → IsOwned (language program) s → (k : Ask program.Proc) → ask program x ≡ k → is_free (need_in k) ≡ true → is_served_at (need_in k) ≡ true
    free law owned Stop asks is_so = absurd (cc is_so)
    free law owned (Go Nothing f) asks is_so = refl
    free law owned (Go (Event c a) f) asks is_so =
        let ch = event_channel (language program) s owned law.lawful p x c a f is asks in
        free_served program a (get s.chans c) ch.0 ch.1 is_so
    free law owned (Go (New n writers) f) asks is_so = refl
    free law owned (Go (Children b n) f) asks is_so = absurd (cc is_so)

    pub steps_freely : IsLawfulPlay program → IsOwned (language program) s → is_free (need_of program x) ≡ true → is_some (step program s p) ≡ true
    steps_freely law owned is_so = steps_served ∙ free law owned (ask program x) refl is_so
