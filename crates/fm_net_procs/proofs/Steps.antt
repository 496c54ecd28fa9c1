-- Several steps of one process, and whether it can step.
use Rattle.std.proofs.Common.{◌≡◌, ℕ, ◌+◌, Bool, true, false, cond, Option, Some, None, List, [], ◌∷◌, ◌++◌, replicate, refl, sym, ap, ◌∙◌, subst, append-nil}
use Rattle.std.specs.Prelude.{is_some, option_map}
use Rattle.std.specs.FinMap.{get}
use Rattle.std.proofs.lemmas.Grind.{replicate_next}
use Rattle.fm_base.specs.declared.path.ChanName.{ChanName}
use Rattle.fm_base.specs.Channels.{Chan, Limits, ChannelOp, Push, Pop, Look, is_ready}
use Rattle.fm_chan.specs.Received.{pops_at}
use Rattle.fm_sched.specs.Schedule.{play, Leads}
use Rattle.fm_sched.proofs.Runs.{leads_nowhere, leads_further}
use Rattle.fm_net.specs.Language.{Language, language_step}
use Rattle.fm_net.specs.Machine.{Place, State, Need, Nothing, Event, New, Children, Ask, Stop, Go, act, act_of, reply_at, gathered, served, served_at, finished}
use Rattle.fm_net.specs.Starts.{starts_at, starts_along}
use Rattle.fm_net.proofs.Orders.{starts-append}
use Rattle.fm_net_procs.specs.Kept.{AreChildren, HasFamily, count_awaited}
use Rattle.fm_net_procs.specs.Pieces.{Makes}
use Rattle.fm_net_procs.specs.Waiting.{JoinsBlock, channel_needed, channel_popped, channel_waited, need_in, need_of}

pub some_map : {A B : Type 0} (f : A → B) (o : Option A) → is_some (option_map f o) ≡ is_some o
some_map f None = refl
some_map f (Some x) = refl

module _ {X : Type 0} (language : Language X) where
  pub makes_none : (s : State X) (p : Place) → Makes language s p 0 s 0 []
  makes_none s p = record { leads = leads_nowhere (language_step language) s; starts_are = refl }

  -- one step more, where those before started nobody
  pub makes_more : (s t : State X) (p : Place) (n cost : ℕ) (r : State X × ℕ) → Makes language s p n t cost [] → language_step language t p ≡ Some r
      → Makes language s p (n + 1) r.0 (cost + r.1) (starts_at language t p)
  makes_more s t p n cost r before goes = record {
    leads = subst (λ (cs : List Place). Leads (language_step language) s cs r.0 (cost + r.1)) (sym (replicate_next n p)) (leads_further (language_step language) s t (replicate n p) cost p r before.leads goes);
    starts_are =
        ap (starts_along language s) (replicate_next n p) ∙ starts-append language s (replicate n p) (p ∷ [])
        ∙ ap (λ ps. ps ++ (starts_at language (play (language_step language) s (replicate n p)) p ++ [])) before.starts_are
        ∙ append-nil (starts_at language (play (language_step language) s (replicate n p)) p) ∙ ap (λ u. starts_at language u p) before.leads.there;
  }

  pops_served : (limits : Limits) (o : Option Chan) → is_some (served_at {Proc = X} (Pop limits) o) ≡ pops_at o
  pops_served limits None = refl
  pops_served limits (Some ch) = elim (is_ready (Pop limits) ch) as (λ b. is_some (cond b (Some (reply_at {Proc = X} (Pop limits) ch)) None) ≡ b) [
    | true ↦ refl
    | false ↦ refl
  ]

  module _ (s : State X) (p : Place) where
    abbrev is_served_at : Option Need → Bool
    is_served_at None = false
    is_served_at (Some need) = is_some (served language.has_ended s.procs s.chans p need)

    acts_served : (k : Ask X) → is_some (option_map finished (act language.ask language.has_ended language.emptied s.procs s.chans p k)) ≡ is_served_at (need_in k)
    acts_served Stop = refl
    acts_served (Go need f) = some_map _ _ ∙ some_map _ _

    pub steps_not : get s.procs p ≡ None → is_some (language_step language s p) ≡ false
    steps_not is = ap (λ o. is_some (option_map finished (act_of language.ask language.has_ended language.emptied s.procs s.chans p o))) is

    -- who can step is there
    pub steps_there : is_some (language_step language s p) ≡ true → (y : X) × (get s.procs p ≡ Some y)
    steps_there can = go (get s.procs p) refl
      where
        go : (o : Option X) → get s.procs p ≡ o → (y : X) × (o ≡ Some y)
        go None e = absurd (cc (sym (steps_not e) ∙ can))
        go (Some y) e = (y, refl)

    module _ (y : X) (is : get s.procs p ≡ Some y) where
      steps_served : is_some (language_step language s p) ≡ is_served_at (need_of language y)
      steps_served =
          ap (λ o. is_some (option_map finished (act_of language.ask language.has_ended language.emptied s.procs s.chans p o))) is
          ∙ acts_served (language.ask y)

      -- who waits for a message can't step before it is there
      pub waits_for : (c : ChanName) → channel_waited language y ≡ Some c → is_some (language_step language s p) ≡ pops_at (get s.chans c)
      waits_for c waited = steps_served ∙ go (need_of language y) waited
        where
          named : (d : ChanName) → Some d ≡ Some c → d ≡ c
          named d e = cc e

          popped : (d : ChanName) (a : ChannelOp) → channel_popped d a ≡ Some c → is_served_at (Some (Event d a)) ≡ pops_at (get s.chans c)
          popped d (Push w message) e = absurd (cc e)
          popped d (Pop limits) e = pops_served limits (get s.chans d) ∙ ap (λ (v : ChanName). pops_at (get s.chans v)) (named d e)
          popped d Look e = absurd (cc e)

          go : (o : Option Need) → channel_needed o ≡ Some c → is_served_at o ≡ pops_at (get s.chans c)
          go None e = absurd (cc e)
          go (Some Nothing) e = absurd (cc e)
          go (Some (Event d a)) e = popped d a e
          go (Some (New n writers)) e = absurd (cc e)
          go (Some (Children b n)) e = absurd (cc e)

      -- who joins a block can step where its children have ended
      pub joins_ended : (awaits : X → Option (ℕ × ℕ)) (j : JoinsBlock language awaits y) (places : List Place) (first told count : ℕ) → HasFamily places p (awaits y) told → first ≡ told → count ≡ count_awaited (awaits y)
          → (r : Bool) → ((b : ℕ) → AreChildren places first p b count → r ≡ is_some (gathered language.has_ended s.procs p b 1 count)) → r ≡ is_some (language_step language s p)
      joins_ended awaits j places first told count family first_is count_is r asked =
          let n = count_awaited (awaits y) in
          let all : AreChildren places first p j.block count =
          subst (λ (k : ℕ). AreChildren places first p j.block k) (sym count_is) (subst (λ (f : ℕ). AreChildren places f p j.block n) (sym first_is) (j.family places told p family)) in
          asked j.block all ∙ ap (λ (k : ℕ). is_some (gathered language.has_ended s.procs p j.block 1 k)) count_is
          ∙ sym (steps_served ∙ ap is_served_at j.needs ∙ some_map _ _)
