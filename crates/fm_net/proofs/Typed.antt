-- A fact of every process and of every message, relative to a type for each channel, is kept. A clause
-- can't quantify over facts, so these laws stand here alone.
use Rattle.std.proofs.Common.{◌≡◌, ◌≤◌, Option, Some, None, List, [], ◌∷◌, ◌++◌, Bool, true, false, cond, option_map, refl, sym, ap, ◌∙◌, subst, arith}
use Rattle.std.specs.FinMap.{get, get-insert}
use Rattle.std.specs.Ordering.{eq_by_cmp}
use Rattle.fm_base.specs.declared.path.ChanName.{ChanName}
use Rattle.fm_base.specs.declared.port.PortValue.{PortValue}
use Rattle.fm_base.specs.declared.port.PortValue.TheVariants.{Writer, Reader}
use Rattle.fm_base.specs.PathOrder.{channel_cmp}
use Rattle.fm_base.specs.Channels.{Message, message_ports, Chan, Chans, ChannelOp, Limits, fits_limits, Push, Pop, Look, changed, gives, channel_of, discarded, queue_ports, behind_first, first_message, fresh}
use Rattle.fm_finmap.specs.Changes.{adjust}
use Rattle.fm_finmap.specs.Sums.{total, value_or_zero}
use Rattle.fm_finmap.proofs.Keys.{tie, tie_self, tie_not}
use Rattle.fm_finmap.proofs.Adjusts.{get-adjust}
use Rattle.fm_finmap.proofs.Sums.{one_of_total}
use Rattle.fm_sched.specs.Schedule.{Can, next, Throughout}
use Rattle.fm_sched.proofs.Along.{throughout}
use Rattle.fm_net.specs.Machine.{Place, Procs, Need, Nothing, Event, New, Children, Reply, State, made, chans_after, served}
use Rattle.fm_net.specs.Language.{Language, language_step}
use Rattle.fm_net.specs.Owned.{count, queued, opened, name_of, IsOwned}
use Rattle.fm_net.specs.Lawful.{IsLawfulLanguage}
use Rattle.fm_net.specs.Typed.{AllIn, SentFits, CameFits, MadeFits, IsTypedStep, IsTypedAsk, IsTypedLanguage, AreTypes, IsTyped}
use Rattle.fm_net.proofs.Keys.{path_order, channel_order}
use Rattle.fm_net.proofs.Counts.{count-append}
use Rattle.fm_net.proofs.Parts.{Midway, Part, Run, Discard, Move, end}
use Rattle.fm_net.proofs.Facts.{the_value, served_fine, step_fine}
use Rattle.fm_net.proofs.Needs.{Ready, served_event}
use Rattle.fm_net.proofs.Meeting.{IsSound, going_of, ready_need}
use Rattle.fm_net.proofs.Holders.{channel_there}
use Rattle.fm_net.proofs.Steps.{state_of, step_keeps, step_keeps_fact}

-- ---- facts of all values of a map

AllIn-push : {X : Type 0} (Fact : X → Type 0) (xs : List X) (x : X) → AllIn Fact xs → Fact x → AllIn Fact (xs ++ x ∷ [])
AllIn-push Fact [] x h g = (g, tt)
AllIn-push Fact (y ∷ xs) x h g = (h.0, AllIn-push Fact xs x h.1 g)

module _ {Proc T : Type 0} (language : Language Proc) (IsFine : (ChanName → T) → Proc → Type 0) (Fits : (ChanName → T) → ChanName → Message → Type 0) where
  -- ---- the queues

  kept_at : (types : ChanName → T) (c : ChanName) (m : Chans) (k : ChanName) (f : Chan → Chan) → ((d : ChanName) (ch : Chan) → get m d ≡ Some ch → AllIn (Fits types d) ch.queue)
      → ((ch : Chan) → get m k ≡ Some ch → AllIn (Fits types k) ch.queue → AllIn (Fits types k) (f ch).queue) → (ch : Chan) → get (adjust m k f) c ≡ Some ch → AllIn (Fits types c) ch.queue
  kept_at types c m k f all keep ch is = go (eq_by_cmp channel_cmp c k) refl (get m c) refl (sym (get-adjust channel_order m k f c) ∙ is)
    where
      go : (b : Bool) → eq_by_cmp channel_cmp c k ≡ b → (o : Option Chan) → get m c ≡ o → cond b (option_map f o) o ≡ Some ch → AllIn (Fits types c) ch.queue
      go true e None was e' = absurd (cc e')
      go true e (Some h) was e' =
          let at : c ≡ k = tie channel_order c k e in
          subst (λ d. AllIn (Fits types d) ch.queue) (sym at) (subst (λ z. AllIn (Fits types k) z.queue) (the_value (f h) ch e') (keep h (ap (get m) (sym at) ∙ was) (all k h (ap (get m) (sym at) ∙ was))))
      go false e o was e' = all c ch (was ∙ e')

  after_event : (types : ChanName → T) (c : ChanName) (a : ChannelOp) (ch : Chan) → SentFits language IsFine Fits types (Event c a) → AllIn (Fits types c) ch.queue → AllIn (Fits types c) (changed a ch).queue
  after_event types c (Push w m) ch s all = elim ch.lives as (λ b. AllIn (Fits types c) (cond b (ch.queue ++ m ∷ []) ch.queue)) [ true ↦ AllIn-push (Fits types c) ch.queue m all s | false ↦ all ]
  after_event types c Look ch s all = all
  after_event types c (Pop l) ch s all = go ch.queue all
    where
      go : (ms : List Message) → AllIn (Fits types c) ms → AllIn (Fits types c) (behind_first l ms)
      go [] h = h
      go (m ∷ ms) h = elim (fits_limits l m) as (λ b. AllIn (Fits types c) (cond b ms (m ∷ ms))) [ true ↦ h.1 | false ↦ h ]

  after_discard : (types : ChanName → T) (c : ChanName) (x : PortValue) (ch : Chan) → AllIn (Fits types c) ch.queue → AllIn (Fits types c) (discarded x ch).queue
  after_discard types c (Writer d w) ch all = all
  after_discard types c (Reader d) ch all = tt

  first_fits : (types : ChanName → T) (c : ChanName) (l : Limits) (ms : List Message) (m : Message) → AllIn (Fits types c) ms → first_message l ms ≡ Some m → Fits types c m
  first_fits types c l [] m h e = absurd (cc)
  first_fits types c l (x ∷ ms) m h e = go (fits_limits l x) e
    where
      go : (b : Bool) → cond b (Some x) None ≡ Some m → Fits types c m
      go true e' = subst (Fits types c) (the_value x m e') h.0
      go false e' = absurd (cc e')

  queues_after : (types : ChanName → T) (p : Place) (need : Need) (m : Chans) → SentFits language IsFine Fits types need → ((d : ChanName) (ch : Chan) → get m d ≡ Some ch → AllIn (Fits types d) ch.queue)
      → (d : ChanName) (ch : Chan) → get (chans_after p need m) d ≡ Some ch → AllIn (Fits types d) ch.queue
  queues_after types p Nothing m s all = all
  queues_after types p (Children b n) m s all = all
  queues_after types p (Event c a) m s all = λ d. kept_at types d m c (changed a) all (λ ch is h. after_event types c a ch s h)
  queues_after types p (New n w) m s all = λ d ch is. go d ch (eq_by_cmp channel_cmp d (name_of p n)) (sym (get-insert channel_order.total m (name_of p n) (fresh w) d) ∙ is)
    where
      go : (d : ChanName) (ch : Chan) (b : Bool) → cond b (Some (fresh w)) (get m d) ≡ Some ch → AllIn (Fits types d) ch.queue
      go d ch true e = subst (λ z. AllIn (Fits types d) z.queue) (the_value (fresh w) ch e) tt
      go d ch false e = all d ch e

  -- ---- what comes, and the types

  gives_fits : (types : ChanName → T) (c : ChanName) (a : ChannelOp) (ch : Chan) (m : Message) → AllIn (Fits types c) ch.queue → gives a ch ≡ Some m → Fits types c m
  gives_fits types c (Push w n) ch m all e = absurd (cc)
  gives_fits types c (Pop l) ch m all e = first_fits types c l ch.queue m all e
  gives_fits types c Look ch m all e = absurd (cc)

  came_fits : (types : ChanName → T) (m : Procs Proc) (cs : Chans) (p : Place) (need : Need) (r : Reply Proc) → ((c : ChanName) (ch : Chan) → get cs c ≡ Some ch → AllIn (Fits types c) ch.queue) → served language.has_ended m cs p need ≡ Some r → CameFits language IsFine Fits types need r.message
  came_fits types m cs p Nothing r all e = tt
  came_fits types m cs p (New n w) r all e = tt
  came_fits types m cs p (Children b n) r all e = tt
  came_fits types m cs p (Event c a) r all e = λ n is. let h = served_event a (get cs c) r e in gives_fits types c a h.0 n (all c h.0 h.1) (sym (ap (λ (r : Reply Proc). r.message) h.3) ∙ is)

  -- the types with that of the channel that is made
  abbrev pub retyped : (ChanName → T) → Place → Need → T → ChanName → T
  retyped types p Nothing t = types
  retyped types p (Event c a) t = types
  retyped types p (New n w) t = λ d. cond (eq_by_cmp channel_cmp d (name_of p n)) t (types d)
  retyped types p (Children b n) t = types

  made_fits : (types : ChanName → T) (p : Place) (need : Need) (t : T) → MadeFits language IsFine Fits (retyped types p need t) need (made p need) t
  made_fits types p Nothing t = tt
  made_fits types p (Event c a) t = tt
  made_fits types p (New n w) t = ap (λ b. cond b t (types (name_of p n))) (tie_self channel_order (name_of p n))
  made_fits types p (Children b n) t = tt

  -- a channel that is there keeps its type
  same_type : (types : ChanName → T) (m : Chans) (p : Place) (need : Need) (t : T) → Ready m p need → (c : ChanName) (ch : Chan) → get m c ≡ Some ch → types c ≡ retyped types p need t c
  same_type types m p Nothing t r c ch is = refl
  same_type types m p (Event d a) t r c ch is = refl
  same_type types m p (Children b n) t r c ch is = refl
  same_type types m p (New n w) t r c ch is = sym (ap (λ b. cond b t (types c)) (tie_not channel_order c (name_of p n) (λ e. cc (sym is ∙ ap (get m) e ∙ r))))

  module _ (typing : IsTypedLanguage language IsFine Fits) (laws : IsLawfulLanguage language) (mid : Midway Proc) (good : IsSound language mid) (types : ChanName → T) (typed : AreTypes language IsFine Fits types (state_of language mid)) where
    holder_open : (q : Place) (x : Proc) (z : PortValue) → get mid.procs q ≡ Some x → 1 ≤ count z (language.held x) → 1 ≤ opened mid.chans z
    holder_open q x z is h = omega (arith, good.stands z, subst (λ o. value_or_zero (λ (y : Proc). count z (language.held y)) o ≤ total (λ (y : Proc). count z (language.held y)) mid.procs) is (one_of_total path_order (λ (y : Proc). count z (language.held y)) mid.procs q))

    queue_open : (c : ChanName) (ch : Chan) (z : PortValue) → get mid.chans c ≡ Some ch → 1 ≤ count z (queue_ports ch.queue) → 1 ≤ opened mid.chans z
    queue_open c ch z is h = omega (arith, good.stands z, subst (λ o. value_or_zero (queued z) o ≤ total (queued z) mid.chans) is (one_of_total channel_order (queued z) mid.chans c))

    all_agree : (others : ChanName → T) (c : ChanName) (ms : List Message) → types c ≡ others c → ((z : PortValue) → 1 ≤ count z (queue_ports ms) → types (channel_of z) ≡ others (channel_of z)) → AllIn (Fits types c) ms → AllIn (Fits others c) ms
    all_agree others c [] e h all = tt
    all_agree others c (m ∷ ms) e h all = (
      typing.message_agrees types others c m e (λ z l. h z (omega (arith, count-append z (message_ports m) (queue_ports ms)))) all.0,
      all_agree others c ms e (λ z l. h z (omega (arith, count-append z (message_ports m) (queue_ports ms)))) all.1,
    )

    module _ (others : ChanName → T) (same : (c : ChanName) (ch : Chan) → get mid.chans c ≡ Some ch → types c ≡ others c) where
      at_port : (z : PortValue) → 1 ≤ opened mid.chans z → types (channel_of z) ≡ others (channel_of z)
      at_port z h = let o = channel_there z (get mid.chans (channel_of z)) h in same (channel_of z) o.0 o.1

      typed_so : AreTypes language IsFine Fits others (state_of language mid)
      typed_so = record {
        each = λ q x is. typing.agrees types others x (λ z h. at_port z (holder_open q x z is h)) (typed.each q x is);
        queues = λ c ch is. all_agree others c ch.queue (same c ch is) (λ z h. at_port z (queue_open c ch z is h)) (typed.queues c ch is);
      }

    -- parts keep the types, with one more where a channel is made, and none of a channel that is there changes
    pub keeps_typed : (a : Part) (m : Move language mid a) → (others : ChanName → T) × AreTypes language IsFine Fits others (state_of language (end language mid a m).0) × ((c : ChanName) (ch : Chan) → get mid.chans c ≡ Some ch → types c ≡ others c)
    keeps_typed (Discard x) l = (types, record { each = typed.each; queues = λ c. kept_at types c mid.chans (channel_of x) (discarded x) typed.queues (λ ch is h. after_discard types (channel_of x) x ch h) }, λ c ch is. refl)
    keeps_typed (Run p) (h, t) =
        let g : IsTypedStep language IsFine Fits t.self t.need t.goes = subst (IsTypedAsk language IsFine Fits t.self) t.asks (typing.goes t.self) in
        let others : ChanName → T = retyped types p t.need g.type_made in
        let there = ready_need language laws mid good p t.self t.need t.reply t.is (going_of language laws mid good p t).numbered t.serves in
        let same = same_type types mid.chans p t.need g.type_made there in
        let now : AreTypes language IsFine Fits others (state_of language mid) = typed_so others same in
        let self = now.each p t.self t.is in
        let on = g.goes_on others self (made p t.need) t.reply (made_fits types p t.need g.type_made) (came_fits others mid.procs mid.chans p t.need t.reply now.queues t.serves) (served_fine language.has_ended language.emptied (IsFine others) (typing.empties others) mid.procs mid.chans p t.need t.reply now.each t.serves) in (
          others,
          record {
            each = step_fine language.has_ended language.emptied (IsFine others) (typing.empties others) mid.procs p t.need (t.goes (made p t.need) t.reply) now.each on.0 on.1;
            queues = queues_after others p t.need mid.chans (g.sends others self) now.queues;
          },
          same,
        )

  -- each step of a language with types keeps them
  pub step_keeps_types : IsTypedLanguage language IsFine Fits → (laws : IsLawfulLanguage language) → (s : State Proc) (p : Place) → IsOwned language s → IsTyped language IsFine Fits s → Can (language_step language) s p → IsTyped language IsFine Fits (next (language_step language) s p)
  step_keeps_types typing laws = step_keeps_fact language laws (IsTyped language IsFine Fits) (λ mid a good typed m. let k = keeps_typed typing laws mid good typed.0 typed.1 a m in (k.0, k.1))

  pub types_throughout : IsTypedLanguage language IsFine Fits → IsLawfulLanguage language → (first : State Proc) → IsOwned language first → IsTyped language IsFine Fits first → Throughout (language_step language) (IsTyped language IsFine Fits) first
  types_throughout typing laws first owned typed =
      throughout (language_step language) (λ s. IsOwned language s × IsTyped language IsFine Fits s)
      (λ s p good can. (step_keeps language laws s p good.0 can, step_keeps_types typing laws s p good.0 good.1 can))
      (IsTyped language IsFine Fits) (λ s good. good.1) first (owned, typed)
