-- Who becomes able by a step of another: who waits for what it sends, for the last writer or child that
-- goes by it, and its new children.
use Rattle.std.proofs.Common.{◌≡◌, ◌≢◌, ◌⊎◌, inl, inr, ℕ, zero, suc, ◌+◌, ◌≤◌, ◌<◌, Option, Some, None, List, [], ◌∷◌, ◌++◌, Bool, true, false, cond, option_map, refl, sym, ap, ap₂, ◌∙◌, subst, arith}
use Rattle.std.specs.FinMap.{get, get-insert}
use Rattle.std.specs.Ordering.{eq_by_cmp}
use Rattle.fm_base.specs.declared.path.ChanName.{ChanName}
use Rattle.fm_base.specs.declared.port.PortValue.{PortValue}
use Rattle.fm_base.specs.declared.port.PortValue.TheVariants.{Writer, Reader}
use Rattle.fm_base.specs.PathOrder.{channel_cmp}
use Rattle.fm_base.specs.Channels.{Message, Limits, Chan, Chans, ChannelOp, Push, Pop, Look, can_pop, is_ready, changed, behind_first, channel_of, discarded, freed, fresh, shut, shed, weight}
use Rattle.fm_finmap.specs.Changes.{Change, alters}
use Rattle.fm_finmap.proofs.Keys.{decide}
use Rattle.fm_finmap.proofs.Adjusts.{adjust_there}
use Rattle.fm_finmap.proofs.Alters.{alter_here, alter_there, alters_there, alters-append}
use Rattle.fm_sched.specs.Schedule.{Can, next}
use Rattle.fm_net.specs.Machine.{Place, State, Need, Nothing, Event, New, Children, Reply, Onward, Ask, Stop, Go, child, chans_after, spilt, reply_with, reply_at, with_child, gathered, served_at, served, changes, start_changes, child_changes, need_changes}
use Rattle.fm_net.specs.Language.{Language, language_step}
use Rattle.fm_net.specs.Owned.{name_of, IsOwned}
use Rattle.fm_net.specs.Lawful.{IsLawfulLanguage}
use Rattle.fm_net.specs.Woken.{Needs, MayWake}
use Rattle.fm_net.proofs.Keys.{path_order, channel_order}
use Rattle.fm_net.proofs.Counts.{shut-closed}
use Rattle.fm_net.proofs.Children.{one_parent, other_child, child_there, joined_child, served_children, IsNoChild, off_starts, off_changes}
use Rattle.fm_net.proofs.Needs.{absent, served_event}
use Rattle.fm_net.proofs.Facts.{At, At-adjust, the_value}
use Rattle.fm_net.proofs.Holders.{event_channel}
use Rattle.fm_net.proofs.Cases.{step_stopped, step_waits, step_served}
use Rattle.fm_net.proofs.Taken.{Starts, out_of, ends_of, state_is, start_of}
use Rattle.fm_net.proofs.Orders.{came, new_child}
use native.Mathlib.Decide.{ℕ_discrete}

-- ---- queues that are empty

abbrev HasNoMessage : Chan → Type 0
HasNoMessage ch = ch.queue ≡ []

-- no message waits at the channel
abbrev EmptyAt : ChanName → Chans → Type 0
EmptyAt c m = At channel_order HasNoMessage (get m c)

discard_empty : (x : PortValue) (ch : Chan) → HasNoMessage ch → HasNoMessage (discarded x ch)
discard_empty (Writer c w) ch none = none
discard_empty (Reader c) ch none = refl

shed_empty : (c : ChanName) (n : ℕ) (xs : List PortValue) (m : Chans) → EmptyAt c m → EmptyAt c (shed n xs m)
shed_empty c zero xs m none = none
shed_empty c (suc n) [] m none = none
shed_empty c (suc n) (x ∷ xs) m none =
    shed_empty c n (freed x (get m (channel_of x)) ++ xs) (shut x m)
    (subst (EmptyAt c) (sym (shut-closed x m)) (At-adjust channel_order HasNoMessage m (channel_of x) (discarded x) c none (discard_empty x)))

popped_empty : (l : Limits) (ms : List Message) → ms ≡ [] → behind_first l ms ≡ []
popped_empty l [] e = refl
popped_empty l (m ∷ ms) e = absurd (cc e)

-- what a process needs leaves the queue empty, or is a send there
empty_or_sent : (c : ChanName) (m : Chans) (p : Place) (need : Need) → EmptyAt c m → EmptyAt c (chans_after p need m) ⊎ ((w : ℕ) × (message : Message) × (need ≡ Event c (Push w message)))
empty_or_sent c m p Nothing none = inl none
empty_or_sent c m p (Children b n) none = inl none
empty_or_sent c m p (New n k) none = inl (λ ch is. go ch (eq_by_cmp channel_cmp c (name_of p n)) (sym (get-insert channel_order.total m (name_of p n) (fresh k) c) ∙ is))
  where
    go : (ch : Chan) (b : Bool) → cond b (Some (fresh k)) (get m c) ≡ Some ch → HasNoMessage ch
    go ch true e = subst HasNoMessage (the_value (fresh k) ch e) refl
    go ch false e = none ch e
empty_or_sent c m p (Event d (Pop l)) none = inl (At-adjust channel_order HasNoMessage m d (changed (Pop l)) c none (λ ch h. popped_empty l ch.queue h))
empty_or_sent c m p (Event d Look) none = inl (At-adjust channel_order HasNoMessage m d (changed Look) c none (λ ch h. h))
empty_or_sent c m p (Event d (Push w message)) none = elim (decide channel_order c d) [
  | yes e ↦ inr (w, message, ap (λ k. Event k (Push w message)) (sym e))
  | no n ↦ inl (subst (At channel_order HasNoMessage) (sym (adjust_there channel_order m d (changed (Push w message)) c n)) none)
]

-- a receive that has to wait, and what it waits for
waits_so : (ms : List Message) (ws : List ℕ) → can_pop ms ws ≡ false → (ms ≡ []) × (ws ≢ [])
waits_so [] [] e = absurd (cc e)
waits_so [] (w ∷ ws) e = (refl, λ h. cc h)
waits_so (m ∷ ms) ws e = absurd (cc e)

came_or_left : (ms : List Message) (ws : List ℕ) → can_pop ms ws ≡ true → (ms ≢ []) ⊎ (ws ≡ [])
came_or_left (m ∷ ms) ws e = inl (λ h. cc h)
came_or_left [] [] e = inr refl
came_or_left [] (w ∷ ws) e = absurd (cc e)

-- ---- children

module _ (p q : Place) (b : ℕ) where
  -- p is one of the first n children of the block, or none of them
  which_child : (n : ℕ) → ((i : ℕ) × (1 ≤ i) × (i ≤ n) × (p ≡ child q b i)) ⊎ ((i : ℕ) → 1 ≤ i → i ≤ n → child q b i ≢ p)
  which_child zero = inr (λ i l h. absurd (omega arith))
  which_child (suc n) = elim (decide path_order p (child q b (suc n))) [
    | yes e ↦ inl (suc n, omega arith, omega arith, e)
    | no other ↦ elim (which_child n) [
      | inl k ↦ inl (k.0, k.1, omega (arith, k.2), k.3)
      | inr none ↦ inr (λ i l h e. elim (ℕ_discrete i (suc n)) [
        | yes same ↦ other (sym e ∙ ap (child q b) same)
        | no off ↦ none i l (omega arith) e
      ])
    ]
  ]

module _ {Proc : Type 0} (language : Language Proc) (laws : IsLawfulLanguage language) (s : State Proc) (owned : IsOwned language s) (p q : Place) (apart : q ≢ p) (t : Starts language s p) where
  abbrev out : Onward Proc
  out = out_of language s p t

  abbrev ws : List (Change Place Proc)
  ws = changes language.emptied p t.need out

  abbrev after : State Proc
  after = (ends_of language s p t).0

  abbrev all_drops : List PortValue
  all_drops = out.drops ++ spilt t.need s.chans

  -- ---- processes that another's step leaves as they are

  no_new_child : (r : Place) (x : Proc) → get s.procs r ≡ Some x → (i : ℕ) → r ≢ child p out.block i
  no_new_child r x is i = absent (get s.procs) r (child p out.block i) x is (new_child language laws s p owned t i)

  not_joined : (x : Proc) → get s.procs q ≡ Some x → language.has_ended x ≡ false → (need : Need) (r : Reply Proc) → served language.has_ended s.procs s.chans p need ≡ Some r → IsNoChild language.emptied q p need
  not_joined x is on Nothing r e = tt
  not_joined x is on (Event c a) r e = tt
  not_joined x is on (New n k) r e = tt
  not_joined x is on (Children b n) r e = λ i l h w.
      let k = joined_child language.has_ended s.procs s.chans p b n r e i l h in
      let same : x ≡ k.0 = the_value x k.0 (sym is ∙ ap (get s.procs) w ∙ k.1) in
      cc (sym on ∙ ap language.has_ended same ∙ k.2)

  -- who hasn't ended stays
  same_process : (x : Proc) → get s.procs q ≡ Some x → language.has_ended x ≡ false → get after.procs q ≡ Some x
  same_process x is on =
      alters_there path_order ws s.procs q (off_changes language.emptied q p t.need out apart (no_new_child q x is) (not_joined x is on t.need t.reply t.serves)) ∙ is

  -- and who has ended has ended
  children_ended : (b i n : ℕ) (x : Proc) → get s.procs q ≡ Some x → language.has_ended x ≡ true → (y : Proc) × (get (alters (child_changes language.emptied p b i n) s.procs) q ≡ Some y) × (language.has_ended y ≡ true)
  children_ended b i zero x is done = (x, is, done)
  children_ended b i (suc n) x is done = elim (decide path_order q (child p b i)) [
    | yes e ↦
        let rest = children_ended b (suc i) n x is done in
        let m = alters (child_changes language.emptied p b (suc i) n) s.procs in (
          language.emptied rest.0,
          ap (get (alters (child_changes language.emptied p b i (suc n)) s.procs)) e ∙ alter_here path_order m (child p b i) (option_map language.emptied) ∙ ap (option_map language.emptied) (ap (get m) (sym e) ∙ rest.1),
          laws.stays_ended rest.0 rest.2,
        )
    | no off ↦
        let rest = children_ended b (suc i) n x is done in
        (rest.0, alter_there path_order (alters (child_changes language.emptied p b (suc i) n) s.procs) (child p b i) (option_map language.emptied) q off ∙ rest.1, rest.2)
  ]

  need_ended : (need : Need) (x : Proc) → get s.procs q ≡ Some x → language.has_ended x ≡ true → (y : Proc) × (get (alters (need_changes language.emptied p need) s.procs) q ≡ Some y) × (language.has_ended y ≡ true)
  need_ended Nothing x is done = (x, is, done)
  need_ended (Event c a) x is done = (x, is, done)
  need_ended (New n k) x is done = (x, is, done)
  need_ended (Children b n) x is done = children_ended b 1 n x is done

  still_ended : (x : Proc) → get s.procs q ≡ Some x → language.has_ended x ≡ true → (y : Proc) × (get after.procs q ≡ Some y) × (language.has_ended y ≡ true)
  still_ended x is done =
      let k = need_ended t.need x is done in
      let m = alters (need_changes language.emptied p t.need) s.procs in
      let starts = start_changes p out.block 1 out.starts in (
        k.0,
        alter_there path_order (alters (starts ++ need_changes language.emptied p t.need) s.procs) p (λ v. Some out.self) q apart
            ∙ ap (λ n. get n q) (alters-append path_order starts (need_changes language.emptied p t.need) s.procs)
            ∙ alters_there path_order starts m q (off_starts q p out.block 1 out.starts (λ i l. no_new_child q x is i)) ∙ k.1,
        k.2,
      )

  -- ---- children of q but p stay as they are

  no_child_of : (b i : ℕ) (need : Need) → IsNoChild language.emptied (child q b i) p need
  no_child_of b i Nothing = tt
  no_child_of b i (Event c a) = tt
  no_child_of b i (New n k) = tt
  no_child_of b i (Children d n) = λ j l h. one_parent q p b i d j apart

  same_child : (b i : ℕ) → (child q b i ≢ p) → get after.procs (child q b i) ≡ get s.procs (child q b i)
  same_child b i other = alters_there path_order ws s.procs (child q b i) (off_changes language.emptied (child q b i) p t.need out other (λ j. one_parent q p b i out.block j apart) (no_child_of b i t.need))

  same_gathered : (b i n : ℕ) → ((j : ℕ) → i ≤ j → j < n + i → child q b j ≢ p) → gathered language.has_ended after.procs q b i n ≡ gathered language.has_ended s.procs q b i n
  same_gathered b i zero others = refl
  same_gathered b i (suc n) others = ap₂ (with_child language.has_ended) (same_child b i (others i (omega arith) (omega arith))) (same_gathered b (suc i) n (λ j l h. others j (omega arith) (omega arith)))

  -- ---- by what q needs

  module _ (to : next (language_step language) s p ≡ after) (x : Proc) (is : get s.procs q ≡ Some x) (need : Need) (f : ChanName → Reply Proc → Onward Proc) (asks : language.ask x ≡ Go need f) where
    here : (k : Need) → need ≡ k → Needs language s q k
    here k e = record { self = x; is = is; goes = f; asks = asks ∙ ap (λ n. Go n f) e }

    chans_of : (c : ChanName) (ch : Chan) → get after.chans c ≡ Some ch → get (next (language_step language) s p).chans c ≡ Some ch
    chans_of c ch e = ap (λ (u : State Proc). get u.chans c) to ∙ e

    popped : (c : ChanName) (l : Limits) → need ≡ Event c (Pop l) → (ch : Chan) → get s.chans c ≡ Some ch → can_pop ch.queue ch.writers ≡ false → (later : Chan) → get after.chans c ≡ Some later → can_pop later.queue later.writers ≡ true → MayWake language s p q
    popped c l e ch before waits later there ready = go (came_or_left later.queue later.writers ready)
      where
        no_message : EmptyAt c s.chans
        no_message v at = let same : ch ≡ v = the_value ch v (sym before ∙ at) in subst HasNoMessage same (waits_so ch.queue ch.writers waits).0

        go : (later.queue ≢ []) ⊎ (later.writers ≡ []) → MayWake language s p q
        go (inr none) = inr (inl (record {
          channel = c;
          limits = l;
          waits = here (Event c (Pop l)) e;
          before = ch;
          is_before = before;
          some_writer = (waits_so ch.queue ch.writers waits).1;
          after = later;
          is_after = chans_of c later there;
          no_writer = none;
        }))
        go (inl some) = elim (empty_or_sent c s.chans p t.need no_message) [
          | inl empty ↦ absurd (some (shed_empty c (weight all_drops (chans_after p t.need s.chans)) all_drops (chans_after p t.need s.chans) empty later there))
          | inr sent ↦ inl (record {
            channel = c;
            limits = l;
            waits = here (Event c (Pop l)) e;
            writer = sent.0;
            message = sent.1;
            sends = record { self = t.self; is = t.is; goes = t.goes; asks = t.asks ∙ ap (λ n. Go n t.goes) sent.2 };
          })
        ]

    evented : (c : ChanName) (a : ChannelOp) → need ≡ Event c a → (ch : Chan) → get s.chans c ≡ Some ch → is_ready a ch ≡ false → (later : Chan) → get after.chans c ≡ Some later → is_ready a later ≡ true → MayWake language s p q
    evented c (Push w m) e ch before waits later there ready = absurd (cc waits)
    evented c (Pop l) e ch before waits later there ready = popped c l e ch before waits later there ready
    evented c Look e ch before waits later there ready = absurd (cc waits)

    joins : (b n : ℕ) → need ≡ Children b n → (ys : List Proc) → gathered language.has_ended after.procs q b 1 n ≡ Some ys → gathered language.has_ended s.procs q b 1 n ≡ None → MayWake language s p q
    joins b n e ys now then = elim (which_child p q b n) [
      | inr none ↦ absurd (cc (sym now ∙ same_gathered b 1 n (λ j l h. none j l (omega arith)) ∙ then))
      | inl k ↦
          let last = child_there language.has_ended after.procs q b 1 n ys now k.0 k.1 (omega (arith, k.2)) in
          inr (inr (inl (record {
            block = b;
            count = n;
            waits = here (Children b n) e;
            index = k.0;
            from_one = k.1;
            within = k.2;
            is_child = k.3;
            last = last.0;
            is_last = ap (λ (u : State Proc). get u.procs p) to ∙ ap (get after.procs) k.3 ∙ last.1;
            has_ended = last.2;
            others_ended = λ j l h other.
                let y = child_there language.has_ended after.procs q b 1 n ys now j l (omega arith) in
                (y.0, sym (same_child b j (λ w. other_child q b j k.0 other (w ∙ k.3))) ∙ y.1, y.2);
          })))
    ]

    needs : (k : Need) → need ≡ k → (v : Option (Reply Proc)) → served language.has_ended s.procs s.chans q k ≡ v → v ≡ None → (r : Reply Proc) → served language.has_ended after.procs after.chans q k ≡ Some r → MayWake language s p q
    needs Nothing e v was none r now = absurd (cc (was ∙ none))
    needs (New n k) e v was none r now = absurd (cc (was ∙ none))
    needs (Event c a) e v was none r now =
        let ch = event_channel language s owned laws q x c a f is (asks ∙ ap (λ n. Go n f) e) in
        let later = served_event a (get after.chans c) r now in
        evented c a e ch.0 ch.1 (not_ready a ch.0 (sym (ap (served_at a) ch.1) ∙ was ∙ none)) later.0 later.1 later.2
      where
        not_ready : (a : ChannelOp) (ch : Chan) → served_at {Proc = Proc} a (Some ch) ≡ None → is_ready a ch ≡ false
        not_ready a ch h = go (is_ready a ch) h
          where
            go : (b : Bool) → ◌≡◌ {A = Option (Reply Proc)} (cond b (Some (reply_at a ch)) None) None → b ≡ false
            go true h' = absurd (cc h')
            go false h' = refl
    needs (Children b n) e v was none r now =
        let k = served_children language.has_ended after.procs after.chans q b n r now in
        joins b n e k.0 k.1 (no_children (gathered language.has_ended s.procs q b 1 n) (was ∙ none))
      where
        no_children : (o : Option (List Proc)) → ◌≡◌ {A = Option (Reply Proc)} (option_map reply_with o) None → o ≡ None
        no_children None h = refl
        no_children (Some ys) h = absurd (cc h)

  -- ---- q can step afterwards

  module _ (to : next (language_step language) s p ≡ after) (waits : language_step language s q ≡ None) (able : Can (language_step language) (next (language_step language) s p) q) where
    able_then : Can (language_step language) after q
    able_then = subst (λ u. Can (language_step language) u q) to able

    no_reply : (x : Proc) → get s.procs q ≡ Some x → (need : Need) (f : ChanName → Reply Proc → Onward Proc) → language.ask x ≡ Go need f → served language.has_ended s.procs s.chans q need ≡ None
    no_reply x is need f asks = go (served language.has_ended s.procs s.chans q need) refl
      where
        go : (v : Option (Reply Proc)) → served language.has_ended s.procs s.chans q need ≡ v → v ≡ None
        go None serves = refl
        go (Some r) serves = absurd (cc (sym waits ∙ step_served language s q x is need f asks r serves))

    asking : (x : Proc) → get s.procs q ≡ Some x → get after.procs q ≡ Some x → (a : Ask Proc) → language.ask x ≡ a → MayWake language s p q
    asking x is then Stop asks = absurd (cc (able_then.1, step_stopped language after q x then asks))
    asking x is then (Go need f) asks = go (served language.has_ended after.procs after.chans q need) refl
      where
        go : (v : Option (Reply Proc)) → served language.has_ended after.procs after.chans q need ≡ v → MayWake language s p q
        go None serves = absurd (cc (able_then.1, step_waits language after q x then need f asks serves))
        go (Some r) serves = needs to x is need f asks need refl (served language.has_ended s.procs s.chans q need) refl (no_reply x is need f asks) r serves

    standing : (x : Proc) → get s.procs q ≡ Some x → (b : Bool) → language.has_ended x ≡ b → MayWake language s p q
    standing x is true done =
        let y = still_ended x is done in
        absurd (cc (able_then.1, step_stopped language after q y.0 y.1 (laws.stops y.0 y.2)))
    standing x is false on = asking x is (same_process x is on) (language.ask x) refl

module _ {Proc : Type 0} (language : Language Proc) (laws : IsLawfulLanguage language) (s : State Proc) (owned : IsOwned language s) (p q : Place) (apart : q ≢ p)
    (can : Can (language_step language) s p) (waits : language_step language s q ≡ None) (able : Can (language_step language) (next (language_step language) s p) q) where
  new_process : get s.procs q ≡ None → MayWake language s p q
  new_process absent =
      let t = start_of language (next (language_step language) s p) q able in
      elim (came language s p can q t.self t.is) [
        | inl stands ↦ absurd (cc (sym absent ∙ stands.1))
        | inr starts ↦ inr (inr (inr starts))
      ]

  -- who becomes able by p's step waited for it, or starts with it
  pub becomes_able : MayWake language s p q
  becomes_able = go (get s.procs q) refl
    where
      go : (v : Option Proc) → get s.procs q ≡ v → MayWake language s p q
      go None is = new_process is
      go (Some x) is =
          let t = start_of language s p can in
          standing language laws s owned p q apart t (state_is language s p t) waits able x is (language.has_ended x) refl
