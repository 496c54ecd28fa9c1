-- Parts of steps: each leaves another its own. Where of each two processes one sends beside no other writer, and who looks
-- has something to tell, both orders meet.
use Rattle.std.proofs.Common.{◌≡◌, ◌≢◌, ℕ, zero, suc, ◌+◌, ◌-◌, ◌≤◌, ◌<◌, Option, Some, None, List, [], ◌++◌, ◌⊎◌, inl, inr, true, option_map, refl, sym, ap, ap₂, ◌∙◌, subst, arith}
use mathlib.Core.Path.{fun_ext}
use Rattle.std.specs.FinMap.{get}
use Rattle.fm_base.specs.declared.path.ChanName.{ChanName}
use Rattle.fm_base.specs.declared.port.PortValue.{PortValue}
use Rattle.fm_base.specs.declared.port.PortValue.TheVariants.{Writer, Reader}
use Rattle.fm_base.specs.Channels.{Chan, ChannelOp, Push, Pop, Look, is_ready, changed, channel_of, discarded, freed, fresh, spills_at}
use Rattle.fm_finmap.specs.Changes.{Change, adjust, alters, Off, Apart}
use Rattle.fm_finmap.specs.Sums.{total, value_or_zero}
use Rattle.fm_finmap.proofs.Keys.{decide}
use Rattle.fm_finmap.proofs.Inserts.{insert_there}
use Rattle.fm_finmap.proofs.Adjusts.{adjust_there, adjust_swap, adjust_past_insert}
use Rattle.fm_finmap.proofs.Alters.{alters_there, alters_swap}
use Rattle.fm_finmap.proofs.Sums.{one_of_total, two_of_total}
use Rattle.fm_sched.proofs.Moves.{MovesMeet}
use Rattle.fm_net.specs.Machine.{Place, Need, Nothing, Event, New, Children, Reply, Onward, child, made, chans_after, reply_with, spilt, with_child, gathered, served_at, served, changes}
use Rattle.fm_net.specs.Language.{Language}
use Rattle.fm_net.specs.Owned.{one, count, queued, open_at, opened, present, name_of, HasOneWriter}
use Rattle.fm_net.specs.Plain.{IsSingle, IsPlainAsk, KeepsPlain, AllPlain}
use Rattle.fm_net.specs.Lone.{IsLoneEvent, IsLone, IsTold}
use Rattle.fm_net.specs.Lawful.{port_of, Uses, Numbered, IsLawfulStep, IsLawfulAsk, IsLawfulLanguage}
use Rattle.fm_net.proofs.Keys.{path_order, channel_order}
use Rattle.fm_net.proofs.Counts.{closed, one_apart, one_below, one_once, count-append, opened_small, adjust_at}
use Rattle.fm_net.proofs.Events.{Beside, ready_beside, ready_later, beside, beside_swap, calm, crosses, freed_same, discarded_swap, same_some}
use Rattle.fm_net.proofs.Parts.{Midway, Part, Run, Discard, one_place, one_place_apart, Start, Move, end}
use Rattle.fm_net.proofs.Children.{one_parent, IsNoChild, ChildrenOff, off_changes, apart_changes, joined_child}
use Rattle.fm_net.proofs.Needs.{absent, no_value, Ready, IsReadyLater, BearsNeed, ArePaired, BearsDiscard, told_bears_discard, sure_need_told, told_bears, IsCalm, Commutes, chans_swap, ready_after, reply_same, left, ready_serves, served_event}

-- ownership between two parts: a loose port stands there
pub record IsSound {Proc : Type 0} (language : Language Proc) (mid : Midway Proc) : Type 0 where
  pub stands : (z : PortValue) → total (λ x. count z (language.held x)) mid.procs + total (queued z) mid.chans + mid.loose z ≡ opened mid.chans z
  pub born : (q : Place) (b i : ℕ) → 1 ≤ present (get mid.procs (child q b i)) → b < value_or_zero language.next_block (get mid.procs q)
  pub named : (q : Place) (n : ℕ) → 1 ≤ present (get mid.chans (name_of q n)) → n < value_or_zero language.next_channel (get mid.procs q)

module _ {Proc : Type 0} (language : Language Proc) where
  abbrev holds : PortValue → Proc → ℕ
  holds z x = count z (language.held x)

  module _ (laws : IsLawfulLanguage language) (mid : Midway Proc) (good : IsSound language mid) where
    abbrev Starts : Place → Type 0
    Starts p = Start language mid.procs mid.chans p

    pub going_of : (p : Place) (t : Starts p) → IsLawfulStep language t.self t.need t.goes
    going_of p t = subst (IsLawfulAsk language t.self) t.asks (laws.goes t.self)

    most : (z : PortValue) → opened mid.chans z ≤ 1
    most z = opened_small z (get mid.chans (channel_of z))

    pub loose_open : (z : PortValue) → 1 ≤ mid.loose z → 1 ≤ opened mid.chans z
    loose_open z h = omega (arith, good.stands z)

    holder : (p : Place) (x : Proc) (z : PortValue) → get mid.procs p ≡ Some x → holds z x ≤ total (holds z) mid.procs
    holder p x z is = subst (λ o. value_or_zero (holds z) o ≤ total (holds z) mid.procs) is (one_of_total path_order (holds z) mid.procs p)

    holders : (p q : Place) (x y : Proc) (z : PortValue) → (p ≢ q) → get mid.procs p ≡ Some x → get mid.procs q ≡ Some y → holds z x + holds z y ≤ total (holds z) mid.procs
    holders p q x y z n is_x is_y = omega (arith, two_of_total path_order (holds z) mid.procs p q n, ap (value_or_zero (holds z)) is_x, ap (value_or_zero (holds z)) is_y)

    pub held_open : (p : Place) (x : Proc) (z : PortValue) → get mid.procs p ≡ Some x → 1 ≤ holds z x → 1 ≤ opened mid.chans z
    held_open p x z is h = omega (arith, good.stands z, holder p x z is)

    pub not_loose : (p : Place) (x : Proc) (z y : PortValue) → get mid.procs p ≡ Some x → 1 ≤ holds z x → 1 ≤ mid.loose y → y ≢ z
    not_loose p x z y is h l e = let l' : 1 ≤ mid.loose z = subst (λ w. 1 ≤ mid.loose w) e l in
        omega (arith, good.stands z, holder p x z is, most z)

    not_both : (p q : Place) (x y : Proc) (z w : PortValue) → (p ≢ q) → get mid.procs p ≡ Some x → get mid.procs q ≡ Some y → 1 ≤ holds z x → 1 ≤ holds w y → z ≢ w
    not_both p q x y z w n is_x is_y h g e = let g' : 1 ≤ holds z y = subst (λ u. 1 ≤ holds u y) (sym e) g in
        omega (arith, good.stands z, holders p q x y z n is_x is_y, most z)

    -- ---- the processes that a step touches

    pub no_child : (p : Place) (t : Starts p) (i : ℕ) → get mid.procs (child p (t.goes (made p t.need) t.reply).block i) ≡ None
    no_child p t i =
        let b : (t.goes (made p t.need) t.reply).block ≡ language.next_block t.self = (going_of p t).block_is (made p t.need) t.reply in
        no_value _ (λ h. let g = good.born p (t.goes (made p t.need) t.reply).block i h in
        let e : value_or_zero language.next_block (get mid.procs p) ≡ language.next_block t.self = ap (value_or_zero language.next_block) t.is in omega arith)

    busy : (p r : Place) (t : Starts p) (x : Proc) → get mid.procs r ≡ Some x → language.has_ended x ≡ true → r ≢ p
    busy p r t x is done e =
        let same : Some x ≡ Some t.self = sym is ∙ ap (get mid.procs) e ∙ t.is in
        let self : x ≡ t.self = cc in
        cc (sym (laws.stops x done) ∙ ap language.ask self ∙ t.asks)

    pub ready_need : (p : Place) (x : Proc) (need : Need) (r : Reply Proc) → get mid.procs p ≡ Some x → Numbered (language.next_channel x) need → served language.has_ended mid.procs mid.chans p need ≡ Some r → Ready mid.chans p need
    ready_need p x Nothing r is n e = tt
    ready_need p x (Event c a) r is n e = let h = served_event a (get mid.chans c) r e in (h.0, h.1, h.2)
    ready_need p x (New k w) r is n e = no_value _ (λ h. let g = good.named p k h in let v : value_or_zero language.next_channel (get mid.procs p) ≡ language.next_channel x = ap (value_or_zero language.next_channel) is in omega arith)
    ready_need p x (Children b k) r is n e = tt

    open_here : (p : Place) (x : Proc) (c : ChanName) (a : ChannelOp) (ch : Chan) → get mid.procs p ≡ Some x → get mid.chans c ≡ Some ch → 1 ≤ holds (port_of c a) x → 1 ≤ open_at (port_of c a) (Some ch)
    open_here p x c (Push w m) ch is has h = subst (λ o. 1 ≤ open_at (Writer c w) o) has (held_open p x (Writer c w) is h)
    open_here p x c (Pop l) ch is has h = subst (λ o. 1 ≤ open_at (Reader c) o) has (held_open p x (Reader c) is h)
    open_here p x c Look ch is has h = subst (λ o. 1 ≤ open_at (Reader c) o) has (held_open p x (Reader c) is h)

    ready_later_need : (p q : Place) (x y : Proc) (need other : Need) → (p ≢ q) → get mid.procs p ≡ Some x → get mid.procs q ≡ Some y → Uses (language.held x) need → Uses (language.held y) other → IsReadyLater mid.chans need other
    ready_later_need p q x y Nothing other n is_x is_y u v = tt
    ready_later_need p q x y (New k w) other n is_x is_y u v = tt
    ready_later_need p q x y (Children b k) other n is_x is_y u v = tt
    ready_later_need p q x y (Event c a) Nothing n is_x is_y u v = tt
    ready_later_need p q x y (Event c a) (New k w) n is_x is_y u v = tt
    ready_later_need p q x y (Event c a) (Children b k) n is_x is_y u v = tt
    ready_later_need p q x y (Event c a) (Event d b) n is_x is_y u v = λ e ch is r.
        ready_later c a b ch
        (λ w. not_both p q x y (port_of c a) (port_of d b) n is_x is_y u v (w ∙ ap (λ k. port_of k b) e))
        (subst (λ k. 1 ≤ open_at (port_of k b) (Some ch)) (sym e) (open_here q y d b ch is_y (ap (get mid.chans) (sym e) ∙ is) v))
        r

    calm_need : (p q : Place) (x y : Proc) (need other : Need) → (p ≢ q) → get mid.procs p ≡ Some x → get mid.procs q ≡ Some y → Uses (language.held x) need → Uses (language.held y) other
        → BearsNeed mid.chans need other → Ready mid.chans p need → IsCalm mid.chans need other
    calm_need p q x y Nothing other n is_x is_y u v bears r = tt
    calm_need p q x y (New k w) other n is_x is_y u v bears r = tt
    calm_need p q x y (Children b k) other n is_x is_y u v bears r = tt
    calm_need p q x y (Event c a) Nothing n is_x is_y u v bears r = tt
    calm_need p q x y (Event c a) (New k w) n is_x is_y u v bears r = tt
    calm_need p q x y (Event c a) (Children b k) n is_x is_y u v bears r = tt
    calm_need p q x y (Event c a) (Event d b) n is_x is_y u v bears r = λ e ch is.
        let at_d : get mid.chans d ≡ Some ch = ap (get mid.chans) (sym e) ∙ is in
        calm c a b ch (bears e ch is)
        (λ w. not_both p q x y (port_of c a) (port_of d b) n is_x is_y u v (w ∙ ap (λ k. port_of k b) e))
        (subst (λ k. 1 ≤ open_at (port_of k b) (Some ch)) (sym e) (open_here q y d b ch is_y at_d v))
        (subst (λ z. is_ready a z ≡ true) (same_some r.0 ch (get mid.chans c) r.1 is) r.2)

    -- ---- two processes

    module _ (p q : Place) (apart : p ≢ q) (t : Starts p) (u : Starts q) where
      abbrev out : Onward Proc
      out = t.goes (made p t.need) t.reply

      abbrev other_out : Onward Proc
      other_out = u.goes (made q u.need) u.reply

      abbrev pub other_changes : List (Change Place Proc)
      other_changes = changes language.emptied q u.need other_out

      no_busy_child : (need : Need) (r : Reply Proc) → served language.has_ended mid.procs mid.chans q need ≡ Some r → IsNoChild language.emptied p q need
      no_busy_child Nothing r e = tt
      no_busy_child (Event c a) r e = tt
      no_busy_child (New n w) r e = tt
      no_busy_child (Children b n) r e = λ i l h w. let k = joined_child language.has_ended mid.procs mid.chans q b n r e i l h in busy p (child q b i) t k.0 k.1 k.2 (sym w)

      no_other_child : (b i : ℕ) (need : Need) → IsNoChild language.emptied (child p b i) q need
      no_other_child b i Nothing = tt
      no_other_child b i (Event c a) = tt
      no_other_child b i (New n w) = tt
      no_other_child b i (Children d n) = λ j l h. one_parent p q b i d j apart

      off_self : Off p other_changes
      off_self = off_changes language.emptied p q u.need other_out apart (λ i. absent (get mid.procs) p (child q other_out.block i) t.self t.is (no_child q u i)) (no_busy_child u.need u.reply u.serves)

      off_child : (b i : ℕ) → (child p b i ≢ q) → Off (child p b i) other_changes
      off_child b i n = off_changes language.emptied (child p b i) q u.need other_out n (λ j. one_parent p q b i other_out.block j apart) (no_other_child b i u.need)

      off_started : (i : ℕ) → Off (child p out.block i) other_changes
      off_started i = off_child out.block i (λ e. absent (get mid.procs) q (child p out.block i) u.self u.is (no_child p t i) (sym e))

      off_joined : (need : Need) (r : Reply Proc) → served language.has_ended mid.procs mid.chans p need ≡ Some r → ChildrenOff language.emptied p need other_changes
      off_joined Nothing r e = tt
      off_joined (Event c a) r e = tt
      off_joined (New n w) r e = tt
      off_joined (Children b n) r e = λ i l h. off_child b i (let k = joined_child language.has_ended mid.procs mid.chans p b n r e i l h in busy q (child p b i) u k.0 k.1 k.2)

      apart_both : Apart (changes language.emptied p t.need out) other_changes
      apart_both = apart_changes language.emptied p t.need out other_changes off_self off_started (off_joined t.need t.reply t.serves)

      gathered_same : (b i n : ℕ) → ((j : ℕ) → i ≤ j → j < n + i → Off (child p b j) other_changes) → gathered language.has_ended (alters other_changes mid.procs) p b i n ≡ gathered language.has_ended mid.procs p b i n
      gathered_same b i zero h = refl
      gathered_same b i (suc n) h = ap₂ (with_child language.has_ended) (alters_there path_order other_changes mid.procs (child p b i) (h i (omega arith) (omega arith))) (gathered_same b (suc i) n (λ j l m. h j (omega arith) (omega arith)))

      module _ (need : Need) (r : Reply Proc) (serves : served language.has_ended mid.procs mid.chans p need ≡ Some r) (there : Ready mid.chans p need) (other_there : Ready mid.chans q u.need) (cross : IsCalm mid.chans need u.need) where
        still_served : (k : Need) → need ≡ k → served language.has_ended (alters other_changes mid.procs) (chans_after q u.need mid.chans) p k ≡ served language.has_ended mid.procs mid.chans p k
        still_served Nothing e = refl
        still_served (New n w) e = refl
        still_served (Children b n) e = ap (option_map reply_with) (gathered_same b 1 n (subst (λ k. ChildrenOff language.emptied p k other_changes) e (off_joined need r serves)))
        still_served (Event c a) e = (left {Proc = Proc} mid.chans p q c a u.need (subst (Ready mid.chans p) e there) other_there (subst (λ k. IsCalm mid.chans k u.need) e cross)).served_same

        still_spilt : (k : Need) → need ≡ k → spilt k (chans_after q u.need mid.chans) ≡ spilt k mid.chans
        still_spilt Nothing e = refl
        still_spilt (New n w) e = refl
        still_spilt (Children b n) e = refl
        still_spilt (Event c a) e = (left {Proc = Proc} mid.chans p q c a u.need (subst (Ready mid.chans p) e there) other_there (subst (λ k. IsCalm mid.chans k u.need) e cross)).spilt_same

      ready_self : Ready mid.chans p t.need
      ready_self = ready_need p t.self t.need t.reply t.is (going_of p t).numbered t.serves

      pub ready_other : Ready mid.chans q u.need
      ready_other = ready_need q u.self u.need u.reply u.is (going_of q u).numbered u.serves

      -- an event by a port of p for which the channel was ready finds it ready still
      pub still_ready : (c : ChanName) (a : ChannelOp) → Uses (language.held t.self) (Event c a) → Ready mid.chans p (Event c a) → Ready (chans_after q u.need mid.chans) p (Event c a)
      still_ready c a uses r = ready_after mid.chans p q c a u.need r ready_other (ready_later_need p q t.self u.self (Event c a) u.need apart t.is u.is uses (going_of q u).uses)

      -- the process is still served, maybe with another reply
      still_serves : (k : Need) → t.need ≡ k → (r : Reply Proc) × (served language.has_ended (alters other_changes mid.procs) (chans_after q u.need mid.chans) p k ≡ Some r)
      still_serves Nothing e = (reply_with [], refl)
      still_serves (New n w) e = (reply_with [], refl)
      still_serves (Children b n) e = (
        t.reply,
        ap (option_map reply_with) (gathered_same b 1 n (subst (λ k. ChildrenOff language.emptied p k other_changes) e (off_joined t.need t.reply t.serves)))
            ∙ subst (λ k. served language.has_ended mid.procs mid.chans p k ≡ Some t.reply) e t.serves,
      )
      still_serves (Event c a) e =
          ready_serves (chans_after q u.need mid.chans) p c a (still_ready c a (subst (Uses (language.held t.self)) e (going_of p t).uses) (subst (Ready mid.chans p) e ready_self))

      -- so it still has a step
      later_step : Start language (alters other_changes mid.procs) (chans_after q u.need mid.chans) p
      later_step =
          let h = still_serves t.need refl in
          record {
            self = t.self;
            is = alters_there path_order other_changes mid.procs p off_self ∙ t.is;
            need = t.need;
            goes = t.goes;
            asks = t.asks;
            reply = h.0;
            serves = h.1;
          }

      module _ (bears : BearsNeed mid.chans t.need u.need) where
        calm_both : IsCalm mid.chans t.need u.need
        calm_both = calm_need p q t.self u.self t.need u.need apart t.is u.is (going_of p t).uses (going_of q u).uses bears ready_self

        -- and the same one, where it bears the other before it
        pub later : Start language (alters other_changes mid.procs) (chans_after q u.need mid.chans) p
        later = record {
          self = t.self;
          is = alters_there path_order other_changes mid.procs p off_self ∙ t.is;
          need = t.need;
          goes = t.goes;
          asks = t.asks;
          reply = t.reply;
          serves = still_served t.need t.reply t.serves ready_self ready_other calm_both t.need refl ∙ t.serves;
        }

        pub later_need : t.need ≡ later.need
        unfolding later
        later_need = refl

        pub later_onward : out ≡ later.goes (made p later.need) later.reply
        unfolding later
        later_onward = refl

        spilt_later : spilt t.need (chans_after q u.need mid.chans) ≡ spilt t.need mid.chans
        spilt_later = still_spilt t.need t.reply t.serves ready_self ready_other calm_both t.need refl

    -- ---- a process beside a discard

    pub open_there : (x : PortValue) (o : Option Chan) → 1 ≤ open_at x o → (ch : Chan) × (o ≡ Some ch)
    unfolding open_at
    open_there x None h = absurd (omega arith)
    open_there x (Some ch) h = (ch, refl)

    -- a discard leaves a process its step, maybe with another reply
    pub discard_ready : (x : PortValue) (p : Place) (c : ChanName) (a : ChannelOp) → (x ≢ port_of c a) → Ready mid.chans p (Event c a) → Ready (closed x mid.chans) p (Event c a)
    discard_ready x p c a off r = elim (decide channel_order (channel_of x) c) [
      | yes e ↦ (discarded x r.0, adjust_at mid.chans (channel_of x) c (discarded x) (sym e) ∙ ap (option_map (discarded x)) r.1, ready_beside c a x r.0 off e r.2)
      | no n ↦ (r.0, adjust_there channel_order mid.chans (channel_of x) (discarded x) c (λ e. n (sym e)) ∙ r.1, r.2)
    ]

    discard_serves : (x : PortValue) (p : Place) (t : Starts p) → 1 ≤ mid.loose x → (k : Need) → t.need ≡ k → (r : Reply Proc) × (served language.has_ended mid.procs (closed x mid.chans) p k ≡ Some r)
    discard_serves x p t l Nothing e = (reply_with [], refl)
    discard_serves x p t l (New n w) e = (reply_with [], refl)
    discard_serves x p t l (Children b n) e = (t.reply, subst (λ k. served language.has_ended mid.procs mid.chans p k ≡ Some t.reply) e t.serves)
    discard_serves x p t l (Event c a) e =
        let uses = subst (Uses (language.held t.self)) e (going_of p t).uses in
        ready_serves (closed x mid.chans) p c a
        (discard_ready x p c a (not_loose p t.self (port_of c a) x t.is uses l) (subst (Ready mid.chans p) e (ready_need p t.self t.need t.reply t.is (going_of p t).numbered t.serves)))

    step_beside : (p : Place) (x : PortValue) (t : Starts p) → 1 ≤ mid.loose x → Start language mid.procs (closed x mid.chans) p
    step_beside p x t l = let h = discard_serves x p t l t.need refl in record { self = t.self; is = t.is; need = t.need; goes = t.goes; asks = t.asks; reply = h.0; serves = h.1 }

    record Seen (x : PortValue) (p : Place) (need : Need) : Type 0 where
      served_same : served language.has_ended mid.procs (closed x mid.chans) p need ≡ served language.has_ended mid.procs mid.chans p need
      even : (z : PortValue) → count z (freed x (get mid.chans (channel_of x))) + count z (spilt need (closed x mid.chans)) ≡ count z (spilt need mid.chans) + count z (freed x (get (chans_after p need mid.chans) (channel_of x)))
      one_chans : chans_after p need (closed x mid.chans) ≡ closed x (chans_after p need mid.chans)

    seen_event : (x : PortValue) (p : Place) (c : ChanName) (a : ChannelOp) → BearsDiscard mid.chans x (Event c a) → (x ≢ port_of c a) → 1 ≤ mid.loose x → Ready mid.chans p (Event c a) → Seen x p (Event c a)
    seen_event x p c a bears off loose r = elim (decide channel_order (channel_of x) c) [
      | yes e ↦
          let at : get mid.chans (channel_of x) ≡ Some r.0 = ap (get mid.chans) e ∙ r.1 in
          let later : get (adjust mid.chans c (changed a)) (channel_of x) ≡ Some (changed a r.0) = adjust_at mid.chans c (channel_of x) (changed a) e ∙ ap (option_map (changed a)) at in
          let gone : get (closed x mid.chans) c ≡ Some (discarded x r.0) = adjust_at mid.chans (channel_of x) c (discarded x) (sym e) ∙ ap (option_map (discarded x)) r.1 in
          let w : Beside a x r.0 (discarded x r.0) (Some r.0) (Some (changed a r.0)) = beside c a x r.0 (bears e r.0 r.1) off e (subst (λ o. 1 ≤ open_at x o) at (loose_open x loose)) r.2 in
          record {
            served_same = ap (served_at {Proc = Proc} a) gone ∙ reply_same (w.can ∙ sym r.2) w.same w.more w.told ∙ ap (served_at a) (sym r.1);
            even = λ z. omega (arith, w.even z, ap (λ o. count z (freed x o)) at, ap (λ o. count z (freed x o)) later, ap (λ o. count z (spills_at a o)) gone, ap (λ o. count z (spills_at a o)) r.1);
            one_chans = adjust_swap channel_order mid.chans c (channel_of x) (changed a) (discarded x) (λ e ch is. beside_swap a x ch);
          }
      | no n ↦
          let same : get (closed x mid.chans) c ≡ get mid.chans c = adjust_there channel_order mid.chans (channel_of x) (discarded x) c (λ e. n (sym e)) in
          record {
            served_same = ap (served_at {Proc = Proc} a) same;
            even = λ z. omega (arith, ap (λ o. count z (freed x o)) (adjust_there channel_order mid.chans c (changed a) (channel_of x) n), ap (λ o. count z (spills_at a o)) same);
            one_chans = adjust_swap channel_order mid.chans c (channel_of x) (changed a) (discarded x) (λ e ch is. beside_swap a x ch);
          }
    ]

    seen : (x : PortValue) (p : Place) (y : Proc) (need : Need) → BearsDiscard mid.chans x need → get mid.procs p ≡ Some y → Uses (language.held y) need → 1 ≤ mid.loose x → Ready mid.chans p need → Seen x p need
    seen x p y Nothing bears is u l r = record { served_same = refl; even = λ z. omega arith; one_chans = refl }
    seen x p y (Children b n) bears is u l r = record { served_same = refl; even = λ z. omega arith; one_chans = refl }
    seen x p y (Event c a) bears is u l r = seen_event x p c a bears (not_loose p y (port_of c a) x is u l) l r
    seen x p y (New n w) bears is u l r =
        let h = open_there x (get mid.chans (channel_of x)) (loose_open x l) in
        let off : channel_of x ≢ (name_of p n) = absent (get mid.chans) (channel_of x) (name_of p n) h.0 h.1 r in
        record {
          served_same = refl;
          even = λ z. omega (arith, ap (λ o. count z (freed x o)) (insert_there channel_order mid.chans (name_of p n) (fresh w) (channel_of x) off));
          one_chans = sym (adjust_past_insert channel_order mid.chans (channel_of x) (name_of p n) (discarded x) (fresh w) off);
        }

    seen_by : (p : Place) (x : PortValue) (t : Starts p) → BearsDiscard mid.chans x t.need → 1 ≤ mid.loose x → Seen x p t.need
    seen_by p x t bears l = seen x p t.self t.need bears t.is (going_of p t).uses l (ready_need p t.self t.need t.reply t.is (going_of p t).numbered t.serves)

    pub beside_discard : (p : Place) (x : PortValue) (t : Starts p) → BearsDiscard mid.chans x t.need → 1 ≤ mid.loose x → Start language mid.procs (closed x mid.chans) p
    beside_discard p x t bears l = record { self = t.self; is = t.is; need = t.need; goes = t.goes; asks = t.asks; reply = t.reply; serves = (seen_by p x t bears l).served_same ∙ t.serves }

    pub beside_need : (p : Place) (x : PortValue) (t : Starts p) (bears : BearsDiscard mid.chans x t.need) (l : 1 ≤ mid.loose x) → t.need ≡ (beside_discard p x t bears l).need
    unfolding beside_discard
    beside_need p x t bears l = refl

    pub beside_onward : (p : Place) (x : PortValue) (t : Starts p) (bears : BearsDiscard mid.chans x t.need) (l : 1 ≤ mid.loose x) → t.goes (made p t.need) t.reply ≡ (beside_discard p x t bears l).goes (made p (beside_discard p x t bears l).need) (beside_discard p x t bears l).reply
    unfolding beside_discard
    beside_onward p x t bears l = refl

    -- of every language: a part is still there after another
    pub stay : (a b : Part) → (a ≢ b) → (m : Move language mid a) (n : Move language mid b) → Move language (end language mid b n).0 a
    stay (Run p) (Run q) apart (h, t) (g, u) = (omega (arith, one_place_apart q p (λ e. apart (ap Run (sym e)))), later_step p q (λ e. apart (ap Run e)) t u)
    stay (Discard x) (Run q) apart l n = omega arith
    stay (Discard x) (Discard y) apart l n = omega (arith, one_apart y x (λ e. apart (ap Discard (sym e))))
    stay (Run p) (Discard x) apart (h, t) l = (h, step_beside p x t l)

    -- ---- both orders

    commuting_need : (p q : Place) (x y : Proc) (need other : Need) → (p ≢ q) → get mid.procs p ≡ Some x → get mid.procs q ≡ Some y → Uses (language.held x) need → Uses (language.held y) other
        → IsLone mid.chans need ⊎ IsLone mid.chans other → Ready mid.chans p need → Ready mid.chans q other → Commutes mid.chans need other
    commuting_need p q x y Nothing other n is_x is_y u v lone r s = tt
    commuting_need p q x y (New k w) other n is_x is_y u v lone r s = tt
    commuting_need p q x y (Children b k) other n is_x is_y u v lone r s = tt
    commuting_need p q x y (Event c a) Nothing n is_x is_y u v lone r s = tt
    commuting_need p q x y (Event c a) (New k w) n is_x is_y u v lone r s = tt
    commuting_need p q x y (Event c a) (Children b k) n is_x is_y u v lone r s = tt
    commuting_need p q x y (Event c a) (Event d b) n is_x is_y u v lone r s = λ e ch is.
        let at_d : get mid.chans d ≡ Some ch = ap (get mid.chans) (sym e) ∙ is in
        let off : port_of c a ≢ port_of c b = λ w. not_both p q x y (port_of c a) (port_of d b) n is_x is_y u v (w ∙ ap (λ k. port_of k b) e) in
        let here : 1 ≤ open_at (port_of c a) (Some ch) = open_here p x c a ch is_x is u in
        let there : 1 ≤ open_at (port_of c b) (Some ch) = subst (λ k. 1 ≤ open_at (port_of k b) (Some ch)) (sym e) (open_here q y d b ch is_y at_d v) in
        let can : is_ready a ch ≡ true = subst (λ z. is_ready a z ≡ true) (same_some r.0 ch (get mid.chans c) r.1 is) r.2 in
        let other_can : is_ready b ch ≡ true = subst (λ z. is_ready b z ≡ true) (same_some s.0 ch (get mid.chans d) s.1 at_d) s.2 in
        elim lone [
          | inl h ↦ crosses mid.chans c a b ch off is h here there can other_can
          | inr h ↦ sym (crosses mid.chans c b a ch (λ w. off (sym w)) is (subst (λ k. IsLoneEvent mid.chans k b) (sym e) h) there here other_can can)
        ]

    runs : (p q : Place) (apart : p ≢ q) (m : Move language mid (Run p)) (n : Move language mid (Run q)) → ArePaired mid.chans m.1.need n.1.need → MovesMeet (Move language) (end language) mid (Run p) (Run q) m n
    unfolding later
    runs p q apart (h, t) (g, u) paired =
        let off = λ (e : q ≡ p). apart (sym e) in
        record {
          first = (omega (arith, one_place_apart q p off), later p q apart t u paired.first);
          second = (omega (arith, one_place_apart p q apart), later q p off u t paired.second);
          one_state = λ i. record {
            procs = alters_swap path_order (changes language.emptied p t.need (out p q apart t u)) (changes language.emptied q u.need (other_out p q apart t u)) mid.procs (apart_both p q apart t u) i;
            chans = chans_swap mid.chans p q t.need u.need apart (ready_self p q apart t u) (ready_other p q apart t u) (commuting_need p q t.self u.self t.need u.need apart t.is u.is (going_of p t).uses (going_of q u).uses paired.lone (ready_self p q apart t u) (ready_other p q apart t u)) i;
            loose = fun_ext {f = λ z. mid.loose z + count z ((u.goes (made q u.need) u.reply).drops ++ spilt u.need mid.chans) + count z ((t.goes (made p t.need) t.reply).drops ++ spilt t.need (chans_after q u.need mid.chans))}
                {g = λ z. mid.loose z + count z ((t.goes (made p t.need) t.reply).drops ++ spilt t.need mid.chans) + count z ((u.goes (made q u.need) u.reply).drops ++ spilt u.need (chans_after p t.need mid.chans))}
                (λ z. let e₁ = ap (λ s. count z ((t.goes (made p t.need) t.reply).drops ++ s)) (spilt_later p q apart t u paired.first) in
                let e₂ = ap (λ s. count z ((u.goes (made q u.need) u.reply).drops ++ s)) (spilt_later q p off u t paired.second) in
                omega arith) i;
            remaining = fun_ext {f = λ r. (mid.remaining r - one_place q r) - one_place p r} {g = λ r. (mid.remaining r - one_place p r) - one_place q r} (λ r. omega arith) i;
          };
          first_cost = refl;
          second_cost = refl;
        }

    run_beside : (p : Place) (x : PortValue) (m : Move language mid (Run p)) (l : 1 ≤ mid.loose x) → BearsDiscard mid.chans x m.1.need → MovesMeet (Move language) (end language) mid (Run p) (Discard x) m l
    unfolding beside_discard
    run_beside p x (h, t) l bears =
        let s = seen_by p x t bears l in
        let o = t.goes (made p t.need) t.reply in
        record {
          first = (h, beside_discard p x t bears l);
          second = omega arith;
          one_state = λ i. record {
            procs = alters (changes language.emptied p t.need (t.goes (made p t.need) t.reply)) mid.procs;
            chans = s.one_chans i;
            loose = fun_ext {f = λ z. (mid.loose z - one x z + count z (freed x (get mid.chans (channel_of x)))) + count z ((t.goes (made p t.need) t.reply).drops ++ spilt t.need (closed x mid.chans))}
                {g = λ z. (mid.loose z + count z ((t.goes (made p t.need) t.reply).drops ++ spilt t.need mid.chans)) - one x z + count z (freed x (get (chans_after p t.need mid.chans) (channel_of x)))}
                (λ z. omega (arith, one_below mid.loose x z l, s.even z, count-append z (t.goes (made p t.need) t.reply).drops (spilt t.need (closed x mid.chans)), count-append z (t.goes (made p t.need) t.reply).drops (spilt t.need mid.chans))) i;
            remaining = λ q. mid.remaining q - one_place p q;
          };
          first_cost = refl;
          second_cost = refl;
        }

    two_discards : (x y : PortValue) → (x ≢ y) → (m : 1 ≤ mid.loose x) (n : 1 ≤ mid.loose y) → MovesMeet (Move language) (end language) mid (Discard x) (Discard y) m n
    two_discards x y apart m n = record {
      first = omega (arith, one_apart y x (λ e. apart (sym e)));
      second = omega (arith, one_apart x y apart);
      one_state = λ i. record {
        procs = mid.procs;
        chans = adjust_swap channel_order mid.chans (channel_of x) (channel_of y) (discarded x) (discarded y) (λ e ch is. discarded_swap x y ch) i;
        loose = fun_ext {f = λ z. (mid.loose z - one y z + count z (freed y (get mid.chans (channel_of y)))) - one x z + count z (freed x (get (closed y mid.chans) (channel_of x)))}
            {g = λ z. (mid.loose z - one x z + count z (freed x (get mid.chans (channel_of x)))) - one y z + count z (freed y (get (closed x mid.chans) (channel_of y)))} (λ z.
            omega (arith, one_below mid.loose x z m, one_below mid.loose y z n, one_once x y z apart, ap (count z) (freed_same mid.chans x y apart), ap (count z) (freed_same mid.chans y x (λ e. apart (sym e))))) i;
        remaining = mid.remaining;
      };
      first_cost = refl;
      second_cost = refl;
    }

    turned : (a b : Part) (m : Move language mid a) (n : Move language mid b) → MovesMeet (Move language) (end language) mid b a n m → MovesMeet (Move language) (end language) mid a b m n
    turned a b m n w = record { first = w.second; second = w.first; one_state = sym w.one_state; first_cost = w.second_cost; second_cost = w.first_cost }

    -- where each two processes are paired, and each bears the discard of a loose port
    module _ (paired : (p q : Place) → (p ≢ q) → (m : Move language mid (Run p)) (n : Move language mid (Run q)) → ArePaired mid.chans m.1.need n.1.need)
        (bears : (p : Place) (x : PortValue) → 1 ≤ mid.loose x → (m : Move language mid (Run p)) → BearsDiscard mid.chans x m.1.need) where
      pub meet : (a b : Part) → (a ≢ b) → (m : Move language mid a) (n : Move language mid b) → MovesMeet (Move language) (end language) mid a b m n
      meet (Run p) (Run q) apart m n = let off : p ≢ q = λ e. apart (ap Run e) in runs p q off m n (paired p q off m n)
      meet (Run p) (Discard x) apart m n = run_beside p x m n (bears p x n m)
      meet (Discard x) (Run p) apart m n = turned _ _ _ _ (run_beside p x n m (bears p x m n))
      meet (Discard x) (Discard y) apart m n = two_discards x y (λ e. apart (ap Discard e)) m n

    -- so it is where nobody looks and no channel has a second writer
    module _ (IsPlain : Proc → Type 0) (plain : KeepsPlain language IsPlain) (all : AllPlain language IsPlain mid.procs) (single : HasOneWriter mid.chans) where
      plain_told : (p : Place) (t : Starts p) → IsTold mid.chans t.need
      plain_told p t = single_told t.need (subst (IsPlainAsk language IsPlain) t.asks (plain.goes t.self (all p t.self t.is))).single
        where
          single_told : (need : Need) → IsSingle need → IsTold mid.chans need
          single_told Nothing is = tt
          single_told (Event c a) is = sure_need_told mid.chans (Event c a) is
          single_told (New n w) is = tt
          single_told (Children b n) is = tt

      plain_lone : (p : Place) (t : Starts p) → IsLone mid.chans t.need
      plain_lone p t = go t.need (going_of p t).uses
        where
          go : (need : Need) → Uses (language.held t.self) need → IsLone mid.chans need
          go Nothing uses = tt
          go (Event c (Push w m)) uses = λ v h. single c v h ∙ sym (single c w (held_open p t.self (Writer c w) t.is uses))
          go (Event c (Pop l)) uses = tt
          go (Event c Look) uses = tt
          go (New n w) uses = tt
          go (Children b n) uses = tt

      pub plain_meet : (a b : Part) → (a ≢ b) → (m : Move language mid a) (n : Move language mid b) → MovesMeet (Move language) (end language) mid a b m n
      plain_meet = meet
          (λ p q apart m n. record {
            first = told_bears mid.chans m.1.need n.1.need (plain_told p m.1);
            second = told_bears mid.chans n.1.need m.1.need (plain_told q n.1);
            lone = inl (plain_lone p m.1);
          })
          (λ p x l m. told_bears_discard mid.chans x m.1.need (plain_told p m.1))
