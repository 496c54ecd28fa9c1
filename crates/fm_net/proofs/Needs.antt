-- What one process needs of the channels, before and after another has had its own.
use Rattle.std.proofs.Common.{◌≡◌, ◌≢◌, ◌⊎◌, ℕ, ◌≤◌, Option, Some, None, [], Bool, true, false, cond, option_map, refl, sym, ap, ◌∙◌, arith}
use Rattle.std.specs.FinMap.{get}
use Rattle.fm_base.specs.declared.path.ChanName.{ChanName}
use Rattle.fm_base.specs.declared.port.PortValue.{PortValue}
use Rattle.fm_base.specs.Channels.{Message, Chan, Chans, ChannelOp, is_ready, changed, channel_of, spills_at, fresh}
use Rattle.fm_finmap.specs.Changes.{adjust}
use Rattle.fm_finmap.proofs.Keys.{decide}
use Rattle.fm_finmap.proofs.Inserts.{insert_there, insert_swap}
use Rattle.fm_finmap.proofs.Adjusts.{adjust_there, adjust_swap, adjust_past_insert}
use Rattle.fm_net.specs.Machine.{Place, Need, Nothing, Event, New, Children, Reply, chans_after, reply_at, served_at}
use Rattle.fm_net.specs.Owned.{present, name_of}
use Rattle.fm_net.specs.Lone.{OfEvent, IsSureNeed, IsLone, IsToldEvent, IsTold}
use Rattle.fm_net.proofs.Keys.{channel_order}
use Rattle.fm_net.proofs.Counts.{adjust_at}
use Rattle.fm_net.proofs.Events.{Bears, Calm, sure_told, told_event_bears}

pub absent : {K X : Type 0} (get : K → Option X) (k j : K) (x : X) → get k ≡ Some x → get j ≡ None → k ≢ j
absent get k j x h g e = cc (sym h ∙ ap get e ∙ g)

pub no_value : {X : Type 0} (o : Option X) → ¬ (1 ≤ present o) → o ≡ None
no_value None n = refl
no_value (Some x) n = absurd (n (omega arith))

-- what the channels have to be for a need: the event's channel is there and ready, the new one isn't there
abbrev pub Ready : Chans → Place → Need → Type 0
Ready m p Nothing = Unit {0}
Ready m p (Event c a) = (ch : Chan) × (get m c ≡ Some ch) × (is_ready a ch ≡ true)
Ready m p (New n w) = get m (name_of p n) ≡ None
Ready m p (Children b n) = Unit {0}

-- of two needs at one channel, the second leaves the first ready
abbrev pub IsReadyLater : Chans → Need → Need → Type 0
IsReadyLater m (Event c a) (Event d b) = c ≡ d → (ch : Chan) → get m c ≡ Some ch → is_ready a ch ≡ true → is_ready a (changed b ch) ≡ true
IsReadyLater m need other = Unit {0}

-- where the first looks and the second sends, there is something to tell
abbrev pub BearsNeed : Chans → Need → Need → Type 0
BearsNeed m (Event c a) (Event d b) = c ≡ d → (ch : Chan) → get m c ≡ Some ch → Bears a b ch
BearsNeed m need other = Unit {0}

-- each of two needs bears the other before it, and one sends beside no other writer
pub record ArePaired (m : Chans) (need other : Need) : Type 0 where
  pub first : BearsNeed m need other
  pub second : BearsNeed m other need
  pub lone : IsLone m need ⊎ IsLone m other

-- who looks at the channel of a port that is discarded has something to tell
abbrev pub BearsDiscard : Chans → PortValue → Need → Type 0
BearsDiscard m x = OfEvent (λ c a. channel_of x ≡ c → (ch : Chan) → get m c ≡ Some ch → IsToldEvent a ch)

pub told_bears_discard : (m : Chans) (x : PortValue) (need : Need) → IsTold m need → BearsDiscard m x need
told_bears_discard m x Nothing told = tt
told_bears_discard m x (New n w) told = tt
told_bears_discard m x (Children b n) told = tt
told_bears_discard m x (Event c a) told = λ e. told

pub sure_need_told : (m : Chans) (need : Need) → IsSureNeed need → IsTold m need
sure_need_told m Nothing sure = tt
sure_need_told m (New n w) sure = tt
sure_need_told m (Children b n) sure = tt
sure_need_told m (Event c a) sure = λ ch is. sure_told a ch sure

pub told_bears : (m : Chans) (need other : Need) → IsTold m need → BearsNeed m need other
told_bears m Nothing other told = tt
told_bears m (New n w) other told = tt
told_bears m (Children b n) other told = tt
told_bears m (Event c a) Nothing told = tt
told_bears m (Event c a) (New n w) told = tt
told_bears m (Event c a) (Children b n) told = tt
told_bears m (Event c a) (Event d b) told = λ e ch is. told_event_bears a b ch (told ch is)

-- where the second leaves the first the reply
abbrev pub IsCalm : Chans → Need → Need → Type 0
IsCalm m (Event c a) (Event d b) = c ≡ d → (ch : Chan) → get m c ≡ Some ch → Calm a b ch
IsCalm m need other = Unit {0}

-- two needs at one channel commute
abbrev pub Commutes : Chans → Need → Need → Type 0
Commutes m (Event c a) (Event d b) = c ≡ d → (ch : Chan) → get m c ≡ Some ch → changed a (changed b ch) ≡ changed b (changed a ch)
Commutes m need other = Unit {0}

other_maker : (p q : Place) (j k : ℕ) → (p ≢ q) → name_of q k ≢ name_of p j
other_maker p q j k n e = n (sym (ap (λ (c : ChanName). c.maker) e))

pub chans_swap : (m : Chans) (p q : Place) (need other : Need) → (p ≢ q) → Ready m p need → Ready m q other → Commutes m need other
    → chans_after p need (chans_after q other m) ≡ chans_after q other (chans_after p need m)
chans_swap m p q Nothing other n r s x = refl
chans_swap m p q (Children b k) other n r s x = refl
chans_swap m p q (Event c a) Nothing n r s x = refl
chans_swap m p q (Event c a) (Event d b) n r s x = adjust_swap channel_order m c d (changed a) (changed b) x
chans_swap m p q (Event c a) (New k w) n r s x = adjust_past_insert channel_order m c (name_of q k) (changed a) (fresh w) (absent (get m) c (name_of q k) r.0 r.1 s)
chans_swap m p q (Event c a) (Children b k) n r s x = refl
chans_swap m p q (New j v) Nothing n r s x = refl
chans_swap m p q (New j v) (Event d b) n r s x = sym (adjust_past_insert channel_order m d (name_of p j) (changed b) (fresh v) (absent (get m) d (name_of p j) s.0 s.1 r))
chans_swap m p q (New j v) (New k w) n r s x = insert_swap channel_order m (name_of q k) (name_of p j) (fresh w) (fresh v) (other_maker p q j k n)
chans_swap m p q (New j v) (Children b k) n r s x = refl

-- the event is still ready after what another process needs
pub ready_after : (m : Chans) (p q : Place) (c : ChanName) (a : ChannelOp) (other : Need) → Ready m p (Event c a) → Ready m q other → IsReadyLater m (Event c a) other → Ready (chans_after q other m) p (Event c a)
ready_after m p q c a Nothing r s x = r
ready_after m p q c a (Children b n) r s x = r
ready_after m p q c a (New n w) r s x = (r.0, insert_there channel_order m (name_of q n) (fresh w) c (absent (get m) c (name_of q n) r.0 r.1 s) ∙ r.1, r.2)
ready_after m p q c a (Event d b) r s x = elim (decide channel_order c d) [
  | no n ↦ (r.0, adjust_there channel_order m d (changed b) c n ∙ r.1, r.2)
  | yes e ↦ (changed b r.0, adjust_at m d c (changed b) e ∙ ap (option_map (changed b)) r.1, x e r.0 r.1 r.2)
]

-- the channel of an event after what another process needs: as before, as far as the event goes
pub record Left (Proc : Type 0) (m later : Chans) (c : ChanName) (a : ChannelOp) : Type 0 where
  pub served_same : served_at {Proc = Proc} a (get later c) ≡ served_at a (get m c)
  pub spilt_same : spills_at a (get later c) ≡ spills_at a (get m c)

-- a reply by its parts
pub reply_same : {Proc : Type 0} {t u : Bool} {g h : Option Message} {j k v w : Bool} → t ≡ u → g ≡ h → j ≡ k → v ≡ w
    → ◌≡◌ {A = Option (Reply Proc)} (cond t (Some (record { message = g; exceeds = j; waits = v; children = [] })) None) (cond u (Some (record { message = h; exceeds = k; waits = w; children = [] })) None)
reply_same e f x k = λ i. cond (e i) (Some (record { message = f i; exceeds = x i; waits = k i; children = [] })) None

unmoved : {Proc : Type 0} (m later : Chans) (c : ChanName) (a : ChannelOp) → get later c ≡ get m c → Left Proc m later c a
unmoved m later c a e = record { served_same = ap (served_at a) e; spilt_same = ap (spills_at a) e }

pub left : {Proc : Type 0} (m : Chans) (p q : Place) (c : ChanName) (a : ChannelOp) (other : Need) → Ready m p (Event c a) → Ready m q other → IsCalm m (Event c a) other → Left Proc m (chans_after q other m) c a
left m p q c a Nothing r s x = unmoved m m c a refl
left m p q c a (Children b n) r s x = unmoved m m c a refl
left m p q c a (New n w) r s x = unmoved m _ c a (insert_there channel_order m (name_of q n) (fresh w) c (absent (get m) c (name_of q n) r.0 r.1 s))
left {Proc} m p q c a (Event d b) r s x = elim (decide channel_order c d) [
  | no n ↦ unmoved m _ c a (adjust_there channel_order m d (changed b) c n)
  | yes e ↦ met e
]
  where
    met : c ≡ d → Left Proc m (adjust m d (changed b)) c a
    met e =
        let w = x e r.0 r.1 in
        let later : get (adjust m d (changed b)) c ≡ Some (changed b r.0) = adjust_at m d c (changed b) e ∙ ap (option_map (changed b)) r.1 in
        record {
          served_same = ap (served_at {Proc = Proc} a) later ∙ reply_same (w.ready_a ∙ sym r.2) w.gives_a w.exceeds_a w.tells_a ∙ ap (served_at a) (sym r.1);
          spilt_same = ap (spills_at a) later ∙ w.spills_a ∙ ap (spills_at a) (sym r.1);
        }

module _ {Proc : Type 0} where
  -- who is ready is served
  pub ready_serves : (m : Chans) (p : Place) (c : ChanName) (a : ChannelOp) → Ready m p (Event c a) → (r : Reply Proc) × (served_at a (get m c) ≡ Some r)
  ready_serves m p c a r = (
    reply_at a r.0,
    ap (served_at a) r.1 ∙ ap (λ t. cond t (Some (reply_at a r.0)) None) r.2,
  )

  pub served_event : (a : ChannelOp) (o : Option Chan) (r : Reply Proc) → served_at a o ≡ Some r → (ch : Chan) × (o ≡ Some ch) × (is_ready a ch ≡ true) × (r ≡ reply_at a ch)
  served_event a None r e = absurd (cc)
  served_event a (Some ch) r e = go (is_ready a ch) refl e
    where
      go : (b : Bool) → is_ready a ch ≡ b → cond b (Some (reply_at a ch)) None ≡ Some r → (v : Chan) × (Some ch ≡ Some v) × (is_ready a v ≡ true) × (r ≡ reply_at a v)
      go true can e' = (ch, refl, can, sym (same_reply (reply_at a ch) r e'))
        where
          same_reply : (u v : Reply Proc) → Some u ≡ Some v → u ≡ v
          same_reply u v h = cc
      go false can e' = absurd (cc e')
