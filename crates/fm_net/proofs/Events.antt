-- Two events at one channel by different ports, an event beside a discard, and two discards.
use Rattle.std.proofs.Common.{◌≡◌, ◌≢◌, ℕ, ◌+◌, ◌≤◌, Option, Some, None, List, [], ◌∷◌, ◌++◌, Bool, true, false, cond, not, option_map, refl, sym, ap, ◌∙◌, subst, arith}
use Rattle.std.specs.FinMap.{get}
use Rattle.fm_base.specs.declared.path.ChanName.{ChanName}
use Rattle.fm_base.specs.declared.port.PortValue.{PortValue}
use Rattle.fm_base.specs.declared.port.PortValue.TheVariants.{Writer, Reader}
use Rattle.fm_base.specs.Channels.{Message, message_ports, Chan, Chans, ChannelOp, Limits, fits_limits, Push, Pop, Look, can_pop, is_ready, changed, gives, exceeds, tells, spills, queue_ports, channel_of, discarded, freed, without}
use Rattle.fm_finmap.proofs.Keys.{decide}
use Rattle.fm_finmap.proofs.Adjusts.{adjust_there}
use Rattle.fm_net.specs.Owned.{count, has, open_at}
use Rattle.fm_net.specs.Lawful.{port_of, Brings}
use Rattle.fm_net.specs.Plain.{IsSure}
use Rattle.fm_net.specs.Lone.{IsLoneEvent, IsToldEvent}
use Rattle.fm_net.proofs.Keys.{channel_order}
use Rattle.fm_net.proofs.Counts.{closed, count-nil, count-append, queue_ports-append, without_swap, adjust_at}

-- ---- events beside discards

can_pop_more : (ms : List Message) (w : ℕ) (ws : List ℕ) → can_pop ms ws ≡ true → can_pop ms (without w ws) ≡ true
can_pop_more [] w [] h = refl
can_pop_more [] w (v ∷ ws) h = absurd (cc)
can_pop_more (m ∷ ms) w ws h = refl

-- the event a at its channel after x is discarded: as before, and what goes loose is the same in all
pub record Beside (a : ChannelOp) (x : PortValue) (ch later : Chan) (before after : Option Chan) : Type 0 where
  pub can : is_ready a later ≡ true
  pub same : gives a later ≡ gives a ch
  pub more : exceeds a later ≡ exceeds a ch
  pub told : tells a later ≡ tells a ch
  pub even : (z : PortValue) → count z (freed x before) + count z (spills a later) ≡ count z (spills a ch) + count z (freed x after)

reader_open : (b : Bool) → 1 ≤ cond b 1 0 → b ≡ true
reader_open true h = refl
reader_open false h = absurd (omega arith)

-- a discard leaves an event ready
pub ready_beside : (c : ChanName) (a : ChannelOp) (x : PortValue) (ch : Chan) → (x ≢ port_of c a) → channel_of x ≡ c → is_ready a ch ≡ true → is_ready a (discarded x ch) ≡ true
ready_beside c (Push w m) (Writer d v) ch off e can = refl
ready_beside c (Push w m) (Reader d) ch off e can = refl
ready_beside c (Pop l) (Writer d v) ch off e can = can_pop_more ch.queue v ch.writers can
ready_beside c (Pop l) (Reader d) ch off e can = absurd (off (ap Reader e))
ready_beside c Look (Writer d v) ch off e can = refl
ready_beside c Look (Reader d) ch off e can = refl

-- an event that doesn't look is told
pub sure_told : (a : ChannelOp) (ch : Chan) → IsSure a → IsToldEvent a ch
sure_told (Push w m) ch sure = tt
sure_told (Pop l) ch sure = tt
sure_told Look ch sure = absurd sure

pub beside : (c : ChanName) (a : ChannelOp) (x : PortValue) (ch : Chan) → IsToldEvent a ch → (x ≢ port_of c a) → channel_of x ≡ c → 1 ≤ open_at x (Some ch) → is_ready a ch ≡ true
    → Beside a x ch (discarded x ch) (Some ch) (Some (changed a ch))
unfolding open_at
beside c (Push w m) (Writer d v) ch told off e h can = record { can = refl; same = refl; more = refl; told = refl; even = λ z. omega (arith, count-nil z) }
beside c (Push w m) (Reader d) ch told off e h can =
    let lives : ch.lives ≡ true = reader_open ch.lives h in
    record {
      can = refl;
      same = refl;
      more = refl;
      told = refl;
      even = λ z. subst (λ b. count z (queue_ports ch.queue) + count z (message_ports m) ≡ count z (cond b [] (message_ports m)) + count z (queue_ports (cond b (ch.queue ++ m ∷ []) ch.queue))) (sym lives)
          (omega (arith, ap (count z) (queue_ports-append ch.queue (m ∷ [])), count-append z (queue_ports ch.queue) (message_ports m ++ []), count-append z (message_ports m) [], count-nil z));
    }
beside c (Pop l) (Writer d v) ch told off e h can = record { can = can_pop_more ch.queue v ch.writers can; same = refl; more = refl; told = refl; even = λ z. omega (arith, count-nil z) }
beside c (Pop l) (Reader d) ch told off e h can = absurd (off (ap Reader e))
beside c Look (Writer d v) ch told off e h can = record {
  can = refl;
  same = refl;
  more = refl;
  told = ap not (ready_beside c (Pop []) (Writer d v) ch (λ w. cc) e told ∙ sym told);
  even = λ z. omega (arith, count-nil z);
}
beside c Look (Reader d) ch told off e h can = absurd (off (ap Reader e))

pub beside_swap : (a : ChannelOp) (x : PortValue) (ch : Chan) → changed a (discarded x ch) ≡ discarded x (changed a ch)
beside_swap (Push w m) (Writer d v) ch = refl
beside_swap (Push w m) (Reader d) ch = refl
beside_swap (Pop l) (Writer d v) ch = refl
beside_swap (Pop l) (Reader d) ch = refl
beside_swap Look (Writer d v) ch = refl
beside_swap Look (Reader d) ch = refl

-- ---- two events at one channel

pub record Cross (a b : ChannelOp) (ch : Chan) : Type 0 where
  pub ready_a : is_ready a (changed b ch) ≡ true
  pub ready_b : is_ready b (changed a ch) ≡ true
  pub one_chan : changed a (changed b ch) ≡ changed b (changed a ch)
  pub gives_a : gives a (changed b ch) ≡ gives a ch
  pub gives_b : gives b (changed a ch) ≡ gives b ch
  pub exceeds_a : exceeds a (changed b ch) ≡ exceeds a ch
  pub tells_a : tells a (changed b ch) ≡ tells a ch
  pub exceeds_b : exceeds b (changed a ch) ≡ exceeds b ch
  pub tells_b : tells b (changed a ch) ≡ tells b ch
  pub spills_a : spills a (changed b ch) ≡ spills a ch
  pub spills_b : spills b (changed a ch) ≡ spills b ch

pub turn : (a b : ChannelOp) (ch : Chan) → Cross a b ch → Cross b a ch
turn a b ch x = record { ready_a = x.ready_b; ready_b = x.ready_a; one_chan = sym x.one_chan; gives_a = x.gives_b; gives_b = x.gives_a; exceeds_a = x.exceeds_b; exceeds_b = x.exceeds_a; tells_a = x.tells_b; tells_b = x.tells_a; spills_a = x.spills_b; spills_b = x.spills_a }

-- the queue where a message is put last and the first one is taken, if it fits
push_behind : (fits : Bool) (x : Message) (ms : List Message) (m : Message) → cond fits ms (x ∷ ms) ++ m ∷ [] ≡ cond fits (ms ++ m ∷ []) (x ∷ ms ++ m ∷ [])
push_behind true x ms m = refl
push_behind false x ms m = refl

pub push_pop : (w : ℕ) (m : Message) (l : Limits) (ms : List Message) (ws : List ℕ) (lives : Bool) → can_pop ms ws ≡ true → has w ws ≡ true → Cross (Push w m) (Pop l) (record { queue = ms; writers = ws; lives = lives })
push_pop w m l [] [] lives can h = absurd (cc)
push_pop w m l [] (v ∷ ws) lives can h = absurd (cc)
push_pop w m l (x ∷ ms) ws true can h = record {
  ready_a = refl;
  ready_b = refl;
  one_chan = λ i. record { queue = push_behind (fits_limits l x) x ms m i; writers = ws; lives = true };
  gives_a = refl;
  gives_b = refl;
  exceeds_a = refl;
  exceeds_b = refl;
  tells_a = refl;
  tells_b = refl;
  spills_a = refl;
  spills_b = refl;
}
push_pop w m l (x ∷ ms) ws false can h = record { ready_a = refl; ready_b = refl; one_chan = refl; gives_a = refl; gives_b = refl; exceeds_a = refl; exceeds_b = refl; tells_a = refl; tells_b = refl; spills_a = refl; spills_b = refl }

pub has_open : (c : ChanName) (w : ℕ) (ch : Chan) → 1 ≤ open_at (Writer c w) (Some ch) → has w ch.writers ≡ true
unfolding open_at
has_open c w ch h = reader_open (has w ch.writers) h

-- a after b at one channel is still ready, whatever they are and however many writers the channel has
pub ready_later : (c : ChanName) (a b : ChannelOp) (ch : Chan) → (port_of c a ≢ port_of c b) → 1 ≤ open_at (port_of c b) (Some ch) → is_ready a ch ≡ true → is_ready a (changed b ch) ≡ true
ready_later c (Push w m) b ch apart j r = refl
ready_later c Look b ch apart j r = refl
ready_later c (Pop l) (Push v n) ch apart j r = (push_pop v n l ch.queue ch.writers ch.lives r (has_open c v ch j)).ready_b
ready_later c (Pop l) (Pop k) ch apart j r = absurd (apart refl)
ready_later c (Pop l) Look ch apart j r = r

-- where the first looks and the second sends, there is something to tell
abbrev pub Bears : ChannelOp → ChannelOp → Chan → Type 0
Bears (Push w m) b ch = Unit {0}
Bears (Pop l) b ch = Unit {0}
Bears Look (Push v n) ch = can_pop ch.queue ch.writers ≡ true
Bears Look (Pop l) ch = Unit {0}
Bears Look Look ch = Unit {0}

pub told_event_bears : (a b : ChannelOp) (ch : Chan) → IsToldEvent a ch → Bears a b ch
told_event_bears (Push w m) b ch told = tt
told_event_bears (Pop l) b ch told = tt
told_event_bears Look (Push v n) ch told = told
told_event_bears Look (Pop l) ch told = tt
told_event_bears Look Look ch told = tt

-- an event that bears the other before it has the same reply then. Here too a channel may have more writers
pub record Calm (a b : ChannelOp) (ch : Chan) : Type 0 where
  pub ready_a : is_ready a (changed b ch) ≡ true
  pub gives_a : gives a (changed b ch) ≡ gives a ch
  pub exceeds_a : exceeds a (changed b ch) ≡ exceeds a ch
  pub tells_a : tells a (changed b ch) ≡ tells a ch
  pub spills_a : spills a (changed b ch) ≡ spills a ch

pub calm : (c : ChanName) (a b : ChannelOp) (ch : Chan) → Bears a b ch → (port_of c a ≢ port_of c b) → 1 ≤ open_at (port_of c b) (Some ch) → is_ready a ch ≡ true → Calm a b ch
calm c (Push w m) (Push v n) ch bears apart j r = record { ready_a = refl; gives_a = refl; exceeds_a = refl; tells_a = refl; spills_a = refl }
calm c (Push w m) (Pop l) ch bears apart j r = record { ready_a = refl; gives_a = refl; exceeds_a = refl; tells_a = refl; spills_a = refl }
calm c (Push w m) Look ch bears apart j r = record { ready_a = refl; gives_a = refl; exceeds_a = refl; tells_a = refl; spills_a = refl }
calm c (Pop l) (Push v n) ch bears apart j r = let x = push_pop v n l ch.queue ch.writers ch.lives r (has_open c v ch j) in record { ready_a = x.ready_b; gives_a = x.gives_b; exceeds_a = x.exceeds_b; tells_a = x.tells_b; spills_a = x.spills_b }
calm c (Pop l) (Pop k) ch bears apart j r = absurd (apart refl)
calm c (Pop l) Look ch bears apart j r = absurd (apart refl)
calm c Look (Push v n) ch bears apart j r =
    let x = push_pop v n [] ch.queue ch.writers ch.lives bears (has_open c v ch j) in
    record { ready_a = refl; gives_a = refl; exceeds_a = refl; tells_a = ap not (x.ready_b ∙ sym bears); spills_a = refl }
calm c Look (Pop l) ch bears apart j r = absurd (apart refl)
calm c Look Look ch bears apart j r = absurd (apart refl)

-- and a lone event and another one leave one channel in both orders
pub crosses : (m : Chans) (c : ChanName) (a b : ChannelOp) (ch : Chan) → (port_of c a ≢ port_of c b) → get m c ≡ Some ch → IsLoneEvent m c a
    → 1 ≤ open_at (port_of c a) (Some ch) → 1 ≤ open_at (port_of c b) (Some ch) → is_ready a ch ≡ true → is_ready b ch ≡ true → changed a (changed b ch) ≡ changed b (changed a ch)
crosses m c (Push w x) (Push v y) ch apart is lone i j r t = absurd (apart (ap (Writer c) (sym (lone v (subst (λ o. 1 ≤ open_at (Writer c v) o) (sym is) j)))))
crosses m c (Push w x) (Pop l) ch apart is lone i j r t = (push_pop w x l ch.queue ch.writers ch.lives t (has_open c w ch i)).one_chan
crosses m c (Push w x) Look ch apart is lone i j r t = refl
crosses m c (Pop l) (Push v y) ch apart is lone i j r t = (turn _ _ _ (push_pop v y l ch.queue ch.writers ch.lives r (has_open c v ch j))).one_chan
crosses m c (Pop l) (Pop k) ch apart is lone i j r t = absurd (apart refl)
crosses m c (Pop l) Look ch apart is lone i j r t = refl
crosses m c Look b ch apart is lone i j r t = refl

-- ---- two discards

freed_other : (x y : PortValue) (ch : Chan) → (x ≢ y) → channel_of x ≡ channel_of y → freed x (Some (discarded y ch)) ≡ freed x (Some ch)
freed_other (Writer c w) y ch n e = refl
freed_other (Reader c) (Writer d v) ch n e = refl
freed_other (Reader c) (Reader d) ch n e = absurd (n (ap Reader e))

freed_later : (x y : PortValue) (o : Option Chan) → (x ≢ y) → channel_of x ≡ channel_of y → freed x (option_map (discarded y) o) ≡ freed x o
freed_later x y None n e = refl
freed_later x y (Some ch) n e = freed_other x y ch n e

pub freed_same : (m : Chans) (x y : PortValue) → (x ≢ y) → freed x (get (closed y m) (channel_of x)) ≡ freed x (get m (channel_of x))
freed_same m x y n = elim (decide channel_order (channel_of x) (channel_of y)) [
  | yes e ↦ ap (freed x) (adjust_at m (channel_of y) (channel_of x) (discarded y) e) ∙ freed_later x y (get m (channel_of x)) n e
  | no off ↦ ap (freed x) (adjust_there channel_order m (channel_of y) (discarded y) (channel_of x) off)
]

pub discarded_swap : (x y : PortValue) (ch : Chan) → discarded x (discarded y ch) ≡ discarded y (discarded x ch)
discarded_swap (Writer c w) (Writer d v) ch = λ i. record ch { writers = without_swap w v ch.writers i }
discarded_swap (Writer c w) (Reader d) ch = refl
discarded_swap (Reader c) (Writer d v) ch = refl
discarded_swap (Reader c) (Reader d) ch = refl

pub brings : (a : ChannelOp) (ch : Chan) → Brings a (gives a ch)
brings (Push w m) ch = refl
brings (Pop l) ch = tt
brings Look ch = refl

pub same_some : (u v : Chan) (o : Option Chan) → o ≡ Some u → o ≡ Some v → u ≡ v
same_some u v o e f = cc
