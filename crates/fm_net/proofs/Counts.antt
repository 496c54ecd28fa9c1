-- How often a port stands in lists and queues, and whether it is open at its channel.
use Rattle.std.proofs.Common.{◌≡◌, ◌≢◌, ℕ, ◌+◌, ◌≤◌, Option, Some, None, List, [], ◌∷◌, ◌++◌, Bool, true, false, cond, not, ◌==◌, ◌&&◌, option_map, refl, sym, ap, ap₂, ◌∙◌, subst, arith, eqb-true, eq-eqb}
use Rattle.std.proofs.lemmas.Grind.{flat_map-append}
use Rattle.std.specs.FinMap.{get}
use Rattle.fm_base.specs.declared.path.ChanName.{ChanName}
use Rattle.fm_base.specs.declared.port.PortValue.{PortValue}
use Rattle.fm_base.specs.declared.port.PortValue.TheVariants.{Writer, Reader}
use Rattle.fm_base.specs.Channels.{Message, message_ports, Chan, Chans, ChannelOp, Limits, fits_limits, Push, Pop, Look, changed, gives, spills, queue_ports, channel_of, discarded, freed, behind_first, first_message, without, shut, shut_at}
use Rattle.fm_finmap.specs.Changes.{adjust, adjust_found}
use Rattle.fm_finmap.specs.Sums.{total, value_or_zero}
use Rattle.fm_finmap.proofs.Keys.{tie, tie_self, decide}
use Rattle.fm_finmap.proofs.Adjusts.{adjust_here, adjust_there}
use Rattle.fm_finmap.proofs.Sums.{total-adjust}
use Rattle.fm_net.specs.Owned.{same_port, queued, has, opened}
use Rattle.fm_net.specs.Owned.{one, count, open_at}
use Rattle.fm_net.specs.Lawful.{sent_ports, got}
use Rattle.fm_net.proofs.Keys.{channel_order}

-- ---- equal ports

and_true : (a b : Bool) → a && b ≡ true → (a ≡ true) × (b ≡ true)
and_true true b e = (refl, e)
and_true false b e = absurd (cc)

both_true : (a b : Bool) → a ≡ true → b ≡ true → a && b ≡ true
both_true true b e h = h
both_true false b e h = e

pub port_tie : (x y : PortValue) → same_port x y ≡ true → x ≡ y
port_tie (Writer c w) (Writer d v) e = let h = and_true _ _ e in ap₂ Writer (tie channel_order c d h.0) (eqb-true w v h.1)
port_tie (Writer c w) (Reader d) e = absurd (cc)
port_tie (Reader c) (Writer d v) e = absurd (cc)
port_tie (Reader c) (Reader d) e = ap Reader (tie channel_order c d e)

pub port_self : (x : PortValue) → same_port x x ≡ true
port_self (Writer c w) = both_true _ _ (tie_self channel_order c) (eq-eqb w w refl)
port_self (Reader c) = tie_self channel_order c

pub port_decide : (x y : PortValue) → Dec (x ≡ y)
port_decide x y = go (same_port x y) refl
  where
    go : (b : Bool) → same_port x y ≡ b → Dec (x ≡ y)
    go true e = yes (port_tie x y e)
    go false e = no (λ p. cc (sym e ∙ ap (same_port x) (sym p) ∙ port_self x))

pub one_self : (x : PortValue) → one x x ≡ 1
unfolding one
one_self x = ap (λ b. cond b 1 0) (port_self x)

pub one_apart : (x y : PortValue) → (x ≢ y) → one x y ≡ 0
unfolding one
one_apart x y n = go (same_port x y) refl
  where
    go : (b : Bool) → same_port x y ≡ b → ◌≡◌ {A = ℕ} (cond b 1 0) 0
    go true e = absurd (n (port_tie x y e))
    go false e = refl

pub one_small : (x y : PortValue) → one x y ≤ 1
unfolding one
one_small x y = elim (same_port x y) as (λ b. cond b 1 0 ≤ 1) [ true ↦ omega arith | false ↦ omega arith ]

-- what is at least 1 at x is at least `one x y` at y
pub one_below : (f : PortValue → ℕ) (x y : PortValue) → 1 ≤ f x → one x y ≤ f y
one_below f x y h = elim (port_decide x y) [
  | yes e ↦ subst (λ z. one x z ≤ f z) e (omega (arith, one_self x))
  | no n ↦ omega (arith, one_apart x y n)
]

pub one_once : (x y z : PortValue) → (x ≢ y) → one x z + one y z ≤ 1
one_once x y z n = elim (port_decide x z) [
  | yes e ↦ elim (port_decide y z) [
    | yes h ↦ absurd (n (e ∙ sym h))
    | no h ↦ omega (arith, one_small x z, one_apart y z h)
  ]
  | no m ↦ omega (arith, one_small y z, one_apart x z m)
]

-- ---- ports in lists

pub count-nil : (x : PortValue) → count x [] ≡ 0
unfolding count
count-nil x = refl

pub count-cons : (x y : PortValue) (ys : List PortValue) → count x (y ∷ ys) ≡ one y x + count x ys
unfolding count
count-cons x y ys = refl

pub count-append : (x : PortValue) (ys zs : List PortValue) → count x (ys ++ zs) ≡ count x ys + count x zs
unfolding count
count-append x [] zs = omega arith
count-append x (y ∷ ys) zs = omega (arith, count-append x ys zs)

pub queue_ports-append : (ms ns : List Message) → queue_ports (ms ++ ns) ≡ queue_ports ms ++ queue_ports ns
queue_ports-append ms ns = flat_map-append message_ports ms ns

-- ---- open ports

number_off : (v w : ℕ) → v == w ≡ false → v ≢ w
number_off v w e h = cc (sym e ∙ ap (λ z. v == z) (sym h) ∙ eq-eqb v v refl)

has-without : (v w : ℕ) (ws : List ℕ) → has v (without w ws) ≡ cond (v == w) false (has v ws)
has-without v w [] = elim (v == w) as (λ b. false ≡ cond b false false) [ true ↦ refl | false ↦ refl ]
has-without v w (u ∷ us) = go (u == w) (v == u) (v == w) refl refl refl (has-without v w us)
  where
    go : (a b c : Bool) → u == w ≡ a → v == u ≡ b → v == w ≡ c → has v (without w us) ≡ cond c false (has v us)
        → has v (cond (not a) (u ∷ without w us) (without w us)) ≡ cond c false (cond b true (has v us))
    go true true true p q r h = h
    go true true false p q r h = absurd (number_off v w r (eqb-true v u q ∙ eqb-true u w p))
    go true false c p q r h = h
    go false true true p q r h = absurd (number_off u w p (sym (eqb-true v u q) ∙ eqb-true v w r))
    go false true false p q r h = ap (λ b. cond b true (has v (without w us))) q
    go false false c p q r h = ap (λ b. cond b true (has v (without w us))) q ∙ h

pub without_swap : (v w : ℕ) (us : List ℕ) → without v (without w us) ≡ without w (without v us)
without_swap v w [] = refl
without_swap v w (u ∷ us) = go (u == v) (u == w) refl refl (without_swap v w us)
  where
    go : (a b : Bool) → u == v ≡ a → u == w ≡ b → without v (without w us) ≡ without w (without v us)
        → without v (cond (not b) (u ∷ without w us) (without w us)) ≡ without w (cond (not a) (u ∷ without v us) (without v us))
    go true true p q h = h
    go true false p q h = ap (λ a. cond (not a) (u ∷ without v (without w us)) (without v (without w us))) p ∙ h
    go false true p q h = h ∙ sym (ap (λ b. cond (not b) (u ∷ without w (without v us)) (without w (without v us))) q)
    go false false p q h = ap (λ a. cond (not a) (u ∷ without v (without w us)) (without v (without w us))) p ∙ ap (λ z. u ∷ z) h ∙ sym (ap (λ b. cond (not b) (u ∷ without w (without v us)) (without w (without v us))) q)

-- the channels without the port, as a change at one key
abbrev pub closed : PortValue → Chans → Chans
closed x m = adjust m (channel_of x) (discarded x)

pub shut-closed : (x : PortValue) (m : Chans) → shut x m ≡ closed x m
unfolding adjust
shut-closed x m = go (get m (channel_of x))
  where
    go : (o : Option Chan) → shut_at x m o ≡ adjust_found m (channel_of x) (discarded x) o
    go None = refl
    go (Some ch) = refl

pub opened_small : (x : PortValue) (o : Option Chan) → open_at x o ≤ 1
unfolding open_at
opened_small x None = omega arith
opened_small (Writer c w) (Some ch) = elim (has w ch.writers) as (λ b. cond b 1 0 ≤ 1) [ true ↦ omega arith | false ↦ omega arith ]
opened_small (Reader c) (Some ch) = elim ch.lives as (λ b. cond b 1 0 ≤ 1) [ true ↦ omega arith | false ↦ omega arith ]

-- the port's own channel, found under a name that is equal
pub adjust_at : (m : Chans) (k q : ChanName) (f : Chan → Chan) → q ≡ k → get (adjust m k f) q ≡ option_map f (get m q)
adjust_at m k q f e = ap (get (adjust m k f)) e ∙ adjust_here channel_order m k f ∙ ap (λ z. option_map f (get m z)) (sym e)

has_after : (v w : ℕ) (ws : List ℕ) (c d : ChanName) → d ≡ c → 1 ≤ open_at (Writer c w) (Some (record { queue = []; writers = ws; lives = true }))
    → cond (has v (without w ws)) 1 0 + one (Writer c w) (Writer d v) ≡ cond (has v ws) 1 0
unfolding open_at
has_after v w ws c d e h = go (v == w) refl
  where
    go : (b : Bool) → v == w ≡ b → cond (has v (without w ws)) 1 0 + one (Writer c w) (Writer d v) ≡ cond (has v ws) 1 0
    go true q =
        let same : v ≡ w = eqb-true v w q in
        let gone : has v (without w ws) ≡ false = has-without v w ws ∙ ap (λ b. cond b false (has v ws)) q in
        let here : one (Writer c w) (Writer d v) ≡ 1 = ap (one (Writer c w)) (ap₂ Writer e same) ∙ one_self (Writer c w) in
        let was : 1 ≤ cond (has v ws) 1 0 = subst (λ z. 1 ≤ cond (has z ws) 1 0) (sym same) h in
        let off : ◌≡◌ {A = ℕ} (cond (has v (without w ws)) 1 0) 0 = ap (λ b. cond b 1 0) gone in
        let most : cond (has v ws) 1 0 ≤ 1 = elim (has v ws) as (λ b. cond b 1 0 ≤ 1) [ true ↦ omega arith | false ↦ omega arith ] in
        omega arith
    go false q =
        let stays : has v (without w ws) ≡ has v ws = has-without v w ws ∙ ap (λ b. cond b false (has v ws)) q in
        let off : one (Writer c w) (Writer d v) ≡ 0 = one_apart _ _ (λ h. number_off v w q (cc)) in
        let same : ◌≡◌ {A = ℕ} (cond (has v (without w ws)) 1 0) (cond (has v ws) 1 0) = ap (λ b. cond b 1 0) stays in
        omega arith

reader_after : (b : Bool) (n : ℕ) → 1 ≤ cond b 1 0 → n ≡ 1 → 0 + n ≡ cond b 1 0
reader_after true n h e = omega arith
reader_after false n h e = absurd (omega arith)

opened_at : (x y : PortValue) (o : Option Chan) → channel_of y ≡ channel_of x → 1 ≤ open_at x o → open_at y (option_map (discarded x) o) + one x y ≡ open_at y o
unfolding open_at
opened_at x y None e h = absurd (omega arith)
opened_at (Writer c w) (Writer d v) (Some ch) e h = has_after v w ch.writers c d e h
opened_at (Writer c w) (Reader d) (Some ch) e h = omega (arith, one_apart (Writer c w) (Reader d) (λ z. cc))
opened_at (Reader c) (Writer d v) (Some ch) e h = omega (arith, one_apart (Reader c) (Writer d v) (λ z. cc))
opened_at (Reader c) (Reader d) (Some ch) e h = reader_after ch.lives _ h (ap (λ z. one (Reader c) (Reader z)) e ∙ one_self (Reader c))

-- a port that is discarded is open no more, and no other port is touched
pub opened_shut : (m : Chans) (x y : PortValue) → 1 ≤ opened m x → opened (closed x m) y + one x y ≡ opened m y
opened_shut m x y h = elim (decide channel_order (channel_of y) (channel_of x)) [
  | yes e ↦ ap (λ o. open_at y o + one x y) (adjust_at m (channel_of x) (channel_of y) (discarded x) e)
      ∙ opened_at x y (get m (channel_of y)) e (subst (λ z. 1 ≤ open_at x (get m z)) (sym e) h)
  | no n ↦
      let same : opened (closed x m) y ≡ opened m y = ap (open_at y) (adjust_there channel_order m (channel_of x) (discarded x) (channel_of y) n) in
      let off : one x y ≡ 0 = one_apart x y (λ e. n (ap channel_of (sym e))) in
      omega arith
]

opened_same : (a : ChannelOp) (y : PortValue) (o : Option Chan) → open_at y (option_map (changed a) o) ≡ open_at y o
unfolding open_at
opened_same a y None = refl
opened_same (Push w m) (Writer d v) (Some ch) = refl
opened_same (Push w m) (Reader d) (Some ch) = refl
opened_same (Pop l) (Writer d v) (Some ch) = refl
opened_same (Pop l) (Reader d) (Some ch) = refl
opened_same Look (Writer d v) (Some ch) = refl
opened_same Look (Reader d) (Some ch) = refl

-- an event closes nothing
pub opened_changed : (m : Chans) (c : ChanName) (a : ChannelOp) (y : PortValue) → opened (adjust m c (changed a)) y ≡ opened m y
opened_changed m c a y = elim (decide channel_order (channel_of y) c) [
  | yes e ↦ ap (open_at y) (adjust_at m c (channel_of y) (changed a) e) ∙ opened_same a y (get m (channel_of y))
  | no n ↦ ap (open_at y) (adjust_there channel_order m c (changed a) (channel_of y) n)
]

-- ---- how often a port stands in queues

freed_count : (x y : PortValue) (o : Option Chan) → value_or_zero (queued y) o ≡ count y (freed x o) + value_or_zero (queued y) (option_map (discarded x) o)
freed_count x y None = omega (arith, count-nil y)
freed_count (Writer c w) y (Some ch) = omega (arith, count-nil y)
freed_count (Reader c) y (Some ch) = omega (arith, count-nil y)

-- what stood in the queue is freed
pub queued_shut : (m : Chans) (x y : PortValue) → total (queued y) (closed x m) + count y (freed x (get m (channel_of x))) ≡ total (queued y) m
queued_shut m x y = omega (arith, total-adjust channel_order (queued y) m (channel_of x) (discarded x), freed_count x y (get m (channel_of x)))

popped_count : (y : PortValue) (l : Limits) (ms : List Message) → count y (queue_ports (behind_first l ms)) + count y [] + count y (got (first_message l ms)) ≡ count y (queue_ports ms) + count y []
popped_count y l [] = omega (arith, count-nil y)
popped_count y l (m ∷ ms) = elim (fits_limits l m) as (λ b. count y (queue_ports (cond b ms (m ∷ ms))) + count y [] + count y (got (cond b (Some m) None)) ≡ count y (queue_ports (m ∷ ms)) + count y []) [
  | true ↦ omega (arith, count-append y (message_ports m) (queue_ports ms))
  | false ↦ omega (arith, count-nil y)
]

changed_count : (a : ChannelOp) (y : PortValue) (ch : Chan) → queued y (changed a ch) + count y (spills a ch) + count y (got (gives a ch)) ≡ queued y ch + count y (sent_ports a)
changed_count (Push w m) y ch = elim ch.lives as (λ b. count y (queue_ports (cond b (ch.queue ++ m ∷ []) ch.queue)) + count y (cond b [] (message_ports m)) + count y [] ≡ count y (queue_ports ch.queue) + count y (message_ports m)) [
  | true ↦ omega (arith, ap (count y) (queue_ports-append ch.queue (m ∷ [])), count-append y (queue_ports ch.queue) (message_ports m ++ []), count-append y (message_ports m) [], count-nil y)
  | false ↦ omega (arith, count-nil y)
]
changed_count (Pop l) y ch = popped_count y l ch.queue
changed_count Look y ch = omega (arith, count-nil y)

-- what an event gives and takes is what the queues take and give
pub queued_changed : (m : Chans) (c : ChanName) (a : ChannelOp) (ch : Chan) (y : PortValue) → get m c ≡ Some ch
    → total (queued y) (adjust m c (changed a)) + count y (spills a ch) + count y (got (gives a ch)) ≡ total (queued y) m + count y (sent_ports a)
queued_changed m c a ch y is =
    let all : total (queued y) (adjust m c (changed a)) + queued y ch ≡ total (queued y) m + queued y (changed a ch) =
    ap (λ o. total (queued y) (adjust m c (changed a)) + value_or_zero (queued y) o) (sym is) ∙ total-adjust channel_order (queued y) m c (changed a) ∙ ap (λ o. total (queued y) m + value_or_zero (queued y) (option_map (changed a) o)) is in
    omega (arith, changed_count a y ch)
