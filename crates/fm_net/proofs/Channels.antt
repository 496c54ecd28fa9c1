-- What a step does to the channels: which ports are open afterwards, and which stand in queues.
use Rattle.std.proofs.Common.{◌≡◌, ◌≢◌, ℕ, zero, suc, ◌+◌, ◌≤◌, ◌<◌, map, Option, Some, None, List, [], ◌∷◌, Bool, true, false, cond, ◌==◌, option_map, ◌⊎◌, inl, inr, refl, sym, ap, ap₂, ◌∙◌, subst, arith, eqb-true, eq-eqb}
use Rattle.std.specs.FinMap.{get, insert, get-insert}
use Rattle.std.specs.Ordering.{eq_by_cmp}
use Rattle.fm_base.specs.declared.path.ChanName.{ChanName}
use Rattle.fm_base.specs.declared.port.PortValue.{PortValue}
use Rattle.fm_base.specs.declared.port.PortValue.TheVariants.{Writer, Reader}
use Rattle.fm_base.specs.PathOrder.{channel_cmp}
use Rattle.fm_base.specs.Channels.{Chan, Chans, spills_at, fresh, numbers_from, changed, gives, channel_of, discarded}
use Rattle.fm_finmap.specs.Changes.{adjust}
use Rattle.fm_finmap.specs.Sums.{total, value_or_zero}
use Rattle.fm_finmap.proofs.Keys.{decide, tie}
use Rattle.fm_finmap.proofs.Inserts.{insert_here, insert_there}
use Rattle.fm_finmap.proofs.Adjusts.{get-adjust}
use Rattle.fm_finmap.proofs.Sums.{total-insert}
use Rattle.fm_net.specs.Machine.{Place, Procs, Need, Nothing, Event, New, Children, Reply, made, chans_after, spilt, reply_with, served}
use Rattle.fm_net.specs.Owned.{one, count, queued, has, open_at, opened, present, name_of}
use Rattle.fm_net.specs.Lawful.{Brings, MayBring, given_by, made_by, ports_from, got}
use Rattle.fm_net.specs.Plain.{IsSingle}
use Rattle.fm_net.proofs.Keys.{channel_order}
use Rattle.fm_net.proofs.Counts.{one_self, one_apart, count-nil, count-cons, opened_changed, queued_changed, port_decide}
use Rattle.fm_net.proofs.Events.{brings}
use Rattle.fm_net.proofs.Children.{served_children}
use Rattle.fm_net.proofs.Needs.{served_event}

-- ---- the ports of a channel that is made

not_below : (v i n : ℕ) → v < i → has v (numbers_from i n) ≡ false
not_below v i zero h = refl
not_below v i (suc n) h = go (v == i) refl (not_below v (suc i) n (omega arith))
  where
    go : (b : Bool) → v == i ≡ b → has v (numbers_from (suc i) n) ≡ false → cond b true (has v (numbers_from (suc i) n)) ≡ false
    go true e rest = absurd (omega (arith, eqb-true v i e))
    go false e rest = rest

number_of : {c d : ChanName} {v w : ℕ} → Writer c w ≡ Writer d v → v ≡ w
number_of h = cc

channel_was : {c d : ChanName} {v w : ℕ} → Writer c w ≡ Writer d v → d ≡ c
channel_was h = cc

-- each writer stands once among those of the channel
writers_once : (c e : ChanName) → e ≡ c → (v i n : ℕ) → count (Writer e v) (map (Writer c) (numbers_from i n)) ≡ cond (has v (numbers_from i n)) 1 0
writers_once c e same v i zero = count-nil (Writer e v)
writers_once c e same v i (suc n) = go (v == i) refl (writers_once c e same v (suc i) n)
  where
    go : (b : Bool) → v == i ≡ b → count (Writer e v) (map (Writer c) (numbers_from (suc i) n)) ≡ cond (has v (numbers_from (suc i) n)) 1 0 → count (Writer e v) (Writer c i ∷ map (Writer c) (numbers_from (suc i) n)) ≡ cond (cond b true (has v (numbers_from (suc i) n))) 1 0
    go true is more =
        let at : v ≡ i = eqb-true v i is in
        let here : one (Writer c i) (Writer e v) ≡ 1 = ap (one (Writer c i)) (ap₂ Writer same at) ∙ one_self (Writer c i) in
        let rest : ◌≡◌ {A = ℕ} (cond (has v (numbers_from (suc i) n)) 1 0) 0 = ap (λ b. cond b 1 0) (not_below v (suc i) n (omega arith)) in
        omega (arith, count-cons (Writer e v) (Writer c i) (map (Writer c) (numbers_from (suc i) n)))
    go false is more =
        let off : one (Writer c i) (Writer e v) ≡ 0 = one_apart _ _ (λ h. cc (sym is ∙ eq-eqb v i (number_of h))) in
        omega (arith, count-cons (Writer e v) (Writer c i) (map (Writer c) (numbers_from (suc i) n)))

no_writers : (z : PortValue) (c : ChanName) (ws : List ℕ) → ((w : ℕ) → Writer c w ≢ z) → count z (map (Writer c) ws) ≡ 0
no_writers z c [] off = count-nil z
no_writers z c (w ∷ ws) off = omega (arith, count-cons z (Writer c w) (map (Writer c) ws), one_apart (Writer c w) z (off w), no_writers z c ws off)

fresh_open : (n : ℕ) (d c : ChanName) → d ≡ c → (z : PortValue) → channel_of z ≡ d → open_at z (Some (fresh n)) ≡ count z (ports_from c n)
unfolding open_at
fresh_open n d c same (Reader e) at =
    let here : one (Reader c) (Reader e) ≡ 1 = ap (λ w. one (Reader c) (Reader w)) (at ∙ same) ∙ one_self (Reader c) in
    omega (arith, count-cons (Reader e) (Reader c) (map (Writer c) (numbers_from 0 n)), no_writers (Reader e) c (numbers_from 0 n) (λ w h. cc))
fresh_open n d c same (Writer e v) at =
    omega (arith, count-cons (Writer e v) (Reader c) (map (Writer c) (numbers_from 0 n)), one_apart (Reader c) (Writer e v) (λ h. cc), writers_once c e (at ∙ same) v 0 n)

fresh_other : (n : ℕ) (c : ChanName) (z : PortValue) → channel_of z ≢ c → count z (ports_from c n) ≡ 0
fresh_other n c z off =
    let b : one (Reader c) z ≡ 0 = one_apart _ _ (λ h. off (ap channel_of (sym h))) in
    omega (arith, count-cons z (Reader c) (map (Writer c) (numbers_from 0 n)), no_writers z c (numbers_from 0 n) (λ w h. off (ap channel_of (sym h))))

none_open : (z : PortValue) (o : Option Chan) → o ≡ None → open_at z o ≡ 0
unfolding open_at
none_open z None e = refl
none_open z (Some ch) e = absurd (cc)

opened_new : (m : Chans) (c : ChanName) (n : ℕ) (z : PortValue) → get m c ≡ None → opened (insert m c (fresh n)) z ≡ opened m z + count z (ports_from c n)
opened_new m c n z none = elim (decide channel_order (channel_of z) c) [
  | yes e ↦
      let state_after : opened (insert m c (fresh n)) z ≡ open_at z (Some (fresh n)) = ap (λ d. open_at z (get (insert m c (fresh n)) d)) e ∙ ap (open_at z) (insert_here channel_order m c (fresh n)) in
      let before : opened m z ≡ 0 = none_open z (get m (channel_of z)) (ap (get m) e ∙ none) in
      omega (arith, fresh_open n (channel_of z) c e z refl)
  | no off ↦ omega (arith, ap (open_at z) (insert_there channel_order m c (fresh n) (channel_of z) off), fresh_other n c z off)
]

-- what is open afterwards: as before, with the channel that is made
pub opened_after : (m : Chans) (p : Place) (need : Need) (z : PortValue) → ((n w : ℕ) → need ≡ New n w → get m (name_of p n) ≡ None) → opened (chans_after p need m) z ≡ opened m z + count z (made_by need (made p need))
opened_after m p Nothing z none = omega (arith, count-nil z)
opened_after m p (Event c a) z none = omega (arith, count-nil z, opened_changed m c a z)
opened_after m p (New n w) z none = opened_new m (name_of p n) w z (none n w refl)
opened_after m p (Children b n) z none = omega (arith, count-nil z)

pub queued_after : {Proc : Type 0} (has_ended : Proc → Bool) (procs : Procs Proc) (m : Chans) (p : Place) (need : Need) (r : Reply Proc) (z : PortValue) → served has_ended procs m p need ≡ Some r → ((n w : ℕ) → need ≡ New n w → get m (name_of p n) ≡ None)
    → (total (queued z) (chans_after p need m) + count z (spilt need m) + count z (got r.message) ≡ total (queued z) m + count z (given_by need)) × MayBring need r
queued_after {Proc} has_ended procs m p Nothing r z e none = let h : reply_with [] ≡ r = cc in (omega (arith, count-nil z, ap (λ (r : Reply Proc). count z (got r.message)) h), (sym (ap (λ (r : Reply Proc). r.message) h), sym (ap (λ (r : Reply Proc). r.children) h)))
queued_after {Proc} has_ended procs m p (New n w) r z e none =
    let h : reply_with [] ≡ r = cc in
    let gone : value_or_zero (queued z) (get m (name_of p n)) ≡ 0 = ap (value_or_zero (queued z)) (none n w refl) in
    (omega (arith, count-nil z, ap (λ (r : Reply Proc). count z (got r.message)) h, total-insert channel_order (queued z) m (name_of p n) (fresh w)), (sym (ap (λ (r : Reply Proc). r.message) h), sym (ap (λ (r : Reply Proc). r.children) h)))
queued_after {Proc} has_ended procs m p (Event c a) r z e none =
    let h = served_event a (get m c) r e in
    let same : r.message ≡ gives a h.0 = ap (λ (r : Reply Proc). r.message) h.3 in
    (omega (arith, queued_changed m c a h.0 z h.1, ap (λ o. count z (got o)) same, ap (λ o. count z (spills_at a o)) h.1), (subst (Brings a) (sym same) (brings a h.0), ap (λ (r : Reply Proc). r.children) h.3))
queued_after {Proc} has_ended procs m p (Children b n) r z e none =
    let k = served_children has_ended procs m p b n r e in
    (omega (arith, count-nil z, ap (λ (r : Reply Proc). count z (got r.message)) k.2), sym (ap (λ (r : Reply Proc). r.message) k.2))

pub present_after : (m : Chans) (p : Place) (need : Need) (d : ChanName) → 1 ≤ present (get (chans_after p need m) d) → (1 ≤ present (get m d)) ⊎ ((n : ℕ) × (w : ℕ) × (need ≡ New n w) × (d ≡ (name_of p n)))
present_after m p Nothing d h = inl h
present_after m p (Children b n) d h = inl h
present_after m p (Event c a) d h = go (eq_by_cmp channel_cmp d c) (get m d) (subst (λ o. 1 ≤ present o) (get-adjust channel_order m c (changed a) d) h)
  where
    go : (b : Bool) (o : Option Chan) → 1 ≤ present (cond b (option_map (changed a) o) o) → (1 ≤ present o) ⊎ ((n : ℕ) × (w : ℕ) × (Event c a ≡ New n w) × (d ≡ (name_of p n)))
    go true None h' = inl h'
    go true (Some ch) h' = inl h'
    go false o h' = inl h'
present_after m p (New n w) d h = go (eq_by_cmp channel_cmp d (name_of p n)) refl (subst (λ o. 1 ≤ present o) (get-insert channel_order.total m (name_of p n) (fresh w) d) h)
  where
    go : (b : Bool) → eq_by_cmp channel_cmp d (name_of p n) ≡ b → 1 ≤ present (cond b (Some (fresh w)) (get m d)) → (1 ≤ present (get m d)) ⊎ ((k : ℕ) × (v : ℕ) × (New n w ≡ New k v) × (d ≡ (name_of p k)))
    go true e h' = inr (n, w, refl, tie channel_order d (name_of p n) e)
    go false e h' = inl h'

-- a need that is single makes a first writer at most
pub made_writer : (need : Need) → IsSingle need → (d c : ChanName) (w : ℕ) → 1 ≤ count (Writer c w) (made_by need d) → w ≡ 0
made_writer Nothing single d c w h = absurd (omega (arith, count-nil (Writer c w)))
made_writer (Event e a) single d c w h = absurd (omega (arith, count-nil (Writer c w)))
made_writer (Children b n) single d c w h = absurd (omega (arith, count-nil (Writer c w)))
made_writer (New n zero) single d c w h = absurd (omega (arith, count-cons (Writer c w) (Reader d) [], count-nil (Writer c w), one_apart (Reader d) (Writer c w) (λ h. cc)))
made_writer (New n (suc zero)) single d c w h = elim (port_decide (Writer d 0) (Writer c w)) [
  | yes e ↦ number_of e
  | no off ↦ absurd (omega (arith, count-cons (Writer c w) (Reader d) (Writer d 0 ∷ []), count-cons (Writer c w) (Writer d 0) [], count-nil (Writer c w), one_apart _ _ off, one_apart (Reader d) (Writer c w) (λ h. cc)))
]
made_writer (New n (suc (suc k))) single d c w h = absurd (omega arith)

pub shut_present : (m : Chans) (x : PortValue) (d : ChanName) → 1 ≤ present (get (adjust m (channel_of x) (discarded x)) d) → 1 ≤ present (get m d)
shut_present m x d h = go (eq_by_cmp channel_cmp d (channel_of x)) (get m d) (subst (λ o. 1 ≤ present o) (get-adjust channel_order m (channel_of x) (discarded x) d) h)
  where
    go : (b : Bool) (o : Option Chan) → 1 ≤ present (cond b (option_map (discarded x) o) o) → 1 ≤ present o
    go true None h' = h'
    go true (Some ch) h' = h'
    go false o h' = h'
