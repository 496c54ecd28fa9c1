-- Who waits at the channels and who was woken, over one call and several.
use Rattle.std.proofs.Common.{◌≡◌, ◌≢◌, ◌⊎◌, ℕ, false, inl, inr, zero, suc, ◌++◌, List, [], ◌∷◌, Option, Some, None, option_to_list, refl, sym, ap, subst, ◌∙◌}
use Rattle.std.proofs.lemmas.List.Elements.{Contains-append_left, Contains-push}
use Rattle.std.specs.Prelude.{Contains, OnErr, Result, Ok, Err}
use Rattle.std.specs.FinMap as map
use Rattle.fm_base.specs.declared.path.ChanName.{ChanName}
use Rattle.fm_base.specs.declared.port.PortValue.{PortValue}
use Rattle.fm_base.specs.declared.port.PortValue.TheVariants.{Writer, Reader}
use Rattle.fm_base.specs.Channels.{Message, message_ports, Chan, Chans, channel_of, without, discarded, freed, shut, shut_at, shed, weight, all_shed}
use Rattle.fm_finmap.proofs.Keys.{channel_order, decide}
use Rattle.fm_finmap.proofs.Inserts.{insert_here, insert_there}
use Rattle.fm_discards.proofs.Shedding.{all_shed-nil}
use Rattle.std.specs.Option.{option_map}
use Rattle.fm_chan.specs.declared.body.Body.{Body}
use Rattle.fm_chan.specs.declared.body.Put.{Put}
use Rattle.fm_chan.specs.declared.body.Put.TheVariants.{Done, Spilt}
use Rattle.fm_chan.specs.declared.channels.Channels.{Channels}
use Rattle.fm_chan.specs.Bodies.{chans_of}
use Rattle.fm_chan.specs.Events.{ports_back}
use Rattle.fm_chan.specs.Received.{pops_at}
use Rattle.fm_chan.specs.Kept.{chan_of}
use Rattle.fm_chan.specs.Readers.{reader_in, reader_at, IsReadyAt, IsClosedAt, WakesOne}
use Rattle.fm_chan.specs.Woken.{waiting_reader, woken_of, WakesAt, Wakes, WakesAtEnd, WakesAll}
use Rattle.fm_chan.proofs.Maps.{by_name, get-chans_in}
use Rattle.fm_chan.proofs.Waits.{closed_is_ready, waiting_unready}

-- ---- where no writer is left, none comes

still_none : (x : PortValue) (ch : Chan) → ch.writers ≡ [] → (discarded x ch).writers ≡ []
still_none (Writer c w) ch none = ap (without w) none
still_none (Reader c) ch none = none

found_closed : (o : Option Chan) (x : PortValue) (m : Chans) (c : ChanName) → map.get m (channel_of x) ≡ o → Dec (c ≡ channel_of x) → IsClosedAt (map.get m c) → IsClosedAt (map.get (shut_at x m o) c)
found_closed None x m c is d closed = closed
found_closed (Some ch) x m c is (yes e) closed =
    subst IsClosedAt (sym (ap (map.get (map.insert m (channel_of x) (discarded x ch))) e ∙ insert_here channel_order m (channel_of x) (discarded x ch)))
    (still_none x ch (subst IsClosedAt (ap (map.get m) e ∙ is) closed))
found_closed (Some ch) x m c is (no n) closed = subst IsClosedAt (sym (insert_there channel_order m (channel_of x) (discarded x ch) c n)) closed

pub shut_closed : (x : PortValue) (m : Chans) (c : ChanName) → IsClosedAt (map.get m c) → IsClosedAt (map.get (shut x m) c)
shut_closed x m c = found_closed (map.get m (channel_of x)) x m c refl (decide channel_order c (channel_of x))

shed_closed : (n : ℕ) (xs : List PortValue) (m : Chans) (c : ChanName) → IsClosedAt (map.get m c) → IsClosedAt (map.get (shed n xs m) c)
shed_closed zero xs m c closed = closed
shed_closed (suc n) [] m c closed = closed
shed_closed (suc n) (x ∷ xs) m c closed = shed_closed n (freed x (map.get m (channel_of x)) ++ xs) (shut x m) c (shut_closed x m c closed)

pub all_shed_closed : (xs : List PortValue) (m : Chans) (c : ChanName) → IsClosedAt (map.get m c) → IsClosedAt (map.get (all_shed xs m) c)
all_shed_closed xs m c = shed_closed (weight xs m) xs m c

-- ---- who waits finds nothing

module _ (s : Channels) (c : ChanName) (n : ℕ) where
  pub waits_in_vain : waiting_reader s c ≡ Some n → pops_at (map.get (chans_of s) c) ≡ false
  unfolding waiting_reader chans_of reader_at
  waits_in_vain waits = ap pops_at (get-chans_in s.bodies c) ∙ go (map.get (by_name s.bodies) c) waits
    where
      go : (o : Option Body) → reader_in o ≡ Some n → pops_at (option_map chan_of o) ≡ false
      go None none = absurd (cc none)
      go (Some b) at = waiting_unready b n at

-- ---- one call

is_added : (out : Option ℕ) (n : ℕ) (old new : List ℕ) → out ≡ Some n → new ≡ old ++ option_to_list out → Contains new n
is_added out n old new out_is is = subst (λ (ns : List ℕ). Contains ns n) (sym (is ∙ ap (λ o. old ++ option_to_list o) out_is)) (Contains-push old n)

module _ (Fact : Option Chan → Type 0) (old new : Channels) where
  -- one is woken, or none
  module _ (out : Option ℕ) (one : WakesOne Fact old.bodies new.bodies out) (added : woken_of new ≡ woken_of old ++ option_to_list out) where
    pub one_woken : WakesAt Fact old new
    unfolding waiting_reader chans_of
    one_woken = record { readers = λ c n waits. go c n (one c n waits); woken = λ n was. subst (λ (ns : List ℕ). Contains ns n) (sym added) (Contains-append_left (woken_of old) (option_to_list out) n was) }
      where
        go : (c : ChanName) (n : ℕ) → (waiting_reader new c ≡ Some n) ⊎ ((out ≡ Some n) × Fact (map.get (chans_of new) c)) → (waiting_reader new c ≡ Some n) ⊎ (Contains (woken_of new) n × Fact (map.get (chans_of new) c))
        go c n (inl e) = inl e
        go c n (inr w) = inr (is_added out n (woken_of old) (woken_of new) w.0 added, w.1)

  pub none_woken : WakesOne Fact old.bodies new.bodies None → woken_of new ≡ woken_of old → WakesAt Fact old new
  unfolding waiting_reader chans_of
  none_woken one same = record { readers = λ c n waits. go c n (one c n waits); woken = λ n was. subst (λ (ns : List ℕ). Contains ns n) (sym same) was }
    where
      go : (c : ChanName) (n : ℕ) → (waiting_reader new c ≡ Some n) ⊎ ((None ≡ Some n) × Fact (map.get (chans_of new) c)) → (waiting_reader new c ≡ Some n) ⊎ (Contains (woken_of new) n × Fact (map.get (chans_of new) c))
      go c n (inl e) = inl e
      go c n (inr w) = absurd (cc w.0)

  pub same_wakes : new ≡ old → WakesAt Fact old new
  same_wakes e = subst (λ (s : Channels). WakesAt Fact old s) (sym e) (record { readers = λ c n waits. inl waits; woken = λ n was. was })

-- one is noted at a channel, and the one that was noted there before is woken
module _ (old new : Channels) (q : ChanName) (before : Option ℕ) (was : before ≡ reader_at old.bodies q) (others : (c : ChanName) → (c ≢ q) → reader_at new.bodies c ≡ reader_at old.bodies c) where
  pub noted_woken : woken_of new ≡ woken_of old ++ option_to_list before → WakesAll old new
  unfolding waiting_reader
  noted_woken added = record { readers = λ c n waits. go c n waits (decide channel_order c q); woken = λ n told. subst (λ (ns : List ℕ). Contains ns n) (sym added) (Contains-append_left (woken_of old) (option_to_list before) n told) }
    where
      go : (c : ChanName) (n : ℕ) → reader_at old.bodies c ≡ Some n → Dec (c ≡ q) → (waiting_reader new c ≡ Some n) ⊎ (Contains (woken_of new) n × Unit {0})
      go c n waits (yes e) = inr (is_added before n (woken_of old) (woken_of new) (was ∙ ap (reader_at old.bodies) (sym e) ∙ waits) added, tt)
      go c n waits (no apart) = inl (others c apart ∙ waits)

pub on_err : {T E P : Type 0} (r : Result T E) → P → OnErr r P
on_err (Ok x) p = tt
on_err (Err e) p = p

-- ---- what came of a message

pub none_spilt : (put : Put) (r : Option ℕ) (xs : List PortValue) (m : Chans) → put ≡ Done r → ports_back put ≡ xs → m ≡ all_shed xs m
none_spilt put r xs m is back = sym (ap (λ ys. all_shed ys m) (sym back ∙ ap ports_back is) ∙ all_shed-nil m)

pub all_spilt : (put : Put) (message : Message) (xs : List PortValue) → put ≡ Spilt message → ports_back put ≡ xs → message_ports message ≡ xs
all_spilt put message xs is back = sym (ap ports_back is) ∙ back

-- what holds of the channel is more than is asked
pub wakes_weaker : (P Q : Option Chan → Type 0) → ((o : Option Chan) → P o → Q o) → (old new : Channels) → WakesAt P old new → WakesAt Q old new
wakes_weaker P Q weaker old new waking = record { readers = λ c n waits. go c n (waking.readers c n waits); woken = waking.woken }
  where
    go : (c : ChanName) (n : ℕ) → (waiting_reader new c ≡ Some n) ⊎ (Contains (woken_of new) n × P (map.get (chans_of new) c)) → (waiting_reader new c ≡ Some n) ⊎ (Contains (woken_of new) n × Q (map.get (chans_of new) c))
    go c n (inl e) = inl e
    go c n (inr w) = inr (w.0, weaker (map.get (chans_of new) c) w.1)

pub at_end_wakes : (old new : Channels) → WakesAtEnd old new → Wakes old new
at_end_wakes = wakes_weaker IsClosedAt IsReadyAt closed_is_ready

pub wakes_all : (old new : Channels) → Wakes old new → WakesAll old new
wakes_all = wakes_weaker IsReadyAt (λ _. Unit {0}) (λ _ _. tt)

-- ---- one call after another

module _ (Fact : Option Chan → Type 0) (old mid new : Channels) where
  -- where the fact stays
  pub wakes_then : ((c : ChanName) → Fact (map.get (chans_of mid) c) → Fact (map.get (chans_of new) c)) → WakesAt Fact old mid → WakesAt Fact mid new → WakesAt Fact old new
  wakes_then stays first second = record { readers = λ c n waits. go c n (first.readers c n waits); woken = λ n was. second.woken n (first.woken n was) }
    where
      go : (c : ChanName) (n : ℕ) → (waiting_reader mid c ≡ Some n) ⊎ (Contains (woken_of mid) n × Fact (map.get (chans_of mid) c)) → (waiting_reader new c ≡ Some n) ⊎ (Contains (woken_of new) n × Fact (map.get (chans_of new) c))
      go c n (inl e) = second.readers c n e
      go c n (inr w) = inr (second.woken n w.0, stays c w.1)

  -- where the first wakes nobody
  pub then_wakes : WakesOne Fact old.bodies mid.bodies None → woken_of mid ≡ woken_of old → WakesAt Fact mid new → WakesAt Fact old new
  unfolding waiting_reader chans_of
  then_wakes one same second = record { readers = λ c n waits. go c n (one c n waits); woken = λ n was. second.woken n (subst (λ (ns : List ℕ). Contains ns n) (sym same) was) }
    where
      go : (c : ChanName) (n : ℕ) → (waiting_reader mid c ≡ Some n) ⊎ ((None ≡ Some n) × Fact (map.get (chans_of mid) c)) → (waiting_reader new c ≡ Some n) ⊎ (Contains (woken_of new) n × Fact (map.get (chans_of new) c))
      go c n (inl e) = second.readers c n e
      go c n (inr w) = absurd (cc w.0)

-- whoever was woken on the way
pub wakes_all_then : (old mid new : Channels) → WakesAll old mid → WakesAll mid new → WakesAll old new
wakes_all_then old mid new = wakes_then (λ _. Unit {0}) old mid new (λ c u. u)

pub wakes_nobody : (s : Channels) → WakesAll s s
wakes_nobody s = same_wakes (λ _. Unit {0}) s s refl

-- a port is shut, and then others
pub at_end_then : (old mid new : Channels) (x : PortValue) → chans_of new ≡ shut x (chans_of mid) → WakesAtEnd old mid → WakesAtEnd mid new → WakesAtEnd old new
at_end_then old mid new x is = wakes_then IsClosedAt old mid new (λ c closed. subst (λ m. IsClosedAt (map.get m c)) (sym is) (shut_closed x (chans_of mid) c closed))

pub at_end_then_all : (old mid new : Channels) (xs : List PortValue) → chans_of new ≡ all_shed xs (chans_of mid) → WakesAtEnd old mid → WakesAtEnd mid new → WakesAtEnd old new
at_end_then_all old mid new xs is = wakes_then IsClosedAt old mid new (λ c closed. subst (λ m. IsClosedAt (map.get m c)) (sym is) (all_shed_closed xs (chans_of mid) c closed))
