-- What ownership of ports gives: the ports that a step uses and lets go are open.
use Rattle.std.proofs.Common.{◌≡◌, ℕ, ◌+◌, ◌≤◌, Bool, true, false, cond, ◌==◌, List, [], ◌∷◌, Option, Some, None, option_map, refl, sym, ap, subst, ◌∙◌, arith, eqb-true}
use Rattle.std.specs.FinMap as map
use Rattle.fm_base.specs.declared.path.ChanName.{ChanName}
use Rattle.fm_base.specs.declared.port.PortValue.{PortValue}
use Rattle.fm_base.specs.declared.port.PortValue.TheVariants.{Writer, Reader}
use Rattle.fm_base.specs.Channels.{Chan, Chans, Push, Pop, Look, channel_of}
use Rattle.fm_finmap.specs.Sums.{value_or_zero}
use Rattle.fm_finmap.proofs.Maps.{get-map_values}
use Rattle.fm_net.specs.Machine.{Place, State, Need, Nothing, Event, New, Children, Reply, Onward, Ask, Stop, Go, made, served, chans_after, spilt}
use Rattle.fm_sched.proofs.Along.{at_reached}
use Rattle.fm_net.specs.Language.{Language, language_step}
use Rattle.fm_net.specs.Lawful.{IsLawfulLanguage, IsLawfulAsk, IsLawfulStep, Uses, Numbered}
use Rattle.fm_net.specs.Owned.{count, one, has, open_at, opened, present, name_of, IsOwned}
use Rattle.fm_net.proofs.Counts.{count-cons, count-append, one_self, opened_shut, shut-closed, closed}
use Rattle.fm_net.proofs.Events.{has_open}
use Rattle.fm_net.proofs.Holders.{held_open}
use Rattle.fm_net.proofs.Keeping.{keeps}
use Rattle.fm_net.proofs.Laws.{owned_throughout}
use Rattle.fm_net.proofs.Meeting.{IsSound as IsSoundMidway}
use Rattle.fm_net.proofs.Parts.{Midway, Run, Start}
use Rattle.fm_link_law.specs.Channels.{LinkedChan, LinkedChans, chan_of, chans_of, shut_port}
use Rattle.fm_link_law.specs.Hosts.{Hosts, state_of, IsSound, AreLinked}
use Rattle.fm_link_law.specs.Steps.{linked_after, IsPlainNeed, IsOpenPort, AreOpen, IsPlainAsk}
use Rattle.fm_link_law.specs.Play.{IsNeedOfWords, AsksForWords, KeepsToWords}
use Rattle.fm_link_law.proofs.Shutting.{shut_same, shut_linked}
use Rattle.fm_link_law.proofs.Serving.{served_forth, chans_forth, linked_stay}

-- ---- what is open at a channel is open at its ends

the_first : (w : ℕ) (b : Bool) → has w (cond b (0 ∷ []) []) ≡ true → (w ≡ 0) × (b ≡ true)
the_first w true h = go (w == 0) refl h
  where
    go : (b : Bool) → (w == 0) ≡ b → cond b true false ≡ true → (w ≡ 0) × (true ≡ true)
    go true e h = (eqb-true w 0 e, refl)
    go false e h = absurd (cc h)
the_first w false h = absurd (cc h)

lives_open : (c : ChanName) (ch : Chan) → 1 ≤ open_at (Reader c) (Some ch) → ch.lives ≡ true
unfolding open_at
lives_open c ch h = go ch.lives h
  where
    go : (b : Bool) → 1 ≤ cond b 1 0 → b ≡ true
    go true h = refl
    go false h = absurd (omega (arith, h))

nothing_open : (z : PortValue) → open_at z None ≡ 0
unfolding open_at
nothing_open z = refl

module _ (ls : LinkedChans) where
  open_here : (z : PortValue) (o : Option LinkedChan) → map.get ls (channel_of z) ≡ o → 1 ≤ opened (chans_of ls) z → 1 ≤ open_at z (option_map chan_of o)
  open_here z o is h = subst (λ (v : Option Chan). 1 ≤ open_at z v) (get-map_values chan_of ls (channel_of z) ∙ ap (option_map chan_of) is) h

  pub writer_open : (c : ChanName) (w : ℕ) → 1 ≤ opened (chans_of ls) (Writer c w) → (l : LinkedChan) → map.get ls c ≡ Some l → (w ≡ 0) × (l.is_open ≡ true)
  writer_open c w h l is = the_first w l.is_open (has_open c w (chan_of l) (open_here (Writer c w) (Some l) is h))

  pub reader_lives : (c : ChanName) → 1 ≤ opened (chans_of ls) (Reader c) → (l : LinkedChan) → map.get ls c ≡ Some l → l.lives ≡ true
  reader_lives c h l is = lives_open c (chan_of l) (open_here (Reader c) (Some l) is h)

  port_open : (z : PortValue) → 1 ≤ opened (chans_of ls) z → IsOpenPort ls z
  port_open (Writer c w) h = go (map.get ls c) refl
    where
      go : (o : Option LinkedChan) → map.get ls c ≡ o → (w ≡ 0) × ((l : LinkedChan) → map.get ls c ≡ Some l → l.is_open ≡ true)
      go None is = absurd (omega (arith, open_here (Writer c w) None is h, nothing_open (Writer c w)))
      go (Some l) is = ((writer_open c w h l is).0, (λ k at. (writer_open c w h k at).1))
  port_open (Reader c) h = tt

-- ports of which none is counted more often than it is open are open each in its turn
pub open_in_turn : (zs : List PortValue) (ls : LinkedChans) → AreLinked ls → ((z : PortValue) → count z zs ≤ opened (chans_of ls) z) → AreOpen ls zs
open_in_turn [] ls all within = tt
open_in_turn (z ∷ zs) ls all within =
    let is_open : 1 ≤ opened (chans_of ls) z = omega (arith, within z, count-cons z z zs, one_self z) in
    let here = port_open ls z is_open in (
      here,
      open_in_turn zs (shut_port z ls) (shut_linked ls z all here) (λ y.
          let same : closed z (chans_of ls) ≡ chans_of (shut_port z ls) = sym (shut-closed z (chans_of ls)) ∙ shut_same ls z all here in
          let one_less : opened (chans_of (shut_port z ls)) y + one z y ≡ opened (chans_of ls) y = subst (λ m. opened m y + one z y ≡ opened (chans_of ls) y) same (opened_shut (chans_of ls) z y is_open) in
          omega (arith, within y, count-cons y z zs, one_less)),
    )

-- ---- a step of a lawful language

module _ {Proc : Type 0} (language : Language Proc) (laws : IsLawfulLanguage language) (h : Hosts Proc) (sound : IsSound h) (owned : IsOwned language (state_of h)) (p : Place) (x : Proc) (is : map.get h.procs p ≡ Some x) where
  abbrev chans : Chans
  chans = chans_of h.channels

  -- nothing is loose before the step
  before : Midway Proc
  before = record { procs = h.procs; chans = chans_of h.channels; loose = λ z. 0; remaining = λ q. 1 }

  good : IsSoundMidway language (record { procs = h.procs; chans = chans_of h.channels; loose = λ z. 0; remaining = λ q. 1 })
  good = record { stands = λ z. omega (arith, owned.stands z); born = owned.born; named = owned.named }

  module _ (need : Need) (f : ChanName → Reply Proc → Onward Proc) (asks : language.ask x ≡ Go need f) where
    lawful_step : IsLawfulStep language x need f
    lawful_step = subst (IsLawfulAsk language x) asks (laws.goes x)

    -- no port that is let go is counted more often than it is open
    drops_within : (r : Reply Proc) → served language.has_ended h.procs chans p need ≡ Some r → (z : PortValue) → count z (f (made p need) r).drops ≤ opened (chans_after p need chans) z
    drops_within r serves z =
        let start : Start language h.procs (chans_of h.channels) p = record { self = x; is = is; need = need; goes = f; asks = asks; reply = r; serves = serves } in
        let after = keeps language laws (record { procs = h.procs; chans = chans_of h.channels; loose = λ z. 0; remaining = λ q. 1 }) good (Run p) (omega arith, start) in
        omega (arith, after.stands z, count-append z (f (made p need) r).drops (spilt need chans))

    uses_open : (z : PortValue) → 1 ≤ count z (language.held x) → 1 ≤ opened chans z
    uses_open z h' = omega (arith, held_open language (state_of h) owned p x z is h')

    plain_need : (k : Need) → need ≡ k → IsNeedOfWords k → IsPlainNeed h.channels p k
    plain_need Nothing e wordy = tt
    plain_need (Event c (Push w m)) e wordy = (wordy, (λ l at. (writer_open h.channels c w (uses_open (Writer c w) (subst (λ k. Uses (language.held x) k) e lawful_step.uses)) l at).1))
    plain_need (Event c (Pop limits)) e wordy = λ l at. reader_lives h.channels c (uses_open (Reader c) (subst (λ k. Uses (language.held x) k) e lawful_step.uses)) l at
    plain_need (Event c Look) e wordy = absurd wordy
    plain_need (New n k) e wordy = (wordy, go (map.get h.channels (name_of p n)) refl)
      where
        number : n ≡ language.next_channel x
        number = subst (λ k. Numbered (language.next_channel x) k) e lawful_step.numbered

        go : (o : Option LinkedChan) → map.get h.channels (name_of p n) ≡ o → o ≡ None
        go None at = refl
        go (Some l) at =
            let there : map.get chans (name_of p n) ≡ Some (chan_of l) = get-map_values chan_of h.channels (name_of p n) ∙ ap (option_map chan_of) at in
            let less = owned.named p n (subst (λ (o : Option Chan). 1 ≤ present o) (sym there) (omega arith)) in
            let own : value_or_zero language.next_channel (map.get h.procs p) ≡ language.next_channel x = ap (value_or_zero language.next_channel) is in
            absurd (omega (arith, less, own, number))
    plain_need (Children b n) e wordy = tt

    pub plain_ask : IsNeedOfWords need → IsPlainAsk language h p (Go need f)
    plain_ask wordy =
        let plain = plain_need need refl wordy in (
          plain,
          (λ r here.
              let serves = served_forth language.has_ended h.procs h.channels p sound.channels need plain r here in
              let channels = linked_stay language.has_ended h.procs h.channels p sound.channels need plain r here in
              open_in_turn (f (made p need) r).drops (linked_after p need h.channels) channels (λ z.
              subst (λ m. count z (f (made p need) r).drops ≤ opened m z) (chans_forth language.has_ended h.procs h.channels p sound.channels need plain r here) (drops_within r serves z))),
        )

  pub plain_next : ((need : Need) (f : ChanName → Reply Proc → Onward Proc) → language.ask x ≡ Go need f → IsNeedOfWords need) → IsPlainAsk language h p (language.ask x)
  plain_next wordy = go (language.ask x) refl
    where
      go : (q : Ask Proc) → language.ask x ≡ q → IsPlainAsk language h p q
      go Stop asks = tt
      go (Go need f) asks = plain_ask need f asks (wordy need f asks)

-- ---- along every schedule

pub keeps_to_words : {Proc : Type 0} (language : Language Proc) → IsLawfulLanguage language → (start : State Proc) → IsOwned language start → AsksForWords language start → KeepsToWords language start
keeps_to_words language laws start owned wordy h sound reached p x is =
    plain_next language laws h sound (at_reached (language_step language) (IsOwned language) start (state_of h) (owned_throughout language laws start owned) reached) p x is (wordy (state_of h) reached p x is)
