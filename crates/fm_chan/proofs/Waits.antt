-- Who waits at one channel before and after a call.
use Rattle.std.proofs.Common.{◌≡◌, ℕ, inl, Bool, true, false, cond, List, [], ◌∷◌, Option, Some, None, refl, sym, ap, ap₂, ◌∙◌}
use Rattle.fm_base.specs.Channels.{Message, Chan, Limits, Pop, can_pop, changed, behind_first}
use Rattle.fm_chan.specs.declared.body.Body.{Body}
use Rattle.fm_chan.specs.Kept.{chan_of}
use Rattle.fm_chan.specs.Received.{pops_at}
use Rattle.fm_chan.specs.Readers.{reader_of, IsReadyAt, IsClosedAt, WakesHere}

-- who waits, from whether the channel is ready and who was noted
abbrev waiter : Bool → Option ℕ → Option ℕ
waiter ready noted = cond ready None noted

was_unready : (ready : Bool) (noted : Option ℕ) (n : ℕ) → waiter ready noted ≡ Some n → ready ≡ false
was_unready true noted n e = absurd (cc e)
was_unready false noted n e = refl

nothing_queued : (q : List Message) (ws : List ℕ) → can_pop q ws ≡ false → q ≡ []
nothing_queued [] ws e = refl
nothing_queued (m ∷ ms) ws e = absurd (cc e)

pub no_writers : (ch : Chan) → ch.writers ≡ [] → can_pop ch.queue ch.writers ≡ true
no_writers ch e = ap (can_pop ch.queue) e ∙ go ch.queue
  where
    go : (q : List Message) → can_pop q [] ≡ true
    go [] = refl
    go (m ∷ ms) = refl

pub closed_is_ready : (o : Option Chan) → IsClosedAt o → IsReadyAt o
closed_is_ready None none = absurd none
closed_is_ready (Some ch) none = no_writers ch none

pub waiting_unready : (b : Body) (n : ℕ) → reader_of b ≡ Some n → pops_at (Some (chan_of b)) ≡ false
waiting_unready b n waits = was_unready (can_pop (chan_of b).queue (chan_of b).writers) b.reader n waits

-- a process is noted where nothing can be received
pub noted_waits : (b : Body) → pops_at (Some (chan_of b)) ≡ false → reader_of b ≡ b.reader
noted_waits b waits = ap (λ ready. waiter ready b.reader) waits

module _ (b d : Body) where
  -- the channel is as it was
  pub same_reader : chan_of d ≡ chan_of b → d.reader ≡ b.reader → reader_of d ≡ reader_of b
  same_reader chan reader = ap₂ waiter (ap (λ ch. can_pop ch.queue ch.writers) chan) reader

  pub nobody_wakes : (Fact : Option Chan → Type 0) (woken : Option ℕ) → chan_of d ≡ chan_of b → d.reader ≡ b.reader → WakesHere Fact b d woken
  nobody_wakes Fact woken chan reader n waits = inl (same_reader chan reader ∙ waits)

  -- a reader waits where nothing is queued
  queue_empty : (n : ℕ) → reader_of b ≡ Some n → (chan_of b).queue ≡ []
  queue_empty n waits = nothing_queued (chan_of b).queue (chan_of b).writers (was_unready (can_pop (chan_of b).queue (chan_of b).writers) b.reader n waits)

  -- the queue goes, and the writers stay
  pub left_wakes : (Fact : Option Chan → Type 0) (woken : Option ℕ) → (chan_of d).queue ≡ [] → (chan_of d).writers ≡ (chan_of b).writers → d.reader ≡ b.reader → WakesHere Fact b d woken
  left_wakes Fact woken queue writers reader n waits =
      inl (ap₂ waiter (ap₂ can_pop (queue ∙ sym (queue_empty n waits)) writers) reader ∙ waits)

  -- where nothing can be received, a receive leaves the queue as it is
  pub receive_wakes : (Fact : Option Chan → Type 0) (woken : Option ℕ) (limits : Limits) → chan_of d ≡ changed (Pop limits) (chan_of b) → d.reader ≡ b.reader → WakesHere Fact b d woken
  receive_wakes Fact woken limits rest reader n waits = left_wakes Fact woken (ap (λ ch. ch.queue) rest ∙ ap (behind_first limits) (queue_empty n waits)) (ap (λ ch. ch.writers) rest) reader n waits

  pub same_waits : chan_of d ≡ chan_of b → pops_at (Some (chan_of b)) ≡ false → pops_at (Some (chan_of d)) ≡ false
  same_waits chan waits = ap (λ ch. pops_at (Some ch)) chan ∙ waits
