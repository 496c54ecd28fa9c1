-- What a receive gets of a channel, from what is at its queue and its writers.
use Rattle.std.proofs.Common.{◌≡◌, ℕ, Bool, true, false, cond, not, List, [], ◌∷◌, Option, Some, None, refl, sym, ap, ◌∙◌}
use Rattle.fm_base.specs.Channels.{Message, Chan, Limits, Pop, can_pop, changed, gives, exceeds, fits_limits, first_exceeds, first_message, behind_first}
use Rattle.fm_chan.specs.declared.message.Got.{Got}
use Rattle.fm_chan.specs.declared.message.Got.TheVariants as got
use Rattle.fm_chan.specs.Received.{got_of, got_from, brings}

not_false : (b : Bool) → not b ≡ false → b ≡ true
not_false true e = refl
not_false false e = absurd (cc e)

module _ (limits : Limits) where
  chosen : (b e : Bool) (g : Got) → b ≡ true → e ≡ false → cond b (cond e got.Exceeds g) got.Wait ≡ g
  chosen true false g p q = refl
  chosen true true g p q = absurd (cc q)
  chosen false e g p q = absurd (cc p)

  -- not ready
  waits_queue : (q : List Message) (ws : List ℕ) → can_pop q ws ≡ false → behind_first limits q ≡ q
  waits_queue [] ws none = refl
  waits_queue (m ∷ ms) ws none = absurd (cc none)

  pub waits_got : (ch : Chan) → can_pop ch.queue ch.writers ≡ false → got.Wait ≡ got_from limits ch
  waits_got ch none = sym (ap (λ b. cond b (cond (exceeds (Pop limits) ch) got.Exceeds (got_of (gives (Pop limits) ch))) got.Wait) none)

  pub waits_rest : (ch : Chan) → can_pop ch.queue ch.writers ≡ false → ch ≡ changed (Pop limits) ch
  waits_rest ch none = sym (ap (λ q. record { queue = q; writers = ch.writers; lives = ch.lives }) (waits_queue ch.queue ch.writers none))

  -- more elements than the limits allow
  pub exceeding_queue : (q : List Message) → first_exceeds limits q ≡ true → behind_first limits q ≡ q
  exceeding_queue [] over = refl
  exceeding_queue (m ∷ ms) over = go (fits_limits limits m) over
    where
      go : (b : Bool) → not b ≡ true → cond b ms (m ∷ ms) ≡ m ∷ ms
      go true e = absurd (cc e)
      go false e = refl

  pub exceeds_got : (ch : Chan) → can_pop ch.queue ch.writers ≡ true → exceeds (Pop limits) ch ≡ true → got.Exceeds ≡ got_from limits ch
  exceeds_got ch ready over =
      sym (ap (λ b. cond b (cond (exceeds (Pop limits) ch) got.Exceeds (got_of (gives (Pop limits) ch))) got.Wait) ready
      ∙ ap (λ e. cond e got.Exceeds (got_of (gives (Pop limits) ch))) over)

  pub exceeds_rest : (ch : Chan) → exceeds (Pop limits) ch ≡ true → ch ≡ changed (Pop limits) ch
  exceeds_rest ch over = sym (ap (λ q. record { queue = q; writers = ch.writers; lives = ch.lives }) (exceeding_queue ch.queue over))

  -- no more than they allow: as without limits
  pub within_first : (q : List Message) → first_exceeds limits q ≡ false → first_message [] q ≡ first_message limits q
  within_first [] within = refl
  within_first (m ∷ ms) within = sym (ap (λ b. cond b (Some m) None) (not_false (fits_limits limits m) within))

  pub within_queue : (q : List Message) → first_exceeds limits q ≡ false → behind_first [] q ≡ behind_first limits q
  within_queue [] within = refl
  within_queue (m ∷ ms) within = sym (ap (λ b. cond b ms (m ∷ ms)) (not_false (fits_limits limits m) within))

  pub within_got : (ch : Chan) (o : Option Message) (g : Got) → can_pop ch.queue ch.writers ≡ true → exceeds (Pop limits) ch ≡ false → o ≡ gives (Pop []) ch → g ≡ got_of o → g ≡ got_from limits ch
  within_got ch o g ready within is e =
      e ∙ ap got_of (is ∙ within_first ch.queue within) ∙ sym (chosen (can_pop ch.queue ch.writers) (exceeds (Pop limits) ch) (got_of (gives (Pop limits) ch)) ready within)

  pub within_rest : (ch new : Chan) → exceeds (Pop limits) ch ≡ false → new ≡ changed (Pop []) ch → new ≡ changed (Pop limits) ch
  within_rest ch new within is = is ∙ ap (λ q. record { queue = q; writers = ch.writers; lives = ch.lives }) (within_queue ch.queue within)

  -- a receive that brings no message leaves the channel as it was
  message_brings : (q : List Message) (b : Bool) → brings (cond b (cond (first_exceeds limits q) got.Exceeds (got_of (first_message limits q))) got.Wait) ≡ false → b ≡ can_pop q (0 ∷ []) → behind_first limits q ≡ q
  message_brings [] b none is = refl
  message_brings (m ∷ ms) b none is = go (fits_limits limits m) (ap (λ z. brings (cond z (cond (not (fits_limits limits m)) got.Exceeds (got_of (cond (fits_limits limits m) (Some m) None))) got.Wait)) (sym is) ∙ none)
    where
      go : (f : Bool) → brings (cond (not f) got.Exceeds (got_of (cond f (Some m) None))) ≡ false → cond f ms (m ∷ ms) ≡ m ∷ ms
      go true e = absurd (cc e)
      go false e = refl

  idle : (q : List Message) (ws : List ℕ) → brings (cond (can_pop q ws) (cond (first_exceeds limits q) got.Exceeds (got_of (first_message limits q))) got.Wait) ≡ false → behind_first limits q ≡ q
  idle [] ws none = refl
  idle (m ∷ ms) ws none = message_brings (m ∷ ms) true none refl

  pub nothing_taken : (ch : Chan) → brings (got_from limits ch) ≡ false → changed (Pop limits) ch ≡ ch
  nothing_taken ch none = ap (λ q. record { queue = q; writers = ch.writers; lives = ch.lives }) (idle ch.queue ch.writers none)

-- ---- what was got tells of the channel

pub message_tells : (ready over : Bool) (o : Option Message) (m : Message) → got.Message m ≡ cond ready (cond over got.Exceeds (got_of o)) got.Wait → (over ≡ false) × (Some m ≡ o)
message_tells true false (Some n) m is = (refl, cc is)
message_tells true false None m is = absurd (cc is)
message_tells true true o m is = absurd (cc is)
message_tells false over o m is = absurd (cc is)

pub end_tells : (ready over : Bool) (o : Option Message) → got.End ≡ cond ready (cond over got.Exceeds (got_of o)) got.Wait → (over ≡ false) × (None ≡ o)
end_tells true false (Some n) is = absurd (cc is)
end_tells true false None is = (refl, refl)
end_tells true true o is = absurd (cc is)
end_tells false over o is = absurd (cc is)

pub excess_tells : (ready over : Bool) (o : Option Message) → got.Exceeds ≡ cond ready (cond over got.Exceeds (got_of o)) got.Wait → over ≡ true
excess_tells true false (Some n) is = absurd (cc is)
excess_tells true false None is = absurd (cc is)
excess_tells true true o is = refl
excess_tells false over o is = absurd (cc is)

pub wait_tells : (ready over : Bool) (o : Option Message) → got.Wait ≡ cond ready (cond over got.Exceeds (got_of o)) got.Wait → ready ≡ false
wait_tells true false (Some n) is = absurd (cc is)
wait_tells true false None is = absurd (cc is)
wait_tells true true o is = absurd (cc is)
wait_tells false over o is = refl
