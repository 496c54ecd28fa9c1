-- What a receive that is ready gets, by the reply of its channel.
use Rattle.std.proofs.Common.{◌≡◌, ℕ, Bool, true, false, cond, not, Option, Some, None, List, [], ◌∷◌, refl, sym, subst}
use Rattle.fm_base.specs.Channels.{Message, Chan, Limits, Pop, can_pop, exceeds, first_exceeds, first_message, fits_limits, gives, is_ready}
use Rattle.fm_chan.specs.declared.message.Got.{Got}
use Rattle.fm_chan.specs.declared.message.Got.TheVariants as got
use Rattle.fm_chan.specs.Received.{got_at, got_of}

-- whether the first message exceeds, and the message that came
abbrev pub IsGot : Got → (over : Bool) → Option Message → Type 0
IsGot (got.Message message) over o = o ≡ Some message
IsGot got.Exceeds over o = (over ≡ true) × (o ≡ None)
IsGot got.Wait over o = ⊥
IsGot got.End over o = (over ≡ false) × (o ≡ None)

-- the message that came, if one did
abbrev pub message_in : Got → Option Message
message_in (got.Message m) = Some m
message_in got.Exceeds = None
message_in got.Wait = None
message_in got.End = None

pub got_message : (g : Got) (over : Bool) (o : Option Message) → IsGot g over o → message_in g ≡ o
got_message (got.Message message) over o is = sym is
got_message got.Exceeds over o is = sym is.1
got_message got.Wait over o is = absurd is
got_message got.End over o is = sym is.1

module _ (limits : Limits) where
  got_first : (message : Message) (fits : Bool) (g : Got) → g ≡ cond (not fits) got.Exceeds (got_of (cond fits (Some message) None)) → IsGot g (not fits) (cond fits (Some message) None)
  got_first message true g is = subst (λ (h : Got). IsGot h false (Some message)) (sym is) refl
  got_first message false g is = subst (λ (h : Got). IsGot h true None) (sym is) (refl, refl)

  got_queue : (queue : List Message) (writers : List ℕ) → can_pop queue writers ≡ true → (g : Got)
      → g ≡ cond (can_pop queue writers) (cond (first_exceeds limits queue) got.Exceeds (got_of (first_message limits queue))) got.Wait → IsGot g (first_exceeds limits queue) (first_message limits queue)
  got_queue [] [] ready g is = subst (λ (h : Got). IsGot h false None) (sym is) (refl, refl)
  got_queue [] (w ∷ ws) ready g is = absurd (cc ready)
  got_queue (message ∷ queue) writers ready g is = got_first message (fits_limits limits message) g is

  pub got_tells : (ch : Chan) → is_ready (Pop limits) ch ≡ true → (g : Got) → g ≡ got_at limits (Some ch) → IsGot g (exceeds (Pop limits) ch) (gives (Pop limits) ch)
  got_tells ch ready g is = got_queue ch.queue ch.writers ready g is
