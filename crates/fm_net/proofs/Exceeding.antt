-- A first message that exceeds the limits of a receive.
use Rattle.std.proofs.Common.{◌≡◌, ℕ, Some, None, List, [], ◌∷◌, ◌++◌, Bool, true, false, cond, not, refl, ap}
use Rattle.fm_base.specs.Channels.{Message, Limits, Chan, Push, Pop, can_pop, is_ready, changed, gives, exceeds, fits_limits, behind_first, first_message, first_exceeds}

exceeding_fits : (b : Bool) → not b ≡ true → b ≡ false
exceeding_fits true e = absurd (cc)
exceeding_fits false e = refl

exceeding_ready : (l : Limits) (ms : List Message) (ws : List ℕ) → first_exceeds l ms ≡ true → can_pop ms ws ≡ true
exceeding_ready l [] ws e = absurd (cc)
exceeding_ready l (m ∷ ms) ws e = refl

pub ready : (l : Limits) (ch : Chan) → exceeds (Pop l) ch ≡ true → is_ready (Pop l) ch ≡ true
ready l ch e = exceeding_ready l ch.queue ch.writers e

no_message : (l : Limits) (ms : List Message) → first_exceeds l ms ≡ true → first_message l ms ≡ None
no_message l [] e = refl
no_message l (m ∷ ms) e = ap (λ b. cond b (Some m) None) (exceeding_fits (fits_limits l m) e)

pub nothing_comes : (l : Limits) (ch : Chan) → exceeds (Pop l) ch ≡ true → gives (Pop l) ch ≡ None
nothing_comes l ch e = no_message l ch.queue e

same_queue : (l : Limits) (ms : List Message) → first_exceeds l ms ≡ true → behind_first l ms ≡ ms
same_queue l [] e = refl
same_queue l (m ∷ ms) e = ap (λ b. cond b ms (m ∷ ms)) (exceeding_fits (fits_limits l m) e)

pub unchanged : (l : Limits) (ch : Chan) → exceeds (Pop l) ch ≡ true → changed (Pop l) ch ≡ ch
unchanged l ch e = ap (λ (ms : List Message). record ch { queue = ms }) (same_queue l ch.queue e)

pushed : (l : Limits) (ms : List Message) (m : Message) (lives : Bool) → first_exceeds l ms ≡ true → first_exceeds l (cond lives (ms ++ m ∷ []) ms) ≡ true
pushed l [] m lives e = absurd (cc)
pushed l (x ∷ ms) m true e = e
pushed l (x ∷ ms) m false e = e

pub after_send : (l : Limits) (ch : Chan) (w : ℕ) (m : Message) → exceeds (Pop l) ch ≡ true → exceeds (Pop l) (changed (Push w m) ch) ≡ true
after_send l ch w m e = pushed l ch.queue m ch.lives e
