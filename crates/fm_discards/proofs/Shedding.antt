-- Ports discarded one after the other: each discard leaves one port less.
use Rattle.std.proofs.Common.{◌≡◌, ℕ, zero, suc, ◌+◌, ◌<◌, ◌≤◌, Option, Some, None, List, [], ◌∷◌, ◌++◌, length, sum_by, refl, sym, ap, ◌∙◌, arith, length-append}
use Rattle.std.proofs.lemmas.List.Sums.{sum_by-cons}
use Rattle.std.specs.FinMap as map
use Rattle.fm_base.specs.declared.path.ChanName.{ChanName}
use Rattle.fm_base.specs.declared.port.PortValue.{PortValue}
use Rattle.fm_base.specs.declared.port.PortValue.TheVariants.{Writer, Reader}
use Rattle.fm_base.specs.Channels.{Chan, Chans, queue_ports, channel_of, discarded, freed, shut, shut_at, shed, weight, all_shed}
use Rattle.fm_finmap.specs.Sums.{sum_values, total, value_or_zero}
use Rattle.fm_finmap.proofs.Keys.{channel_order}
use Rattle.fm_finmap.proofs.Sums.{total-insert}

-- how many ports wait in a channel
abbrev pub queued : Chan → ℕ
queued ch = length (queue_ports ch.queue)

queued-sums : (es : List (ChanName × Chan)) → sum_by (λ e. length (queue_ports e.1.queue)) es ≡ sum_values queued es
queued-sums [] = refl
queued-sums (e ∷ es) = sum_by-cons (λ (x : ChanName × Chan). length (queue_ports x.1.queue)) e es ∙ ap (λ n. queued e.1 + n) (queued-sums es)

pub weight-total : (xs : List PortValue) (m : Chans) → weight xs m ≡ length xs + total queued m
unfolding total
weight-total xs m = ap (λ n. length xs + n) (queued-sums (map.entries m))

weight-cons_at : (x : PortValue) (xs : List PortValue) (m : Chans) (o : Option Chan) → map.get m (channel_of x) ≡ o → weight (x ∷ xs) m ≡ suc (weight (freed x o ++ xs) (shut_at x m o))
weight-cons_at x xs m None is = omega arith
weight-cons_at (Writer c w) xs m (Some ch) is =
    let v = discarded (Writer c w) ch in
    omega (arith, weight-total (Writer c w ∷ xs) m, weight-total xs (map.insert m c v), total-insert channel_order queued m c v, ap (value_or_zero queued) is)
weight-cons_at (Reader c) xs m (Some ch) is =
    let v = discarded (Reader c) ch in
    omega (arith, weight-total (Reader c ∷ xs) m, weight-total (queue_ports ch.queue ++ xs) (map.insert m c v), length-append (queue_ports ch.queue) xs, total-insert channel_order queued m c v, ap (value_or_zero queued) is)

-- what is left to discard is one less
pub weight-cons : (x : PortValue) (xs : List PortValue) (m : Chans) → weight (x ∷ xs) m ≡ suc (weight (freed x (map.get m (channel_of x)) ++ xs) (shut x m))
weight-cons x xs m = weight-cons_at x xs m (map.get m (channel_of x)) refl

shed-nil : (n : ℕ) (m : Chans) → shed n [] m ≡ m
shed-nil zero m = refl
shed-nil (suc n) m = refl

pub all_shed-nil : (m : Chans) → all_shed [] m ≡ m
all_shed-nil m = shed-nil (weight [] m) m

pub no_weight : (xs : List PortValue) (m : Chans) → weight xs m ≤ 0 → xs ≡ []
no_weight [] m h = refl
no_weight (x ∷ xs) m h = absurd (omega arith)

-- the first port goes first, and what it frees goes next
pub all_shed-cons : (x : PortValue) (xs : List PortValue) (m : Chans) → all_shed (x ∷ xs) m ≡ all_shed (freed x (map.get m (channel_of x)) ++ xs) (shut x m)
all_shed-cons x xs m = ap (λ n. shed n (x ∷ xs) m) (weight-cons x xs m)

-- what is left after the next port is let go sheds as what was left before it
module _ (x : PortValue) (old mid new : List PortValue) (m n : Chans) (first : old ≡ x ∷ mid) (frees : new ≡ freed x (map.get m (channel_of x)) ++ mid) (shuts : n ≡ shut x m) where
  pub all_shed-first : all_shed new n ≡ all_shed old m
  all_shed-first = ap (λ xs. all_shed xs n) frees ∙ ap (all_shed (freed x (map.get m (channel_of x)) ++ mid)) shuts ∙ sym (all_shed-cons x mid m) ∙ ap (λ xs. all_shed xs m) (sym first)

  pub weight-first : weight new n < weight old m
  weight-first = omega (arith, ap (λ xs. weight xs n) frees, ap (weight (freed x (map.get m (channel_of x)) ++ mid)) shuts, weight-cons x mid m, ap (λ xs. weight xs m) first)
