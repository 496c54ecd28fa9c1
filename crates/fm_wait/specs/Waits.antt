-- Whom a waiting process waits for.
-- Source: this profile.
use Rattle.std.specs.Prelude.{ℕ, cond, nat_le, Option, Some, None, option_map, option_and_then, List, [], ◌∷◌, map}
use Rattle.std.specs.Ordering.{eq_by_cmp}
use Rattle.std.specs.FinMap.{FinMap, get, from_entries}
use Rattle.fm_base.specs.declared.path.ChanName.{ChanName}
use Rattle.fm_base.specs.PathOrder.{path_cmp, channel_cmp}
use Rattle.fm_mean.specs.declared.outcome.At.{At}
use Rattle.fm_mean.specs.declared.outcome.At.TheVariants as at
use Rattle.fm_mean.specs.declared.outcome.Holder.{Holder}
use Rattle.fm_mean.specs.declared.outcome.Outcome.{Outcome}
use Rattle.fm_mean.specs.declared.outcome.Wait.{Wait}

-- a path, as its pairs
abbrev pub Pairs : Type 0
Pairs = List (ℕ × ℕ)

-- of two entries that of the lesser writer, and the first where both name one writer
abbrev pub lesser : Holder → Option Holder → Holder
lesser h None = h
lesser h (Some k) = cond (nat_le h.writer k.writer) h k

-- of the entries for a channel that of the least writer. Where a writer is named twice, the first counts.
abbrev pub least_holder : ChanName → List Holder → Option Holder
least_holder c [] = None
least_holder c (h ∷ hs) = cond (eq_by_cmp channel_cmp c h.channel) (Some (lesser h (least_holder c hs))) (least_holder c hs)

-- one that receives waits for the holder of the least writer that is named, or for nobody; one that joins for the child
abbrev pub waited_for : List Holder → At → Option Pairs
waited_for hs (at.Receive c) = option_map (λ h. h.path) (least_holder c hs)
waited_for hs (at.Join child) = Some child

-- whom a wait of the outcome is for
abbrev pub waits_for : Outcome → Wait → Option Pairs
waits_for o w = waited_for o.holders w.at

-- the waiting paths, each with its wait. Where a path stands twice, the first counts.
abbrev pub first_waits : List Wait → FinMap path_cmp Wait
first_waits ws = from_entries (map (λ w. (w.path, w)) ws)

-- whom a process waits for; none where it doesn't wait, or its wait is lost
abbrev pub next_path : Outcome → Pairs → Option Pairs
next_path o p = option_and_then (waits_for o) (get (first_waits o.waits) p)

-- one fact of a channel that is received from, another one of a child
abbrev pub MatchAt : At → (ChanName → Type 0) → (Pairs → Type 0) → Type 0
MatchAt (at.Receive c) P Q = P c
MatchAt (at.Join child) P Q = Q child
