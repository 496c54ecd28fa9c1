-- How often the first two packets of a channel that aren't acknowledged were sent.
-- Source: this profile.
use Rattle.std.specs.Prelude.{ℕ, ◌+◌, ◌-◌, ◌==◌, nat_lt, Bool, cond}
use Rattle.fm_nodes_rounds.specs.declared.sendings.Sent.{Sent}

-- nothing was sent, and the first packet has this number
abbrev pub unsent : ℕ → Sent
unsent first = record { first = first; times = 0; times_behind = 0 }

-- a count that stops at three: nothing is lost that was sent twice before
abbrev pub once_more : ℕ → ℕ
once_more n = cond (nat_lt n 3) (n + 1) n

-- the packet of this number is the first one now: it was the one behind the first, or it is new
abbrev pub with_first : Sent → ℕ → Sent
with_first s first = cond (first == s.first) s (record { first = first; times = cond (first - s.first == 1) s.times_behind 0; times_behind = 0 })

-- how often the packet was sent before
abbrev pub sent_before : Sent → (is_first : Bool) → ℕ → ℕ
sent_before s is_first number = cond is_first (with_first s number).times s.times_behind

-- and the counts behind this sending
abbrev pub with_sending : Sent → (is_first : Bool) → ℕ → Sent
with_sending s is_first number = cond is_first
    (record { first = (with_first s number).first; times = once_more (with_first s number).times; times_behind = (with_first s number).times_behind })
    (record { first = s.first; times = s.times; times_behind = once_more s.times_behind })
