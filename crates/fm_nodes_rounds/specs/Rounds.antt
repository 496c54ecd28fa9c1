-- The rounds: which event is a step, and how often a packet comes that was sent.
-- Source: this profile.
use Rattle.std.specs.Prelude.{ℕ, ◌+◌, ◌%◌, ◌==◌, nat_lt, Bool, true, false, cond}
use Rattle.fm_nodes_rounds.specs.declared.hosts.NodeEvent.{NodeEvent}
use Rattle.fm_nodes_rounds.specs.declared.hosts.NodeEvent.TheVariants.{Step, Send, Answer, Deliver, Lose, Restart}

-- a process makes a step, if it has one; all else is the network's
abbrev pub is_step : NodeEvent → Bool
is_step (Step path) = true
is_step (Send channel place) = false
is_step (Answer channel) = false
is_step (Deliver place) = false
is_step (Lose place) = false
is_step (Restart host) = false

-- how often a packet comes that was sent so often before: not at all as long as these are fewer than the remainder of
-- seed and number by three, and then twice where seed and number are even together, else once
abbrev pub comings : (seed number before : ℕ) → ℕ
comings seed number before = cond (nat_lt before ((seed + number) % 3)) 0 (cond ((seed + number) % 2 == 0) 2 1)
