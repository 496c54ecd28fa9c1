-- Whether a process can step, and where it waits.
-- Source: the Fortran M report (RECEIVE waits for a message or the end of its channel, a process block for its processes).
use Rattle.std.specs.Prelude.{◌≡◌, ◌⊎◌, ℕ, Bool, false, is_some, Option, Some, None, List, Contains, slice_get}
use Rattle.fm_base.specs.declared.path.ChanName.{ChanName}
use Rattle.fm_base.specs.Channels.{ChannelOp, Push, Pop, Look}
use Rattle.fm_chan.specs.declared.channels.Channels.{Channels}
use Rattle.fm_chan.specs.Woken.{waiting_reader, woken_of}
use Rattle.fm_net.specs.Language.{Language, language_step}
use Rattle.fm_net.specs.Machine.{Place, State, Ask, Need, Nothing, Event, New, Children, Stop, Go}
use Rattle.fm_net_procs.specs.Kept.{AreChildren, HasFamily, count_awaited}

-- the channel of a receive
abbrev pub channel_popped : ChanName → ChannelOp → Option ChanName
channel_popped c (Push w m) = None
channel_popped c (Pop limits) = Some c
channel_popped c Look = None

abbrev pub channel_needed : Option Need → Option ChanName
channel_needed None = None
channel_needed (Some Nothing) = None
channel_needed (Some (Event c a)) = channel_popped c a
channel_needed (Some (New n writers)) = None
channel_needed (Some (Children b n)) = None

module _ {X : Type 0} where
  abbrev pub need_in : Ask X → Option Need
  need_in Stop = None
  need_in (Go need onward) = Some need

module _ {X : Type 0} (language : Language X) where
  -- what a process needs before it goes on; none where it does nothing more
  abbrev pub need_of : X → Option Need
  need_of y = need_in (language.ask y)

  -- the channel at which it waits for a message, if it waits at one
  abbrev pub channel_waited : X → Option ChanName
  channel_waited y = channel_needed (need_of y)

  -- a process of this number is noted at the channel where it waits for a message, or was woken
  abbrev pub IsNoted : Channels → (number : ℕ) → X → Type 0
  IsNoted channels number y = (c : ChanName) → channel_waited y ≡ Some c → (waiting_reader channels c ≡ Some number) ⊎ Contains (woken_of channels) number

  abbrev pub can_in : State X → Option Place → Bool
  can_in s None = false
  can_in s (Some p) = is_some (language_step language s p)

  -- whether the process of this number can step
  abbrev pub can_at : State X → List Place → ℕ → Bool
  can_at s places n = can_in s (slice_get places n)

  -- a process needs the children of a block, which are those for which it waits
  pub record JoinsBlock (awaits : X → Option (ℕ × ℕ)) (y : X) : Type 0 where
    pub block : ℕ
    pub needs : need_of y ≡ Some (Children block (count_awaited (awaits y)))
    pub family : (places : List Place) (first : ℕ) (q : Place) → HasFamily places q (awaits y) first → AreChildren places first q block (count_awaited (awaits y))
