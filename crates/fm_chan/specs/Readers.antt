-- Readers that wait at channels: a process that waits in a receive is noted at its channel by its number,
-- and what makes the channel ready wakes it.
-- Source: the Fortran M report (RECEIVE waits for a message or the end of the channel), with this
-- profile's numbers of processes.
use Rattle.std.specs.Prelude.{◌≡◌, ◌⊎◌, ◌+◌, ◌≤◌, ℕ, true, cond, Option, Some, None, [], Result, Ok, Err, vec_len, vec_capacity}
use Rattle.std.specs.FinMap as map
use Rattle.std.specs.Global.{Vec}
use Rattle.fm_base.specs.declared.path.ChanName.{ChanName}
use Rattle.fm_base.specs.PathOrder.{channel_cmp}
use Rattle.fm_base.specs.Channels.{Chan, can_pop}
use Rattle.fm_finmap.specs.Map.{map_of}
use Rattle.fm_finmap.specs.Sums.{total}
use Rattle.fm_chan.specs.declared.body.Body.{Body}
use Rattle.fm_chan.specs.declared.body.Put.{Put}
use Rattle.fm_chan.specs.declared.body.Put.TheVariants.{Done, Spilt}
use Rattle.fm_chan.specs.Kept.{chan_of, Named, chans_in}
use Rattle.fm_chan.specs.Received.{pops_at}

-- the process that waits at a channel: it was noted there, and the channel isn't ready
abbrev pub reader_of : Body → Option ℕ
reader_of b = cond (can_pop (chan_of b).queue (chan_of b).writers) None b.reader

abbrev pub reader_in : Option Body → Option ℕ
reader_in None = None
reader_in (Some b) = reader_of b

unfoldable pub reader_at : Named → ChanName → Option ℕ
reader_at bodies c = reader_in (map.get (map_of channel_cmp bodies) c)

-- ---- who is woken

-- a receive has its step there
abbrev pub IsReadyAt : Option Chan → Type 0
IsReadyAt o = pops_at o ≡ true

-- no writer is open any more
abbrev pub IsClosedAt : Option Chan → Type 0
IsClosedAt None = ⊥
IsClosedAt (Some ch) = ch.writers ≡ []

module _ (Fact : Option Chan → Type 0) where
  -- who waited at the channel waits still, or is the one that is woken, and this holds of the channel
  abbrev pub WakesHere : (old new : Body) → (woken : Option ℕ) → Type 0
  WakesHere old new woken = (n : ℕ) → reader_of old ≡ Some n → (reader_of new ≡ Some n) ⊎ ((woken ≡ Some n) × Fact (Some (chan_of new)))

  -- and so at each channel
  abbrev pub WakesOne : (old new : Named) → (woken : Option ℕ) → Type 0
  WakesOne old new woken = (c : ChanName) (n : ℕ) → reader_at old c ≡ Some n → (reader_at new c ≡ Some n) ⊎ ((woken ≡ Some n) × Fact (map.get (chans_in new) c))

-- the reader that a message wakes
abbrev pub put_wakes : Put → Option ℕ
put_wakes (Done reader) = reader
put_wakes (Spilt m) = None

abbrev pub woken_by : {E : Type 0} → Result Put E → Option ℕ
woken_by (Ok put) = put_wakes put
woken_by (Err e) = None

-- ---- room to wake all

-- one where there is a number, or none
abbrev pub count_of : Option ℕ → ℕ
count_of None = 0
count_of (Some n) = 1

-- how many readers are noted at the channels
unfoldable pub noted_in : Named → ℕ
noted_in bodies = total (λ b. count_of b.reader) (map_of channel_cmp bodies)

-- room for each of them beside those that were woken
abbrev pub HasRoomToWake : Named → Vec ℕ → Type 0
HasRoomToWake bodies woken = noted_in bodies + vec_len woken ≤ vec_capacity woken
