-- Who waits at the channels, and who was woken.
-- Source: the Fortran M report (RECEIVE waits for a message or the end of the channel), with this
-- profile's numbers of processes.
use Rattle.std.specs.Prelude.{◌≡◌, ◌⊎◌, ℕ, Option, Some, List, Contains}
use Rattle.std.specs.FinMap as map
use Rattle.fm_base.specs.declared.path.ChanName.{ChanName}
use Rattle.fm_base.specs.Channels.{Chan}
use Rattle.fm_chan.specs.declared.channels.Channels.{Channels}
use Rattle.fm_chan.specs.Bodies.{chans_of}
use Rattle.fm_chan.specs.Readers.{reader_at, IsReadyAt, IsClosedAt}

-- the number of the process that waits at the channel of this name, if one does. It waits for a message or
-- the end of the channel: where a receive would be ready, nobody waits
unfoldable pub waiting_reader : Channels → ChanName → Option ℕ
waiting_reader s c = reader_at s.bodies c

-- the numbers of the processes that were woken and not taken out yet
abbrev pub woken_of : Channels → List ℕ
woken_of s = s.woken.items

-- who waited at a channel waits still, or was woken, and this holds of the channel; who was woken before
-- is so still
pub record WakesAt (Fact : Option Chan → Type 0) (old new : Channels) : Type 0 where
  pub readers : (c : ChanName) (n : ℕ) → waiting_reader old c ≡ Some n → (waiting_reader new c ≡ Some n) ⊎ (Contains (woken_of new) n × Fact (map.get (chans_of new) c))
  pub woken : (n : ℕ) → Contains (woken_of old) n → Contains (woken_of new) n

-- who waited waits still, or was woken because the channel is ready
abbrev pub Wakes : (old new : Channels) → Type 0
Wakes = WakesAt IsReadyAt

-- or because its last writer has closed
abbrev pub WakesAtEnd : (old new : Channels) → Type 0
WakesAtEnd = WakesAt IsClosedAt

-- who waited waits still, or was woken, for whatever reason
abbrev pub WakesAll : (old new : Channels) → Type 0
WakesAll = WakesAt (λ _. Unit {0})
