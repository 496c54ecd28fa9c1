-- Who is noted at the channel at which it waits, and who started whom.
-- Source: this profile.
use Rattle.std.specs.Prelude.{◌≡◌, ◌⊎◌, ℕ, ◌<◌, ◌≤◌, false, is_some, length, slice_index_or, Contains, Some, List, slice_get}
use Rattle.std.specs.FinMap.{get}
use Rattle.fm_base.specs.declared.path.ChanName.{ChanName}
use Rattle.fm_base.specs.Channels.{Limits, Pop}
use Rattle.fm_chan.specs.declared.channels.Channels.{Channels}
use Rattle.fm_chan.specs.Woken.{waiting_reader, woken_of}
use Rattle.fm_net.specs.Machine.{Place, State, Event, child}
use Rattle.fm_run.specs.Plays.{Play, step, need_of}

-- a process of this number that needs a message of a channel is noted there, or was woken
abbrev pub IsNoted : (program : Play) → Channels → (number : ℕ) → program.Proc → Type 0
IsNoted program channels number x = (c : ChanName) (limits : Limits) → need_of program x ≡ Some (Event c (Pop limits))
    → (waiting_reader channels c ≡ Some number) ⊎ Contains (woken_of channels) number

-- so is each that can't step, but these
abbrev pub AreNotedBut : (program : Play) → State program.Proc → Channels → List Place → (but : ℕ → Type 0) → Type 0
AreNotedBut program s channels places but = (n : ℕ) (q : Place) (x : program.Proc) → slice_get places n ≡ Some q → get s.procs q ≡ Some x → is_some (step program s q) ≡ false
    → but n ⊎ IsNoted program channels n x

-- the one that made the piece, or one of the list from the i-th on
abbrev pub OwnOrLeft : (own : ℕ) → (numbers : List ℕ) → (i : ℕ) → ℕ → Type 0
OwnOrLeft own numbers i n = (n ≡ own) ⊎ ((j : ℕ) × (i ≤ j) × (j < length numbers) × (slice_index_or numbers j n ≡ n))

abbrev pub AreNoted : (program : Play) → State program.Proc → Channels → List Place → Type 0
AreNoted program s channels places = AreNotedBut program s channels places (λ n. ⊥)

-- the numbers of those that started the processes
abbrev pub AreParents : List Place → (parents : List ℕ) → Type 0
AreParents places parents = (o : ℕ) (q : Place) (b i : ℕ) → slice_get places o ≡ Some (child q b i)
    → (m : ℕ) × (slice_get parents o ≡ Some m) × (slice_get places m ≡ Some q)
