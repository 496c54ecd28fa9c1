-- States whose words are all of 64 bits, and whose calls give back at most 65,536 words each.
-- Source: this profile (the range of INTEGER, copying back).
use Rattle.std.specs.Prelude.{◌≡◌, ◌≤◌, ℤ, true, Some, List}
use Rattle.std.specs.FinMap.{get}
use Rattle.fm_base.specs.Channels.{Chan, Item, Words, Ports}
use Rattle.fm_base.specs.Integers.{is_integer}
use Rattle.fm_base.specs.declared.path.ChanName.{ChanName}
use Rattle.fm_net.specs.Machine.{Place, State}
use Rattle.fm_net.specs.Typed.{AllIn}
use Rattle.fm_mean.specs.Calls.{back_words}
use Rattle.fm_mean.specs.Process.{Start, Frame, Proc}

abbrev pub IsWord : ℤ → Type 0
IsWord z = is_integer z ≡ true

-- ports are no words
abbrev pub ItemHasWords : Item → Type 0
ItemHasWords (Words ws) = AllIn IsWord ws
ItemHasWords (Ports ps) = Unit {0}

-- each item of a message, or each variable of a frame
abbrev pub HaveWords : List Item → Type 0
HaveWords vs = AllIn ItemHasWords vs

pub record StartHasWords (s : Start) : Type 0 where
  pub values : HaveWords s.values
  pub few : back_words s.backs ≤ 65536

pub record FrameHasWords (f : Frame) : Type 0 where
  pub values : HaveWords f.values
  pub results : AllIn IsWord f.results
  pub starts : AllIn StartHasWords f.starts
  pub few : back_words f.backs ≤ 65536

abbrev pub ProcessHasWords : Proc → Type 0
ProcessHasWords x = AllIn FrameHasWords x.execution.frames

-- in each process, and in each message that waits
pub record StateHasWords (s : State Proc) : Type 0 where
  pub processes : (q : Place) (x : Proc) → get s.procs q ≡ Some x → ProcessHasWords x
  pub messages : (c : ChanName) (ch : Chan) → get s.chans c ≡ Some ch → AllIn HaveWords ch.queue
