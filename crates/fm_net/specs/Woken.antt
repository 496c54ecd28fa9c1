-- Which processes a step makes able to step.
-- Source: the Fortran M report (a receive waits for a message or the end of its channel, a process block
-- for its processes), for any language of processes.
use Rattle.std.specs.Prelude.{◌≡◌, ◌≢◌, ◌⊎◌, ℕ, ◌≤◌, Some, [], true}
use Rattle.std.specs.FinMap.{get}
use Rattle.fm_base.specs.declared.path.ChanName.{ChanName}
use Rattle.fm_base.specs.Channels.{Message, Limits, Chan, Push, Pop}
use Rattle.fm_sched.specs.Schedule.{next}
use Rattle.fm_net.specs.Machine.{Place, Need, Event, Children, Reply, Onward, Go, State, child}
use Rattle.fm_net.specs.Language.{Language, language_step}
use Rattle.fm_net.specs.Starts.{Among, starts_at}

module _ {Proc : Type 0} (language : Language Proc) where
  -- the process at this place needs this next
  pub record Needs (s : State Proc) (q : Place) (need : Need) : Type 0 where
    pub self : Proc
    pub is : get s.procs q ≡ Some self
    pub goes : ChanName → Reply Proc → Onward Proc
    pub asks : language.ask self ≡ Go need goes

  module _ (s : State Proc) (p q : Place) where
    -- q waits for a message of the channel to which p sends
    pub record IsSentTo : Type 0 where
      pub channel : ChanName
      pub limits : Limits
      pub waits : Needs s q (Event channel (Pop limits))
      pub writer : ℕ
      pub message : Message
      pub sends : Needs s p (Event channel (Push writer message))

    -- q waits for a message of a channel whose last writer goes by the step
    pub record IsLeftByWriters : Type 0 where
      pub channel : ChanName
      pub limits : Limits
      pub waits : Needs s q (Event channel (Pop limits))
      pub before : Chan
      pub is_before : get s.chans channel ≡ Some before
      pub some_writer : before.writers ≢ []
      pub after : Chan
      pub is_after : get (next (language_step language) s p).chans channel ≡ Some after
      pub no_writer : after.writers ≡ []

    -- q waits for the children of a block, of which p is the last that ends
    pub record IsLeftByChildren : Type 0 where
      pub block : ℕ
      pub count : ℕ
      pub waits : Needs s q (Children block count)
      pub index : ℕ
      pub from_one : 1 ≤ index
      pub within : index ≤ count
      pub is_child : p ≡ child q block index
      pub last : Proc
      pub is_last : get (next (language_step language) s p).procs p ≡ Some last
      pub has_ended : language.has_ended last ≡ true
      pub others_ended : (j : ℕ) → 1 ≤ j → j ≤ count → (j ≢ index) → (x : Proc) × (get s.procs (child q block j) ≡ Some x) × (language.has_ended x ≡ true)

    -- q is a child that p starts
    abbrev pub IsStarted : Type 0
    IsStarted = Among q (starts_at language s p)

    -- p's step may make q able to step
    abbrev pub MayWake : Type 0
    MayWake = IsSentTo ⊎ (IsLeftByWriters ⊎ (IsLeftByChildren ⊎ IsStarted))
