-- Languages, or parts of one, in which no order of steps tells: each channel that is made has one writer,
-- and nobody looks whether a receive would wait. `IsPlain` is the fact of a process.
-- Source: the Fortran M report (determinism without mergers and probes), for any language of processes.
use Rattle.std.specs.Prelude.{◌≡◌, ◌≤◌, Some}
use Rattle.std.specs.FinMap.{get}
use Rattle.fm_base.specs.declared.path.ChanName.{ChanName}
use Rattle.fm_base.specs.Channels.{ChannelOp, Push, Pop, Look}
use Rattle.fm_net.specs.Machine.{Place, Procs, Need, Nothing, Event, New, Children, Reply, Onward, Ask, Stop, Go}
use Rattle.fm_net.specs.Language.{Language}
use Rattle.fm_net.specs.Typed.{AllIn}

-- the event doesn't look
abbrev pub IsSure : ChannelOp → Type 0
IsSure (Push w m) = Unit {0}
IsSure (Pop limits) = Unit {0}
IsSure Look = ⊥

-- the need doesn't look, and makes no channel with a second writer
abbrev pub IsSingle : Need → Type 0
IsSingle Nothing = Unit {0}
IsSingle (Event c a) = IsSure a
IsSingle (New n k) = k ≤ 1
IsSingle (Children b n) = Unit {0}

module _ {Proc : Type 0} (language : Language Proc) (IsPlain : Proc → Type 0) where
  -- a plain process has a need of this kind, and is plain afterwards, with the children that it starts
  pub record IsPlainStep (need : Need) (f : ChanName → Reply Proc → Onward Proc) : Type 0 where
    pub single : IsSingle need
    pub goes_on : (c : ChanName) (r : Reply Proc) → AllIn IsPlain r.children → IsPlain (f c r).self × AllIn IsPlain (f c r).starts

  abbrev pub IsPlainAsk : Ask Proc → Type 0
  IsPlainAsk Stop = Unit {0}
  IsPlainAsk (Go need f) = IsPlainStep need f

  -- what a language owes, so that plain processes stay plain
  pub record KeepsPlain : Type 0 where
    pub goes : (x : Proc) → IsPlain x → IsPlainAsk (language.ask x)
    pub empties : (x : Proc) → IsPlain x → IsPlain (language.emptied x)

  -- every process is plain
  abbrev pub AllPlain : Procs Proc → Type 0
  AllPlain m = (q : Place) (x : Proc) → get m q ≡ Some x → IsPlain x
