-- Types of channels: what the language lets a process hold and send, relative to a type for each channel.
-- `IsFine` is the fact of a process, and `Fits` that of a message at its channel.
-- Source: the Fortran M report (typed channels), for any language of processes.
use Rattle.std.specs.Prelude.{◌≡◌, ◌≤◌, Option, Some, List, [], ◌∷◌}
use Rattle.std.specs.FinMap.{get}
use Rattle.fm_base.specs.declared.path.ChanName.{ChanName}
use Rattle.fm_base.specs.declared.port.PortValue.{PortValue}
use Rattle.fm_base.specs.Channels.{Message, Chan, Push, Pop, Look, message_ports, channel_of}
use Rattle.fm_net.specs.Machine.{Place, Need, Nothing, Event, New, Children, Reply, Onward, Ask, Stop, Go, State}
use Rattle.fm_net.specs.Language.{Language}
use Rattle.fm_net.specs.Owned.{count}

-- the fact holds of all in the list
abbrev pub AllIn : {X : Type 0} → (X → Type 0) → List X → Type 0
AllIn Fact [] = Unit {0}
AllIn Fact (x ∷ xs) = Fact x × AllIn Fact xs

module _ {Proc T : Type 0} (language : Language Proc) (IsFine : (ChanName → T) → Proc → Type 0) (Fits : (ChanName → T) → ChanName → Message → Type 0) where
  -- the message that is sent fits its channel
  abbrev pub SentFits : (ChanName → T) → Need → Type 0
  SentFits types Nothing = Unit {0}
  SentFits types (Event c (Push w m)) = Fits types c m
  SentFits types (Event c (Pop limits)) = Unit {0}
  SentFits types (Event c Look) = Unit {0}
  SentFits types (New n k) = Unit {0}
  SentFits types (Children b n) = Unit {0}

  -- and so does the one that comes
  abbrev pub CameFits : (ChanName → T) → Need → Option Message → Type 0
  CameFits types Nothing r = Unit {0}
  CameFits types (Event c a) r = (m : Message) → r ≡ Some m → Fits types c m
  CameFits types (New n k) r = Unit {0}
  CameFits types (Children b n) r = Unit {0}

  -- the channel that is made has the type that its maker gives it
  abbrev pub MadeFits : (ChanName → T) → Need → ChanName → T → Type 0
  MadeFits types Nothing c t = Unit {0}
  MadeFits types (Event d a) c t = Unit {0}
  MadeFits types (New n k) c t = types c ≡ t
  MadeFits types (Children b n) c t = Unit {0}

  -- a fine process sends what fits, and is fine again after a reply that fits, with the children that it starts
  pub record IsTypedStep (x : Proc) (need : Need) (f : ChanName → Reply Proc → Onward Proc) : Type 0 where
    pub type_made : T
    pub sends : (types : ChanName → T) → IsFine types x → SentFits types need
    pub goes_on : (types : ChanName → T) → IsFine types x → (c : ChanName) (r : Reply Proc) → MadeFits types need c type_made → CameFits types need r.message → AllIn (IsFine types) r.children
        → IsFine types (f c r).self × AllIn (IsFine types) (f c r).starts

  abbrev pub IsTypedAsk : Proc → Ask Proc → Type 0
  IsTypedAsk x Stop = Unit {0}
  IsTypedAsk x (Go need f) = IsTypedStep x need f

  -- what a language with types owes; processes and messages look at the types of their own ports alone
  pub record IsTypedLanguage : Type 0 where
    pub goes : (x : Proc) → IsTypedAsk x (language.ask x)
    pub empties : (types : ChanName → T) (x : Proc) → IsFine types x → IsFine types (language.emptied x)
    pub agrees : (types others : ChanName → T) (x : Proc) → ((z : PortValue) → 1 ≤ count z (language.held x) → types (channel_of z) ≡ others (channel_of z)) → IsFine types x → IsFine others x
    pub message_agrees : (types others : ChanName → T) (c : ChanName) (m : Message) → types c ≡ others c → ((z : PortValue) → 1 ≤ count z (message_ports m) → types (channel_of z) ≡ others (channel_of z)) → Fits types c m → Fits others c m

  -- every process is fine, and every message that waits fits its channel
  pub record AreTypes (types : ChanName → T) (s : State Proc) : Type 0 where
    pub each : (q : Place) (x : Proc) → get s.procs q ≡ Some x → IsFine types x
    pub queues : (c : ChanName) (ch : Chan) → get s.chans c ≡ Some ch → AllIn (Fits types c) ch.queue

  -- the channels have types
  abbrev pub IsTyped : State Proc → Type 0
  IsTyped s = (types : ChanName → T) × AreTypes types s
