-- Which exit a command comes to on which bytes, where nothing fails.
-- Source: this profile.
use Rattle.std.specs.Prelude.{◌≡◌, ◌⊎◌, ℕ, ◌<◌, ◌≤◌, List, length, Some}
use Rattle.fm_base.specs.declared.name.Line.{Line}
use Rattle.fm_base.specs.declared.rule.Refusal.{Refusal}
use Rattle.fm_trace.specs.Texts.{IsFirstMalformed}
use Rattle.fm_make.specs.Made.{made_text}
use Rattle.fm_words.specs.declared.command.Command.{Command}
use Rattle.fm_words.specs.declared.command.Command.TheVariants as command
use Rattle.fmc.specs.declared.answer.Exit.{Exit}
use Rattle.fmc.specs.declared.answer.Exit.TheVariants.{Done, Faulted, Deadlocked, Refused, Spent, NoMemory, TooLong, Malformed, Illegal, Unfinished, BadObject, Unverified, NotPlain}
use Rattle.fmc.specs.Executes.{HasBadLine, HasBadUnit, IsRunnable, object_limit}
use Rattle.fmc.specs.Outcomes.{IsAccepted, IsRefusedFor, source_limit}
use Rattle.fmc.specs.Plain.{HasPlainVerdict, IsPlainSource}
use Rattle.fmc.specs.Replay.{IsTooLongTrace, IsTraceOf, trace_limit}
use Rattle.fmc.specs.Answer.{IsPlayedExit}

-- a source within the limit that breaks no rule
abbrev pub IsLawful : List ℕ → Type 0
IsLawful b = (length b ≤ source_limit) × IsAccepted b

-- nothing stands against the command's work
abbrev pub IsReady : Command → List ℕ → Type 0
IsReady (command.Run setup vars) b = IsLawful b
IsReady (command.Trace setup) b = IsLawful b
IsReady (command.Replay vars) b = IsTraceOf IsAccepted b
IsReady command.Check b = IsLawful b
IsReady command.List b = IsLawful b
IsReady command.Flow b = IsLawful b
IsReady command.Compile b = IsLawful b
IsReady (command.Exec turns vars) b = IsRunnable b
IsReady (command.Make number) b = Unit {0}
IsReady (command.Demo number setup) b = IsAccepted (made_text number)
-- that of another program is the matter of IsUnplainBy
IsReady (command.Nodes number setup vars) b = (length b ≤ source_limit) × IsPlainSource b

-- this exit, or no memory was found
abbrev pub IsDue : (due : Exit) → Exit → Type 0
IsDue due exit = (exit ≡ due) ⊎ (exit ≡ NoMemory)

-- the command did its work to the end, or as far as its turns, or found no memory
abbrev pub IsCompleted : Command → Exit → Type 0
IsCompleted (command.Run setup vars) exit = ((exit ≡ Done) ⊎ ((exit ≡ Faulted) ⊎ (exit ≡ Deadlocked))) ⊎ ((exit ≡ Spent) ⊎ (exit ≡ NoMemory))
IsCompleted (command.Trace setup) exit = ((exit ≡ Done) ⊎ ((exit ≡ Faulted) ⊎ (exit ≡ Deadlocked))) ⊎ ((exit ≡ Spent) ⊎ (exit ≡ NoMemory))
IsCompleted (command.Replay vars) exit = IsPlayedExit exit ⊎ ((exit ≡ Illegal) ⊎ ((exit ≡ Unfinished) ⊎ (exit ≡ NoMemory)))
IsCompleted command.Check exit = IsDue Done exit
IsCompleted command.List exit = IsDue Done exit
IsCompleted command.Flow exit = IsDue Done exit
IsCompleted command.Compile exit = IsDue Done exit
IsCompleted (command.Exec turns vars) exit = ((exit ≡ Done) ⊎ ((exit ≡ Faulted) ⊎ (exit ≡ Deadlocked))) ⊎ ((exit ≡ Spent) ⊎ (exit ≡ NoMemory))
IsCompleted (command.Make number) exit = IsDue Done exit
IsCompleted (command.Demo number setup) exit = ((exit ≡ Done) ⊎ ((exit ≡ Faulted) ⊎ (exit ≡ Deadlocked))) ⊎ ((exit ≡ Spent) ⊎ (exit ≡ NoMemory))
IsCompleted (command.Nodes number setup vars) exit = ((exit ≡ Done) ⊎ ((exit ≡ Faulted) ⊎ (exit ≡ Deadlocked))) ⊎ ((exit ≡ Spent) ⊎ (exit ≡ NoMemory))

-- a source within the limit that is refused for this
abbrev pub IsUnlawful : List ℕ → Refusal → Type 0
IsUnlawful b v = (length b ≤ source_limit) × IsRefusedFor b v

-- what the command works on is refused for this
abbrev pub IsRefusedBy : Command → List ℕ → Refusal → Type 0
IsRefusedBy (command.Run setup vars) b v = IsUnlawful b v
IsRefusedBy (command.Trace setup) b v = IsUnlawful b v
IsRefusedBy (command.Replay vars) b v = IsTraceOf (λ source. IsRefusedFor source v) b
IsRefusedBy command.Check b v = IsUnlawful b v
IsRefusedBy command.List b v = IsUnlawful b v
IsRefusedBy command.Flow b v = IsUnlawful b v
IsRefusedBy command.Compile b v = IsUnlawful b v
IsRefusedBy (command.Exec turns vars) b v = ⊥
IsRefusedBy (command.Make number) b v = ⊥
IsRefusedBy (command.Demo number setup) b v = IsRefusedFor (made_text number) v
IsRefusedBy (command.Nodes number setup vars) b v = IsUnlawful b v

-- the bytes are over the limit of the command
abbrev pub IsTooLongBy : Command → List ℕ → Type 0
IsTooLongBy (command.Run setup vars) b = source_limit < length b
IsTooLongBy (command.Trace setup) b = source_limit < length b
IsTooLongBy (command.Replay vars) b = IsTooLongTrace b
IsTooLongBy command.Check b = source_limit < length b
IsTooLongBy command.List b = source_limit < length b
IsTooLongBy command.Flow b = source_limit < length b
IsTooLongBy command.Compile b = source_limit < length b
IsTooLongBy (command.Exec turns vars) b = object_limit < length b
IsTooLongBy (command.Make number) b = ⊥
IsTooLongBy (command.Demo number setup) b = ⊥
IsTooLongBy (command.Nodes number setup vars) b = source_limit < length b

-- a line of the trace, which is within its limit, is malformed
abbrev pub IsMalformedBy : Command → List ℕ → Type 0
IsMalformedBy (command.Run setup vars) b = ⊥
IsMalformedBy (command.Trace setup) b = ⊥
IsMalformedBy (command.Replay vars) b = (length b ≤ trace_limit) × (line : ℕ) × IsFirstMalformed b line
IsMalformedBy command.Check b = ⊥
IsMalformedBy command.List b = ⊥
IsMalformedBy command.Flow b = ⊥
IsMalformedBy command.Compile b = ⊥
IsMalformedBy (command.Exec turns vars) b = ⊥
IsMalformedBy (command.Make number) b = ⊥
IsMalformedBy (command.Demo number setup) b = ⊥
IsMalformedBy (command.Nodes number setup vars) b = ⊥

-- the source is within the limit and breaks no rule, and its program isn't one that hosts can play, which the command asks for
abbrev pub IsUnplainBy : Command → List ℕ → Type 0
IsUnplainBy (command.Run setup vars) b = ⊥
IsUnplainBy (command.Trace setup) b = ⊥
IsUnplainBy (command.Replay vars) b = ⊥
IsUnplainBy command.Check b = ⊥
IsUnplainBy command.List b = ⊥
IsUnplainBy command.Flow b = ⊥
IsUnplainBy command.Compile b = ⊥
IsUnplainBy (command.Exec turns vars) b = ⊥
IsUnplainBy (command.Make number) b = ⊥
IsUnplainBy (command.Demo number setup) b = ⊥
IsUnplainBy (command.Nodes number setup vars) b = (length b ≤ source_limit) × (line : Line) × HasPlainVerdict b (Some line)

-- a line of the object text, which is within its limit, is malformed
abbrev pub IsBadObjectBy : Command → List ℕ → Type 0
IsBadObjectBy (command.Run setup vars) b = ⊥
IsBadObjectBy (command.Trace setup) b = ⊥
IsBadObjectBy (command.Replay vars) b = ⊥
IsBadObjectBy command.Check b = ⊥
IsBadObjectBy command.List b = ⊥
IsBadObjectBy command.Flow b = ⊥
IsBadObjectBy command.Compile b = ⊥
IsBadObjectBy (command.Exec turns vars) b = HasBadLine b
IsBadObjectBy (command.Make number) b = ⊥
IsBadObjectBy (command.Demo number setup) b = ⊥
IsBadObjectBy (command.Nodes number setup vars) b = ⊥

-- the image of the object text, which is within its limit, makes no sense
abbrev pub IsUnverifiedBy : Command → List ℕ → Type 0
IsUnverifiedBy (command.Run setup vars) b = ⊥
IsUnverifiedBy (command.Trace setup) b = ⊥
IsUnverifiedBy (command.Replay vars) b = ⊥
IsUnverifiedBy command.Check b = ⊥
IsUnverifiedBy command.List b = ⊥
IsUnverifiedBy command.Flow b = ⊥
IsUnverifiedBy command.Compile b = ⊥
IsUnverifiedBy (command.Exec turns vars) b = HasBadUnit b
IsUnverifiedBy (command.Make number) b = ⊥
IsUnverifiedBy (command.Demo number setup) b = ⊥
IsUnverifiedBy (command.Nodes number setup vars) b = ⊥

-- the command and the bytes decide the exit: whether the command does its work, and if not, why not
pub record IsDecidedBy (c : Command) (b : List ℕ) (exit : Exit) : Type 0 where
  pub complete : IsReady c b → IsCompleted c exit
  pub refused : (v : Refusal) → IsRefusedBy c b v → IsDue Refused exit
  pub too_long : IsTooLongBy c b → IsDue TooLong exit
  pub malformed : IsMalformedBy c b → IsDue Malformed exit
  pub bad_object : IsBadObjectBy c b → IsDue BadObject exit
  pub unverified : IsUnverifiedBy c b → IsDue Unverified exit
  pub unplain : IsUnplainBy c b → IsDue NotPlain exit
