-- Why a process of a checked program has no step.
-- Source: the Fortran M report (RECEIVE waits for a message, a process block for its processes), with this profile's atomic step.
use Rattle.std.specs.Prelude.{◌≡◌, ◌⊎◌, ◌<◌, ℕ, suc, false, Option, Some, None, List, [], ◌∷◌, length}
use Rattle.std.specs.FinMap.{get}
use Rattle.fm_base.specs.declared.fault.Fault.{Fault}
use Rattle.fm_base.specs.declared.path.ChanName.{ChanName}
use Rattle.fm_base.specs.Channels.{Chan}
use Rattle.fm_net.specs.Machine.{Place, State, child}
use Rattle.fm_rules.specs.declared.program.Program.{Program}
use Rattle.fm_mean.specs.declared.place.Span.{Span}
use Rattle.fm_mean.specs.Process.{Kid, Joining, Ended, Faulted, Proc, has_ended}
use Rattle.fm_mean.specs.Actions.{Receive, Rest, Meets, action_of}
use Rattle.fm_mean.specs.Steps.{step}

-- it joins a block one of whose children hasn't ended
pub record JoinsUnended (s : State Proc) (q : Place) (x : Proc) : Type 0 where
  pub block : ℕ
  pub kids : List Kid
  pub joins : x.phase ≡ Joining block kids
  pub number : ℕ
  pub among : number < length kids
  pub kid : Proc
  pub there : get s.procs (child q block (suc number)) ≡ Some kid
  pub goes_on : has_ended kid ≡ false

-- it stands at a RECEIVE whose operands are evaluated and whose port isn't NULL: no message is there, and a writer is open
pub record AwaitsMessage (p : Program) (s : State Proc) (x : Proc) : Type 0 where
  pub channel : ChanName
  pub line : ℕ
  pub items : List Span
  pub iostat : Option Span
  pub at_end : Option ℕ
  pub next : ℕ
  pub receives : action_of p x ≡ Meets (Receive channel line items iostat at_end next)
  pub chan : Chan
  pub there : get s.chans channel ≡ Some chan
  pub empty : chan.queue ≡ []
  pub writer : ℕ
  pub others : List ℕ
  pub open_writers : chan.writers ≡ writer ∷ others

abbrev pub HasFaulted : Proc → Type 0
HasFaulted x = (line : ℕ) × (fault : Fault) × (x.phase ≡ Faulted line fault)

-- a process that can't step: it has ended or faulted, or it waits for a child or for a message
abbrev pub HasNoStep : Program → State Proc → Place → Proc → Type 0
HasNoStep p s q x = (x.phase ≡ Ended) ⊎ (HasFaulted x ⊎ (JoinsUnended s q x ⊎ AwaitsMessage p s x))

-- In a state: who has no step has a reason; who has a reason has no step; who does nothing more has ended or faulted.

abbrev pub RestingHaveReasons : Program → State Proc → Type 0
RestingHaveReasons p s = (q : Place) (x : Proc) → get s.procs q ≡ Some x → step p s q ≡ None → HasNoStep p s q x

abbrev pub ReasonsHold : Program → State Proc → Type 0
ReasonsHold p s = (q : Place) (x : Proc) → get s.procs q ≡ Some x → HasNoStep p s q x → step p s q ≡ None

abbrev pub OthersAct : Program → State Proc → Type 0
OthersAct p s = (q : Place) (x : Proc) → get s.procs q ≡ Some x → action_of p x ≡ Rest → (x.phase ≡ Ended) ⊎ HasFaulted x
