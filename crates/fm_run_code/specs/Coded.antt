-- What is run corresponds to stack code: its processes do and need what those of stack code do that correspond to them.
-- Source: bisimulation in the usual sense of process calculi, for the languages of this profile.
use Rattle.std.specs.Prelude.{◌≡◌, Some}
use Rattle.std.specs.FinMap.{get}
use Rattle.fm_net.specs.Correspondence.{AreAlike}
use Rattle.fm_net.specs.Machine.{Place, State}
use Rattle.fm_net.specs.Owned.{IsOwned}
use Rattle.fm_proc_language.specs.Needs as code
use Rattle.fm_proc_language.specs.Processes.{CodeProc, code_language, has_ended}
use Rattle.fm_procs.specs.Readings.{awaits}
use Rattle.fm_run.specs.Plays.{IsLawfulPlay, Play, need_of}

-- in the states of what is run of which something holds; there it is lawful, and each port stands somewhere once
pub record IsCoded (p : Play) (Corresponds : CodeProc → p.Proc → Type 0) (IsLive : State p.Proc → Type 0) : Type 0 where
  pub alike : AreAlike Corresponds IsLive p.speaks code_language
  pub lawful : (s : State p.Proc) → IsLive s → IsLawfulPlay p
  pub owned : (s : State p.Proc) → IsLive s → IsOwned p.speaks s
  pub ended : (x : p.Proc) (y : CodeProc) → Corresponds y x → has_ended y ≡ p.speaks.has_ended x
  pub next_block : (x : p.Proc) (y : CodeProc) → Corresponds y x → y.next_block ≡ p.speaks.next_block x
  pub awaits : (x : p.Proc) (y : CodeProc) → Corresponds y x → awaits y ≡ p.awaits x
  pub local : (s : State p.Proc) → IsLive s → (q : Place) (x : p.Proc) (y : CodeProc) → get s.procs q ≡ Some x → Corresponds y x → code.is_local y ≡ p.is_local x
  pub needs : (s : State p.Proc) → IsLive s → (q : Place) (x : p.Proc) (y : CodeProc) → get s.procs q ≡ Some x → Corresponds y x → code.need_of y ≡ need_of p x
