-- What is run: a language of processes, and the process with which it begins.
-- Source: this profile.
use Rattle.std.specs.Prelude.{◌≡◌, ℕ, Bool, false, Option, Some, None, []}
use Rattle.fm_net.specs.Language.{Language, language_step}
use Rattle.fm_net.specs.Lawful.{IsLawfulLanguage}
use Rattle.fm_net.specs.Machine as net
use Rattle.fm_net.specs.Machine.{Place, State, Need}
use Rattle.fm_net.specs.Owned.{main_alone}
use Rattle.fm_net_procs.specs.Waiting as waiting
pub use Rattle.fm_net_procs.specs.Waiting.{need_in}
use Rattle.fm_mean.specs.declared.outcome.Outcome.{Outcome}

pub record Play : Type 1 where
  pub Proc : Type 0
  -- what processes do
  pub speaks : Language Proc
  -- the process that is there first
  pub main : Proc
  -- the block whose children a process waits for, and how many they are
  pub awaits : Proc → Option (ℕ × ℕ)
  -- whether a process's next step concerns itself alone
  pub is_local : Proc → Bool
  -- what a state shows that was reached at this cost
  pub shows : ℕ → State Proc → Outcome

-- processes account for their ports, and main holds none
pub record IsLawfulPlay (p : Play) : Type 0 where
  pub lawful : IsLawfulLanguage p.speaks
  pub free : p.speaks.held p.main ≡ []

abbrev pub language : (p : Play) → Language p.Proc
language p = p.speaks

abbrev pub ask : (p : Play) → p.Proc → net.Ask p.Proc
ask p = p.speaks.ask

abbrev pub has_ended : (p : Play) → p.Proc → Bool
has_ended p = p.speaks.has_ended

abbrev pub emptied : (p : Play) → p.Proc → p.Proc
emptied p = p.speaks.emptied

abbrev pub step : (p : Play) → State p.Proc → Place → Option (State p.Proc × ℕ)
step p = language_step p.speaks

abbrev pub first_proc : (p : Play) → p.Proc
first_proc p = p.main

abbrev pub first : (p : Play) → State p.Proc
first p = main_alone p.main

abbrev pub has_local : (p : Play) → p.Proc → Bool
has_local p = p.is_local

abbrev pub need_of : (p : Play) → p.Proc → Option Need
need_of p = waiting.need_of p.speaks

abbrev pub ended_at : (p : Play) → Option p.Proc → Bool
ended_at p None = false
ended_at p (Some x) = p.speaks.has_ended x

abbrev pub outcome_of : (p : Play) → ℕ → State p.Proc → Outcome
outcome_of p = p.shows
