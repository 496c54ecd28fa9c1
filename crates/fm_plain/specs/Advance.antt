-- Several local steps of one process, and where they stop.
-- Source: this profile.
use Rattle.std.specs.Prelude.{◌≡◌, ℕ, zero, suc, ◌+◌, ◌<◌, ◌≤◌, Bool, true, false, is_some, Option, Some, option_and_then, option_map, length}
use Rattle.fm_rules.specs.declared.program.Program.{Program}
use Rattle.fm_mean.specs.Process.{Ended, Proc}
use Rattle.fm_mean.specs.Actions.{action_of, local_step}
use Rattle.fm_mean.specs.Live.{IsLive}
use Rattle.fm_mean.specs.NoStep.{HasFaulted}
use Rattle.fm_plain_frame.specs.LetGo.{let_go_ports}
use Rattle.fm_plain.specs.declared.advancing.Advanced.{Advanced}
use Rattle.fm_plain.specs.declared.advancing.Stop.{Stop}
use Rattle.fm_plain.specs.declared.advancing.Stop.TheVariants.{More, Event, LetsGo, Short}
use Rattle.fm_plain.specs.Events.{IsEvent}
use Rattle.fm_plain.specs.Steps.{own_in}

abbrev pub with_cost : ℕ → Option (Proc × ℕ) → Option (Proc × ℕ)
with_cost cost = option_map (λ r. (r.0, cost + r.1))

-- so many local steps: the process after them and their cost, or none where one isn't local
abbrev pub local_steps : Program → ℕ → Proc → Option (Proc × ℕ)
local_steps program zero x = Some (x, 0)
local_steps program (suc n) x = option_and_then (λ r. with_cost r.1 (local_step program r.0)) (local_steps program n x)

-- the process stands at entries that are there, and has neither ended nor faulted
pub record IsUnderWay (program : Program) (x : Proc) : Type 0 where
  pub live : IsLive program x
  pub unended : x.phase ≡ Ended → ⊥
  pub unfaulted : HasFaulted x → ⊥

-- the next step of a process is one of its own
abbrev pub has_local : Program → Proc → Bool
has_local program y = is_some (local_step program y)

-- the next step, told: one of its own; or another, and what the process is then
abbrev pub IsStop : Program → (stopped : Proc) → Stop → (after : Proc) → Type 0
IsStop program y More z = (has_local program y ≡ true) × (z ≡ y)
IsStop program y (Event e) z = IsEvent y.phase (action_of program y) e × (z ≡ y)
IsStop program y (LetsGo l cost) z = (own_in y (action_of program y) ≡ Some (z, let_go_ports program l, cost)) × (0 < length (let_go_ports program l))
IsStop program y Short z = ⊥

-- there is room for one step more behind so many: within the slice, or it is the spare one
abbrev pub HasRoom : (slice : ℕ) → (spare : Bool) → (steps : ℕ) → Type 0
HasRoom slice spare steps = (steps ≤ slice) × (spare ≡ false → steps < slice)

-- why a process stops after so many of at most so many steps, with a step to spare or without: where it stopped, and what it is then
abbrev pub StopsAt : Program → (slice : ℕ) → (spare : Bool) → (steps : ℕ) → (stopped : Proc) → Stop → (after : Proc) → Type 0
StopsAt program slice spare steps y More z = (steps ≡ slice) × (spare ≡ true → has_local program y ≡ true) × (z ≡ y)
StopsAt program slice spare steps y (Event e) z = HasRoom slice spare steps × IsEvent y.phase (action_of program y) e × (z ≡ y)
StopsAt program slice spare steps y (LetsGo l cost) z = HasRoom slice spare steps × (own_in y (action_of program y) ≡ Some (z, let_go_ports program l, cost)) × (0 < length (let_go_ports program l))
StopsAt program slice spare steps y Short z = (steps ≤ slice) × (1 ≤ slice → 1 ≤ steps) × (z ≡ y)

-- a process made these local steps, and stopped where it had to
pub record IsAdvanced (program : Program) (slice : ℕ) (spare : Bool) (before : Proc) (a : Advanced) (after : Proc) : Type 0 where
  pub stopped : Proc
  pub made : local_steps program a.steps before ≡ Some (stopped, a.cost)
  pub stops : StopsAt program slice spare a.steps stopped a.stop after
