-- A plain program on hosts that is driven within its turns.
-- Source: this profile.
use Rattle.std.specs.Prelude.{◌≡◌, ℕ}
use Rattle.fm_mean.specs.Process.{Proc}
use Rattle.fm_run.specs.Programs.{IsFrontWithin}
use Rattle.fm_run.specs.Runs.{HaveSteps}
use Rattle.fm_nodes_hosts.specs.Runs.{Run}
use Rattle.fm_nodes.specs.Nodes.{Hosted}
use Rattle.fm_nodes.specs.Made.{IsMade}

-- the program on its hosts, with all that has happened, and its turns
pub record Played : Type 0 where
  pub hosted : Hosted
  pub turns : ℕ

abbrev pub played_of : Hosted → (turns : ℕ) → Played
played_of hosted turns = record { hosted = hosted; turns = turns }

-- what holds between two events: each entry has a step, those before the last one cost the turns at most, and all came of events
pub record IsWithin (a : Played) : Type 0 where
  pub some_steps : HaveSteps a.hosted.run.history
  pub front_within : IsFrontWithin a.hosted.program a.turns a.hosted.run.history a.hosted.run.order
  pub made : IsMade a.hosted.program a.hosted.run

-- no step was made
pub record HasNoStep (old new : Run Proc) : Type 0 where
  pub history : new.history ≡ old.history
  pub order : new.order ≡ old.order
  pub used : new.used ≡ old.used
