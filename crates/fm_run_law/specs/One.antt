-- Two runs that are the same.
-- Source: this profile.
use Rattle.std.specs.Prelude.{◌≡◌}
use Rattle.fm_run.specs.Orders.{places_of}
use Rattle.fm_run.specs.declared.run.Run.{Run}

-- their schedules, their processes in the order of starting and their ends are
pub record AreOneRun (a b : Run) : Type 0 where
  pub histories : a.history.items ≡ b.history.items
  pub places : places_of a.paths.items ≡ places_of b.paths.items
  pub endings : a.ending ≡ b.ending
