-- The image of a program shows what the program's code shows.
use Rattle.std.proofs.Common.{◌≡◌, ℕ, Option, Some, None, List, [], refl, ap}
use Rattle.std.specs.FinMap.{get}
use Rattle.fm_code.specs.declared.body.Body.{Body}
use Rattle.fm_net.specs.Machine.{State}
use Rattle.fm_rules.specs.declared.program.Program.{Program}
use Rattle.fm_mean.specs.declared.outcome.ShownVariable.{ShownVariable}
use Rattle.fm_image.specs.ImageOf.{image_of}
use Rattle.fm_gen.specs.Programs.{code_of}
use Rattle.fm_proc_language.specs.Slots.{Slots}
use Rattle.fm_proc_language.specs.Processes.{CodeProc}
use Rattle.fm_shown.specs.Outcome.{outcome_with, own_frame}
use Rattle.fm_proc_simulation.specs.Shown as own
use Rattle.fm_execute_image.specs.Outcome as image
use Rattle.fm_execute_law.proofs.Variables.{shows_program}

module _ (p : Program) where
  body_same : (s : Slots) (o : Option Body) → image.body_shown (image_of p (code_of p)) s o ≡ own.body_shown p s o
  body_same s None = refl
  body_same s (Some b) = shows_program p s (own_frame b.frame b.below)

  shown_same : (o : Option CodeProc) → image.shown_all (image_of p (code_of p)) o ≡ own.shown_all p o
  shown_same None = refl
  shown_same (Some y) = body_same y.slots y.body

  pub outcome_same : (used : ℕ) (t : State CodeProc) → image.outcome_of (image_of p (code_of p)) used t ≡ own.outcome_by p used t
  outcome_same used t = ap (λ (vs : List ShownVariable). outcome_with vs used t) (shown_same (get t.procs []))
