-- What the variables of a frame hold.
-- Source: this profile.
use Rattle.std.specs.Prelude.{ℕ, zero, Option, Some, None, List, []}
use Rattle.fm_rules.specs.declared.program.Program.{Program}
use Rattle.fm_mean.specs.declared.outcome.ShownVariable.{ShownVariable}
use Rattle.fm_mean.specs.Fits.{variables_of}
use Rattle.fm_mean.specs.Names.{unit_at}
use Rattle.fm_mean.specs.Outcome.{shown_of, line_within}
use Rattle.fm_plain_frame.specs.Memory.{values_of}
use Rattle.fm_plain_frame.specs.declared.frame.Frame.{Frame}

abbrev pub of_frame : Program → Option Frame → List ShownVariable
of_frame p None = []
of_frame p (Some f) = shown_of (variables_of p f.unit) (values_of (variables_of p f.unit) f.memory.items)

-- the line at which a frame stands
abbrev pub line_of_frame : Program → Option Frame → ℕ
line_of_frame p None = zero
line_of_frame p (Some f) = line_within (unit_at p f.unit) f.entry
