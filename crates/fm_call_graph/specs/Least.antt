-- The least of some lines.
-- Source: this profile.
use Rattle.std.specs.Prelude.{Bool, if◌then◌else◌, nat_lt, Option, Some, None}
use Rattle.fm_base.specs.declared.name.Line.{Line}

-- the least line so far and another one
abbrev pub lower : Option Line → Line → Option Line
lower None line = Some line
lower (Some best) line = Some (if nat_lt line.0 best.0 then line else best)

abbrev pub lower_if : Bool → Option Line → Line → Option Line
lower_if test best line = if test then lower best line else best
