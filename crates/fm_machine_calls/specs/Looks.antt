-- What is told of what a body does.
-- Source: this profile.
use Rattle.std.specs.Prelude.{ℤ, List, [], ◌∷◌}
use Rattle.fm_code.specs.declared.ask.Ask.TheVariants.{LetGo}
use Rattle.fm_code.specs.Statements as statements
use Rattle.fm_code.specs.Statements.{Action, Own, Meets}
use Rattle.fm_machine_calls.specs.declared.looking.Look.{Look}
use Rattle.fm_machine_calls.specs.declared.looking.Look.TheVariants as look

abbrev pub look_by : (drops : List ℤ) → Look
look_by [] = look.Goes
look_by (z ∷ zs) = look.Asks (LetGo (z ∷ zs))

-- what a body does, told without doing it
abbrev pub look_in : Action → Look
look_in statements.Stuck = look.Stuck
look_in (Own b lines drops cost) = look_by drops
look_in (Meets a) = look.Asks a
