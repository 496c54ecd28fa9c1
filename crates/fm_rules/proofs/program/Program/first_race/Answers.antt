use Rattle.std.proofs.Common.{subst}
use Rattle.fm_rules.specs.Race.{IsRaceVerdict}
use Rattle.fm_symbols.specs.declared.context.Context.{Context}
use Rattle.fm_rules.proofs.program.Program.first_race.Goals as goal

pub returns : goal.returns
returns c =
    let p = c.args.self.now in
    subst (λ (x : Context). ∥ IsRaceVerdict p.units.units x p.race ∥₁) p.context_is p.race_is
