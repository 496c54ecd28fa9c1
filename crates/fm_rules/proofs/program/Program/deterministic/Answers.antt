use Rattle.std.proofs.Common.{subst}
use Rattle.fm_rules.specs.Race.{IsRaceVerdict}
use Rattle.fm_symbols.specs.Context.{context_of}
use Rattle.fm_symbols.specs.declared.context.Context.{Context}
use Rattle.fm_rules.proofs.Races.{decides}
use Rattle.fm_rules.proofs.program.Program.deterministic.Goals as goal

pub returns : goal.returns
returns c =
    let p = c.args.self.now in
    decides p.units.units (context_of p.units.units p.names.units) p.race c.is_none.result
    (subst (λ (x : Context). ∥ IsRaceVerdict p.units.units x p.race ∥₁) p.context_is p.race_is) c.is_none.ensures
