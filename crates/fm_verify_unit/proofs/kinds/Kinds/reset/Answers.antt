use Rattle.std.proofs.Common.{◌≡◌, ap, ◌∙◌, arith}
use Rattle.fm_code_kinds.specs.Effects.{results_in}
use Rattle.fm_code_kinds.specs.Kinded.{results}
use Rattle.fm_verify_unit.proofs.Results.{they_are}
use Rattle.fm_verify_unit.proofs.kinds.Kinds.reset.Goals as goal

pub returns : goal.returns
returns c =
    let many : results_in c.results.self ≡ c.args.results = omega arith in
    they_are c.results.self c.results.invariant.only ∙ ap results many
