use Rattle.std.proofs.Common.{ap, ◌∙◌}
use Rattle.std.specs.Prelude.{slice_get}
use Rattle.fm_shown.proofs.Outermost.{own_below}
use Rattle.fm_shown.proofs.own.own_frame.Goals as goal

pub returns-in-Some : goal.returns-in-Some
returns-in-Some c = own_below c.args.body.now.frame c.args.body.now.below c.in-Some.frame.now (c.in-Some.ensures.value ∙ ap (λ fs. slice_get fs 0) c.outermost_first.ensures)
