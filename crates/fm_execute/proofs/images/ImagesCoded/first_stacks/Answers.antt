use Rattle.std.proofs.Common.{sym, ap, subst, ◌∙◌}
use Rattle.std.proofs.lemmas.Result.{IfOk-weaker}
use Rattle.fm_net.specs.Correspondence.{StandsFor}
use Rattle.fm_net.specs.Machine.{State}
use Rattle.fm_proc_language.specs.Processes.{CodeProc}
use Rattle.fm_image_law.specs.Image as law
use Rattle.fm_execute_image.specs.Play.{IsBare, IsLive, good_play}
use Rattle.fm_execute_image.proofs.Played.{first_stands}
use Rattle.fm_run.specs.Plays.{first}
use Rattle.fm_execute.proofs.images.ImagesCoded.first_stacks.Goals as goal

pub returns-clause-stands : goal.returns-clause-stands
returns-clause-stands c =
    let i = c.args.source.now in
    IfOk-weaker c.first_stacks.result _ _
    (λ s is. subst (λ (t : State CodeProc). StandsFor (IsBare i) (IsLive i) t (first (good_play i))) (sym (is ∙ ap law.first c.image.ensures.image)) (first_stands i c.image.ensures.typed))
    c.first_stacks.ensures.state
