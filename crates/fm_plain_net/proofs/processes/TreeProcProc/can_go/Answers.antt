use Rattle.std.proofs.Common.{sym, ap, subst, ◌∙◌}
use Rattle.fm_mean.specs.Steps.{ask}
use Rattle.fm_plain.specs.Looking.{IsNext}
use Rattle.fm_plain_net.specs.Readings.{tree_of}
use Rattle.fm_plain_net.specs.Waited.{event_in}
use Rattle.fm_plain_net.proofs.Able.{steps_freely}
use Rattle.fm_run.specs.Programs.{play_of}
use Rattle.fm_run.proofs.Able.{rests}
use Rattle.fm_run.proofs.Programs.{need_is, owned_reached}
use Rattle.fm_plain_net.proofs.processes.TreeProcProc.can_go.Goals as goal

pub returns-in-Steps : goal.returns-in-Steps
returns-in-Steps c = λ P w s q is fits told none. sym (steps_freely P s q (tree_of P c.args.self.now) is (owned_reached P s fits.reached) (subst (IsNext P (tree_of P c.args.self.now)) c.in-Steps.is told))

pub returns-in-Rests : goal.returns-in-Rests
returns-in-Rests c = λ P w s q is fits told none. sym (rests (play_of P) s q (tree_of P c.args.self.now) is (sym (need_is (ask P (tree_of P c.args.self.now))) ∙ subst (IsNext P (tree_of P c.args.self.now)) c.in-Rests.is told))

pub returns-in-Meets : goal.returns-in-Meets
returns-in-Meets c = λ P w s q is fits told none. absurd (cc (sym (ap event_in c.in-Meets.is) ∙ none))
