use Rattle.std.proofs.Common.{subst, ◌∙◌}
use Rattle.fm_plain.specs.Looking.{IsNext}
use Rattle.fm_plain_net.specs.Readings.{tree_of}
use Rattle.fm_plain_net.proofs.Waited.{meets_channel, rests_channel, steps_channel}
use Rattle.fm_plain_net.proofs.processes.TreeProcProc.channel.Goals as goal

pub returns-in-Steps : goal.returns-in-Steps
returns-in-Steps c = λ P told. steps_channel P (tree_of P c.args.self.now) (subst (IsNext P (tree_of P c.args.self.now)) c.in-Steps.is told)

pub returns-in-Rests : goal.returns-in-Rests
returns-in-Rests c = λ P told. rests_channel P (tree_of P c.args.self.now) (subst (IsNext P (tree_of P c.args.self.now)) c.in-Rests.is told)

pub returns-in-Meets : goal.returns-in-Meets
returns-in-Meets c = λ P told. c.received_channel.ensures ∙ meets_channel P (tree_of P c.args.self.now) c.in-Meets.event (subst (IsNext P (tree_of P c.args.self.now)) c.in-Meets.is told)
