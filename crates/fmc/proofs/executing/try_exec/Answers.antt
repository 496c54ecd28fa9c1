use Rattle.fmc.proofs.ExecLaws.{executed_replies}
use Rattle.fmc.proofs.executing.try_exec.Goals as goal

pub returns-in-Ok-clause-reply : goal.returns-in-Ok-clause-reply
returns-in-Ok-clause-reply c =
    executed_replies c.args.turns c.args.vars c.args.bytes.now c.in-Ok.run' c.report_reply.result c.requires c.in-Ok.ensures.run
    c.report_reply.ensures.exit c.report_reply.ensures.history c.report_reply.ensures.paths c.report_reply.ensures.text
