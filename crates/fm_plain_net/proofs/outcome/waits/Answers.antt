use Rattle.std.proofs.Common.{ap, sym, subst}
use Rattle.std.proofs.lemmas.Result.{IfOk-weaker}
use Rattle.fm_mean.specs.Outcome.{need_of, waits_by}
use Rattle.fm_plain.specs.Looking.{IsNext}
use Rattle.fm_plain_net.specs.Readings.{proc_in, procs_of}
use Rattle.fm_plain_net.proofs.Waiting.{free_waits}
use Rattle.fm_plain_net.proofs.outcome.waits.Goals as goal

pub returns-in-Meets : goal.returns-in-Meets
returns-in-Meets c = IfOk-weaker c.waits_at.result _ _ (λ o told p q family next. told p q family (subst (IsNext p (proc_in p c.args.slot.now)) c.in-Meets.is next).0.0) c.waits_at.ensures

pub returns-in-Steps : goal.returns-in-Steps
returns-in-Steps c = λ p q family next. sym (free_waits (procs_of p c.args.processes.now) q (need_of p (proc_in p c.args.slot.now)) (subst (IsNext p (proc_in p c.args.slot.now)) c.in-Steps.is next))

pub returns-in-Rests : goal.returns-in-Rests
returns-in-Rests c = λ p q family next. sym (ap (waits_by (procs_of p c.args.processes.now) q) (subst (IsNext p (proc_in p c.args.slot.now)) c.in-Rests.is next))
