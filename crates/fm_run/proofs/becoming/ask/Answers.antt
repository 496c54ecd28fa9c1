use Rattle.std.proofs.Common.{sym, ◌∙◌}
use Rattle.std.proofs.lemmas.Result.{IfOk-weaker}
use Rattle.fm_chan.proofs.Waking.{wakes_nobody}
use Rattle.fm_run.proofs.Queueing.{marked_not_put, other_put, own_not_put}
use Rattle.fm_run.proofs.becoming.ask.Goals as goal

-- written before any check: the names of the goals and of the steps are guessed
pub returns-then-number-own-clause-queue : goal.returns-then-number-own-clause-queue
returns-then-number-own-clause-queue g c = own_not_put c.args.able.now.numbers.items c.args.number c.args.own _ _ c.if-number-own.true

pub returns-then-number-own-clause-waking : goal.returns-then-number-own-clause-waking
returns-then-number-own-clause-waking g c = wakes_nobody (g.N.Net.channels c.args.net.now)

pub returns-then-number-own-clause-noted : goal.returns-then-number-own-clause-noted
returns-then-number-own-clause-noted g c = λ differs unmarked q x at is unable. absurd (differs c.if-number-own.true)

pub returns-then-contains-clause-queue : goal.returns-then-contains-clause-queue
returns-then-contains-clause-queue g c = marked_not_put c.args.able.now.numbers.items c.args.number c.args.own _ _ (sym c.contains.ensures ∙ c.if-contains.true)

pub returns-then-contains-clause-waking : goal.returns-then-contains-clause-waking
returns-then-contains-clause-waking g c = wakes_nobody (g.N.Net.channels c.args.net.now)

pub returns-then-contains-clause-noted : goal.returns-then-contains-clause-noted
returns-then-contains-clause-noted g c = λ differs unmarked q x at is unable. absurd (cc (sym unmarked ∙ sym c.contains.ensures ∙ c.if-contains.true))

pub returns-clause-queue : goal.returns-clause-queue
returns-clause-queue g c = IfOk-weaker c.settle.result _ _ (λ u is. other_put c.args.able.now.numbers.items c.args.number c.args.own _ _ c.if-number-own.false (sym c.contains.ensures ∙ c.if-contains.false) c.settle.new.able.numbers.items is) c.settle.ensures.queue

pub returns-clause-noted : goal.returns-clause-noted
returns-clause-noted g c = IfOk-weaker c.settle.result _ _ (λ u noted differs unmarked. noted) c.settle.ensures.noted
