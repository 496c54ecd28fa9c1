use Rattle.std.proofs.Common.{◌≡◌, ◌∷◌, ◌++◌, Bool, [], cond, true, false, append-nil, ap, sym, ◌∙◌, rules}
use Rattle.fm_chan.proofs.Waking.{wakes_nobody}
use Rattle.fm_run.specs.Orders.{others_in}
use Rattle.fm_run.proofs.Playing.{who_is}
use Rattle.fm_run.proofs.becoming.settle_own.Goals as goal

pub returns-then-branch-clause-queue : goal.returns-then-branch-clause-queue
returns-then-branch-clause-queue g c =
    let can : c.in_ok-can_step.field-0 ≡ true = search rules in
    c.requeue.ensures.numbers ∙ ap (λ (b : Bool). others_in c.args.own c.args.able.now.numbers.items ++ cond b (c.args.own ∷ []) []) (sym can ∙ c.in_ok-can_step.ensures)

pub returns-then-branch-clause-waking : goal.returns-then-branch-clause-waking
returns-then-branch-clause-waking g c = wakes_nobody (g.N.Net.channels c.args.net.now)

pub returns-then-branch-clause-noted : goal.returns-then-branch-clause-noted
returns-then-branch-clause-noted g c = λ q x at here unable.
    let P = g.N.Net.play c.args.program.now in
    let can : c.in_ok-can_step.field-0 ≡ true = search rules in
    absurd (cc (sym unable ∙ who_is P (g.N.Net.state c.args.program.now c.args.net.now) (g.N.Net.order c.args.net.now) c.args.own (sym c.in_ok-can_step.ensures ∙ can) q at))

pub note-requires-clause-waits : goal.note-requires-clause-waits
note-requires-clause-waits g c =
    let cannot : c.in_ok-can_step.field-0 ≡ false = search rules in
    sym c.in_ok-can_step.ensures ∙ cannot

pub returns-clause-queue : goal.returns-clause-queue
returns-clause-queue g c =
    let others = others_in c.args.own c.args.able.now.numbers.items in
    let cannot : c.in_ok-can_step.field-0 ≡ false = search rules in
    c.leave.ensures.numbers ∙ sym (ap (λ (b : Bool). others ++ cond b (c.args.own ∷ []) []) (sym c.in_ok-can_step.ensures ∙ cannot) ∙ append-nil others)

pub returns-clause-noted : goal.returns-clause-noted
returns-clause-noted g c = λ q x at here unable. c.in_ok-note.ensures.noted q x at here
