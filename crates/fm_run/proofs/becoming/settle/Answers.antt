use Rattle.std.proofs.Common.{◌≡◌, ◌∷◌, ◌++◌, Bool, [], cond, true, false, append-nil, ap, refl, sym, ◌∙◌, rules}
use Rattle.std.proofs.lemmas.Result.{IfOk-weaker}
use Rattle.fm_chan.proofs.Waking.{wakes_nobody}
use Rattle.fm_run.proofs.Playing.{who_is}
use Rattle.fm_run.proofs.becoming.settle.Goals as goal

pub returns-then-branch-clause-queue : goal.returns-then-branch-clause-queue
returns-then-branch-clause-queue g c =
    let can : c.in_ok-can_step.field-0 ≡ true = search rules in
    IfOk-weaker c.put.result _ _ (λ u is. is ∙ ap (λ (b : Bool). c.args.able.now.numbers.items ++ cond b (c.args.number ∷ []) []) (sym can ∙ c.in_ok-can_step.ensures)) c.put.ensures.numbers

pub returns-then-branch-clause-state : goal.returns-then-branch-clause-state
returns-then-branch-clause-state g c = IfOk-weaker c.put.result _ _ (λ u is. refl) c.put.ensures.numbers

pub returns-then-branch-clause-sound : goal.returns-then-branch-clause-sound
returns-then-branch-clause-sound g c = IfOk-weaker c.put.result _ _ (λ u is. c.requires.sound) c.put.ensures.numbers

pub returns-then-branch-clause-waking : goal.returns-then-branch-clause-waking
returns-then-branch-clause-waking g c = IfOk-weaker c.put.result _ _ (λ u is. wakes_nobody (g.N.Net.channels c.args.net.now)) c.put.ensures.numbers

pub returns-then-branch-clause-noted : goal.returns-then-branch-clause-noted
returns-then-branch-clause-noted g c =
    let P = g.N.Net.play c.args.program.now in
    let can : c.in_ok-can_step.field-0 ≡ true = search rules in
    IfOk-weaker c.put.result _ _ (λ u is q x at here unable.
    absurd (cc (sym unable ∙ who_is P (g.N.Net.state c.args.program.now c.args.net.now) (g.N.Net.order c.args.net.now) c.args.number (sym c.in_ok-can_step.ensures ∙ can) q at))) c.put.ensures.numbers

pub note-requires-clause-waits : goal.note-requires-clause-waits
note-requires-clause-waits g c =
    let cannot : c.in_ok-can_step.field-0 ≡ false = search rules in
    sym c.in_ok-can_step.ensures ∙ cannot

pub returns-clause-queue : goal.returns-clause-queue
returns-clause-queue g c =
    let cannot : c.in_ok-can_step.field-0 ≡ false = search rules in
    IfOk-weaker c.note.result _ _ (λ u same.
    sym (ap (λ (b : Bool). c.args.able.now.numbers.items ++ cond b (c.args.number ∷ []) []) (sym c.in_ok-can_step.ensures ∙ cannot) ∙ append-nil c.args.able.now.numbers.items)) c.note.ensures.state

pub returns-clause-marks : goal.returns-clause-marks
returns-clause-marks g c = IfOk-weaker c.note.result _ _ (λ u same count marked. marked) c.note.ensures.state

pub returns-then-branch-clause-order : goal.returns-then-branch-clause-order
returns-then-branch-clause-order g c = IfOk-weaker c.put.result _ _ (λ u is. refl) c.put.ensures.numbers

pub returns-then-branch-clause-history : goal.returns-then-branch-clause-history
returns-then-branch-clause-history g c = refl

pub returns-clause-noted : goal.returns-clause-noted
returns-clause-noted g c = IfOk-weaker c.note.result _ _ (λ u noted q x at here unable. noted q x at here) c.note.ensures.noted
