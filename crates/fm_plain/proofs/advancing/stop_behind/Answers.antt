use Rattle.std.proofs.Common.{◌≡◌, false, true, refl, rules, sym, ap, subst, ◌∙◌}
use Rattle.fm_mean.specs.Actions.{action_of}
use Rattle.fm_plain_frame.specs.Frames.{proc_of}
use Rattle.fm_plain.specs.declared.local.Acted.{Acted}
use Rattle.fm_plain.specs.Steps.{IsActed}
use Rattle.fm_plain.proofs.OwnSteps.{acted_own, was_own}
use Rattle.fm_plain.proofs.UnderWay.{acts}
use Rattle.fm_plain.proofs.advancing.stop_behind.Goals as goal

pub returns-then-branch-clause-ok : goal.returns-then-branch-clause-ok
returns-then-branch-clause-ok c =
    let own : c.in_ok-is_own.field-0 ≡ true = search rules in
    (sym c.in_ok-is_own.ensures ∙ own, refl)

pub unreachable-requires : goal.unreachable-requires
unreachable-requires c =
    let P = c.args.program.now in
    let x = proc_of P c.args.process.now in
    let other : c.in_ok-is_own.field-0 ≡ false = search rules in
    let told = acted_own P x (proc_of P c.act.new.process) x (action_of P x) c.in_ok-act.field-0 c.in_ok-act.ensures.acts in
    absurd (cc (sym (told ∙ ap was_own c.in-Done.is) ∙ sym c.in_ok-is_own.ensures ∙ other))

pub unreachable-requires-in-Rest : goal.unreachable-requires-in-Rest
unreachable-requires-in-Rest c =
    let P = c.args.program.now in
    let x = proc_of P c.args.process.now in
    let h = subst (λ (r : Acted). IsActed P (action_of P x) x r (proc_of P c.act.new.process)) c.in-Rest.is c.in_ok-act.ensures.acts in
    acts P x c.requires h.1

pub returns-in-Event-clause-ok : goal.returns-in-Event-clause-ok
returns-in-Event-clause-ok c =
    let P = c.args.program.now in
    let x = proc_of P c.args.process.now in
    let h = subst (λ (r : Acted). IsActed P (action_of P x) x r (proc_of P c.act.new.process)) c.in-Event.is c.in_ok-act.ensures.acts in
    (h.1, h.0)

pub returns-in-LetsGo-clause-ok : goal.returns-in-LetsGo-clause-ok
returns-in-LetsGo-clause-ok c =
    let P = c.args.program.now in
    let x = proc_of P c.args.process.now in
    subst (λ (r : Acted). IsActed P (action_of P x) x r (proc_of P c.act.new.process)) c.in-LetsGo.is c.in_ok-act.ensures.acts
