use Rattle.std.proofs.Common.{ap, subst, sym, ◌∙◌}
use Rattle.fm_verdict.specs.Program.{IsCheckedOf}
use Rattle.fm_nodes_plain.specs.Lines.{IsFirstUnplain}
use Rattle.fm_nodes.specs.Fails.{OnNotPlain}
use Rattle.fm_nodes.specs.declared.nodes.NodesFail.{NodesFail}
use Rattle.fmc.specs.Outcomes.{IsUnplayed}
use Rattle.fmc.specs.Plain.{unplain_text}
use Rattle.fmc.specs.Reply.{bytes_of, places_in}
use Rattle.fmc.proofs.NodesLaws.{run_replies, unplain_says}
use Rattle.fmc.proofs.hosting.nodes_reply.Goals as goal

pub returns-in-Ok-clause-reply : goal.returns-in-Ok-clause-reply
returns-in-Ok-clause-reply c =
    run_replies c.args.number c.args.setup c.args.vars c.in_ok-shared.shared.value c.args.program c.in-Ok.run' c.report_reply.result c.in_ok-shared.ensures.ok c.in-Ok.ensures.run c.in-Ok.ensures.plain
    c.report_reply.ensures.exit c.report_reply.ensures.history c.report_reply.ensures.paths c.report_reply.ensures.text

pub returns-in_ok-text-in-Err-NotPlain-clause-reply : goal.returns-in_ok-text-in-Err-NotPlain-clause-reply
returns-in_ok-text-in-Err-NotPlain-clause-reply c = λ source le lawful.
    let r = c.unplayed_reply.result in
    let shared = c.in_ok-shared.shared.value in
    let unplain = subst (λ (e : NodesFail). OnNotPlain e (λ line. ∥ IsFirstUnplain shared line ∥₁)) c.in-Err-NotPlain.field-0-is c.in-Err-NotPlain.ensures.not_plain in
    unplain_says source c.args.number c.args.setup c.args.vars shared c.in-Err-NotPlain.line r le (subst (IsCheckedOf source) (sym c.in_ok-shared.ensures.ok) lawful) unplain c.unplayed_reply.ensures.exit
    (subst (λ t. IsUnplayed r.ran.history.items (places_in r.ran) (bytes_of r.text) t) (c.in_ok-text-in-Err-NotPlain.ensures ∙ ap unplain_text c.in-Err-NotPlain.line-is) c.unplayed_reply.ensures.text)
