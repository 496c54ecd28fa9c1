use Rattle.std.proofs.Common.{ap, sym, ◌∙◌}
use Rattle.std.specs.Prelude.{unwrap_or}
use Rattle.fm_nodes_procs.specs.Processes.{order_of}
use Rattle.fm_nodes_procs.proofs.Kept.{at_number}
use Rattle.std.proofs.lemmas.Result.{IfOk-weaker}
use Rattle.fm_nodes_hosts.proofs.ends.holder_of.Goals as goal

pub returns-in-Some : goal.returns-in-Some
returns-in-Some g c = IfOk-weaker c.keeper_of.result _ _ (λ k is.
    let who = at_number (order_of c.args.processes.now) c.in-Some.number c.in-Some.ensures.low in
    is who.0 who.1 ∙ sym (ap (λ o. unwrap_or o c.args.channel.now.maker) (c.in-Some.ensures.is who.0 who.1))) c.keeper_of.ensures

pub returns-in-None : goal.returns-in-None
returns-in-None g c = IfOk-weaker c.copy.result _ _ (λ k is. is ∙ sym (ap (λ o. unwrap_or o c.args.channel.now.maker) c.in-None.ensures.none)) c.copy.ensures
