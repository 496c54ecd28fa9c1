use Rattle.std.proofs.Common.{List, ℕ, subst, ◌∙◌}
use Rattle.std.proofs.lemmas.Result.{IfOk-weaker}
use Rattle.fmc.specs.Reply.{IsSummary}
use Rattle.fmc.proofs.response.try_demo.Goals as goal

pub returns-clause-reply : goal.returns-clause-reply
returns-clause-reply g c =
    IfOk-weaker c.summary_reply.result _ _ (λ r k. subst (λ (t : List ℕ). IsSummary t c.args.setup.turns r) (c.deref.ensures.value ∙ c.in_ok-source.ensures.text) k) c.summary_reply.ensures.summary
