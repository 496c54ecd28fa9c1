use Rattle.std.proofs.Common.{◌≡◌, ◌∙◌, ap}
use Rattle.fm_base.specs.Chains.{pairs_of}
use Rattle.fm_base.proofs.ChainLaws.{whole, less, greater, some_of, right_ended}
use Rattle.fm_base.proofs.chain.order_of_chains.Goals as goal

pub returns-in-None-right : goal.returns-in-None-right
returns-in-None-right c = whole c.in_step-walked.ensures.passed (ap pairs_of c.in-None.is) (ap pairs_of c.in-None-right.is)

pub returns-in-Some-right : goal.returns-in-Some-right
returns-in-Some-right c =
    c.then.ensures ∙ less c.in_step-walked.ensures.passed (ap pairs_of c.in-None.is) (some_of _ _ c.in-Some-right.is) c.front.ensures c.in_step.ensures.passed c.in_step.ensures.ended

pub returns-in-Some : goal.returns-in-Some
returns-in-Some c =
    let some = some_of _ _ c.in-Some.is in
    c.then-in-Some.ensures ∙ greater c.in_step-walked.ensures.passed (right_ended c.in_step-walked.ensures.ended some) some c.front-in-Some.ensures c.in_step-in-Some.ensures.passed c.in_step-in-Some.ensures.ended
