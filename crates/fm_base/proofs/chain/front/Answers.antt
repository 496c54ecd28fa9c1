use Rattle.std.proofs.Common.{◌≡◌, ◌-◌, length, take, refl, ap, sym, ◌∙◌}
use Rattle.fm_base.specs.Chains.{pairs_of}
use Rattle.fm_base.proofs.ChainLaws.{front_step, front_whole, front_none, one_back}
use Rattle.fm_base.proofs.chain.front.Goals as goal

pub links-init : goal.links-init
links-init c = refl

pub returns-in-None : goal.returns-in-None
returns-in-None c =
    let f = pairs_of c.links.front.now in
    sym (front_whole f) ∙ ap (λ z. take (length f - length (pairs_of z)) f) (sym c.in-None.is) ∙ c.links.invariant

pub returns-in-None-front : goal.returns-in-None-front
returns-in-None-front c =
    let n = length (pairs_of c.links.front.now) - length (pairs_of c.links.left.now) in
    ap pairs_of c.in-None-front.is ∙ sym (front_none n) ∙ ap (λ z. take n (pairs_of z)) (sym c.in-None-front.is) ∙ c.links.invariant

pub links-preserved : goal.links-preserved
links-preserved c =
    let one = one_back c.links.front.now c.in-Some-front.last c.deref-in-Some-front.result.now c.deref-in-Some-front.result.now c.in-Some-front.is c.deref-in-Some-front.ensures c.deref-in-Some-front.ensures in
    let other = one_back c.links.left.now c.in-Some.one c.deref.result.now c.deref.result.now c.in-Some.is c.deref.ensures c.deref.ensures in
    front_step _ _ _ _ one other c.links.invariant
