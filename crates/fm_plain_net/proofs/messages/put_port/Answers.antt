use Rattle.std.proofs.Common.{◌∷◌, [], sym, subst}
use Rattle.fm_mean.specs.Places.{live}
use Rattle.fm_plain_net.specs.Held.{AreKept}
use Rattle.fm_plain_net.proofs.Loads.{kept_none, kept_one, stay_with}
use Rattle.fm_plain_net.proofs.messages.put_port.Goals as goal

pub returns-in_ok-put-in-Some-clause-came : goal.returns-in_ok-put-in-Some-clause-came
returns-in_ok-put-in-Some-clause-came c = subst (λ o. AreKept c.put.new.self (live (o ∷ []))) (sym c.in-Some.is) (kept_one c.in-Some.port c.put.new.self c.in_ok-put-in-Some.ensures.here)

pub returns-in_ok-put-in-Some-clause-others : goal.returns-in_ok-put-in-Some-clause-others
returns-in_ok-put-in-Some-clause-others c = stay_with c.in-Some.port c.args.ports.now c.put.new.self c.in_ok-put-in-Some.ensures.here c.in_ok-put-in-Some.ensures.others

pub returns-in-None-clause-came : goal.returns-in-None-clause-came
returns-in-None-clause-came c = subst (λ o. AreKept c.args.ports.now (live (o ∷ []))) (sym c.in-None.is) (kept_none c.args.ports.now)

pub returns-in-None-clause-others : goal.returns-in-None-clause-others
returns-in-None-clause-others c = λ z k. k
