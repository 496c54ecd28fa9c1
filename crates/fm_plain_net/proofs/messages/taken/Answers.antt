use Rattle.std.proofs.Common.{◌∷◌, [], sym, subst, ◌∙◌}
use Rattle.fm_mean.specs.Places.{live}
use Rattle.fm_plain_net.specs.Held.{AreKept, StayBut}
use Rattle.fm_plain_net.proofs.Loads.{first_kept, stay_without}
use Rattle.fm_plain_net.proofs.messages.taken.Goals as goal

pub returns-in-Some-clause-port : goal.returns-in-Some-clause-port
returns-in-Some-clause-port c =
    c.take.ensures.value ∙ first_kept c.in-Some.value [] c.args.ports.now (subst (λ o. AreKept c.args.ports.now (live (o ∷ []))) c.in-Some.is c.requires) ∙ sym c.in-Some.is

pub returns-in-Some-clause-others : goal.returns-in-Some-clause-others
returns-in-Some-clause-others c = subst (λ o. StayBut (live (o ∷ [])) c.args.ports.now c.take.new.self) (sym c.in-Some.is) (stay_without c.in-Some.value c.args.ports.now c.take.new.self c.take.ensures.others)

pub returns-in-None-clause-others : goal.returns-in-None-clause-others
returns-in-None-clause-others c = λ z off k. k
