use Rattle.std.proofs.Common.{refl, sym, ◌∙◌}
use Rattle.fm_plain_passing.proofs.PassLaws.{none_back, one_back}
use Rattle.fm_plain_passing.proofs.giving.port_back.Goals as goal

pub returns-in-None-clause-frames : goal.returns-in-None-clause-frames
returns-in-None-clause-frames c = none_back _ _ _ _ _ _ c.exchange.ensures.memory (sym c.in-None.is ∙ c.exchange.ensures.port)

pub returns-in-Some-clause-frames : goal.returns-in-Some-clause-frames
returns-in-Some-clause-frames c =
    one_back _ _ _ _ _ _ _ _ _ _ _ c.exchange.ensures.memory (sym c.in-Some.is ∙ c.exchange.ensures.port) c.exchange_behind-replaced.ensures.memory c.exchange_behind-replaced.ensures.port refl c.put.ensures.items
