use Rattle.std.proofs.Common.{◌∙◌}
use Rattle.fm_cards.specs.Cards.{cards_of}
use Rattle.fm_front.proofs.CardVerdicts.{are_shaped, form_refused, cards_read, cards_refused, cards_clean}
use Rattle.fm_front.proofs.reading.statements.Goals as goal

pub returns-in-Err-clause-refused : goal.returns-in-Err-clause-refused
returns-in-Err-clause-refused c = form_refused c.args.source.now c.in-Err.fail c.in-Err.ensures.refused

pub returns-in-Some-clause-refused : goal.returns-in-Some-clause-refused
returns-in-Some-clause-refused c =
    cards_refused c.args.source.now c.as_slice.result.now c.in_ok-statements.statements.items c.in_ok-statements.best c.in-Some.refusal
    (c.as_slice.ensures.value ∙ c.in-Ok.ensures.cards) c.in-Ok.ensures.clean c.in_ok-statements.ensures c.in-Some.is

pub returns-clause-clean : goal.returns-clause-clean
returns-clause-clean c =
    cards_clean c.args.source.now c.as_slice.result.now c.in_ok-statements.statements.items c.in_ok-statements.best
    (c.as_slice.ensures.value ∙ c.in-Ok.ensures.cards) c.in-Ok.ensures.clean c.in_ok-statements.ensures c.in-None.is

pub returns-clause-shaped : goal.returns-clause-shaped
returns-clause-shaped c =
    are_shaped (cards_of c.args.source.now) c.in_ok-statements.statements.items
    (cards_read c.args.source.now c.as_slice.result.now c.in_ok-statements.statements.items c.in_ok-statements.best
    (c.as_slice.ensures.value ∙ c.in-Ok.ensures.cards) c.in_ok-statements.ensures c.in-None.is)
