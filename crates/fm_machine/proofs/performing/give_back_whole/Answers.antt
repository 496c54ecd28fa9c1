use Rattle.std.proofs.Common.{◌+◌, ◌∷◌, drop, ap, sym, ◌∙◌}
use Rattle.fm_code.specs.Passing.{back_words}
use Rattle.fm_machine.proofs.Returning.{returned_whole, returns_fit}
use Rattle.fm_machine.proofs.performing.give_back_whole.Goals as goal

pub words_given-requires : goal.words_given-requires
words_given-requires c = returns_fit c.args.body.now c.in-Some.caller.now c.args.body.now.below (drop 1 c.args.body.now.below) c.in-Some.ensures c.requires

pub returns-clause-gives : goal.returns-clause-gives
returns-clause-gives c =
    returned_whole c.args.body.now c.replace.new.dest c.in-Some.caller.now c.pop.new.self c.in_ok-words.words c.in_ok-cost.cost (c.in-Some-pop.ensures ∙ ap (λ d. d ∷ c.pop.new.self) (sym c.replace.ensures.after)) c.in-Some.ensures c.requires c.in_ok-words.ensures
    (c.in_ok-cost.ensures ∙ ap (λ l. 1 + back_words l) c.as_slice.ensures)
