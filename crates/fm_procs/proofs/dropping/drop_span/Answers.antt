use Rattle.std.proofs.Common.{ℤ, List, subst}
use Rattle.fm_code.specs.Passing.{live}
use Rattle.fm_procs.specs.Rooms.{Sheds}
use Rattle.fm_procs.proofs.Droppings.{sheds_words}
use Rattle.fm_procs.proofs.dropping.drop_span.Goals as goal

pub returns-clause-sheds : goal.returns-clause-sheds
returns-clause-sheds c =
    let slots = c.args.slots.now in
    let drops = c.args.drops.now.items in
    subst (λ (zs : List ℤ). Sheds (live zs) slots drops c.vacate_words.new.slots c.vacate_words.new.drops.items) c.words_of.ensures
    (sheds_words (live c.words_of.result.now) slots c.vacate_words.new.slots drops c.vacate_words.new.drops.items c.vacate_words.ensures.drops c.vacate_words.ensures.slots)
