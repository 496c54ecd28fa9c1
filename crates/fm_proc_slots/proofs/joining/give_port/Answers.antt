use Rattle.std.proofs.Common.{FitsSigned, ℤ, List, w64, ap, sym, rules, ◌∙◌}
use Rattle.std.proofs.lemmas.Int.{to_z-of_z}
use Rattle.fm_code.specs.Statements.{word_at}
use Rattle.fm_proc_slots.proofs.Alike.{none_given}
use Rattle.fm_proc_slots.proofs.joining.give_port.Goals as goal

pub returns-in-None-clause-given : goal.returns-in-None-clause-given
returns-in-None-clause-given c =
    let fits : FitsSigned w64 c.word_at-word.result = search rules in
    let here = to_z-of_z w64 c.word_at-word.result fits ∙ (c.word_at-word.ensures ∙ ap (λ (ws : List ℤ). word_at ws c.args.from) c.as_slice.ensures) in
    none_given c.args.gains.now c.args.child.now c.args.from c.args.to _ c.drain.new.self here (sym c.drain.ensures.port ∙ c.in-None.is) c.drain.ensures.slots
