use Rattle.std.proofs.Common.{◌∙◌, sym, reverse}
use Rattle.fm_unit_structure.proofs.Loops.{next_of_first}
use Rattle.fm_unit_structure.proofs.layout.next_end.Goals as goal

pub returns-in-Some-clause-value : goal.returns-in-Some-clause-value
returns-in-Some-clause-value c =
    c.end_form.ensures.value
    ∙ sym (next_of_first c.args.terminal c.args.label (reverse c.args.stack.now) c.in-Some.block (sym c.last_of.ensures ∙ c.in-Some.is))
