use Rattle.std.proofs.Common.{sym, ap, ◌∙◌}
use Rattle.std.specs.Prelude.{slice_get}
use Rattle.fm_plain_frame.specs.Units.{unit_of}
use Rattle.fm_gen.proofs.NumberLaws.{found_number, no_number}
use Rattle.fm_gen.proofs.statements.loop_number.Goals as goal

pub returns-in-Some : goal.returns-in-Some
returns-in-Some c =
    found_number (unit_of c.args.unit.now).tree.body c.args.entry c.in-Some.number c.requires.there (sym c.in-Some.is ∙ c.number_at.ensures ∙ ap (λ l. slice_get l c.args.entry) c.requires.numbers)

pub returns-in-None : goal.returns-in-None
returns-in-None c =
    absurd (no_number (unit_of c.args.unit.now).tree.body c.args.entry c.requires.there (sym c.in-None.is ∙ c.number_at.ensures ∙ ap (λ l. slice_get l c.args.entry) c.requires.numbers))
