use Rattle.fm_object.proofs.Written.{with_last}
use Rattle.fm_object.proofs.writing.CellsTexts.push_one.Goals as goal

pub returns-clause-fits : goal.returns-clause-fits
returns-clause-fits c =
    with_last c.push_rest.result
    (λ last name.
    record {
      name = name;
      kind = c.in_ok-push_number.ensures.short;
      of = c.in_ok-push_number-2.ensures.short;
      first = c.in_ok-push_number-3.ensures.short;
      words = last.0;
      formal = last.1;
      back = last.2;
    })
    c.push_rest.ensures.fits
