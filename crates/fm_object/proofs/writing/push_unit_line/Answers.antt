use Rattle.std.proofs.Common.{subst}
use Rattle.fm_object.specs.Texts.{IsShort}
use Rattle.fm_object.proofs.Written.{with_last}
use Rattle.fm_object.proofs.writing.push_unit_line.Goals as goal

pub returns-clause-fits : goal.returns-clause-fits
returns-clause-fits c =
    with_last c.push_length-4.result
    (λ few.
    record {
      heading = c.in_ok-push_number.ensures.short;
      extents = subst IsShort c.len.ensures c.in_ok-push_length.ensures.few;
      cells = subst IsShort c.len-2.ensures c.in_ok-push_length-2.ensures.few;
      entries = subst IsShort c.len-3.ensures c.in_ok-push_length-3.ensures.few;
      code = subst IsShort c.len-4.ensures few;
    })
    c.push_length-4.ensures.few
