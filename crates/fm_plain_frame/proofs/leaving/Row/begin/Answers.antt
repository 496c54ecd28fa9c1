use Rattle.std.proofs.Common.{◌+◌, sym, ap, arith, ◌∙◌}
use Rattle.std.proofs.lemmas.Option.{slice_get_within}
use Rattle.fm_plain_frame.proofs.LeavingLaws.{ends, begins, row_of}
use Rattle.fm_plain_frame.proofs.leaving.Row.begin.Goals as goal

pub returns-in-None-clause-ports : goal.returns-in-None-clause-ports
returns-in-None-clause-ports c =
    let r = c.args.self.now in
    let none = ends c.args.variables.now r.are_ports r.at_hand r.words.items r.next c.requires c.in-None.ensures in
    (none, none)

pub returns-in-Some-clause-ports : goal.returns-in-Some-clause-ports
returns-in-Some-clause-ports c =
    let r = c.args.self.now in
    let vs = c.args.variables.now in
    let v = c.in-Some.variable.now in (
      begins vs r.are_ports r.at_hand r.words.items r.next v c.requires c.in-Some.ensures ∙ ap (λ b. row_of vs b v.words r.words.items (r.next + 1)) (sym c.holds_ports-self.ensures),
      omega (arith, slice_get_within vs r.next v (sym c.in-Some.ensures)),
    )
