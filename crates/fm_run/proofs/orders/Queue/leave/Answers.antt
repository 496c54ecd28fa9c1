use Rattle.std.proofs.Common.{List, ℕ, sym, subst, ◌∙◌}
use Rattle.std.proofs.lemmas.Option.{slice_get_within}
use Rattle.fm_run.specs.Orders.{AreMarked, IsPlaceOf}
use Rattle.fm_run.proofs.Queueing.{left_marked, others_absent, removed}
use Rattle.fm_run.proofs.orders.Queue.leave.Goals as goal

pub take_out-requires : goal.take_out-requires
take_out-requires c = slice_get_within c.args.self.now.numbers.items c.in-Some.place c.args.number (subst (IsPlaceOf c.args.self.now.numbers.items c.args.number) c.in-Some.is c.place_of.ensures)

pub returns-in-Some-clause-numbers : goal.returns-in-Some-clause-numbers
returns-in-Some-clause-numbers c =
    let items = c.args.self.now.numbers.items in
    let at = subst (IsPlaceOf items c.args.number) c.in-Some.is c.place_of.ensures in
    (c.fit.ensures ∙ c.take_out.ensures.items) ∙ removed items c.in-Some.place c.args.number at c.requires

pub returns-in-Some-clause-marks : goal.returns-in-Some-clause-marks
returns-in-Some-clause-marks c = λ count before.
    let items = c.args.self.now.numbers.items in
    let at = subst (IsPlaceOf items c.args.number) c.in-Some.is c.place_of.ensures in
    subst (λ (ns : List ℕ). AreMarked count c.unmark.new.marks.items ns) (sym ((c.fit.ensures ∙ c.take_out.ensures.items) ∙ removed items c.in-Some.place c.args.number at c.requires))
    (left_marked count c.args.self.now.marks.items c.unmark.new.marks.items items c.args.number before c.unmark.ensures.length c.unmark.ensures.marked)

pub returns-in-None-clause-numbers : goal.returns-in-None-clause-numbers
returns-in-None-clause-numbers c =
    let items = c.args.self.now.numbers.items in
    sym (others_absent c.args.number items (subst (IsPlaceOf items c.args.number) c.in-None.is c.place_of.ensures))

pub returns-in-None-clause-marks : goal.returns-in-None-clause-marks
returns-in-None-clause-marks c = λ count before.
    let items = c.args.self.now.numbers.items in
    subst (λ (ns : List ℕ). AreMarked count c.unmark.new.marks.items ns) (others_absent c.args.number items (subst (IsPlaceOf items c.args.number) c.in-None.is c.place_of.ensures))
    (left_marked count c.args.self.now.marks.items c.unmark.new.marks.items items c.args.number before c.unmark.ensures.length c.unmark.ensures.marked)
