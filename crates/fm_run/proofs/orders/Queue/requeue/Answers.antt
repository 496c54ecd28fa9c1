use Rattle.std.proofs.Common.{ℕ, List, [], ◌∷◌, ◌++◌, ap, subst, ◌∙◌}
use Rattle.std.proofs.lemmas.Option.{slice_get_within}
use Rattle.fm_run.specs.Orders.{IsPlaceOf}
use Rattle.fm_run.proofs.Numbers.{requeued_marked}
use Rattle.fm_run.proofs.Queueing.{removed}
use Rattle.fm_run.proofs.orders.Queue.requeue.Goals as goal

pub take_out-requires : goal.take_out-requires
take_out-requires c = slice_get_within c.args.self.now.numbers.items c.in-Some.place c.args.number (subst (IsPlaceOf c.args.self.now.numbers.items c.args.number) c.in-Some.is c.place_of.ensures)

pub returns-clause-numbers : goal.returns-clause-numbers
returns-clause-numbers c =
    let items = c.args.self.now.numbers.items in
    let at = subst (IsPlaceOf items c.args.number) c.in-Some.is c.place_of.ensures in
    c.push_back_reserved.ensures.items ∙ ap (λ (ns : List ℕ). ns ++ c.args.number ∷ []) (c.take_out.ensures.items ∙ removed items c.in-Some.place c.args.number at c.requires.once)

pub returns-clause-marks : goal.returns-clause-marks
returns-clause-marks c = λ count before.
    let items = c.args.self.now.numbers.items in
    let at = subst (IsPlaceOf items c.args.number) c.in-Some.is c.place_of.ensures in
    let moved = c.push_back_reserved.ensures.items ∙ ap (λ (ns : List ℕ). ns ++ c.args.number ∷ []) (c.take_out.ensures.items ∙ removed items c.in-Some.place c.args.number at c.requires.once) in
    requeued_marked count c.args.self.now.marks.items items c.push_back_reserved.new.self.items c.args.number c.requires.there moved before
