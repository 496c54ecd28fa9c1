use Rattle.std.proofs.Common.{ap, sym, subst, ◌∙◌, arith}
use Rattle.fm_table.specs.Inside.{EntersTo}
use Rattle.fm_table.specs.Told.{Told}
use Rattle.fm_table.specs.declared.making.Way.TheVariants as way
use Rattle.fm_table.proofs.Sharing.{ready_for}
use Rattle.fm_table.proofs.Turns.{some_of, turn_inside}
use Rattle.fm_table.proofs.table.Table.turn_here.Goals as goal

pub returns-in_ok-steps-in-Some-clause-turned : goal.returns-in_ok-steps-in-Some-clause-turned
returns-in_ok-steps-in-Some-clause-turned c = λ e.
    let a = c.args.self.now in
    let n = c.in-Some.number in
    let k = c.in_ok-steps-in-Some.steps in
    let who = ready_for c.args.worker a n (sym c.in_ok-choose_for.ensures.chosen ∙ c.in-Some.is) in
    let slice = c.self.inside.setup.slice in
    let same = c.stays_inside.ensures ∙ c.choose_for.ensures.same in
    let long = ap (λ (x : Told). x.setup.slice) (c.self.view_is ∙ same) in
    turn_inside a c.enter.new.self n k slice c.requires who (omega (arith, long)) (subst (λ (x : Told). EntersTo (way.Slice slice) n k x c.enter.new.self) same (c.in_ok-steps-in-Some.ensures.made (some_of k e)))
