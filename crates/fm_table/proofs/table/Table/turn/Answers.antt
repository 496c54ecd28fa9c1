use Rattle.std.proofs.Common.{◌≡◌, ◌<◌, ◌≤◌, List, Some, inl, inr, ap, refl, sym, subst, ◌∙◌, arith}
use Rattle.std.specs.Prelude.{Ok}
use Rattle.fm_run.specs.Orders.{chosen}
use Rattle.fm_run.proofs.Numbers.{none_chosen}
use Rattle.fm_table.specs.Inside.{outs_of}
use Rattle.fm_table.specs.Told.{Told, cost_of, ready_in, ready_of}
use Rattle.fm_table.specs.declared.outside.Taken.{Taken}
use Rattle.fm_table.specs.declared.making.Way.TheVariants as way
use Rattle.fm_table.proofs.Tables.{over_turns, within_turns}
use Rattle.fm_table.proofs.Turns.{chosen_queued, some_made, some_of, turn_made, zero_of}
use Rattle.fm_table.proofs.table.Table.turn.Goals as goal

-- nothing is made where the turns are spent
pub returns-then-is_over-clause-idle : goal.returns-then-is_over-clause-idle
returns-then-is_over-clause-idle c = λ e.
    let t = c.self.inside in
    let over = over_turns t.setup.turns t.standing.used c.is_over.result c.is_over.ensures c.if-is_over.true in
    let paid = c.self.invariant.standing.paid_is in
    (inl (subst (λ (a : Told). a.setup.turns < cost_of a) c.self.view_is (omega (arith, over, paid))), refl)

pub enter-requires-clause-some : goal.enter-requires-clause-some
enter-requires-clause-some c = c.self.inside.setup.some_slice

pub enter-requires-clause-going : goal.enter-requires-clause-going
enter-requires-clause-going c =
    let t = c.self.inside in
    let within = within_turns t.setup.turns t.standing.used c.is_over.result c.is_over.ensures c.if-is_over.false in
    let paid = c.self.invariant.standing.paid_is in
    subst (λ (a : Told). cost_of a ≤ a.setup.turns) c.self.view_is (omega (arith, within, paid))

pub returns-in-None-clause-idle : goal.returns-in-None-clause-idle
returns-in-None-clause-idle c = λ e.
    let t = c.self.inside in
    let queue = t.standing.player.able.numbers.items in (
      inr (sym (ap ready_of c.self.view_is) ∙ ap (λ (ts : List Taken). ready_in (outs_of ts) queue) (sym c.as_slice.ensures.value)
          ∙ none_chosen (Some c.args.choice) (ready_in (outs_of c.as_slice.result.now) queue) (sym c.choose_ready.ensures ∙ c.in-None.is)),
      refl,
    )

pub returns-in_ok-steps-in-Some-clause-idle : goal.returns-in_ok-steps-in-Some-clause-idle
returns-in_ok-steps-in-Some-clause-idle c = λ e.
    let t = c.self.inside in
    let a = c.args.self.now in
    let n = c.in-Some.number in
    let k = c.in_ok-steps-in-Some.steps in
    let who : chosen (Some c.args.choice) (ready_of a) ≡ Some n =
    ap (chosen (Some c.args.choice)) (sym (ap ready_of c.self.view_is)) ∙ ap (λ (ts : List Taken). chosen (Some c.args.choice) (ready_in (outs_of ts) t.standing.player.able.numbers.items)) (sym c.as_slice.ensures.value)
    ∙ sym c.choose_ready.ensures ∙ c.in-Some.is in
    let some = some_made a c.promise.ensures n k (chosen_queued a c.args.choice n who) (λ z. (c.in_ok-steps-in-Some.ensures.none (ap Ok z)).1) in
    let none = zero_of k e in
    absurd (omega (arith, some, none))

pub returns-in_ok-steps-in-Some-clause-turned : goal.returns-in_ok-steps-in-Some-clause-turned
returns-in_ok-steps-in-Some-clause-turned c = λ e.
    let t = c.self.inside in
    let a = c.args.self.now in
    let n = c.in-Some.number in
    let k = c.in_ok-steps-in-Some.steps in
    let who : chosen (Some c.args.choice) (ready_of a) ≡ Some n =
    ap (chosen (Some c.args.choice)) (sym (ap ready_of c.self.view_is)) ∙ ap (λ (ts : List Taken). chosen (Some c.args.choice) (ready_in (outs_of ts) t.standing.player.able.numbers.items)) (sym c.as_slice.ensures.value)
    ∙ sym c.choose_ready.ensures ∙ c.in-Some.is in
    let within = within_turns t.setup.turns t.standing.used c.is_over.result c.is_over.ensures c.if-is_over.false in
    let paid = c.self.invariant.standing.paid_is in
    let going = subst (λ (x : Told). cost_of x ≤ x.setup.turns) c.self.view_is (omega (arith, within, paid)) in
    turn_made a c.enter.new.self c.args.choice n k (way.Slice t.setup.slice) going who (ap (λ (x : Told). way.Slice x.setup.slice) c.self.view_is) (c.in_ok-steps-in-Some.ensures.made (some_of k e))

pub returns-in_ok-steps-in-Some-clause-used : goal.returns-in_ok-steps-in-Some-clause-used
returns-in_ok-steps-in-Some-clause-used c = λ e. (c.in_ok-steps-in-Some.ensures.made (some_of c.in_ok-steps-in-Some.steps e)).used
