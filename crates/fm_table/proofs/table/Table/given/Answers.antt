use Rattle.std.proofs.Common.{◌≡◌, ◌≤◌, ℕ, List, Some, true, refl, ap, sym, subst, ◌∙◌, arith, rules}
use Rattle.std.specs.Prelude.{Ok}
use Rattle.fm_run.specs.Orders.{Among}
use Rattle.fm_table.specs.Inside.{EntersTo, outs_of}
use Rattle.fm_table.specs.Told.{Told, cost_of, is_out, start_in}
use Rattle.fm_table.specs.declared.making.Way.TheVariants as way
use Rattle.fm_table.specs.declared.outside.Taken.{Taken}
use Rattle.fm_table.proofs.Tables.{within_turns}
use Rattle.fm_table.proofs.Turns.{given_queued, gives_to, some_made, table_back}
use Rattle.fm_table.proofs.table.Table.given.Goals as goal

pub invariant_of-self : goal.invariant_of-self
invariant_of-self c =
    let t = c.self.inside in
    let outs = outs_of t.out.items in
    let e = c.put_back.ensures in
    table_back t.program.value t.setup t.standing _ outs (outs_of c.put_back.new.out.items) t.shares c.forget.new.self c.process-number.result c.forget.ensures.nodes c.forget.ensures.none c.self.invariant refl refl refl refl refl refl refl (is_out outs c.process-number.result) refl e.queue e.out e.marks

pub enter-requires-clause-going : goal.enter-requires-clause-going
enter-requires-clause-going c =
    let t = c.self.inside in
    let within = within_turns t.setup.turns t.standing.used c.is_over.result c.is_over.ensures c.if-is_over.false in
    let paid = c.self.invariant.standing.paid_is in
    subst (λ (a : Told). cost_of a ≤ a.setup.turns) c.self.view_is (omega (arith, within, paid))

pub returns-clause-given : goal.returns-clause-given
returns-clause-given c =
    let t = c.self.inside in
    let a = c.args.self.now in
    let b = c.enter.new.self in
    let d = c.args.done.now in
    let k = c.in_ok-enter.field-0 in
    let within = within_turns t.setup.turns t.standing.used c.is_over.result c.is_over.ensures c.if-is_over.false in
    let paid = c.self.invariant.standing.paid_is in
    let going = subst (λ (x : Told). cost_of x ≤ x.setup.turns) c.self.view_is (omega (arith, within, paid)) in
    let known : c.is_taken.result ≡ true = search rules in
    let own = subst (λ (x : Told). start_in x.out d.process ≡ Some d.start.value) c.self.view_is (ap (λ (ts : List Taken). start_in (outs_of ts) d.process) (sym c.as_slice.ensures.value) ∙ c.is_taken.ensures.yes known) in
    let number = c.process-number.ensures in
    let queued = subst (λ (m : ℕ). Among m a.queue) (sym number) (given_queued a c.promise.ensures d own) in
    let some = some_made a c.promise.ensures c.process-number.result k queued (λ e. (c.in_ok-enter.ensures.none (ap Ok e)).1) in
    let h = subst (λ (m : ℕ). EntersTo (way.Given c.args.done) m k a b) number (c.in_ok-enter.ensures.made some) in
    (going, gives_to a b d k own some h.so h.told)
