use Rattle.std.proofs.Common.{◌≡◌, false, List, ap, sym, subst, ◌∙◌, arith}
use Rattle.fm_table.specs.Inside.{EntersTo, outs_of}
use Rattle.fm_table.specs.Told.{IsKept, Told, is_out}
use Rattle.fm_table.specs.Turning.{TurnsInside}
use Rattle.fm_table.specs.declared.making.Way.TheVariants as way
use Rattle.fm_table.specs.declared.outside.Taken.{Taken}
use Rattle.fm_table.proofs.Turns.{ready_made, some_of, turn_inside}
use Rattle.fm_table.proofs.table.Table.turn_home.Goals as goal

-- who stays at home could step, and wasn't out
pub returns-clause-turned : goal.returns-clause-turned
returns-clause-turned c = λ e.
    let a = c.args.self.now in
    let n = c.in-Some.home.number in
    let k = c.in_ok-steps.steps in
    let slice = c.max-slice.result in
    let some = some_of k e in
    let inside : is_out a.out n ≡ false =
    ap (λ (x : Told). is_out x.out n) (sym c.self.view_is) ∙ ap (λ (ts : List Taken). is_out (outs_of ts) n) (sym c.as_slice.ensures.value) ∙ sym c.is_out.ensures ∙ c.if-is_out.false in
    let made = subst (λ (x : Told). EntersTo (way.Slice slice) n k x c.enter.new.self) c.self.view_is (c.in_ok-steps.ensures.made some) in
    let who = ready_made a c.enter.new.self (subst IsKept c.self.view_is c.promise.ensures) n k (way.Slice slice) inside some made in
    let same = ap (λ (x : Told). x.setup.slice) c.self.view_is in
    subst (TurnsInside a) (sym c.self-2.view_is) (turn_inside a c.enter.new.self n k slice c.requires who (omega (arith, same, c.max-slice.ensures)) made)
