use Rattle.std.proofs.Common.{◌≡◌, ◌≤◌, ◌-◌, ℕ, List, length, ap, refl, sym, subst, ◌∙◌, arith}
use Rattle.std.specs.Prelude.{Ok, false}
use Rattle.fm_rules.specs.declared.program.Program.{Program}
use Rattle.fm_run.specs.Entries.{turn_of}
use Rattle.fm_run.specs.Programs.{Stand, can_at}
use Rattle.fm_table.specs.Inside.{AreBehind, EntersTo, HasEntered, HasShares, IsStanding, IsTable, MakesSo, outs_of, stand_kept, told_in}
use Rattle.fm_table.specs.Told.{Out, Told, cost_of, stand_of}
use Rattle.fm_table.proofs.Others.{table_entered}
use Rattle.fm_table.proofs.Sharing.{entry_behind, none_known}
use Rattle.fm_table.proofs.Tables.{table_same, told_same}
use Rattle.fm_table.proofs.Turns.{enters, some_ne}
use Rattle.fm_table.proofs.table.Table.enter.Goals as goal

pub make-requires-clause-standing : goal.make-requires-clause-standing
make-requires-clause-standing c = subst (λ (p : Program). IsStanding p c.self.inside.standing) (sym c.deref.ensures) c.self.invariant.standing

pub invariant_of-self : goal.invariant_of-self
invariant_of-self c =
    let t = c.self.inside in
    let k = c.self.invariant in
    let shares = none_known t.program.value t.setup (stand_kept t.program.value t.standing) c.leave-left.new.self (c.leave-left.ensures.nodes ∙ k.shared.nodes_are) c.leave-left.ensures.none in
    table_same t.program.value t.setup t.standing c.make.new.self (outs_of t.out.items) t.shares c.leave-left.new.self c.in_err-steps.ensures.stays (subst (λ (p : Program). IsStanding p c.make.new.self) c.deref.ensures c.in_err-steps.ensures.standing) shares k

pub invariant_of-self-then-steps-eq0 : goal.invariant_of-self-then-steps-eq0
invariant_of-self-then-steps-eq0 c =
    let t = c.self.inside in
    let same = (c.in_ok-steps.ensures.none (ap Ok c.if-steps-eq0.true)).0 in
    let k = c.self.invariant in
    let shares = none_known t.program.value t.setup (stand_kept t.program.value t.standing) c.leave-left.new.self (c.leave-left.ensures.nodes ∙ k.shared.nodes_are) c.leave-left.ensures.none in
    table_same t.program.value t.setup t.standing c.make.new.self (outs_of t.out.items) t.shares c.leave-left.new.self same (subst (λ (p : Program). IsStanding p c.make.new.self) c.deref.ensures c.in_ok-steps.ensures.standing) shares k

pub leave-left-requires : goal.leave-left-requires
leave-left-requires c = let k = c.self.invariant in record { kept = (c.self.inside.program.value, k.standing, k.shared) }

pub settle-requires-clause-live : goal.settle-requires-clause-live
settle-requires-clause-live c =
    let P = c.self.inside.program.value in
    let later = subst (λ (p : Program). IsStanding p c.make.new.self) c.deref.ensures c.in_ok-steps.ensures.standing in
    (P, later.live c.in_ok-steps.ensures.live, c.leave-left.ensures.nodes ∙ c.self.invariant.shared.nodes_are)

pub settle-requires-clause-many : goal.settle-requires-clause-many
settle-requires-clause-many c = c.leave-left.ensures.many

pub settle-requires-clause-none : goal.settle-requires-clause-none
settle-requires-clause-none c = c.leave-left.ensures.none

pub forget-requires : goal.forget-requires
forget-requires c = c.self.invariant.out_once

pub invariant_of-self-2 : goal.invariant_of-self-2
invariant_of-self-2 c =
    let t = c.self.inside in
    let P = t.program.value in
    let old = t.standing in
    let new = c.make.new.self in
    let later = subst (λ (p : Program). IsStanding p new) c.deref.ensures c.in_ok-steps.ensures.standing in
    let h = subst (λ (p : Program). HasEntered p (turn_of c.args.number c.in_ok-steps.steps) old new) c.deref.ensures (c.in_ok-steps.ensures.made (some_ne c.in_ok-steps.steps c.if-steps-eq0.false)) in
    let going = subst (λ (a : Told). cost_of a ≤ a.setup.turns) (sym c.self.view_is) c.requires.going in
    let paid = c.self.invariant.standing.paid_is in
    let live = later.live c.in_ok-steps.ensures.live in
    let k = c.self.invariant in
    let entry = turn_of c.args.number c.in_ok-steps.steps in
    let from = c.saturating_sub.result in
    let whole : c.len-queued.result ≡ length old.player.able.numbers.items = omega (arith, c.len-queued.ensures, old.player.able.numbers.ok.0) in
    let count : from ≡ length old.player.able.numbers.items - 1 = c.saturating_sub.ensures ∙ ap (λ (m : ℕ). m - 1) whole in
    let behind : AreBehind P t.setup (stand_kept P old) (stand_kept P new) c.args.number from =
    subst (AreBehind P t.setup (stand_kept P old) (stand_kept P new) c.args.number) (sym count) (entry_behind P old new k.standing entry h t.setup (length old.player.able.numbers.items) refl) in
    let settled = c.settle.ensures.settled P (stand_kept P old) c.args.number live (c.leave-left.ensures.nodes ∙ k.shared.nodes_are) (c.leave-left.ensures.left P k.standing k.shared)
    (subst (λ (b : Stand). AreBehind P t.setup (stand_kept P old) b c.args.number from) (sym live.stand_is) behind) in
    let shares = subst (λ (b : Stand). HasShares P t.setup b c.settle.new.self) live.stand_is settled in
    subst (λ (os : List Out). IsTable P t.setup new os c.settle.new.self) (sym c.forget.ensures)
    (table_entered P old new k.standing entry h t.setup (outs_of t.out.items) t.shares c.settle.new.self k (omega (arith, going, paid)) later shares)

pub returns-then-steps-eq0-clause-none : goal.returns-then-steps-eq0-clause-none
returns-then-steps-eq0-clause-none c = λ e.
    let t = c.self.inside in
    let P = t.program.value in
    let none = c.in_ok-steps.ensures.none (ap Ok c.if-steps-eq0.true) in
    let cant = subst (λ (p : Program). can_at p (stand_kept p t.standing).state (stand_kept p t.standing).places c.args.number ≡ false) c.deref.ensures none.1 in
    (told_same P t.setup t.standing c.make.new.self (outs_of t.out.items) none.0 ∙ c.self.view_is, subst (λ (a : Told). can_at a.program (stand_of a).state (stand_of a).places c.args.number ≡ false) c.self.view_is cant)

pub returns-clause-made : goal.returns-clause-made
returns-clause-made c = λ some.
    let t = c.self.inside in
    let P = t.program.value in
    let old = t.standing in
    let new = c.make.new.self in
    let n = c.args.number in
    let k = c.in_ok-steps.steps in
    let later = subst (λ (p : Program). IsStanding p new) c.deref.ensures c.in_ok-steps.ensures.standing in
    let h = subst (λ (p : Program). HasEntered p (turn_of n k) old new) c.deref.ensures (c.in_ok-steps.ensures.made some) in
    let so = subst (λ (p : Program). MakesSo c.args.way p (stand_kept p old) (stand_kept p new) n k) c.deref.ensures (c.in_ok-steps.ensures.so some) in
    subst (λ (a : Told). EntersTo c.args.way n k a (told_in P t.setup new (outs_of c.forget.new.out.items))) c.self.view_is
    (enters P t.setup old new (outs_of t.out.items) (outs_of c.forget.new.out.items) c.args.way n k c.self.invariant.standing later h so c.forget.ensures)
