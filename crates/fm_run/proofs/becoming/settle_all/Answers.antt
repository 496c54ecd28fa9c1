use Rattle.std.proofs.Common.{List, ◌≡◌, ◌≢◌, ◌∷◌, ◌++◌, ℕ, [], cond, Some, false, length, refl, sym, subst, ◌∙◌, arith}
use Rattle.std.specs.FinMap.{get}
use Rattle.fm_net.specs.Machine.{Place, State}
use Rattle.fm_net.specs.Owned.{IsOwned}
use Rattle.std.specs.Prelude.{is_some, slice_get, slice_index_or, not, ◌==◌, ◌&&◌}
use Rattle.fm_run.specs.Plays.{language, step}
use Rattle.fm_run.specs.Noted.{AreNotedBut, IsNoted, OwnOrLeft}
use Rattle.fm_run.specs.Orders.{can_at}
use Rattle.fm_run.proofs.Queueing.{AreAsked, able_more, all_asked, asked_step, front_same, front_stays, front_then, none_asked, once_more}
use Rattle.fm_run.proofs.Serving.{ask_noted, beyond, noted_more}
use Rattle.fm_run.proofs.becoming.settle_all.Goals as goal

pub candidates-init : goal.candidates-init
candidates-init g c = record {
  marks = c.requires.marked;
  order = refl;
  history = refl;
  state = refl;
  sound = c.requires.sound;
  able = λ all. all;
  queue = λ whole. none_asked _ c.args.own c.args.able.now.numbers.items c.args.candidates.now c.args.able.now.numbers.items refl;
  front = front_same c.args.able.now.numbers.items c.args.able.now.numbers.items refl;
  once = λ once. once;
  noted = λ all before. before;
}

pub ask-requires-clause-owned : goal.ask-requires-clause-owned
ask-requires-clause-owned g c = subst (IsOwned (language (g.N.Net.play c.args.program.now))) (sym c.candidates.invariant.state) c.requires.owned

pub candidates-preserved : goal.candidates-preserved
candidates-preserved g c =
    let P = g.N.Net.play c.args.program.now in
    let s = g.N.Net.state c.args.program.now c.args.net.now in
    let ps = g.N.Net.order c.args.net.now in
    let can = can_at P s ps in
    let cs = c.args.candidates.now in
    let i = c.candidates.number-index in
    let before = c.candidates.invariant in
    let marks = c.candidates.able.marks.items in
    let is = subst (λ (u : State P.Proc). c.ask.new.able.numbers.items ≡ c.candidates.able.numbers.items ++ cond ((not (slice_index_or cs i 0 == c.args.own) && not (slice_index_or marks (slice_index_or cs i 0) false)) && can_at P u ps (slice_index_or cs i 0)) (slice_index_or cs i 0 ∷ []) []) before.state
    (subst (λ (rs : List Place). c.ask.new.able.numbers.items ≡ c.candidates.able.numbers.items ++ cond ((not (slice_index_or cs i 0 == c.args.own) && not (slice_index_or marks (slice_index_or cs i 0) false)) && can_at P (g.N.Net.state c.args.program.now c.candidates.net) rs (slice_index_or cs i 0)) (slice_index_or cs i 0 ∷ []) []) before.order c.in_ok-ask.ensures.queue) in
    record {
      marks = c.in_ok-ask.ensures.marks (length ps) before.marks;
      order = c.in_ok-ask.ensures.order ∙ before.order;
      history = c.in_ok-ask.ensures.history ∙ before.history;
      state = c.in_ok-ask.ensures.state ∙ before.state;
      sound = c.in_ok-ask.ensures.sound;
      able = λ all. able_more can c.args.own c.candidates.able.numbers.items c.ask.new.able.numbers.items _ _ is (before.able all);
      queue = λ whole. asked_step can c.args.own c.args.able.now.numbers.items cs c.requires.sorted whole i 0 (omega arith) c.candidates.able.numbers.items (before.queue whole) (length ps) (beyond P s ps) marks before.marks c.ask.new.able.numbers.items is;
      front = front_then c.args.able.now.numbers.items c.candidates.able.numbers.items c.ask.new.able.numbers.items _ before.front is;
      once = λ once. once_more can (length ps) (beyond P s ps) marks c.candidates.able.numbers.items c.ask.new.able.numbers.items (slice_index_or cs i 0) _ before.marks is (before.once once);
      noted = λ all noted.
          noted_more P s ps c.args.own cs i (omega arith) (g.N.Net.channels c.candidates.net) (g.N.Net.channels c.ask.new.net) c.in_ok-ask.ensures.waking (before.noted all noted)
          (ask_noted P s ps c.args.own cs i (omega arith) c.candidates.able.numbers.items marks before.marks (before.able all) (g.N.Net.channels c.ask.new.net)
          (subst (λ (u : State P.Proc). (slice_index_or cs i 0 ≢ c.args.own) → slice_index_or marks (slice_index_or cs i 0) false ≡ false → (q : Place) (x : P.Proc) → slice_get ps (slice_index_or cs i 0) ≡ Some q → get u.procs q ≡ Some x
          → is_some (step P u q) ≡ false → IsNoted P (g.N.Net.channels c.ask.new.net) (slice_index_or cs i 0) x) before.state
          (subst (λ (rs : List Place). (slice_index_or cs i 0 ≢ c.args.own) → slice_index_or marks (slice_index_or cs i 0) false ≡ false → (q : Place) (x : P.Proc) → slice_get rs (slice_index_or cs i 0) ≡ Some q → get (g.N.Net.state c.args.program.now c.candidates.net).procs q ≡ Some x
          → is_some (step P (g.N.Net.state c.args.program.now c.candidates.net) q) ≡ false → IsNoted P (g.N.Net.channels c.ask.new.net) (slice_index_or cs i 0) x) before.order c.in_ok-ask.ensures.noted)));
    }

pub returns-clause-queue : goal.returns-clause-queue
returns-clause-queue g c = λ whole.
    let P = g.N.Net.play c.args.program.now in
    let s = g.N.Net.state c.args.program.now c.args.net.now in
    let ps = g.N.Net.order c.args.net.now in
    let all : c.candidates.number-index ≡ length c.args.candidates.now = omega arith in
    all_asked (can_at P s ps) c.args.own c.args.able.now.numbers.items c.args.candidates.now c.requires.sorted whole c.candidates.able.numbers.items (subst (λ (i : ℕ). AreAsked (can_at P s ps) c.args.own c.args.able.now.numbers.items c.args.candidates.now i c.candidates.able.numbers.items) all (c.candidates.invariant.queue whole)) (length ps) (beyond P s ps)

pub returns-clause-noted : goal.returns-clause-noted
returns-clause-noted g c = λ all before.
    let P = g.N.Net.play c.args.program.now in
    let every : c.candidates.number-index ≡ length c.args.candidates.now = omega arith in
    subst (λ (i : ℕ). AreNotedBut P (g.N.Net.state c.args.program.now c.args.net.now) (g.N.Net.channels c.candidates.net) (g.N.Net.order c.args.net.now) (OwnOrLeft c.args.own c.args.candidates.now i)) every (c.candidates.invariant.noted all before)

pub returns-in_err-ask-clause-history : goal.returns-in_err-ask-clause-history
returns-in_err-ask-clause-history g c = c.ask.ensures.history ∙ c.candidates.invariant.history

pub returns-in_err-ask-clause-front : goal.returns-in_err-ask-clause-front
returns-in_err-ask-clause-front g c = front_stays c.args.able.now.numbers.items c.candidates.able.numbers.items c.ask.new.able.numbers.items c.candidates.invariant.front c.in_err-ask.ensures.kept
